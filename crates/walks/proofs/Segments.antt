-- What an edge or the rounds of a loop, appended to a walk, take of the bounds.
use Rattle.std.proofs.Common.{◌≡◌, ℕ, zero, suc, ◌+◌, ◌≤◌, max, Bool, true, false, cond, List, [], ◌∷◌, ◌++◌, ◌⊎◌, ⊎_elim, refl, ◌∙◌, arith}
use Rattle.std.proofs.lemmas.Bool.{true≢false, cases_Bool}
use Rattle.std.specs.List.{repeat}
use Rattle.walks.specs.Segments.{whole, head, tail, most, count}
use Rattle.walks.proofs.Joins as J

no_head : (x t : Bool) → (t ≡ false) ⊎ (x ≡ false) → cond x (cond t 1 0 + 0) 0 ≡ 0
no_head false t none = refl
no_head true false none = refl
no_head true true none = absurd (⊎_elim (λ f. true≢false f) (λ f. true≢false f) none)

module _ {E : Type 0} (inside turns : E → Bool) where
  pub tail-le-most : (w : List E) → tail inside turns w ≤ most inside turns w
  tail-le-most [] = omega arith
  tail-le-most (e ∷ w) =
      let rest : tail inside turns w ≤ most inside turns w = tail-le-most w in
      ⊎_elim (λ all.
      let same : most inside turns (e ∷ w) ≡ count inside turns (e ∷ w) = J.most_whole inside turns (e ∷ w) all in
      let ends : tail inside turns (e ∷ w) ≡ count inside turns (e ∷ w) = J.tail_whole inside turns (e ∷ w) all in
      omega (arith, same, ends))
      (λ part. rw part (omega arith))
      (cases_Bool (whole inside turns (e ∷ w)))

  -- an edge that is no turn in the stretch
  pub push_edge : (b : ℕ) (v : List E) (e : E) → most inside turns v ≤ b → (turns e ≡ false) ⊎ (inside e ≡ false) → most inside turns (v ++ e ∷ []) ≤ b
  push_edge b v e kept no_turn =
      let none : cond (inside e) (cond (turns e) 1 0 + 0) 0 ≡ 0 = no_head (inside e) (turns e) no_turn in
      let joins : most inside turns (v ++ e ∷ []) ≡ max (max (most inside turns v) (max (cond (inside e) (cond (turns e) 1 0 + 0) 0) 0)) (tail inside turns v + cond (inside e) (cond (turns e) 1 0 + 0) 0) =
      J.most-append inside turns v (e ∷ []) in
      let at_end : tail inside turns v ≤ most inside turns v = tail-le-most v in
      omega (arith, joins, none, at_end)

  -- an edge from outside ends every stretch
  pub tail_outside : (v : List E) (e : E) → inside e ≡ false → tail inside turns (v ++ e ∷ []) ≡ 0
  tail_outside v e out = J.tail-append inside turns v (e ∷ []) ∙ rw out refl

  -- rounds of another loop, that begin with no turn of this one
  pub rounds_head : (k : ℕ) (r : List E) → head inside turns r ≡ 0 → head inside turns (repeat k r) ≡ 0
  rounds_head zero r none = refl
  rounds_head (suc k) r none =
      let rest : head inside turns (repeat k r) ≡ 0 = rounds_head k r none in
      ⊎_elim (λ all.
      let same : head inside turns r ≡ count inside turns r = J.head_whole inside turns r all in
      let joins : head inside turns (r ++ repeat k r) ≡ count inside turns r + head inside turns (repeat k r) = rw all at (J.head-append inside turns r (repeat k r)) in
      omega (arith, joins, same))
      (λ part.
      let joins : head inside turns (r ++ repeat k r) ≡ head inside turns r = rw part at (J.head-append inside turns r (repeat k r)) in
      joins ∙ none)
      (cases_Bool (whole inside turns r))

  pub rounds_most : (b k : ℕ) (r : List E) → head inside turns r ≡ 0 → most inside turns r ≤ b → most inside turns (repeat k r) ≤ b
  rounds_most b zero r none kept = omega arith
  rounds_most b (suc k) r none kept =
      let rest : most inside turns (repeat k r) ≤ b = rounds_most b k r none kept in
      omega (arith, J.most-append inside turns r (repeat k r), rounds_head k r none, tail-le-most r)

  pub push_rounds : (b k : ℕ) (v r : List E) → most inside turns v ≤ b → head inside turns r ≡ 0 → most inside turns r ≤ b → most inside turns (v ++ repeat k r) ≤ b
  push_rounds b k v r kept none kept_round =
      omega (arith, J.most-append inside turns v (repeat k r), rounds_head k r none, rounds_most b k r none kept_round, tail-le-most v)

  -- as many rounds of the loop itself as its bound allows, after an edge that enters it
  pub push_own_rounds : (b : ℕ) (v r : List E) → most inside turns v ≤ b → tail inside turns v ≡ 0 → whole inside turns r ≡ true → count inside turns r ≡ 1 → most inside turns (v ++ repeat b r) ≤ b
  push_own_rounds b v r kept entered all one =
      let all_b : whole inside turns (repeat b r) ≡ true = J.whole-repeated inside turns b r all in
      let counts : count inside turns (repeat b r) ≡ b = J.count-repeated inside turns b r ∙ rw one (omega arith) in
      let most_is : most inside turns (repeat b r) ≡ b = J.most_whole inside turns (repeat b r) all_b ∙ counts in
      let head_is : head inside turns (repeat b r) ≡ b = J.head_whole inside turns (repeat b r) all_b ∙ counts in
      omega (arith, J.most-append inside turns v (repeat b r), most_is, head_is, entered)
