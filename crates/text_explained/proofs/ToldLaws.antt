-- The word of which a line's row tells: it is passed where the line has ticks.
use Rattle.std.proofs.Common.{◌≡◌, ◌∙◌, ℕ, ◌+◌, ◌*◌, ◌<◌, ◌≤◌, ◌⊎◌, Bool, true, false, cond, List, [], ◌∷◌, length, Option, Some, None, inl, inr, ⊎_elim, refl, sym, ap, subst, arith}
use Rattle.std.specs.Prelude.{◌==◌, find, if◌then◌else◌, is_some, sum_by, unwrap_or}
use Rattle.std.specs.List.{range_with_len}
use Rattle.std.specs.Option.{option_or}
use Rattle.std.proofs.lemmas.Bool.{cases_lt, eqb-true, lt-ltb, ltb-true}
use Rattle.std.proofs.lemmas.List.Sums.{sum_by-cons}
use Rattle.assembler.specs.declared.placed_line.PlacedLine.{PlacedLine}
use Rattle.control_flow.specs.Flow.{Flow}
use Rattle.control_flow.specs.declared.edges.Edge.{Edge}
use Rattle.longest_walk.specs.Built.{step_at}
use Rattle.walk_counts.specs.Counts.{capped, occurrences}
use Rattle.text_explained.specs.Folding.{kind_of}
use Rattle.text_explained.specs.Table.{costs_of, done_of, is_any_reached, is_passed, line_taken, passes_of, prices_of, ticks_in, ticks_of, told_at, words_of}
use Rattle.text_explained.specs.Taken.{cost_at, in_all, is_at, is_reached, pass_at, taken_at, taken_of}
use Rattle.text_explained.specs.declared.folding.FoldKind.{FoldKind}
use Rattle.text_explained.specs.declared.folding.FoldKind.TheVariants.{OffPath}
use Rattle.text_explained.specs.declared.walk_tally.Taken.{Taken}

-- ## Sums

-- a sum is more than 0 only where a term is
some_term : (f x rest : ℕ) → 0 < f + rest → (0 < f) ⊎ (0 < rest)
some_term f x rest more = ⊎_elim (λ (here : 0 < f). inl here) (λ (none : f ≤ 0). inr (omega arith)) (cases_lt 0 f)

-- where each term that is more than 0 has one beside it, so has the sum
pub sums_beside : {X : Type 0} (f g : X → ℕ) → ((x : X) → 0 < f x → 0 < g x) → (xs : List X) → 0 < sum_by f xs → 0 < sum_by g xs
sums_beside f g beside [] more = more
sums_beside f g beside (x ∷ xs) more =
    let one = sum_by-cons f x xs in
    let other = sum_by-cons g x xs in
    let both : 0 < f x + sum_by f xs = omega (arith, more, one) in
    ⊎_elim
    (λ here. let h : 0 < g x = beside x here in omega (arith, h, other))
    (λ later. let h : 0 < sum_by g xs = sums_beside f g beside xs later in omega (arith, h, other))
    (some_term (f x) 0 (sum_by f xs) both)

-- the first that passes a test is found, where some term is more than 0 and each such one passes
module _ (f : ℕ → ℕ) (test : ℕ → Bool) (passes : (a : ℕ) → 0 < f a → test a ≡ true) where
  first_if : (x : ℕ) (xs : List ℕ) (b : Bool) → test x ≡ b → (0 < f x → b ≡ true) → (0 < sum_by f xs → (a : ℕ) × (find test xs ≡ Some a) × (test a ≡ true)) → 0 < f x + sum_by f xs
      → (a : ℕ) × (find test (x ∷ xs) ≡ Some a) × (test a ≡ true)
  first_if x xs true is here later more = (x, ap (λ b. cond b (Some x) (find test xs)) is, is)
  first_if x xs false is here later more =
      let rest = ⊎_elim (λ (first : 0 < f x). absurd (let e : false ≡ true = here first in cc)) (λ after. later after) (some_term (f x) 0 (sum_by f xs) more) in
      (rest.0, ap (λ b. cond b (Some x) (find test xs)) is ∙ rest.1, rest.2)

  pub first_found : (xs : List ℕ) → 0 < sum_by f xs → (a : ℕ) × (find test xs ≡ Some a) × (test a ≡ true)
  first_found [] more = absurd (let e : 0 < 0 = more in omega (arith, e))
  first_found (x ∷ xs) more =
      let one = sum_by-cons f x xs in
      first_if x xs (test x) refl (λ first. passes x first) (λ after. first_found xs after) (omega (arith, more, one))

times_none : (o cost : ℕ) → o ≤ 0 → 0 < o * cost → ⊥
times_none o cost none more =
    let zero : o ≡ 0 = omega (arith, none) in
    let gone : o * cost ≡ 0 = ap (λ n. n * cost) zero ∙ omega arith in
    omega (arith, more, gone)

-- a number of times a cost that counts only where a test passes
pub times_beside : (o cost : ℕ) (b : Bool) → 0 < o * cond b cost 0 → 0 < o * cond b 1 0
times_beside o cost true more = ⊎_elim (λ (some : 0 < o). omega (arith, some)) (λ (none : o ≤ 0). absurd (times_none o cost none more)) (cases_lt 0 o)
times_beside o cost false more = absurd (let e : 0 < o * 0 = more in omega (arith, e))

-- no passes, where they make a kind
zero_passes : (n : ℕ) (kind : FoldKind) (b : Bool) → (n == 0) ≡ b → (if b then Some OffPath else None) ≡ Some kind → n ≡ 0
zero_passes n kind true zero is = eqb-true n 0 zero
zero_passes n kind false some is = absurd (let e : None ≡ Some kind = is in cc)

-- ## Addresses

module _ (flow : Flow) (walk : List Edge) where
  passes_beside : (a : ℕ) → 0 < in_all flow.edges walk (length flow.edges) (cost_at a) → 0 < in_all flow.edges walk (length flow.edges) (pass_at a)
  passes_beside a =
      sums_beside (λ k. occurrences flow.edges walk k * cost_at a (step_at flow.edges k)) (λ k. occurrences flow.edges walk k * pass_at a (step_at flow.edges k))
      (λ k more. times_beside (occurrences flow.edges walk k) (step_at flow.edges k).cost (is_at a (step_at flow.edges k).from) more) (range_with_len 0 (length flow.edges))

  reached_is_passed : (a : ℕ) (b : Bool) → is_reached flow.places a ≡ b → 0 < ticks_of (taken_at flow walk a) → 0 < passes_of (taken_at flow walk a)
  reached_is_passed a true is more =
      let same : taken_at flow walk a ≡ Some (taken_of flow.edges walk (length flow.edges) a) =
      ap (λ c. if c then Some (taken_of flow.edges walk (length flow.edges) a) else None) is in
      let ticks : 0 < capped (in_all flow.edges walk (length flow.edges) (cost_at a)) = subst (λ (t : Option Taken). 0 < ticks_of t) same more in
      let some : 0 < in_all flow.edges walk (length flow.edges) (cost_at a) = omega (arith, ticks) in
      let passes : 0 < in_all flow.edges walk (length flow.edges) (pass_at a) = passes_beside a some in
      let fits : 0 < capped (in_all flow.edges walk (length flow.edges) (pass_at a)) = omega (arith, passes) in
      subst (λ (t : Option Taken). 0 < passes_of t) (sym same) fits
  reached_is_passed a false is more =
      let same : taken_at flow walk a ≡ None = ap (λ c. if c then Some (taken_of flow.edges walk (length flow.edges) a) else None) is in
      let none : 0 < 0 = subst (λ (t : Option Taken). 0 < ticks_of t) same more in
      absurd (omega (arith, none))

  with_ticks : (a : ℕ) → 0 < ticks_of (taken_at flow walk a) → is_passed (taken_at flow walk) a ≡ true
  with_ticks a more = lt-ltb 0 (passes_of (taken_at flow walk a)) (reached_is_passed a (is_reached flow.places a) refl more)

  pub told_is_passed : (line : PlacedLine) → 0 < ticks_in (taken_at flow walk) line.at line.words → 0 < passes_of (taken_at flow walk (told_at (taken_at flow walk) line))
  told_is_passed line more =
      let some : 0 < sum_by (λ a. ticks_of (taken_at flow walk a)) (words_of line) = omega (arith, more) in
      let w = first_found (λ a. ticks_of (taken_at flow walk a)) (is_passed (taken_at flow walk)) with_ticks (words_of line) some in
      let told : told_at (taken_at flow walk) line ≡ w.0 =
      ap (λ o. unwrap_or (option_or o (find (λ a. is_some (taken_at flow walk a)) (words_of line))) line.at) w.1 in
      subst (λ a. 0 < passes_of (taken_at flow walk a)) (sym told) (ltb-true 0 (passes_of (taken_at flow walk w.0)) w.2)

  -- ## Rows that are folded

  -- no passes, where what is taken is of a kind
  none_passed : (t : Option Taken) (kind : FoldKind) → kind_of t ≡ Some kind → passes_of t ≡ 0
  none_passed None kind is = refl
  none_passed (Some t) kind is = zero_passes t.passes kind (t.passes == 0) refl is

  pub no_ticks_at : (a : ℕ) (kind : FoldKind) → kind_of (taken_at flow walk a) ≡ Some kind → ticks_of (taken_at flow walk a) ≡ 0
  no_ticks_at a kind is =
      let none : passes_of (taken_at flow walk a) ≡ 0 = none_passed (taken_at flow walk a) kind is in
      ⊎_elim (λ (more : 0 < ticks_of (taken_at flow walk a)). absurd (let e : 0 < passes_of (taken_at flow walk a) = reached_is_passed a (is_reached flow.places a) refl more in omega (arith, e, none)))
      (λ (least : ticks_of (taken_at flow walk a) ≤ 0). omega (arith, least)) (cases_lt 0 (ticks_of (taken_at flow walk a)))

  -- of a line as it is told: with so many passes and ticks, if a place is there
  pub no_ticks_on : (line : PlacedLine) (kind : FoldKind) → kind_of (line_taken (taken_at flow walk) line) ≡ Some kind → ticks_of (line_taken (taken_at flow walk) line) ≡ 0
  no_ticks_on line kind = by_reached (is_any_reached (taken_at flow walk) line.at line.words)
    where
      told : Taken
      told = record {
        passes = passes_of (taken_at flow walk (told_at (taken_at flow walk) line));
        done = done_of (taken_at flow walk (told_at (taken_at flow walk) line));
        ticks = ticks_in (taken_at flow walk) line.at line.words;
        costs = costs_of (taken_at flow walk (told_at (taken_at flow walk) line));
        prices = prices_of (taken_at flow walk (told_at (taken_at flow walk) line));
      }

      by_reached : (b : Bool) → kind_of (if b then Some told else None) ≡ Some kind → ticks_of (if b then Some told else None) ≡ 0
      by_reached false is = refl
      by_reached true is =
          let none : told.passes ≡ 0 = none_passed (Some told) kind is in
          ⊎_elim (λ (more : 0 < told.ticks). absurd (let e : 0 < told.passes = told_is_passed line more in omega (arith, e, none)))
          (λ (least : told.ticks ≤ 0). omega (arith, least)) (cases_lt 0 told.ticks)
