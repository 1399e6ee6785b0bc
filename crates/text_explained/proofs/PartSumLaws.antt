-- Sums of parts, to which the same is added.
use Rattle.std.proofs.Common.{◌≡◌, ◌∙◌, ℕ, Bool, true, false, cond, List, [], ◌∷◌, Some, unwrap_or, sym, ap, subst, ⊎_elim}
use Rattle.std.specs.Prelude.{◌*◌, ◌||◌, ◌==◌, Option}
use Rattle.std.specs.BTreeMap.{BTreeMap, get, is_at}
use Rattle.std.specs.List.Sorted.{IsStrictlySortedBy}
use Rattle.std.specs.Ordering.{nat_cmp}
use Rattle.std.proofs.lemmas.Bool.{cases_eq, eq-eqb, ne_eqb}
use Rattle.std.proofs.lemmas.Map.Keys.{sorted_tail}
use Rattle.walk_counts.specs.Counts.{capped}
use Rattle.text_explained.specs.PartSums.{added_if, nothing, sum_in, with_edge, with_part}
use Rattle.text_explained.specs.declared.part_sums.PartSum.{PartSum}
use Rattle.text_explained.proofs.SetLaws.{found_by, found_is, gone, has}

-- what is left to add makes the whole
pub record Adding (left : List ℕ) (all : ℕ → Bool) (more : PartSum) (before now : BTreeMap ℕ PartSum) : Type 0 where
  pub sorted : IsStrictlySortedBy nat_cmp left
  pub same : (n : ℕ) → added_if (has left n) (sum_in now n) more ≡ added_if (all n) (sum_in before n) more

module _ (left rest : List ℕ) (k : ℕ) (all : ℕ → Bool) (more : PartSum) (before now new : BTreeMap ℕ PartSum) where
  pub added_next : left ≡ k ∷ rest → Adding left all more before now → (sum : PartSum) → sum ≡ with_part (sum_in now k) more
      → ((q : ℕ) → get nat_cmp new q ≡ cond (is_at (nat_cmp k) q) (Some sum) (get nat_cmp now q)) → Adding rest all more before new
  added_next left_is h sum sum_is put = record {
    sorted = sorted_tail nat_cmp k rest (subst (λ ks. IsStrictlySortedBy nat_cmp ks) left_is h.sorted);
    same = λ n. ⊎_elim (here n) (other n) (cases_eq n k);
  }
    where
      one : (n : ℕ) (b : Bool) → (n == k) ≡ b → sum_in new n ≡ unwrap_or (cond b (Some sum) (get nat_cmp now n)) nothing
      one n b is = ap (λ (o : Option PartSum). unwrap_or o nothing) (put n ∙ ap (λ c. cond c (Some sum) (get nat_cmp now n)) (found_by n k ∙ is))

      left_has : (n : ℕ) (b : Bool) → (n == k) ≡ b → has left n ≡ (b || has rest n)
      left_has n b is = ap (λ ks. has ks n) left_is ∙ ap (λ c. c || has rest n) (found_is n k ∙ is)

      here : (n : ℕ) → n ≡ k → added_if (has rest n) (sum_in new n) more ≡ added_if (all n) (sum_in before n) more
      here n e =
          let is = eq-eqb n k e in
          let none : has rest n ≡ false = gone n k rest e (subst (λ ks. IsStrictlySortedBy nat_cmp ks) left_is h.sorted) in
          ap (λ b. added_if b (sum_in new n) more) none ∙ one n true is ∙ sum_is ∙ ap (λ m. with_part (sum_in now m) more) (sym e)
          ∙ ap (λ b. added_if b (sum_in now n) more) (sym (left_has n true is)) ∙ h.same n

      other : (n : ℕ) → (n ≡ k → ⊥) → added_if (has rest n) (sum_in new n) more ≡ added_if (all n) (sum_in before n) more
      other n ne =
          let is = ne_eqb n k ne in
          ap (λ (s : PartSum). added_if (has rest n) s more) (one n false is)
          ∙ ap (λ b. added_if b (sum_in now n) more) (sym (left_has n false is)) ∙ h.same n

pub added_all : (left : List ℕ) (all : ℕ → Bool) (more : PartSum) (before now : BTreeMap ℕ PartSum) → left ≡ [] → Adding left all more before now
    → (n : ℕ) → sum_in now n ≡ added_if (all n) (sum_in before n) more
added_all left all more before now is h n = ap (λ ks. added_if (has ks n) (sum_in now n) more) (sym is) ∙ h.same n

pub edge_added : (begins inside b i : Bool) (count cost ticks : ℕ) (old mid new : PartSum) → b ≡ begins → i ≡ inside → ticks ≡ capped (count * cost)
    → mid ≡ added_if b old (record { times = count; ticks = 0 }) → new ≡ added_if i mid (record { times = 0; ticks = ticks }) → new ≡ with_edge begins inside count cost old
edge_added begins inside b i count cost ticks old mid new b_is i_is ticks_is mid_is new_is =
    new_is ∙ (λ j. added_if (i_is j) (mid_is j) (record { times = 0; ticks = ticks_is j }))
    ∙ (λ j. added_if inside (added_if (b_is j) old (record { times = count; ticks = 0 })) (record { times = 0; ticks = capped (count * cost) }))
