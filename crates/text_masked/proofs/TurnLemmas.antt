-- Edges that enter a span past its header while an edge leads back to it, and the greatest of all costs.
use Rattle.std.proofs.Common.{◌≡◌, ◌∙◌, ℕ, ◌+◌, ◌<◌, ◌≤◌, max, Bool, true, false, List, length, Contains, ⊎_elim, sym, ap, subst, arith}
use Rattle.std.specs.List.{filter, list_any}
use Rattle.std.proofs.lemmas.Bool.{and_parts, both_ways, cases_Bool, cases_lt}
use Rattle.std.proofs.lemmas.List.{get_or_default}
use Rattle.std.proofs.lemmas.List.Elements.{All-contains, All-contains_itself, All-filter, Contains-get_or, filter_passes}
use Rattle.std.proofs.lemmas.List.Folds.{Any-from_list_any, list_any_at}
use Rattle.numbered_walks.specs.declared.span.NumberedEdge.{NumberedEdge}
use Rattle.numbered_walks.specs.declared.span.Span.{Span}
use Rattle.numbered_walks.specs.Ordered.{IsGreatest, is_in}
use Rattle.loop_bounds.proofs.NestLemmas.{filter_has}
use Rattle.text_masked.specs.declared.marked.MarkedEdge.{MarkedEdge}
use Rattle.text_masked.specs.Held.{EntersTurned, IsGreatestOfAll, enters_past, enters_turned, flag_at, is_set, marked_at}
use Rattle.text_masked.proofs.HeldLemmas.{no_marked}

-- ## What a filter keeps

pub kept_of : {X : Type 0} (p : X → Bool) (xs : List X) (x : X) → Contains (filter p xs) x → Contains xs x × (p x ≡ true)
kept_of p xs x has =
    (All-contains (Contains xs) (filter p xs) x (All-filter p (Contains xs) xs (All-contains_itself xs)) has, All-contains (λ y. p y ≡ true) (filter p xs) x (filter_passes p xs) has)

pub any_of : {X : Type 0} (p : X → Bool) (xs : List X) (x : X) → Contains xs x → p x ≡ true → list_any p xs ≡ true
any_of p xs x (k, lt, is) passes = list_any_at p xs k x lt (ap p is ∙ passes)

-- ## Entering a span

module _ (turned : List Bool) (spans : List Span) (m : MarkedEdge) (group : List Span) (is : group ≡ filter (λ (s : Span). is_in s m.edge.to) spans) where
  pub none_entered : list_any (λ (s : Span). enters_turned turned s m) group ≡ false → (s : Span) → Contains spans s → enters_turned turned s m ≡ false
  none_entered none s has = ⊎_elim
      (λ (enters : enters_turned turned s m ≡ true).
      let past : enters_past s m ≡ true = (and_parts (flag_at turned s.header) (enters_past s m) enters).1 in
      let inside : is_in s m.edge.to ≡ true = (and_parts (is_in s m.edge.to) _ (and_parts (is_set m.shown) _ past).1).0 in
      let in_group : Contains group s = subst (λ (g : List Span). Contains g s) (sym is) (filter_has (λ (s : Span). is_in s m.edge.to) spans s has inside) in
      absurd (both_ways (list_any (λ (s : Span). enters_turned turned s m) group) none (any_of (λ (s : Span). enters_turned turned s m) group s in_group enters)))
      (λ not_so. not_so)
      (cases_Bool (enters_turned turned s m))

  pub found_entered : list_any (λ (s : Span). enters_turned turned s m) group ≡ true → (s : Span) × Contains spans s × (enters_turned turned s m ≡ true)
  found_entered some =
      let any = Any-from_list_any (λ (s : Span). enters_turned turned s m) group some in
      (any.1, (kept_of (λ (s : Span). is_in s m.edge.to) spans any.1 (subst (λ (g : List Span). Contains g any.1) is (any.0, any.2, any.3))).0, any.4)

module _ (marked : List MarkedEdge) (turned : List Bool) (spans : List Span) (i : ℕ) where
  pub some_entered : (group : List Span) → i < length marked → group ≡ filter (λ (s : Span). is_in s (marked_at marked i).edge.to) spans
      → list_any (λ (s : Span). enters_turned turned s (marked_at marked i)) group ≡ true → EntersTurned marked turned spans
  some_entered group lt is some =
      let found = found_entered turned spans (marked_at marked i) group is some in
      (marked_at marked i, found.0, Contains-get_or marked i no_marked lt, found.1, found.2)

  pub one_entered : length marked ≤ i → ((n : ℕ) → n < i → (s : Span) → Contains spans s → enters_turned turned s (marked_at marked n) ≡ false) → EntersTurned marked turned spans → ⊥
  one_entered all none (m, s, (k, lt, here), has, enters) =
      let at : marked_at marked k ≡ m = get_or_default marked k no_marked m lt ∙ here in
      both_ways (enters_turned turned s m) (ap (enters_turned turned s) (sym at) ∙ none k (omega arith) s has) enters

-- ## The greatest of all

module _ (edges : List NumberedEdge) (spans : List Span) where
  abbrev HasAtMost : ℕ → ℕ → Type 0
  HasAtMost n p = (m : ℕ) × IsGreatest p edges spans m × (m ≤ n)

  pub first_of_all : (n : ℕ) → IsGreatest 0 edges spans n → IsGreatestOfAll edges spans 1 n
  first_of_all n is = record {
    place = 0;
    inside = omega arith;
    greatest = is;
    most = λ p lt. let zero_is : 0 ≡ p = omega arith in subst (λ (k : ℕ). HasAtMost n k) zero_is (n, is, omega arith);
  }

  pub one_more_of_all : (done n m : ℕ) → IsGreatestOfAll edges spans done n → IsGreatest done edges spans m → IsGreatestOfAll edges spans (done + 1) (max n m)
  one_more_of_all done n m others is = ⊎_elim
      (λ (less : n < m).
      let top : m ≡ max n m = omega arith in
      subst (λ (k : ℕ). IsGreatestOfAll edges spans (done + 1) k) top (record {
        place = done;
        inside = omega arith;
        greatest = is;
        most = λ p lt. ⊎_elim
            (λ (low : p < done). let o = others.most p low in (o.0, o.1, omega (arith, o.2)))
            (λ high. let same : done ≡ p = omega arith in subst (λ (k : ℕ). HasAtMost m k) same (m, is, omega arith))
            (cases_lt p done);
      }))
      (λ (more : m ≤ n).
      let top : n ≡ max n m = omega arith in
      subst (λ (k : ℕ). IsGreatestOfAll edges spans (done + 1) k) top (record {
        place = others.place;
        inside = omega (arith, others.inside);
        greatest = others.greatest;
        most = λ p lt. ⊎_elim
            (λ (low : p < done). others.most p low)
            (λ high. let same : done ≡ p = omega arith in subst (λ (k : ℕ). HasAtMost n k) same (m, is, more))
            (cases_lt p done);
      }))
      (cases_lt n m)
