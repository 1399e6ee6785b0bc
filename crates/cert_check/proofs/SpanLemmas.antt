-- The span that begins at a number.
use Rattle.std.proofs.Common.{◌≡◌, ◌≢◌, ◌∙◌, ℕ, eqb, List, get_or, AllPairs, Option, Some, None, sym, ap}
use Rattle.std.specs.List.{find}
use Rattle.std.proofs.lemmas.Bool.{eq-eqb, eqb-true}
use Rattle.walks.proofs.RowLemmas.{find_some}
use Rattle.numbered_walks.specs.declared.span.Span.{Span}
use Rattle.numbered_walks.specs.Index.{AreHeaders}
use Rattle.numbered_walks.proofs.Nesting.{same_header}
use Rattle.longest_walk.proofs.CarryFind.{find_known}
use Rattle.cert_check.proofs.FindLemmas.{none_or_some}

module _ (spans : List Span) (differ : AllPairs (λ s t. s.header ≢ t.header) spans) where
  pub header_found : (headers : List (Option Span)) (p : ℕ) (o : Option Span) → AreHeaders spans headers → o ≡ get_or headers p None → o ≡ find (λ s. eqb p s.header) spans
  header_found headers p None all is = sym (none_or_some (find (λ s. eqb p s.header) spans) missed)
    where
      missed : (y : Span) → find (λ s. eqb p s.header) spans ≡ Some y → ⊥
      missed y found =
          let has = find_some (λ (s : Span). eqb p s.header) spans y found in
          let number : p ≡ y.header = eqb-true p y.header has.1 in
          let there = all.all y has.0 in
          let both : None ≡ Some there.0 = is ∙ ap (λ (n : ℕ). get_or headers n None) number ∙ there.1 in
          cc
  header_found headers p (Some s) all is =
      let known = all.known p s (sym is) in
      let some = find_known (λ (t : Span). eqb p t.header) spans s known.0 (eq-eqb p s.header (sym known.1)) in
      let found = find_some (λ (t : Span). eqb p t.header) spans some.0 some.1 in
      let same : s ≡ some.0 = same_header spans differ s some.0 known.0 found.0 (known.1 ∙ eqb-true p (some.0).header found.1) in
      ap (λ (x : Span). Some x) same ∙ sym some.1
