-- The edges that the numbers are by, found again.
use Rattle.std.proofs.Common.{◌≡◌, ◌≢◌, ℕ, ◌<◌, ◌≤◌, true, false, List, ◌⊎◌, ⊎_elim, length, get_or, Option, Some, None, All, Contains, Vec, sym, ap, ◌∙◌, subst, arith}
use Rattle.std.specs.Global.{Global}
use Rattle.std.specs.Option.{MatchOption}
use Rattle.std.proofs.lemmas.Bool.{cases_lt, ltb-true, ltb-false}
use Rattle.std.proofs.lemmas.List.{get_or_default}
use Rattle.std.proofs.lemmas.List.Elements.{All-contains}
use Rattle.numbered_walks.specs.declared.span.NumberedEdge.{NumberedEdge}
use Rattle.numbered_walks.specs.declared.span.Span.{Span}
use Rattle.numbered_walks.specs.declared.tables.Tables.{Tables}
use Rattle.numbered_walks.specs.Ordered.{IsOrdered}
use Rattle.numbered_walks.specs.Index.{AreGrouped, edge_at, span_at}
use Rattle.numbered_walks.specs.Tables.{needed, found_at, round_of, TurnsBy}
use Rattle.numbered_walks.specs.Found.{AreFound, IsEntering, IsTurning}
use Rattle.numbered_walks.proofs.Grouping.{edge_in, edge_at-in, entering_edges, turning_edges}
use Rattle.numbered_walks.proofs.PassLemmas.{turn_low}
use Rattle.numbered_walks.proofs.Members.{no_span}

module _ (exit : ℕ) (edges : List NumberedEdge) (spans : List Span) (c : Tables) (order : IsOrdered exit edges spans) (found : AreFound exit edges spans c) (groups : List (Vec ℕ Global)) where
  -- what the group at the number has
  abbrev group_at : ℕ → Vec ℕ Global → List ℕ
  group_at p d = (get_or groups p d).items

  abbrev None_asks : List ℕ → ℕ → Type 0
  None_asks group number = All (λ k. needed spans c (edge_at edges k) ≢ number) group

  pub entering_is : (p : ℕ) (d : Vec ℕ Global) → p < length groups → AreGrouped edges (length edges) true groups → (k : ℕ) → Contains (group_at p d) k → needed spans c (edge_at edges k) ≡ found_at spans c p → IsEntering edges spans c p k
  entering_is p d small all k here asks =
      let known = (all p d small k).0 here in
      record {
        inside = known.0;
        ends = known.1;
        up = omega (arith, known.1, ltb-true (edge_at edges k).from (edge_at edges k).to known.2);
        asks = sym asks;
      }

  pub some_enters : (p : ℕ) (d : Vec ℕ Global) → p < length groups → AreGrouped edges (length edges) true groups → 0 < p → p ≤ exit → None_asks (group_at p d) (found_at spans c p) → ⊥
  some_enters p d small all later known none = ⊎_elim
      (λ first. absurd (omega (arith, first.0)))
      (λ by.
      let e = by.0 in
      let at = edge_in edges (group_at p d) e ((entering_edges edges groups p d small all e).1 (by.1, by.2, by.3)) in
      All-contains (λ k. needed spans c (edge_at edges k) ≢ found_at spans c p) (group_at p d) at.0 none at.1 (ap (λ (x : NumberedEdge). needed spans c x) at.2 ∙ sym by.4))
      (found.passed.attained p (omega arith))

  pub only_enters : (p : ℕ) (d : Vec ℕ Global) (k : ℕ) → p < length groups → AreGrouped edges (length edges) true groups → 0 < p → p ≤ exit → length (group_at p d) ≡ 1 → k ≡ get_or (group_at p d) 0 k → IsEntering edges spans c p k
  only_enters p d k small all later known one is = ⊎_elim
      (λ first. absurd (omega (arith, first.0)))
      (λ by.
      let group = group_at p d in
      let e = by.0 in
      let at = edge_in edges group e ((entering_edges edges groups p d small all e).1 (by.1, by.2, by.3)) in
      let first : at.1.0 ≡ 0 = omega (arith, at.1.1, one) in
      let same : at.0 ≡ k = sym at.1.2 ∙ ap (λ (j : ℕ). get_or group j at.0) first ∙ get_or_default group 0 at.0 k (omega (arith, one)) ∙ sym is in
      subst (IsEntering edges spans c p) same (entering_is p d small all at.0 at.1 (ap (λ (x : NumberedEdge). needed spans c x) at.2 ∙ sym by.4)))
      (found.passed.attained p (omega arith))

  turning_is : (s : Span) → Contains spans s → (d : Vec ℕ Global) → s.header < length groups → AreGrouped edges (length edges) false groups → (round_of c s ≡ 0 → ⊥) → (k : ℕ) → Contains (group_at s.header d) k → needed spans c (edge_at edges k) ≡ round_of c s → IsTurning edges spans c s k
  turning_is s s_in d small all some k here asks =
      let known = (all s.header d small k).0 here in
      let n = s_in.0 in
      let is : span_at spans n ≡ s = sym (get_or_default spans n s no_span s_in.1) ∙ s_in.2 in
      let back : (edge_at edges k).to ≤ (edge_at edges k).from = ltb-false (edge_at edges k).from (edge_at edges k).to known.2 in
      record {
        some = ⊎_elim (λ more. more) (λ zero_is. absurd (some (subst (λ (x : Span). round_of c x ≡ 0) is (found.passed.round_zero n s_in.1 (ap (λ (x : Span). x.bound) is ∙ omega arith))))) (cases_lt 0 s.bound);
        inside = known.0;
        ends = known.1;
        low = omega (arith, known.1, back);
        high = turn_low exit edges spans s order s_in (edge_at edges k) (edge_at-in edges k known.0) known.1 back;
        asks = sym asks;
      }

  some_turns : (s : Span) → Contains spans s → (d : Vec ℕ Global) → s.header < length groups → AreGrouped edges (length edges) false groups → (round_of c s ≡ 0 → ⊥) → None_asks (group_at s.header d) (round_of c s) → ⊥
  some_turns s s_in d small all some none =
      let n = s_in.0 in
      let is : span_at spans n ≡ s = sym (get_or_default spans n s no_span s_in.1) ∙ s_in.2 in
      ⊎_elim
      (λ zero_is. some zero_is)
      (λ by.
      let e = by.0 in
      let at = edge_in edges (group_at s.header d) e ((turning_edges edges groups s.header d small all e).1 (by.1, by.2, omega (arith, by.2, by.3))) in
      All-contains (λ k. needed spans c (edge_at edges k) ≢ round_of c s) (group_at s.header d) at.0 none at.1 (ap (λ (x : NumberedEdge). needed spans c x) at.2 ∙ sym by.5))
      (subst (λ (x : Span). (round_of c x ≡ 0) ⊎ TurnsBy edges spans c x) is (found.passed.round_attained n s_in.1))

  pub turning_found : (s : Span) → Contains spans s → (d : Vec ℕ Global) → s.header < length groups → AreGrouped edges (length edges) false groups → (round_of c s ≡ 0 → ⊥) → (group : List ℕ) → group ≡ group_at s.header d → (o : Option ℕ) → MatchOption o (None_asks group (round_of c s)) (λ k. Contains group k × (needed spans c (edge_at edges k) ≡ round_of c s)) → MatchOption o (round_of c s ≡ 0) (IsTurning edges spans c s)
  turning_found s s_in d small all some group is None asks = absurd (some_turns s s_in d small all some (subst (λ (l : List ℕ). None_asks l (round_of c s)) is asks))
  turning_found s s_in d small all some group is (Some k) asks = turning_is s s_in d small all some k (subst (λ (l : List ℕ). Contains l k) is asks.0) asks.1
