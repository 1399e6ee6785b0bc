-- The order by keys makes each instance an interval.
use Rattle.std.proofs.Common.{◌≡◌, ℕ, ◌<◌, ◌≤◌, ◌⊎◌, true, false, List, length, get_or, sym, ap, ◌∙◌, subst, ⊎_elim, arith}
use Rattle.std.specs.Prelude.{Contains, ◌==◌}
use Rattle.std.proofs.lemmas.Bool.{both_ways, cases_Bool, cases_eq, cases_lt, eq-eqb, ne_eqb, false_from_ne_true}
use Rattle.std.proofs.lemmas.List.{get_or_default}
use Rattle.walks.specs.Walk.{IsReached}
use Rattle.loop_bounds.specs.declared.extents.Extent.{Extent}
use Rattle.numbered_walks.specs.declared.span.NumberedEdge.{NumberedEdge}
use Rattle.numbered_walks.specs.declared.span.Span.{Span}
use Rattle.numbered_walks.specs.Ordered.{number_shape}
use Rattle.loop_bounds.specs.Extents.{AreNested, extent_at, is_within}
use Rattle.loop_bounds.specs.Keys.{is_before}
use Rattle.loop_bounds.specs.Layout.{AreNumbers, HaveApartHeaders, HoldLater, HoldsLater, IsBack, IsEnteredRight, IsLaidOut, IsRank, IsShown, key_in}
use Rattle.numbered_walks.specs.Ordered.{is_in}
use Rattle.numbered_walks.proofs.Members.{member_from, member_header, member_last}
use Rattle.loop_bounds.proofs.ExtentLemmas.{nested_at}
use Rattle.loop_bounds.proofs.RankLemmas.{Forward, edges_go_up, forward_to, header_first, members_together}
use Rattle.loop_bounds.proofs.Within.{from_in, in_from}

holds_later : (extents : List Extent) (parents : List _) → AreNested extents parents → (a b : ℕ) → a < b → b < length extents → HoldsLater (extent_at extents a) (extent_at extents b)
holds_later extents parents n a b lt inside p in_a in_b q at = from_in (extent_at extents a) q (nested_at extents parents a b n.extents_are n.parents_are lt inside p (in_from (extent_at extents a) p in_a) (in_from (extent_at extents b) p in_b) q (in_from (extent_at extents b) q at))

pub hold_later : (extents : List Extent) (parents : List _) → AreNested extents parents → HoldLater extents
hold_later extents parents n a b d lt inside =
    let at_a : extent_at extents a ≡ get_or extents a d = get_or_default extents a _ d (omega arith) in
    let at_b : extent_at extents b ≡ get_or extents b d = get_or_default extents b _ d inside in
    subst (λ (s : Extent). HoldsLater s (get_or extents b d)) at_a (subst (λ (t : Extent). HoldsLater (extent_at extents a) t) at_b (holds_later extents parents n a b lt inside))

-- what is known of positions, their ranks and their order
pub record IsPlan (edges : List NumberedEdge) (entry exit : ℕ) (extents : List Extent) (rank : ℕ → ℕ) (order numbers : List ℕ) : Type 0 where
  pub entered : IsEnteredRight edges entry extents
  pub apart : HaveApartHeaders extents
  pub up : IsRank edges extents rank
  pub reached : (p : ℕ) → p < exit → IsReached number_shape (Contains edges) entry p
  pub edges_in : (e : NumberedEdge) → Contains edges e → (e.from < exit) × (e.to ≤ exit)
  pub once : (p q : ℕ) → p < exit → q < exit → rank p ≡ rank q → p ≡ q
  pub header_in : (s : Extent) → Contains extents s → s.header < exit
  pub header_within : (s : Extent) → Contains extents s → is_within s s.header ≡ true
  pub ends : (s : Extent) → Contains extents s → s.end ≤ exit
  pub later : HoldLater extents
  pub laid : IsLaidOut (key_in rank extents) exit order
  pub numbered : AreNumbers order numbers (length order)
  pub entry_in : entry < exit

module _ (edges : List NumberedEdge) (entry exit : ℕ) (extents : List Extent) (rank : ℕ → ℕ) (order numbers : List ℕ) (plan : IsPlan edges entry exit extents rank order numbers) where
  abbrev new : ℕ → ℕ
  new p = get_or numbers p 0

  leaves : (e : NumberedEdge) → Contains edges e → e.from < exit
  leaves e has = (plan.edges_in e has).0

  pub number_of : (n : ℕ) → n ≤ exit → get_or numbers (get_or order n 0) 0 ≡ n
  number_of n le = plan.numbered.each n (omega (arith, plan.laid.whole))

  pub number_back : (p : ℕ) → p < exit → (get_or numbers p 0 < exit) × (get_or order (get_or numbers p 0) 0 ≡ p)
  number_back p lt =
      let n = plan.laid.all p lt in
      let n_lt : n.0 < exit = n.1 in
      let is : new p ≡ n.0 = ap new (sym n.2) ∙ number_of n.0 (omega arith) in
      (omega arith, ap (λ (x : ℕ). get_or order x 0) is ∙ n.2)

  pub number_exit : get_or numbers exit 0 ≡ exit
  number_exit = ap new (sym plan.laid.exit_last) ∙ number_of exit (omega arith)

  pub order_in : (n : ℕ) → n < exit → get_or order n 0 < exit
  order_in n lt = plan.laid.inside n lt

  -- a key that comes before another has the smaller number
  smaller : (p q : ℕ) → p < exit → q < exit → is_before (key_in rank extents p) (key_in rank extents q) ≡ true → new p < new q
  smaller p q plt qlt h =
      let a = number_back p plt in
      let b = number_back q qlt in
      ⊎_elim
      (λ (less : new p < new q). less)
      (λ (ge : new q ≤ new p).
      let not_ = plan.laid.ascending (new q) (new p) ge a.0 in
      absurd (both_ways (is_before (key_in rank extents p) (key_in rank extents q)) ((λ i. is_before (key_in rank extents (sym a.1 i)) (key_in rank extents (sym b.1 i))) ∙ not_) h))
      (cases_lt (new p) (new q))

  -- each edge that is no back edge goes up
  pub goes_up : (e : NumberedEdge) → Contains edges e → (IsBack extents e → ⊥) → get_or numbers e.from 0 < get_or numbers e.to 0
  goes_up e has forward =
      let low : e.from < exit = leaves e has in
      let high : e.to ≤ exit = (plan.edges_in e has).1 in
      ⊎_elim
      (λ (lt : e.to < exit). smaller e.from e.to low lt (edges_go_up edges entry exit extents plan.entered plan.apart rank plan.up plan.reached leaves plan.once plan.header_within plan.header_in plan.later e has forward))
      (λ (ge : exit ≤ e.to).
      let top : e.to ≡ exit = omega arith in
      let at : new e.to ≡ exit = ap new top ∙ number_exit in
      omega (arith, (number_back e.from low).0))
      (cases_lt e.to exit)

  new_rank : IsRank edges extents (λ p. get_or numbers p 0)
  new_rank = goes_up

  -- the header has the least number
  pub header_least : (s : Extent) → Contains extents s → (p : ℕ) → p < exit → is_within s p ≡ true → get_or numbers s.header 0 ≤ get_or numbers p 0
  header_least s has p lt inside = header_first edges entry exit extents plan.entered plan.apart (λ q. get_or numbers q 0) new_rank plan.reached leaves p lt s has inside

  -- each place but the entry is entered by an edge that goes up
  pub forward : (p : ℕ) → p < exit → (entry ≡ p) ⊎ Forward edges extents p
  forward p lt = forward_to edges entry exit extents plan.entered plan.apart p (plan.reached p lt)

  -- ## Spans

  module _ (s : Extent) (has : Contains extents s) (bound : ℕ) (span : Span) (shown : IsShown numbers s bound span) where
    last_in : span.last < exit
    last_in =
        let end : s.end ≤ exit = plan.ends s has in
        let lt : (shown.attained).0 < s.end = (shown.attained).2 in
        omega (arith, (number_back (shown.attained).0 (omega arith)).0, (shown.attained).3)

    up_to_last : (n : ℕ) → n < exit → is_within s (get_or order n 0) ≡ true → is_in span n ≡ true
    up_to_last n lt inside =
        let p : ℕ = get_or order n 0 in
        let w = in_from s p inside in
        let at : new p ≡ n = number_of n (omega arith) in
        let low : new s.header ≤ new p = header_least s has p (order_in n lt) inside in
        let high : new p ≤ span.last = shown.most p w.0 w.1 in
        member_from span n (omega (arith, shown.header_is)) (omega arith)

    from_span : (n : ℕ) → n < exit → is_in span n ≡ true → is_within s (get_or order n 0) ≡ true
    from_span n lt inside =
        let low : span.header ≤ n = member_header span n inside in
        let high : n ≤ span.last = member_last span n inside in
        let end : s.end ≤ exit = plan.ends s has in
        let r : ℕ = (shown.attained).0 in
        let r_high : r < s.end = (shown.attained).2 in
        let r_in : r < exit = omega arith in
        let h_in : s.header < exit = plan.header_in s has in
        let a = number_back s.header h_in in
        let b = number_back r r_in in
        let r_is : new r ≡ span.last = (shown.attained).3 in
        let h_low : new s.header ≤ n = omega (arith, shown.header_is) in
        let r_up : n ≤ new r = omega arith in
        let first : is_before (key_in rank extents (get_or order n 0)) (key_in rank extents s.header) ≡ false = (λ i. is_before (key_in rank extents (get_or order n 0)) (key_in rank extents (sym a.1 i))) ∙ plan.laid.ascending (new s.header) n h_low lt in
        let second : is_before (key_in rank extents r) (key_in rank extents (get_or order n 0)) ≡ false = (λ i. is_before (key_in rank extents (sym b.1 i)) (key_in rank extents (get_or order n 0))) ∙ plan.laid.ascending n (new r) r_up b.0 in
        members_together edges entry exit extents plan.entered plan.apart rank plan.up plan.reached leaves plan.once plan.header_within plan.header_in plan.later s has s.header r (get_or order n 0) (order_in n lt) (plan.header_within s has) (from_in s r ((shown.attained).1, r_high)) first second

    -- the span has the numbers of the extent's positions
    pub span_holds : (n : ℕ) → n ≤ exit → is_in span n ≡ is_within s (get_or order n 0)
    span_holds n le = ⊎_elim
        (λ (lt : n < exit). ⊎_elim
        (λ (inside : is_within s (get_or order n 0) ≡ true). up_to_last n lt inside ∙ sym inside)
        (λ (outside : is_within s (get_or order n 0) ≡ false). false_from_ne_true (is_in span n) (λ h. both_ways (is_within s (get_or order n 0)) outside (from_span n lt h)) ∙ sym outside)
        (cases_Bool (is_within s (get_or order n 0))))
        (λ (ge : exit ≤ n).
        let top : n ≡ exit = omega arith in
        let at : get_or order n 0 ≡ exit = ap (λ (x : ℕ). get_or order x 0) top ∙ plan.laid.exit_last in
        let end : s.end ≤ exit = plan.ends s has in
        let last : span.last < exit = last_in in
        false_from_ne_true (is_in span n) (λ h. omega (arith, member_last span n h))
        ∙ sym (false_from_ne_true (is_within s (get_or order n 0)) (λ h. let w = in_from s (get_or order n 0) h in let wh : get_or order n 0 < s.end = w.1 in omega arith)))
        (cases_lt n exit)

    pub span_shape : (span.header ≤ span.last) × (span.last < exit)
    span_shape =
        let w = in_from s s.header (plan.header_within s has) in
        (omega (arith, shown.header_is, shown.most s.header w.0 w.1), last_in)

    -- a number is the header's where its position is
    pub span_header : (n : ℕ) → n ≤ exit → (get_or order n 0 == s.header) ≡ (n == span.header)
    span_header n le = ⊎_elim
        (λ (same : n ≡ span.header).
        let at : get_or order n 0 ≡ s.header = ap (λ (x : ℕ). get_or order x 0) (same ∙ shown.header_is) ∙ (number_back s.header (plan.header_in s has)).1 in
        eq-eqb (get_or order n 0) s.header at ∙ sym (eq-eqb n span.header same))
        (λ (differ : n ≡ span.header → ⊥).
        ne_eqb (get_or order n 0) s.header (λ at. differ (sym (number_of n le) ∙ ap new at ∙ sym shown.header_is)) ∙ sym (ne_eqb n span.header differ))
        (cases_eq n span.header)
