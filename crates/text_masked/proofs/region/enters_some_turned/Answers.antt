use Rattle.std.proofs.Common.{◌≡◌, ◌∙◌, ℕ, ◌<◌, ◌≤◌, false, length, Vec, ⊎_elim, refl, sym, ap, arith}
use Rattle.std.specs.Global.{Global}
use Rattle.std.specs.List.{filter}
use Rattle.std.proofs.lemmas.Bool.{both_ways, cases_lt}
use Rattle.numbered_walks.specs.declared.span.Span.{Span}
use Rattle.numbered_walks.specs.Ordered.{is_in}
use Rattle.text_masked.specs.Held.{enters_turned, marked_at}
use Rattle.text_masked.proofs.HeldLemmas.{no_marked}
use Rattle.text_masked.proofs.TurnLemmas.{none_entered, one_entered, some_entered}
use Rattle.text_masked.proofs.region.enters_some_turned.Goals as goal

pub returns-then-enters_one : goal.returns-then-enters_one
returns-then-enters_one c = λ spans holders.
    let i = c.loop-edge.edge-index in
    let m = marked_at c.args.marked.now i in
    let to_in : m.edge.to < length c.args.holders.now = c.requires.known i no_marked c.loop-edge-test.true in
    let group_is : c.deref.result.now ≡ filter (λ (s : Span). is_in s m.edge.to) spans =
    c.deref.ensures.value ∙ ap (λ (v : Vec Span Global). v.items) c.index-holders-edge.is ∙ holders m.edge.to c.index-holders-edge.result to_in in (
      λ h. some_entered c.args.marked.now c.args.turned.now spans i c.deref.result.now c.loop-edge-test.true group_is (sym c.enters_one.ensures ∙ c.if-enters_one.true),
      λ h. refl,
    )

pub loop-edge-preserved : goal.loop-edge-preserved
loop-edge-preserved c = λ spans holders n lt s has.
    let i = c.loop-edge.edge-index in
    let m = marked_at c.args.marked.now i in
    let to_in : m.edge.to < length c.args.holders.now = c.requires.known i no_marked c.loop-edge-test.true in
    let group_is : c.deref.result.now ≡ filter (λ (s : Span). is_in s m.edge.to) spans =
    c.deref.ensures.value ∙ ap (λ (v : Vec Span Global). v.items) c.index-holders-edge.is ∙ holders m.edge.to c.index-holders-edge.result to_in in
    ⊎_elim
    (λ (low : n < i). c.loop-edge.invariant spans holders n low s has)
    (λ (high : i ≤ n).
    let is : n ≡ i = omega arith in
    ap (λ (k : ℕ). enters_turned c.args.turned.now s (marked_at c.args.marked.now k)) is
    ∙ none_entered c.args.turned.now spans m c.deref.result.now group_is (sym c.enters_one.ensures ∙ c.if-enters_one.false) s has)
    (cases_lt n i)

pub returns : goal.returns
returns c = λ spans holders. (
  λ h. absurd (both_ways false refl h),
  λ e. absurd (one_entered c.args.marked.now c.args.turned.now spans c.loop-edge.edge-index (omega (arith, c.loop-edge-test.false)) (c.loop-edge.invariant spans holders) e),
)
