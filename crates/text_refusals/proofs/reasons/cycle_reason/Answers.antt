use Rattle.std.proofs.Common.{List, inl, subst}
use Rattle.std.proofs.lemmas.Result.{IfOk-weaker}
use Rattle.control_flow.specs.declared.edges.Edge.{Edge}
use Rattle.text_refusals.specs.Cycles.{IsCycleOf, IsOnceRound}
use Rattle.text_refusals.specs.Extents.{HasNoStart, IsExtentOf}
use Rattle.text_refusals.specs.Texts.{IsCycleText}
use Rattle.text_refusals.proofs.ReasonLemmas.{found, has_start}
use Rattle.text_refusals.proofs.reasons.cycle_reason.Goals as goal

pub returns-in-Some-extent_of : goal.returns-in-Some-extent_of
returns-in-Some-extent_of c =
    let cycle = c.in-Some.cycle.items in
    let extent = c.in-Some-extent_of.extent in
    let is = found (λ v. IsCycleOf c.args.graph.now c.args.loops.now v.items) c.in_ok-cycle.field-0 c.in-Some.cycle c.in-Some.is c.in_ok-cycle.ensures.cycle in
    let once = found (λ v. IsOnceRound v.items) c.in_ok-cycle.field-0 c.in-Some.cycle c.in-Some.is c.in_ok-cycle.ensures.once in
    let extent_is = subst (λ (es : List Edge). IsExtentOf es extent) c.deref.ensures.value c.in-Some-extent_of.ensures.extent in
    IfOk-weaker c.cycle_text.result _ _
    (λ text shown. inl (
      (cycle, extent),
      record { cycle = is; once = once; extent = extent_is },
      subst (λ (es : List Edge). IsCycleText c.args.words.now es extent text.items) c.deref-in-Some-extent_of.ensures.value shown,
    ))
    c.cycle_text.ensures

pub returns : goal.returns
returns c =
    let is = found (λ v. IsCycleOf c.args.graph.now c.args.loops.now v.items) c.in_ok-cycle.field-0 c.in-Some.cycle c.in-Some.is c.in_ok-cycle.ensures.cycle in
    absurd (has_start c.args.graph.now c.args.loops.now c.in-Some.cycle.items c.graphs_are_well_formed.ensures is (subst HasNoStart c.deref.ensures.value c.in-None.ensures.none))
