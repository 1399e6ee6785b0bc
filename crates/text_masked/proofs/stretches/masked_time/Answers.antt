use Rattle.std.proofs.Common.{◌≡◌, ℕ, List, length, ap, subst}
use Rattle.std.proofs.lemmas.Result.{IfOk-weaker}
use Rattle.control_flow.specs.declared.places.Place.{Place}
use Rattle.numbered_walks.specs.declared.span.Span.{Span}
use Rattle.text_masked.specs.declared.marked.MarkedEdge.{MarkedEdge}
use Rattle.text_masked.specs.Held.{IsTimeBy}
use Rattle.text_masked.proofs.StretchLemmas.{is_masked_time}
use Rattle.text_masked.proofs.stretches.masked_time.Goals as goal

pub returns : goal.returns
returns c =
    let h = c.args.handler.now in
    let exit_is : length c.places-exit.result.now ≡ length h.graph.places = ap (λ (ps : List Place). length ps) c.places-exit.ensures.value in
    IfOk-weaker c.time_of.result _ _
    (λ time is. is_masked_time h.image.now h.statement.loops h.graph c.args.mask h.tree c.requires c.places-exit.ensures.well_formed c.in_ok-marked.marked.items c.in_ok-marked.ensures time
    (subst (λ (n : ℕ). IsTimeBy n c.in_ok-marked.marked.items h.tree.spans time) exit_is
    (subst (λ (ms : List MarkedEdge). IsTimeBy (length c.places-exit.result.now) ms h.tree.spans time) c.deref.ensures.value
    (subst (λ (ss : List Span). IsTimeBy (length c.places-exit.result.now) c.deref.result.now ss time) c.spans-2.ensures is))))
    c.time_of.ensures
