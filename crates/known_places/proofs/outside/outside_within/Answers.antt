use Rattle.std.proofs.Common.{List, subst}
use Rattle.control_flow.specs.Kinds.{IsAction}
use Rattle.control_flow.specs.declared.actions.Action.{Action}
use Rattle.numbered_walks.specs.declared.span.Span.{Span}
use Rattle.statement.specs.Stated.{class_at}
use Rattle.known_words.specs.Knowledge.{Holds}
use Rattle.known_places.specs.Around.{turns_in}
use Rattle.known_places.specs.Limits.{KeepsSpans}
use Rattle.known_places.specs.Outside.{GoesOutsideWithin, WordGoesOutside}
use Rattle.known_places.proofs.AroundLemmas.{some_as}
use Rattle.known_places.proofs.outside.outside_within.Goals as goal

pub returns : goal.returns
returns c =
    let h = c.args.handler.now in
    let word = c.args.word in
    let address = c.args.address in
    let around = c.args.around in
    some_as
    (λ range. (action : Action) → IsAction word action
    → WordGoesOutside (class_at h.statement address action.base) word address c.limited-bounded.result range)
    (λ range. (action : Action) → IsAction word action
    → GoesOutsideWithin h.tree.spans around (class_at h.statement address action.base) word address action c.args.known.now
    range)
    c.outside_of.result
    (λ range goes action is entry regs walk port bus m keeps registers at label obeys plain holds.
    let bounded = subst
    (λ (spans : List Span). KeepsSpans spans walk
    → Holds entry (turns_in spans around walk) c.args.known.now regs
    → Holds entry (turns_in spans around walk) c.limited-bounded.result regs)
    c.spans.ensures (c.limited-bounded.ensures entry regs walk) in
    goes action is entry (turns_in h.tree.spans around walk) regs port bus m action registers at is label obeys plain
    (bounded keeps holds))
    c.outside_of.ensures
