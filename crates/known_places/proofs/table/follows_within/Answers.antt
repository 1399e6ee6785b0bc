use Rattle.std.proofs.Common.{List, subst}
use Rattle.numbered_walks.specs.declared.span.Span.{Span}
use Rattle.known_words.specs.Knowledge.{Holds}
use Rattle.known_places.specs.Around.{turns_in}
use Rattle.known_places.specs.Limits.{KeepsSpans}
use Rattle.known_places.proofs.table.follows_within.Goals as goal

pub returns : goal.returns
returns c = λ seen action is entry regs walk port bus m keeps registers at obeys plain holds.
    let bounded = subst
    (λ (spans : List Span). KeepsSpans spans walk
    → Holds entry (turns_in spans c.args.around walk) c.args.known.now regs
    → Holds entry (turns_in spans c.args.around walk) c.limited-bounded.result regs)
    c.spans.ensures (c.limited-bounded.ensures entry regs walk) in
    c.follows.ensures seen action is entry (turns_in c.args.handler.now.tree.spans c.args.around walk) regs port bus m registers at obeys plain
    (bounded keeps holds)
