use Rattle.std.proofs.Common.{List, subst}
use Rattle.numbered_walks.specs.declared.span.Span.{Span}
use Rattle.known_words.specs.Knowledge.{Holds}
use Rattle.known_places.specs.Around.{turns_in}
use Rattle.known_places.specs.Limits.{KeepsSpans}
use Rattle.known_places.proofs.endless.never_goes_within.Goals as goal

pub returns : goal.returns
returns c = λ seen entry regs walk action keeps is label holds.
    let around = c.args.around in
    let bounded = subst
    (λ (spans : List Span). KeepsSpans spans walk
    → Holds entry (turns_in spans around walk) c.args.known.now regs
    → Holds entry (turns_in spans around walk) c.limited-bounded.result regs)
    c.spans.ensures (c.limited-bounded.ensures entry regs walk) in
    c.never_goes.ensures seen entry (turns_in c.args.handler.now.tree.spans around walk) regs action is label
    (bounded keeps holds)
