use Rattle.std.proofs.Common.{◌≡◌, ◌+◌, ◌∙◌, ap, arith}
use Rattle.known_words.specs.Turning.{turns_at}
use Rattle.known_places.specs.Around.{around_at, turns_in, turns_of}
use Rattle.walk_counts.specs.Spans.{turns_at_end}
use Rattle.known_places.proofs.loops.is_never_over.Goals as goal
use Rattle.known_places.proofs.AroundLemmas.{turns_of_depth}

pub returns : goal.returns
returns c = λ seen spans is entry now walk over holds.
    let span = c.args.span.now in
    let around = around_at c.args.table.now.around.now span.header in
    let there : turns_at c.in-Some.depth (turns_in spans around walk) ≡ turns_at_end span walk =
    turns_of_depth spans c.in-Some.depth around walk ∙ ap (λ o. turns_of spans o walk) c.in-Some.ensures
    ∙ ap (λ s. turns_at_end s walk) is in
    let one = c.in-Some-checked_add.ensures in
    c.never_turns.ensures seen entry (turns_in spans around walk) now (omega (arith, there, over, one)) holds
