use Rattle.std.proofs.Common.{◌∙◌, ap, sym}
use Rattle.sources.specs.Origins.{stretches_of}
use Rattle.sources.proofs.OriginLaws.{stretches_are}
use Rattle.sources.proofs.read.grammar_places.Goals as goal

pub returns-in-Ok-clause-ok : goal.returns-in-Ok-clause-ok
returns-in-Ok-clause-ok c =
    ap stretches_of (sym c.bytes.ensures) ∙ stretches_are c.lines_are_spelled.ensures.spelled c.bytes.result.now c.in-Ok.placed.items c.in-Ok.ensures.ok
