use Rattle.std.proofs.Common.{ap, ◌∙◌}
use Rattle.toml_reading.specs.Readings.{pair, reading_map}
use Rattle.statement.specs.ReadingParts.{parts_in}
use Rattle.statement.specs.StatementFaults.{statement_faults}
use Rattle.statement.proofs.StatementLemmas.{stored}
use Rattle.statement.proofs.reading.parts_of.Goals as goal

pub returns : goal.returns
returns c =
    ap (reading_map parts_in) (c.pair-2.ensures ∙ ap (λ x. pair statement_faults x c.in_ok-rest.rest) c.pair.ensures)
    ∙ stored c.in_ok-frame.frame c.in_ok-words.words c.in_ok-rest.rest
    ∙ (λ i. pair statement_faults (pair statement_faults (c.in_ok-frame.ensures i) (c.in_ok-words.ensures i)) (c.in_ok-rest.ensures i))
