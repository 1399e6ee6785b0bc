use Rattle.std.proofs.Common.{◌∙◌, ap}
use Rattle.std.proofs.lemmas.List.{take_all}
use Rattle.text_page.specs.Noted.{has_row}
use Rattle.text_page.proofs.MadeLaws.{rows_more}
use Rattle.text_page.proofs.notes.addresses_of.Goals as goal

pub loop-row-preserved : goal.loop-row-preserved
loop-row-preserved c = λ at.
    rows_more c.args.rows.now c.loop-row.row-index _ at _ _ c.loop-row-test.true (c.loop-row.invariant at) (c.in_ok-note_address.ensures at)

pub returns : goal.returns
returns c = λ at. c.loop-row.invariant at ∙ ap (λ rows. has_row rows at) (take_all c.loop-row.row-index c.args.rows.now c.loop-row-test.false)
