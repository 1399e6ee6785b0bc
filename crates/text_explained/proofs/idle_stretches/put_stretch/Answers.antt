use Rattle.std.proofs.Common.{◌∙◌, sym}
use Rattle.std.proofs.lemmas.Result.{on_ok_weaker}
use Rattle.text_explained.specs.Idle.{StretchCounts, stretch_row}
use Rattle.text_explained.proofs.IdleLaws.{counted_row, idle_row, not_both}
use Rattle.text_explained.proofs.idle_stretches.put_stretch.Goals as goal

pub returns-then-is_reached : goal.returns-then-is_reached
returns-then-is_reached c =
    counted_row (StretchCounts c.args.loops.now c.args.stretch.now) (stretch_row c.args.stretch.now) c.args.out.now.items
    (sym c.is_reached.ensures ∙ c.if-is_reached.true)

pub returns : goal.returns
returns c =
    let Counts = StretchCounts c.args.loops.now c.args.stretch.now in
    on_ok_weaker c.put_stretch_row.result
    (idle_row Counts (stretch_row c.args.stretch.now) c.args.out.now.items c.put_stretch_row.new.out.items
    (not_both c.is_reached.result Counts (λ counts. c.is_reached.ensures ∙ counts) c.if-is_reached.false))
    c.put_stretch_row.ensures
