use Rattle.std.proofs.Common.{[]}
use Rattle.outputs.proofs.PageLaws.{on_from_start}
use Rattle.progress.specs.Shown.{reading_line}
use Rattle.progress.proofs.ShownLemmas.{either}
use Rattle.progress.proofs.lines.show_reading.Goals as goal

pub returns : goal.returns
returns g c =
    let start = on_from_start g.E.Output.taken g.E.Output.failures c.args.err.now c.new-page.result c.new-page.ensures.bytes c.new-page.ensures.failed in
    either c.finish.result _ _ (c.finish.ensures c.args.err.now (reading_line c.args.name.now) (c.put_reading.ensures c.args.err.now [] start))
