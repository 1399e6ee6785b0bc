use Rattle.machine_file.proofs.PageLemmas.{mapped_next}
use Rattle.machine_file.proofs.start.map_all.Goals as goal

pub loop-page-preserved : goal.loop-page-preserved
loop-page-preserved c =
    mapped_next c.args.pages.now c.loop-page.page-index _ c.args.memc.now c.loop-page.memc c.map.new.self c.map.result c.requires.can c.loop-page.invariant c.loop-page-test.true c.map.ensures.ok c.map.ensures.refused
