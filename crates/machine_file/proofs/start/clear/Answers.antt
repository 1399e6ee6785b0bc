use Rattle.machine_file.proofs.PageLemmas.{cleared_next}
use Rattle.machine_file.proofs.start.clear.Goals as goal

pub loop-physical-preserved : goal.loop-physical-preserved
loop-physical-preserved c =
    cleared_next c.loop-physical.physical c.args.memc.now c.loop-physical.memc c.unmap.new.self c.unmap.result c.loop-physical.invariant c.loop-physical-test.true c.unmap.ensures.ok c.unmap.ensures.refused
