use Rattle.std.proofs.Common.{◌+◌, ◌/◌, ◌%◌, ◌∙◌, ap}
use Rattle.ioc.specs.Registers.{write_of}
use Rattle.machine_file.proofs.DeviceStartLemmas.{latch_set}
use Rattle.machine_file.proofs.ioc_start.set_latch.Goals as goal

pub returns : goal.returns
returns c =
    c.write-2.ensures
    ∙ ap (write_of (c.first_of-first.result + 4) (c.args.latch / 256)) c.write.ensures
    ∙ (λ i. write_of (c.first_of-first.ensures.first i + 4) (c.args.latch / 256) (write_of (c.first_of-first.ensures.first i) (c.args.latch % 256) c.args.ioc.now))
    ∙ latch_set c.args.timer c.args.latch c.args.ioc.now c.ranges.latch.fits
