use Rattle.std.proofs.Common.{◌+◌, ◌∙◌}
use Rattle.ioc.specs.Registers.{write_of}
use Rattle.machine_file.proofs.DeviceStartLemmas.{start_set}
use Rattle.machine_file.proofs.ioc_start.start.Goals as goal

pub returns : goal.returns
returns c =
    c.write.ensures
    ∙ (λ i. write_of (c.first_of.ensures.first i + 8) 0 c.args.ioc.now)
    ∙ start_set c.args.timer c.args.ioc.now
