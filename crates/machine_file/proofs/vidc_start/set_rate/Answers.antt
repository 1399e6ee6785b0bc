use Rattle.std.proofs.Common.{◌∙◌, ap}
use Rattle.machine_file.specs.StartWork.{with_rate}
use Rattle.machine_file.proofs.DeviceStartLemmas.{rate_set}
use Rattle.machine_file.proofs.vidc_start.set_rate.Goals as goal

pub returns : goal.returns
returns c =
    c.write.ensures
    ∙ rate_set c.rate.inside.bits c.args.vidc.now c.rate.invariant
    ∙ ap (λ n. with_rate n c.args.vidc.now) c.rate.view_is
