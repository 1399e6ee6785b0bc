use Rattle.std.proofs.Common.{◌∙◌, ap}
use Rattle.machine_file.specs.StartWork.{with_display_end}
use Rattle.machine_file.proofs.DeviceStartLemmas.{display_end_set}
use Rattle.machine_file.proofs.vidc_start.set_display_end.Goals as goal

pub returns : goal.returns
returns c =
    c.write.ensures
    ∙ display_end_set c.end.inside.value c.args.vidc.now c.end.invariant
    ∙ ap (λ n. with_display_end n c.args.vidc.now) c.end.view_is
