use Rattle.std.proofs.Common.{ℕ, Some, sym, ◌∙◌, ap}
use Rattle.machine_file.specs.StartWork.{with_vertical}
use Rattle.machine_file.proofs.DeviceStartLemmas.{vertical_set}
use Rattle.machine_file.proofs.vidc_start.set_vertical.Goals as goal

pub returns-in-Some : goal.returns-in-Some
returns-in-Some c =
    c.write.ensures
    ∙ vertical_set c.cycle.inside.value c.args.vidc.now c.cycle.invariant
    ∙ ap (λ (n : ℕ). with_vertical (Some n) c.args.vidc.now) c.cycle.view_is
    ∙ ap (λ o. with_vertical o c.args.vidc.now) (sym c.in-Some.is)
