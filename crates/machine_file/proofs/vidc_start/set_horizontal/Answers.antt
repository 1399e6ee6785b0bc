use Rattle.std.proofs.Common.{ℕ, Some, sym, ◌∙◌, ap}
use Rattle.machine_file.specs.StartWork.{with_horizontal}
use Rattle.machine_file.proofs.DeviceStartLemmas.{horizontal_set}
use Rattle.machine_file.proofs.vidc_start.set_horizontal.Goals as goal

pub returns-in-Some : goal.returns-in-Some
returns-in-Some c =
    c.write.ensures
    ∙ horizontal_set c.cycle.inside.value c.args.vidc.now c.cycle.invariant
    ∙ ap (λ (n : ℕ). with_horizontal (Some n) c.args.vidc.now) c.cycle.view_is
    ∙ ap (λ o. with_horizontal o c.args.vidc.now) (sym c.in-Some.is)
