use Rattle.std.proofs.Common.{◌∙◌, ap}
use Rattle.ioc.specs.Registers.{write_of}
use Rattle.machine_file.specs.StartWork.{with_masks}
use Rattle.machine_file.specs.Stated.{IocSetting}
use Rattle.machine_file.proofs.DeviceStartLemmas.{masks_set}
use Rattle.machine_file.proofs.ioc_start.set_masks.Goals as goal

pub returns : goal.returns
returns c =
    let inside = c.setting.inside in
    let s : IocSetting = record { mask_a = inside.mask_a; mask_b = inside.mask_b; mask_fiq = inside.mask_fiq; requests_a = inside.requests_a; timer_0 = inside.timer_0; timer_1 = inside.timer_1 } in
    c.write-3.ensures
    ∙ ap (write_of 0x38 inside.mask_fiq) (c.write-2.ensures ∙ ap (write_of 0x28 inside.mask_b) c.write.ensures)
    ∙ masks_set s c.args.ioc.now
    ∙ ap (λ x. with_masks x c.args.ioc.now) c.setting.view_is
