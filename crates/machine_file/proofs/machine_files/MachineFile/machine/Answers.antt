use Rattle.std.proofs.Common.{◌≡◌, sym, ap, ◌∙◌, subst}
use Rattle.memc.specs.Memory.{shift_of_size}
use Rattle.machine_file.specs.Started.{IsStarted}
use Rattle.machine_file.specs.Stated.{Stated}
use Rattle.machine_file.proofs.StartLemmas.{started}
use Rattle.machine_file.proofs.machine_files.MachineFile.machine.Goals as goal

pub returns : goal.returns
returns c =
    let file : Stated = record { processor = c.self.inside.processor; controller = c.self.inside.controller; schedule = c.self.inside.schedule; words = c.self.inside.words; ioc = c.self.inside.ioc; vidc = c.self.inside.vidc } in
    let same : file ≡ c.args.self.now = c.self.view_is in
    subst
    (λ f. IsStarted f c.args.profile (record { regs = c.set.new.self.regs; bus = record { memc = c.set_controller.new.memc; ioc = c.set_ioc.new.ioc; vidc = c.set_vidc.new.vidc }; profile = c.set.new.self.profile }))
    same
    (started file c.args.profile (shift_of_size c.page_size.result) c.r15_in.result c.registers.result.now c.in_ok-machine.machine c.set_words.new.machine c.set.new.self c.set_controller.new.memc c.set_ioc.new.ioc c.set_vidc.new.vidc c.in_ok-machine.ensures c.set_words.ensures c.set.ensures (c.registers.ensures.words ∙ sym (ap (λ f. f.processor.registers) same)) c.registers.ensures.all c.r15_in.ensures c.set_controller.ensures c.set_ioc.ensures c.set_vidc.ensures)
