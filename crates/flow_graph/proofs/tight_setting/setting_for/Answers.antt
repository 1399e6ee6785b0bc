use Rattle.std.proofs.Common.{◌≡◌, true, IsTrue, subst, sym}
use Rattle.arm2_decode.specs.Writers.{writes_pc}
use Rattle.control_flow.specs.Free.{is_free_operation}
use Rattle.flow_graph.proofs.SettingSets.{copy_sets, multiply_sets, sum_sets}
use Rattle.flow_graph.proofs.tight_setting.setting_for.Goals as goal

pub returns-in-Multiply : goal.returns-in-Multiply
returns-in-Multiply c =
    rw (c.in-Multiply.is, c.of_register.ensures)
    (multiply_sets c.args.aim.now c.in-Multiply.x c.multiplier_of.result c.multiplier_of.ensures)

pub returns-in-DataRegister : goal.returns-in-DataRegister
returns-in-DataRegister c =
    rw (c.in-DataRegister.is, c.of_register-in-DataRegister.ensures)
    (copy_sets c.args.aim.now c.in-DataRegister.x
    (subst (λ o. IsTrue (is_free_operation o)) c.in-DataRegister.is c.requires.free)
    (subst (λ o. writes_pc o ≡ true) c.in-DataRegister.is (sym c.if-writes_pc.ensures.pc)))

pub returns-in-DataImmediate : goal.returns-in-DataImmediate
returns-in-DataImmediate c =
    rw (c.in-DataImmediate.is, c.of_register-in-DataImmediate.ensures)
    (sum_sets c.args.aim.now c.in-DataImmediate.x c.addend.result
    (subst (λ o. IsTrue (is_free_operation o)) c.in-DataImmediate.is c.requires.free)
    (subst (λ o. writes_pc o ≡ true) c.in-DataImmediate.is (sym c.if-writes_pc-2.ensures.pc)) c.addend.ensures)
