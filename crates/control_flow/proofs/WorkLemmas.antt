-- What an instruction does besides its fetches is within its limits.
use Rattle.std.proofs.Common.{ℕ, ◌≤◌, Bool, true, false, ⊎_elim, sym, subst, arith}
use Rattle.arm2_decode.specs.Transfers.{word_count}
use Rattle.arm2_decode.proofs.Listed.{few_words, some_words}
use Rattle.arm2_decode.specs.declared.instr.Operation.{Operation}
use Rattle.arm2_decode.specs.declared.instr.Operation.TheVariants as operation
use Rattle.control_flow.specs.Kinds.{IsAction, IsWork, transfer_work, work_of}
use Rattle.control_flow.specs.declared.actions.Action.{Action}

transfer_fits : (load : Bool) (words : ℕ) → 1 ≤ words → words ≤ 16 → IsWork (transfer_work load words)
transfer_fits true words some few = (some, few)
transfer_fits false words some few = (some, few)

work_fits : (o : Operation) → IsWork (work_of o)
work_fits (operation.Multiply x) = omega arith
work_fits (operation.DataRegister x) = omega arith
work_fits (operation.DataRegisterShift x) = omega arith
work_fits (operation.DataImmediate x) = omega arith
work_fits (operation.SingleImmediate x) = transfer_fits x.load 1 (omega arith) (omega arith)
work_fits (operation.SingleRegister x) = transfer_fits x.load 1 (omega arith) (omega arith)
work_fits (operation.Block x) = transfer_fits x.load (word_count x.list) (some_words x) (few_words x.list)
work_fits (operation.Branch x) = omega arith
work_fits (operation.Swi x) = omega arith
work_fits (operation.UndefinedTransfer x) = omega arith
work_fits (operation.CoprocessorTransfer x) = omega arith
work_fits (operation.Coprocessor x) = omega arith

pub action_fits : (word : ℕ) (a : Action) → IsAction word a → IsWork a.work
action_fits word a h =
    ⊎_elim
    (λ m. subst (λ (x : Action). IsWork x.work) (sym m.2) (work_fits (m.0).operation))
    (λ u. let few : 0 ≤ 16 = omega arith in subst (λ (x : Action). IsWork x.work) (sym u.2) few)
    h
