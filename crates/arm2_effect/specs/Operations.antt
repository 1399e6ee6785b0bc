-- What each instruction does that is no load or store (VL86C010 data sheet, instruction set, but for C,
-- which a multiply keeps).
use Rattle.std.specs.Prelude.{ℕ, ◌+◌, ◌*◌, ◌%◌, ◌^◌, Bool, true, if◌then◌else◌, List, [], ◌∷◌}
use Rattle.bus_ticks.specs.Prices.{ahead_of}
use Rattle.arm2_decode.specs.Names.{is_compare, is_pc, register_number}
use Rattle.arm2_decode.specs.declared.names.Opcode.{Opcode}
use Rattle.arm2_decode.specs.declared.names.Register.{Register}
use Rattle.arm2_decode.specs.declared.instr.Operation.{Operation}
use Rattle.arm2_decode.specs.declared.instr.Operation.TheVariants as row
use Rattle.arm2_decode.specs.declared.instr.DataRegister.{DataRegister}
use Rattle.arm2_decode.specs.declared.instr.DataRegisterShift.{DataRegisterShift}
use Rattle.arm2_decode.specs.declared.instr.DataImmediate.{DataImmediate}
use Rattle.arm2_decode.specs.declared.instr.Multiply.{Multiply}
use Rattle.arm2_decode.specs.declared.instr.Branch.{Branch}
use Rattle.shifter.specs.Shifts.{multiply_cycles}
use Rattle.shifter.specs.declared.shifts.Shifted.{Shifted}
use Rattle.arm2_effect.specs.declared.outcomes.Outcome.{Outcome}
use Rattle.arm2_effect.specs.declared.exceptions.Vector.TheVariants as vector
use Rattle.arm2_effect.specs.declared.step_end.Kind.TheVariants.{Plain}
use Rattle.arm2_effect.specs.Modes.{r15_in, with_r15, with_register}
use Rattle.arm2_effect.specs.ProgramCounter.{address_of, branch_target, flags_of, r15_jumped}
use Rattle.arm2_effect.specs.ProgramCounter.{mode_of, psr_of, psr_with, r15_ahead, r15_of, r15_restored}
use Rattle.arm2_effect.specs.Effects.{Effect, Internal, onward, straight}
use Rattle.arm2_effect.specs.Exceptions.{taken}
use Rattle.arm2_effect.specs.Operands.{current_in, first_of, current_mode, rotated_byte}
use Rattle.arm2_effect.specs.Operands.{shifted_by_amount, shifted_by_register}
use Rattle.arm2_effect.specs.Outcomes.{flags_after, outcome_of}

-- R15 at the next instruction, with the flags of an outcome where they are set
abbrev pub next_r15 : Bool → Outcome → ℕ → ℕ
next_r15 sets_flags out r =
    r15_of (if sets_flags then psr_with (flags_after out) (psr_of r) else psr_of r)
    (ahead_of (address_of r) 4) (mode_of r)

-- a value enters register rd, which is not R15
unfoldable pub entered : Bool → Register → Outcome → List ℕ → Effect
entered sets_flags rd out regs =
    record {
      kind = Plain;
      accesses = straight (address_of (r15_in regs));
      regs =
          with_r15 (next_r15 sets_flags out (r15_in regs))
          (with_register (current_mode regs) (register_number rd) out.value regs);
    }

-- a value enters R15: its address bits, and where flags are set the PSR and the mode too
unfoldable pub jumped : Bool → Outcome → List ℕ → Effect
jumped sets_flags out regs =
    record {
      kind = Plain;
      accesses = onward (address_of (r15_in regs)) (address_of out.value);
      regs =
          with_r15
          (if sets_flags then r15_restored (r15_in regs) out.value (address_of out.value)
          else r15_jumped (r15_in regs) out.value)
          regs;
    }

-- a compare sets the flags, and with Rd = R15 the PSR and the mode by the bits of the value
unfoldable pub compared : Register → Outcome → List ℕ → Effect
compared rd out regs =
    record {
      kind = Plain;
      accesses = straight (address_of (r15_in regs));
      regs =
          with_r15
          (if is_pc rd then r15_restored (r15_in regs) out.value (ahead_of (address_of (r15_in regs)) 4)
          else next_r15 true out (r15_in regs))
          regs;
    }

-- what data processing does with its outcome
unfoldable pub outcome_effect : Opcode → Bool → Register → Outcome → List ℕ → Effect
outcome_effect opcode sets_flags rd out regs =
    if is_compare opcode then compared rd out regs
    else (if is_pc rd then jumped sets_flags out regs else entered sets_flags rd out regs)

-- an effect that takes some internal cycles more
abbrev pub delayed : ℕ → Effect → Effect
delayed cycles e = record { kind = e.kind; accesses = Internal cycles ∷ e.accesses; regs = e.regs }

-- data processing with an operand; as its other operand R15 is so many bytes ahead
abbrev pub processed : Opcode → Bool → (rn rd : Register) → (by : ℕ) → Shifted → List ℕ → Effect
processed opcode sets_flags rn rd by operand regs =
    outcome_effect opcode sets_flags rd
    (outcome_of opcode (first_of by rn regs) operand (flags_of (r15_in regs))) regs

unfoldable pub data_immediate_effect : DataImmediate → List ℕ → Effect
data_immediate_effect x regs =
    processed x.opcode x.sets_flags x.rn x.rd 8 (rotated_byte x.value x.rotation regs) regs

unfoldable pub data_register_effect : DataRegister → List ℕ → Effect
data_register_effect x regs =
    processed x.opcode x.sets_flags x.rn x.rd 8 (shifted_by_amount x.shift x.amount x.rm regs) regs

-- with the amount in a register: one internal cycle more, so the program counter is a word further on
unfoldable pub data_register_shift_effect : DataRegisterShift → List ℕ → Effect
data_register_shift_effect x regs =
    delayed 1
    (processed x.opcode x.sets_flags x.rn x.rd 12 (shifted_by_register x.shift x.rs x.rm regs) regs)

-- the low 32 bits of the product; C and V stay (C by choice)
abbrev pub product_of : Multiply → List ℕ → Outcome
product_of x regs =
    record {
      value =
          (current_in x.rm regs * current_in x.rs regs + (if x.accumulate then current_in x.rn regs else 0))
          % 2 ^ 32;
      carry = (flags_of (r15_in regs)).carry;
      overflow = (flags_of (r15_in regs)).overflow;
    }

unfoldable pub multiply_effect : Multiply → List ℕ → Effect
multiply_effect x regs =
    delayed (multiply_cycles (current_in x.rs regs)) (entered x.sets_flags x.rd (product_of x regs) regs)

-- with a link R14 keeps the PSR, the mode and the return address
unfoldable pub branch_effect : Branch → List ℕ → Effect
branch_effect x regs =
    let r = r15_in regs in
    record {
      kind = Plain;
      accesses = onward (address_of r) (branch_target (address_of r) x.offset);
      regs =
          with_r15
          (r15_of (psr_of r) (branch_target (address_of r) x.offset) (mode_of r))
          (if x.link then with_register (mode_of r) 14 (r15_ahead r 4) regs else regs);
    }

-- nothing happens here
unfoldable pub untouched : List ℕ → Effect
untouched regs = record { kind = Plain; accesses = []; regs = regs }

-- an instruction whose condition holds; loads and stores have no effect by the registers alone
unfoldable pub operation_effect : Operation → List ℕ → Effect
operation_effect (row.Multiply x) regs = multiply_effect x regs
operation_effect (row.DataRegister x) regs = data_register_effect x regs
operation_effect (row.DataRegisterShift x) regs = data_register_shift_effect x regs
operation_effect (row.DataImmediate x) regs = data_immediate_effect x regs
operation_effect (row.SingleImmediate x) regs = untouched regs
operation_effect (row.SingleRegister x) regs = untouched regs
operation_effect (row.Block x) regs = untouched regs
operation_effect (row.Branch x) regs = branch_effect x regs
operation_effect (row.Swi x) regs = taken vector.Swi regs
operation_effect (row.UndefinedTransfer x) regs = taken vector.Undefined regs
operation_effect (row.CoprocessorTransfer x) regs = taken vector.Undefined regs
operation_effect (row.Coprocessor x) regs = taken vector.Undefined regs
