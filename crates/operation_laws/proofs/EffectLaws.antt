-- Data processing, multiplies and branches.
use Rattle.std.proofs.Common.{◌≡◌, ℕ, ◌<◌, ◌==◌, ◌&&◌, not, Bool, true, false, cond, List, length, refl, sym, subst, ◌∙◌, arith}
use Rattle.std.proofs.lemmas.Bool.{false≢true, ne_eqb}
use Rattle.arm2_decode.specs.Allowed.{bit_of, is_bad_compare}
use Rattle.arm2_decode.specs.Names.{is_compare, is_compare_number, is_pc, opcode_number, register_number}
use Rattle.arm2_decode.specs.declared.instr.Branch.{Branch}
use Rattle.arm2_decode.specs.declared.instr.Multiply.{Multiply}
use Rattle.arm2_decode.specs.declared.flags.Flags.{Flags}
use Rattle.arm2_decode.specs.declared.names.Opcode.{Opcode}
use Rattle.arm2_decode.specs.declared.names.Opcode.TheVariants as op
use Rattle.arm2_decode.specs.declared.names.Register.{Register}
use Rattle.arm2_decode.specs.declared.names.Register.TheVariants.{R14}
use Rattle.shifter.specs.declared.shifts.Shifted.{Shifted}
use Rattle.arm2_effect.specs.Effects.{skipped}
use Rattle.arm2_effect.specs.Modes.{r15_in, with_register, with_r15}
use Rattle.arm2_effect.specs.Operands.{current_mode, first_of}
use Rattle.arm2_effect.specs.Operations.{branch_effect, compared, entered, jumped, multiply_effect, next_r15, outcome_effect, processed, product_of}
use Rattle.arm2_effect.specs.Outcomes.{flags_after, outcome_of}
use Rattle.arm2_effect.specs.ProgramCounter.{address_of, branch_target, flags_of, mode_of, psr_of, r15_ahead, r15_of, r15_restored}
use Rattle.arm2_transfer.proofs.Slots.{place}
use Rattle.operation_laws.specs.Leaves.{LeavesBranch, LeavesData, LeavesMultiply, Passes, next_of}
use Rattle.operation_laws.specs.Left.{LeavesR15, LeavesRegisters, Kept, Flagged, Restored, is_at}
use Rattle.operation_laws.proofs.R15Lemmas.{ahead_left, branched_left, is_word_address, jumped_left, next_left, next_word_address, restored_left}
use Rattle.operation_laws.proofs.WriteLemmas.{none_left, one_left, place_of_pc}

-- a compare of the table sets the flags
number_compares : (o : Opcode) → is_compare_number (opcode_number o) ≡ is_compare o
number_compares op.Tst = refl
number_compares op.Teq = refl
number_compares op.Cmp = refl
number_compares op.Cmn = refl
number_compares _ = refl

sets_by : (compares sets : Bool) → (compares && (bit_of sets == 0)) ≡ false → compares ≡ true → sets ≡ true
sets_by true true none is = refl
sets_by true false none is = absurd (false≢true (sym none))
sets_by false sets none is = absurd (false≢true is)

compare_sets : (o : Opcode) (sets : Bool) → is_bad_compare (opcode_number o) (bit_of sets) ≡ false
    → is_compare o ≡ true → sets ≡ true
compare_sets o sets none is = sets_by (is_compare_number (opcode_number o)) sets none (number_compares o ∙ is)

module _ (regs : List ℕ) (long : length regs ≡ 27) where
  abbrev r : ℕ
  r = r15_in regs

  pub skipped_left : Passes regs (skipped regs).regs
  unfolding skipped
  skipped_left = none_left regs long (r15_ahead r 4) (next_of regs) Kept (ahead_left r) _ _ (λ p low. refl)

  -- ## Data processing

  module _ (rd : Register) where
    -- by whether it compares, whether Rd is R15, and whether it sets the flags
    abbrev DataLeft : (compares to_pc sets : Bool) → (value : ℕ) → Flags → (after : List ℕ) → Type 0
    DataLeft compares to_pc sets value flags after =
        LeavesRegisters
        (λ p. not compares && is_at regs rd p)
        (λ p word. word ≡ value)
        (cond (to_pc && not compares) (address_of value) (next_of regs))
        (cond sets (cond to_pc (Restored value) (Flagged flags)) Kept)
        regs after

    compared_left : (to_pc : Bool) (out : _) → is_pc rd ≡ to_pc
        → DataLeft true to_pc true out.value (flags_after out) (compared rd out regs).regs
    unfolding compared
    compared_left true out is =
        none_left regs long _ (next_of regs) (Restored out.value)
        (subst
        (λ (b : Bool).
        LeavesR15 (next_of regs) (Restored out.value) r
        (cond b (r15_restored r out.value (next_of regs)) (next_r15 true out r)))
        (sym is) (restored_left r (next_of regs) (next_word_address r) out.value))
        _ _ (λ p low. refl)
    compared_left false out is =
        none_left regs long _ (next_of regs) (Flagged (flags_after out))
        (subst
        (λ (b : Bool).
        LeavesR15 (next_of regs) (Flagged (flags_after out)) r
        (cond b (r15_restored r out.value (next_of regs)) (next_r15 true out r)))
        (sym is) (next_left true out r))
        _ _ (λ p low. refl)

    not_at_pc : is_pc rd ≡ true → (p : ℕ) → p < 26 → is_at regs rd p ≡ false
    not_at_pc last p low =
        ne_eqb (place (current_mode regs) rd) p
        (λ e. omega (arith, low, e, place_of_pc (current_mode regs) rd last))

    jumped_by : (sets : Bool) (out : _) → is_pc rd ≡ true
        → DataLeft false true sets out.value (flags_after out) (jumped sets out regs).regs
    unfolding jumped
    jumped_by true out last =
        none_left regs long _ (address_of out.value) (Restored out.value)
        (restored_left r (address_of out.value) (is_word_address out.value) out.value)
        _ _ (not_at_pc last)
    jumped_by false out last =
        none_left regs long _ (address_of out.value) Kept (jumped_left r out.value) _ _ (not_at_pc last)

    pub entered_left : (sets : Bool) (out : _)
        → LeavesRegisters (is_at regs rd) (λ p word. word ≡ out.value) (next_of regs)
        (cond sets (Flagged (flags_after out)) Kept) regs (entered sets rd out regs).regs
    unfolding entered
    entered_left sets out =
        one_left regs long (next_r15 sets out r) (next_of regs) (cond sets (Flagged (flags_after out)) Kept)
        (next_left sets out r) _ (current_mode regs) (register_number rd) out.value (λ p low. refl)

    data_by : (compares to_pc sets : Bool) (out : _) → is_pc rd ≡ to_pc → (compares ≡ true → sets ≡ true)
        → DataLeft compares to_pc sets out.value (flags_after out)
        (cond compares (compared rd out regs) (cond to_pc (jumped sets out regs) (entered sets rd out regs))).regs
    data_by true to_pc true out is must = compared_left to_pc out is
    data_by true to_pc false out is must = absurd (false≢true (must refl))
    data_by false true sets out is must = jumped_by sets out is
    data_by false false sets out is must = entered_left sets out

  pub data_left : (o : Opcode) (sets : Bool) (rn rd : Register) (by : ℕ) (operand : Shifted)
      → is_bad_compare (opcode_number o) (bit_of sets) ≡ false
      → LeavesData o sets rn rd by operand regs (processed o sets rn rd by operand regs).regs
  unfolding outcome_effect
  data_left o sets rn rd by operand none =
      data_by rd (is_compare o) (is_pc rd) sets (outcome_of o (first_of by rn regs) operand (flags_of r)) refl
      (compare_sets o sets none)

  -- ## Multiplies and branches

  pub multiply_left : (x : Multiply) → LeavesMultiply x regs (multiply_effect x regs).regs
  unfolding multiply_effect
  multiply_left x = entered_left x.rd x.sets_flags (product_of x regs)

  branch_by : (link : Bool) (offset : ℕ)
      → LeavesRegisters (λ p. link && is_at regs R14 p) (λ p word. word ≡ r15_ahead r 4)
      (branch_target (address_of r) offset) Kept regs
      (with_r15 (r15_of (psr_of r) (branch_target (address_of r) offset) (mode_of r))
      (cond link (with_register (mode_of r) 14 (r15_ahead r 4) regs) regs))
  branch_by true offset =
      one_left regs long _ (branch_target (address_of r) offset) Kept (branched_left r offset) _ (mode_of r) 14
      (r15_ahead r 4) (λ p low. refl)
  branch_by false offset =
      none_left regs long _ (branch_target (address_of r) offset) Kept (branched_left r offset) _ _ (λ p low. refl)

  pub branch_left : (x : Branch) → LeavesBranch x regs (branch_effect x regs).regs
  unfolding branch_effect
  branch_left x = branch_by x.link x.offset
