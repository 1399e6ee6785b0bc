-- What an instruction has moved, by cases: a property of plain ends, of exceptions and of stops is one of every
-- instruction. So one that stops has changed nothing.
use Rattle.std.proofs.Common.{◌≡◌, ◌∙◌, ℕ, Bool, true, cond, List, [], refl, sym, ap}
use Rattle.std.specs.Prelude.{nat_lt, ◌^◌, not, Result, Ok, Err}
use Rattle.std.proofs.lemmas.Bool.{cond_both, false≢true}
use Rattle.arm2_decode.specs.Names.{is_compare, is_pc}
use Rattle.arm2_decode.specs.declared.instr.Operation.{Operation}
use Rattle.arm2_decode.specs.declared.instr.Operation.TheVariants as row
use Rattle.arm2_decode.specs.declared.instr.Block.{Block}
use Rattle.memc.specs.Memory.{located}
use Rattle.memc.specs.declared.spots.Spot.{Spot}
use Rattle.arm2_effect.specs.declared.exceptions.Vector.{Vector}
use Rattle.arm2_effect.specs.declared.exceptions.Vector.TheVariants as vector
use Rattle.arm2_effect.specs.declared.step_end.Done.{Done}
use Rattle.arm2_effect.specs.declared.step_end.Kind.TheVariants.{Plain}
use Rattle.arm2_effect.specs.declared.step_end.Why.{Why}
use Rattle.arm2_effect.specs.declared.step_end.Why.TheVariants as why
use Rattle.arm2_effect.specs.Modes.{r15_in}
use Rattle.arm2_effect.specs.ProgramCounter.{mode_of}
use Rattle.arm2_effect.specs.Effects.{Effect, is_stopped, skipped, stopped, ticks_of}
use Rattle.arm2_effect.specs.Exceptions.{taken}
use Rattle.arm2_effect.specs.Operations.{operation_effect, outcome_effect, compared, jumped, entered, data_immediate_effect, data_register_effect, data_register_shift_effect, multiply_effect, branch_effect, untouched}
use Rattle.arm2_transfer.specs.declared.bus.Bus.{Bus}
use Rattle.arm2_transfer.specs.declared.processor.Processor.{Processor}
use Rattle.arm2_transfer.specs.declared.single_fields.Single.{Single}
use Rattle.arm2_transfer.specs.declared.span.Span.{Span}
use Rattle.arm2_transfer.specs.declared.words.Move.{Move}
use Rattle.arm2_transfer.specs.declared.words.TransferFault.{TransferFault}
use Rattle.arm2_transfer.specs.declared.words.TransferFault.TheVariants as fault
use Rattle.arm2_transfer.specs.Moved.{ChangesNothing, IsMoved, Moved, on_bus, faulted}
use Rattle.arm2_transfer.specs.Operations.{operation_moved}
use Rattle.arm2_transfer.specs.Single.{address_for, has_user_rights, of_immediate, of_register, single_loads, single_stores, single_carried_out, single_by, single_at}
use Rattle.arm2_transfer.specs.Block.{block_loads, block_stores, block_carried_out, block_by, block_at, block_moved}
use Rattle.arm2_transfer.specs.Words.{or_fault}

data_plain : (is_compare is_jump : Bool) (x y z : Effect) → x.kind ≡ Plain → y.kind ≡ Plain → z.kind ≡ Plain → (cond is_compare x (cond is_jump y z)).kind ≡ Plain
data_plain is_compare is_jump x y z px py pz = cond_both is_compare x _ (λ (e : Effect). e.kind ≡ Plain) (λ _. px) (λ _. cond_both is_jump y z (λ (e : Effect). e.kind ≡ Plain) (λ _. py) (λ _. pz))

-- the property in each of the cases
pub record HasAll (regs : List ℕ) (bus : Bus) (P : Moved → Type 0) : Type 0 where
  pub plain : (m : Moved) → m.kind ≡ Plain → P m
  pub takes : (v : Vector) → P (on_bus bus (taken v regs))
  pub stops : (w : Why) → P (on_bus bus (stopped w regs))

module _ (regs : List ℕ) (bus : Bus) (P : Moved → Type 0) (all : HasAll regs bus P) where
  one_of : (b : Bool) (x y : Moved) → P x → P y → P (cond b x y)
  one_of b x y px py = cond_both b x y P (λ _. px) (λ _. py)

  pub skips : P (on_bus bus (skipped regs))
  unfolding skipped
  skips = all.plain (on_bus bus (skipped regs)) refl

  -- ## Instructions

  effect_has : (o : Operation) → P (on_bus bus (operation_effect o regs))
  unfolding operation_effect multiply_effect data_immediate_effect data_register_effect data_register_shift_effect branch_effect untouched outcome_effect compared jumped entered
  effect_has (row.Swi x) = all.takes vector.Swi
  effect_has (row.UndefinedTransfer x) = all.takes vector.Undefined
  effect_has (row.CoprocessorTransfer x) = all.takes vector.Undefined
  effect_has (row.Coprocessor x) = all.takes vector.Undefined
  effect_has (row.DataRegister x) = all.plain (on_bus bus (operation_effect (row.DataRegister x) regs)) (data_plain (is_compare x.opcode) (is_pc x.rd) _ _ _ refl refl refl)
  effect_has (row.DataRegisterShift x) = all.plain (on_bus bus (operation_effect (row.DataRegisterShift x) regs)) (data_plain (is_compare x.opcode) (is_pc x.rd) _ _ _ refl refl refl)
  effect_has (row.DataImmediate x) = all.plain (on_bus bus (operation_effect (row.DataImmediate x) regs)) (data_plain (is_compare x.opcode) (is_pc x.rd) _ _ _ refl refl refl)
  effect_has o = all.plain (on_bus bus (operation_effect o regs)) refl

  -- ## Transfers

  fault_has : (t : TransferFault) → P (faulted t regs bus)
  fault_has fault.DataAbort = all.takes vector.DataAbort
  fault_has fault.UnsupportedWrite = all.stops why.UnsupportedWrite

  single_carried_has : (x : Single) (base port : ℕ) (spot : Spot) → P (single_carried_out x base port spot regs bus)
  unfolding single_carried_out single_loads single_stores
  single_carried_has x base port spot = one_of x.load _ _ (all.plain _ refl) (all.plain _ refl)

  single_by_has : (x : Single) (base port : ℕ) (found : Result Spot TransferFault) → P (single_by x base port found regs bus)
  unfolding single_by
  single_by_has x base port (Err t) = fault_has t
  single_by_has x base port (Ok spot) = single_carried_has x base port spot

  single_has : (x : Single) (base port : ℕ) → P (single_at x base port regs bus)
  unfolding single_at
  single_has x base port =
      one_of (nat_lt (address_for x base) (2 ^ 26)) _ _
      (single_by_has x base port (or_fault (located bus.memc (address_for x base) (has_user_rights x (mode_of (r15_in regs))) (not x.load))))
      (all.takes vector.AddressException)

  block_carried_has : (x : Block) (span : Span) (port : ℕ) (moves : List Move) → P (block_carried_out x span port moves regs bus)
  unfolding block_carried_out block_loads block_stores
  block_carried_has x span port moves = one_of x.load _ _ (all.plain _ refl) (all.plain _ refl)

  block_by_has : (x : Block) (span : Span) (port : ℕ) (found : Result (List Move) TransferFault) → P (block_by x span port found regs bus)
  unfolding block_by
  block_by_has x span port (Err t) = fault_has t
  block_by_has x span port (Ok moves) = block_carried_has x span port moves

  block_has : (x : Block) (port : ℕ) → P (block_moved x port regs bus)
  unfolding block_at block_moved
  block_has x port = one_of (nat_lt _ (2 ^ 26)) _ _ (block_by_has x _ port _) (all.takes vector.AddressException)

  pub moved_has : (o : Operation) (port : ℕ) → P (operation_moved o port regs bus)
  moved_has (row.SingleImmediate x) port = single_has (of_immediate x) _ port
  moved_has (row.SingleRegister x) port = single_has (of_register x regs) _ port
  moved_has (row.Block x) port = block_has x port
  moved_has o port = effect_has o

-- ## Stops

module _ (regs : List ℕ) (bus : Bus) where
  -- where it stops, there is no access, and the registers and the bus are as they were
  abbrev pub IsStill : Moved → Type 0
  IsStill m = is_stopped m.kind ≡ true → (m.accesses ≡ []) × (m.regs ≡ regs) × (m.bus ≡ bus)

  pub all_still : HasAll regs bus IsStill
  unfolding stopped taken
  all_still = record {
    plain = λ m is stops. absurd (false≢true (sym (ap is_stopped is) ∙ stops));
    takes = λ v stops. absurd (false≢true stops);
    stops = λ w stops. (refl, refl, refl);
  }

pub changes_nothing : (o : Operation) (before : Processor) (done : Done) (after : Processor)
    → IsMoved before done after (operation_moved o before.port before.registers before.bus) → is_stopped done.kind ≡ true → ChangesNothing before done after
changes_nothing o before done after is stops =
    let still = moved_has before.registers before.bus (IsStill before.registers before.bus) (all_still before.registers before.bus) o before.port (ap is_stopped (sym is.kind) ∙ stops) in
    record { ticks = is.ticks ∙ ap (ticks_of before.prices) still.0; same = is.state ∙ rw (still.1, still.2) refl }
