-- A machine that has what is chosen for an operation is set for it.
use Rattle.std.proofs.Common.{◌≡◌, ℕ, suc, ◌+◌, ◌*◌, ◌-◌, ◌%◌, ◌^◌, ◌<◌, ◌≤◌, ◌==◌, ◌&&◌, ◌||◌, Bool, true, false, cond, not, List, [], ◌∷◌, ◌++◌, take, drop, length, Ok, Some, IsTrue, refl, sym, ap, subst, ◌∙◌, arith}
use Rattle.std.specs.Prelude.{IfSome}
use Rattle.std.proofs.Math.Nat.{pow-suc}
use Rattle.std.proofs.lemmas.List.{length-append, length-drop, length-take-le}
use Rattle.std.proofs.lemmas.Bool.{eqb-true, false≢true, not-true}
use Rattle.bus_ticks.specs.declared.profile.Class.{Class}
use Rattle.bus_ticks.specs.declared.profile.Class.TheVariants.{Any, Ram, Rom, Io}
use Rattle.bus_ticks.specs.declared.profile.Class.TheVariants.{Slow, Medium, Fast, Synchronous}
use Rattle.bus_ticks.specs.declared.profile.Profile.{Profile}
use Rattle.bus_ticks.specs.Prices.{word_address}
use Rattle.arm2_transfer.specs.Registers.{address_by}
use Rattle.memc.specs.Memory.{located, word_at}
use Rattle.memc.specs.declared.spots.Spot.{Spot}
use Rattle.memc.specs.declared.spots.Spot.TheVariants as spot
use Rattle.shifter.specs.declared.shifts.Shifted.{Shifted}
use Rattle.arm2_decode.proofs.Listed.{some_words}
use Rattle.arm2_decode.proofs.WordLemmas.{bit_fits}
use Rattle.shifter.specs.Shifts.{Has, by_register, by_nonzero, multiply_cycles, rotated_bits}
use Rattle.shifter.proofs.BitLists.{length-bits_from}
use Rattle.shifter.specs.Word.{word_bits}
use Rattle.arm2_decode.specs.Allowed.{bit_of}
use Rattle.arm2_decode.specs.Names.{is_lsl, is_mov, is_pc, register_number}
use Rattle.arm2_decode.specs.Transfers.{asks_for_user, is_listed, word_count}
use Rattle.arm2_decode.specs.Writers.{data_writes_pc}
use Rattle.arm2_decode.specs.declared.flags.Flags.{Flags}
use Rattle.arm2_decode.specs.declared.instr.Block.{Block}
use Rattle.arm2_decode.specs.declared.instr.DataImmediate.{DataImmediate}
use Rattle.arm2_decode.specs.declared.instr.DataRegister.{DataRegister}
use Rattle.arm2_decode.specs.declared.instr.Multiply.{Multiply}
use Rattle.arm2_decode.specs.declared.instr.Operation.TheVariants as operation
use Rattle.arm2_decode.specs.declared.instr.SingleImmediate.{SingleImmediate}
use Rattle.arm2_decode.specs.declared.names.Opcode.{Opcode}
use Rattle.arm2_decode.specs.declared.names.Opcode.TheVariants as opcode
use Rattle.arm2_decode.specs.declared.names.Register.{Register}
use Rattle.arm2_decode.specs.declared.names.Register.TheVariants.{R15}
use Rattle.arm2_decode.specs.declared.names.Shift.{Shift}
use Rattle.arm2_decode.specs.declared.names.Shift.TheVariants as shift
use Rattle.arm2_decode.specs.declared.names.Shift.TheVariants.{Ror}
use Rattle.arm2_effect.specs.declared.modes.Mode.TheVariants.{Svc}
use Rattle.arm2_effect.specs.Modes.{r15_in, register_in}
use Rattle.arm2_effect.specs.Operands.{current_in, first_of, operand_of, shifted_by_amount, shifted_of, word_of}
use Rattle.arm2_effect.specs.Outcomes.{outcome_of}
use Rattle.arm2_effect.specs.ProgramCounter.{address_of, flags_of, mode_of}
use Rattle.arm2_effect.proofs.Words.{shifted_is}
use Rattle.arm2_transfer.specs.Block.{lowest_of}
use Rattle.arm2_transfer.specs.Bus.{seen}
use Rattle.arm2_transfer.specs.Single.{address_for, of_immediate}
use Rattle.arm2_exec.specs.State.{State}
use Rattle.arm2_exec.specs.Step.{with_lines}
use Rattle.arm2_exec.specs.declared.machine.Input.{Input}
use Rattle.control_flow.specs.Free.{adds_an_immediate, copies_a_register, is_add_or_sub, is_free_operation}
use Rattle.flow_graph.specs.Setting.{HasSetting, IsData, IsDataOf, IsMemory, IsPort, IsSource, MayStart, Sets, of_register, rotated, transfer_setting, with_source}
use Rattle.flow_graph.specs.TightWork.{IsDearestTarget, TransfersDearest}
use Rattle.control_flow.specs.declared.places.Place.{Place}
use Rattle.flow_graph.specs.declared.tight_setting.Aim.{Aim}
use Rattle.flow_graph.specs.declared.tight_setting.Held.{Held}
use Rattle.flow_graph.specs.declared.tight_setting.Setting.{Setting}
use Rattle.statement.specs.Stated.{Stated, class_at}
use Rattle.flow_graph.proofs.SettingLemmas.{next_word}

-- ## Tests

pub both : (a b : Bool) → a && b ≡ true → (a ≡ true) × (b ≡ true)
both true true h = (refl, refl)
both true false h = absurd (cc)
both false b h = absurd (cc)

-- ## Targets

-- a word's address is the address in it
word_target : (t : ℕ) → t % 4 ≡ 0 → t < 2 ^ 26 → address_of t ≡ t
word_target t whole below = omega (arith, whole, below)

pub leads : (st : Stated) (profile : Profile) (to : Place) (t value : ℕ) → value ≡ t → IsDearestTarget st profile to t → IsDearestTarget st profile to (address_of value)
leads st profile to t value e target = subst (IsDearestTarget st profile to) (sym (ap address_of e ∙ word_target t target.whole target.below)) target

-- ## Transfers

module _ (aim : Aim) (s : State) (i : Input) (base : Held) (last : ℕ) where
  -- a load takes the target's word, whatever its class
  memory_gives : (place : Spot) → IsMemory place → word_at s.bus.memc place ≡ aim.target → seen (with_lines i.lines.0 s.bus) i.port place ≡ aim.target
  memory_gives (spot.Ram at) is e = e
  memory_gives (spot.Rom at) is e = e
  memory_gives (spot.Io at) is e = absurd is
  memory_gives (spot.Vidc at) is e = absurd is
  memory_gives (spot.Control at) is e = absurd is
  memory_gives (spot.Translator at) is e = absurd is
  memory_gives (spot.Ignored at) is e = absurd is

  port_gives : (place : Spot) → IsPort place → i.port ≡ aim.target → seen (with_lines i.lines.0 s.bus) i.port place ≡ aim.target
  port_gives (spot.Ram at) is e = absurd is
  port_gives (spot.Rom at) is e = absurd is
  port_gives (spot.Io at) is e = rw is e
  port_gives (spot.Vidc at) is e = absurd is
  port_gives (spot.Control at) is e = absurd is
  port_gives (spot.Translator at) is e = absurd is
  port_gives (spot.Ignored at) is e = absurd is

  source_gives : (class : Class) (place : Spot) → IsSource class place → HasSetting aim.profile (with_source class base last aim.target) s i → located s.bus.memc last false false ≡ Ok place
      → seen (with_lines i.lines.0 s.bus) i.port place ≡ aim.target
  source_gives Ram place is has at = memory_gives place is (has.word place at)
  source_gives Rom place is has at = memory_gives place is (has.word place at)
  source_gives Io place is has at = port_gives place is has.port
  source_gives Any place is has at = port_gives place is has.port
  source_gives Slow place is has at = port_gives place is has.port
  source_gives Medium place is has at = port_gives place is has.port
  source_gives Fast place is has at = port_gives place is has.port
  source_gives Synchronous place is has at = port_gives place is has.port

  -- whether or not it loads R15, the base is there
  has_base : (loads_pc : Bool) → HasSetting aim.profile (transfer_setting aim base loads_pc last) s i → register_in Svc (register_number base.register) s.regs ≡ base.word
  has_base false has = has.register
  has_base true has = of_class aim.class has
    where
      of_class : (class : Class) → HasSetting aim.profile (with_source class base last aim.target) s i → register_in Svc (register_number base.register) s.regs ≡ base.word
      of_class Ram h = h.register
      of_class Rom h = h.register
      of_class Io h = h.register
      of_class Any h = h.register
      of_class Slow h = h.register
      of_class Medium h = h.register
      of_class Fast h = h.register
      of_class Synchronous h = h.register

module _ (aim : Aim) (st : Stated) (to : Place) (s : State) (i : Input) (of : Register) (class_is : aim.class ≡ class_at st aim.address (Some of)) (target : IsDearestTarget st aim.profile to aim.target) where
  gives_target : (load loads_pc : Bool) (words lowest : ℕ) (base : Held) → 1 ≤ words → (may : MayStart aim load words lowest)
      → HasSetting aim.profile (transfer_setting aim base (load && loads_pc) (word_address lowest (words - 1))) s i → IsTrue (load && loads_pc)
      → seen (with_lines i.lines.0 s.bus) i.port (may.spots (words - 1)) ≡ aim.target
  gives_target false loads_pc words lowest base some may has pc = absurd (false≢true pc)
  gives_target true false words lowest base some may has pc = absurd (false≢true pc)
  gives_target true true words lowest base some may has pc =
      source_gives aim s i base (word_address lowest (words - 1)) aim.class (may.spots (words - 1)) (may.sources refl (words - 1) (omega (arith, some)))
      has (may.located_at s.bus.memc has.shift (words - 1) (omega (arith, some)))

  transfers : (load loads_pc : Bool) (words lowest : ℕ) (base : Held) → 1 ≤ words → MayStart aim load words lowest
      → HasSetting aim.profile (transfer_setting aim base (load && loads_pc) (word_address lowest (words - 1))) s i
      → TransfersDearest st aim.profile aim.address to s i of load loads_pc words lowest
  transfers load loads_pc words lowest base some may has = record {
    spot = may.spots;
    transfer = record {
      whole = may.whole;
      block = rw (← class_is) (may.block s.bus.memc.control.rom_times has.dearest);
      spots = may.located_at s.bus.memc has.shift;
    };
    target = λ pc. leads st aim.profile to aim.target _ (gives_target load loads_pc words lowest base some may has pc) target;
  }

-- what is put into memory lies apart, and the base is no program counter
module _ (aim : Aim) (words lowest : ℕ) (base : Held) (some : 1 ≤ words) where
  abbrev Apart : Setting → Type 0
  Apart setting = IfSome setting.word (λ e. IsData aim.spare aim.address e.0)

  apart_of : (class : Class) (last : ℕ) → IsDataOf class aim.spare aim.address last → Apart (with_source class base last aim.target)
  apart_of Ram last h = h
  apart_of Rom last h = h
  apart_of Io last h = tt
  apart_of Any last h = tt
  apart_of Slow last h = tt
  apart_of Medium last h = tt
  apart_of Fast last h = tt
  apart_of Synchronous last h = tt

  apart : (load loads_pc : Bool) → MayStart aim load words lowest → Apart (transfer_setting aim base (load && loads_pc) (word_address lowest (words - 1)))
  apart false loads_pc may = tt
  apart true false may = tt
  apart true true may = apart_of aim.class (word_address lowest (words - 1)) (may.data_at refl (words - 1) (omega (arith, some)))

  other_of : (class : Class) (last : ℕ) → is_pc base.register ≡ false → IfSome (with_source class base last aim.target).register (λ held. is_pc held.register ≡ false)
  other_of Ram last h = h
  other_of Rom last h = h
  other_of Io last h = h
  other_of Any last h = h
  other_of Slow last h = h
  other_of Medium last h = h
  other_of Fast last h = h
  other_of Synchronous last h = h

  other : (loads_pc : Bool) (last : ℕ) → is_pc base.register ≡ false → IfSome (transfer_setting aim base loads_pc last).register (λ held. is_pc held.register ≡ false)
  other false last h = h
  other true last h = other_of aim.class last h

pub single_sets : (aim : Aim) (x : SingleImmediate) (lowest base : ℕ) → is_pc x.rn ≡ false → asks_for_user x.before x.write_back ≡ false → MayStart aim x.load 1 lowest → address_for (of_immediate x) base ≡ lowest
    → Sets aim (operation.SingleImmediate x) (transfer_setting aim (record { register = x.rn; word = base }) (x.load && is_pc x.rd) (word_address lowest 0))
single_sets aim x lowest base rn user may at =
    let held : Held = record { register = x.rn; word = base } in
    record {
      register_other = other aim 1 lowest held (omega arith) (x.load && is_pc x.rd) (word_address lowest 0) rn;
      word_apart = apart aim 1 lowest held (omega arith) x.load (is_pc x.rd) may;
      set = λ st to s i class_is cycles_are target has. (
        rn,
        user,
        subst (λ r. TransfersDearest st aim.profile aim.address to s i x.rn x.load (is_pc x.rd) 1 (address_for (of_immediate x) r))
            (sym (has_base aim s i held (word_address lowest 0) (x.load && is_pc x.rd) has))
            (subst (TransfersDearest st aim.profile aim.address to s i x.rn x.load (is_pc x.rd) 1) (sym at)
            (transfers aim st to s i x.rn class_is target x.load (is_pc x.rd) 1 lowest held (omega arith) may has)),
      );
    }

-- the word of a single transfer is at its address
pub single_sets_at : (aim : Aim) (x : SingleImmediate) (lowest base : ℕ) → IsTrue (is_free_operation (operation.SingleImmediate x)) → MayStart aim x.load 1 lowest → address_for (of_immediate x) base ≡ lowest
    → Sets aim (operation.SingleImmediate x) (transfer_setting aim (record { register = x.rn; word = base }) (x.load && is_pc x.rd) lowest)
single_sets_at aim x lowest base free may at =
    let first : word_address lowest 0 ≡ lowest = omega (arith, next_word lowest 0 may.whole (omega (arith, may.below))) in
    subst (λ n. Sets aim (operation.SingleImmediate x) (transfer_setting aim (record { register = x.rn; word = base }) (x.load && is_pc x.rd) n)) first
    (single_sets aim x lowest base (not-true (is_pc x.rn) (both _ _ free).0) (not-true (asks_for_user x.before x.write_back) (both _ _ free).1) may at)

no_clash : (b : Bool) (m n : ℕ) → 1 ≤ m → ◌≡◌ {A = ℕ} (cond b m n) 0 → b ≡ false
no_clash true m n some e = absurd (omega (arith, e, some))
no_clash false m n some e = refl

pub block_sets : (aim : Aim) (x : Block) (lowest base : ℕ) → MayStart aim x.load (word_count x.list) lowest → lowest_of x base (word_count x.list) ≡ lowest
    → Sets aim (operation.Block x) (transfer_setting aim (record { register = x.rn; word = base }) (x.load && is_listed x.list R15) (word_address lowest (word_count x.list - 1)))
block_sets aim x lowest base may at =
    let held : Held = record { register = x.rn; word = base } in
    let last : ℕ = word_address lowest (word_count x.list - 1) in
    record {
      register_other = other aim (word_count x.list) lowest held (some_words x) (x.load && is_listed x.list R15) last (no_clash (is_pc x.rn) 7 _ (omega arith) x.allocated);
      word_apart = apart aim (word_count x.list) lowest held (some_words x) x.load (is_listed x.list R15) may;
      set = λ st to s i class_is cycles_are target has.
          subst (λ r. TransfersDearest st aim.profile aim.address to s i x.rn x.load (is_listed x.list R15) (word_count x.list) (lowest_of x r (word_count x.list)))
          (sym (has_base aim s i held last (x.load && is_listed x.list R15) has))
          (subst (TransfersDearest st aim.profile aim.address to s i x.rn x.load (is_listed x.list R15) (word_count x.list)) (sym at)
          (transfers aim st to s i x.rn class_is target x.load (is_listed x.list R15) (word_count x.list) lowest held (some_words x) may has));
    }

-- ## Data processing, and multiplies

-- what a free operation that writes R15 is
pub either : (writes other : Bool) → IsTrue (not writes || other) → writes ≡ true → other ≡ true
either true true h w = refl
either true false h w = absurd (false≢true h)
either false other h w = absurd (cc)

is_the_mov : (o : Opcode) → is_mov o ≡ true → o ≡ opcode.Mov
is_the_mov opcode.Mov h = refl
is_the_mov _ h = absurd (cc)

is_the_lsl : (k : Shift) → is_lsl k ≡ true → k ≡ shift.Lsl
is_the_lsl shift.Lsl h = refl
is_the_lsl _ h = absurd (cc)

-- a word's bits are the word
whole_word : (v : ℕ) (carry : Bool) → v < 2 ^ 32 → (shifted_of (record { bits = word_bits v; carry = carry })).value ≡ v
whole_word v carry below = ap (λ (x : Shifted). x.value) (sym (shifted_is (record { value = v; carry = carry }) (record { bits = word_bits v; carry = carry }) below (record { value = refl; carry = refl })))

current_is : (register : Register) (s : State) (word : ℕ) → mode_of (r15_in s.regs) ≡ Svc → register_in Svc (register_number register) s.regs ≡ word → current_in register s.regs ≡ word
current_is register s word mode e = ap (λ m. register_in m (register_number register) s.regs) mode ∙ e

operand_is : (register : Register) (s : State) (word by : ℕ) → is_pc register ≡ false → current_in register s.regs ≡ word → operand_of by register s.regs ≡ word
operand_is register s word by other e = rw other e

first_is : (register : Register) (s : State) (word by : ℕ) → is_pc register ≡ false → current_in register s.regs ≡ word → first_of by register s.regs ≡ word
first_is register s word by other e = rw other e

pub copy_sets : (aim : Aim) (x : DataRegister) → IsTrue (is_free_operation (operation.DataRegister x)) → data_writes_pc x.opcode x.rd ≡ true
    → Sets aim (operation.DataRegister x) (of_register (record { register = x.rm; word = aim.target }))
copy_sets aim x free writes =
    let copies : copies_a_register x ≡ true = either (data_writes_pc x.opcode x.rd) (copies_a_register x) free writes in
    let parts = both _ _ copies in
    let front = both _ _ parts.0 in
    let head = both _ _ front.0 in
    let other : is_pc x.rm ≡ false = not-true (is_pc x.rm) head.1 in
    record {
      register_other = other;
      word_apart = tt;
      set = λ st to s i class_is cycles_are target has written.
          leads st aim.profile to aim.target _
          (copied (omega (arith, target.below)) x.opcode x.shift x.amount (is_the_mov x.opcode head.0) (is_the_lsl x.shift front.1) (eqb-true x.amount 0 parts.1) s
          (operand_is x.rm s aim.target 8 other (current_is x.rm s aim.target has.mode has.register)))
          target;
    }
  where
    copied : aim.target < 2 ^ 32 → (o : Opcode) (k : Shift) (amount : ℕ) → o ≡ opcode.Mov → k ≡ shift.Lsl → amount ≡ 0 → (s : State) → operand_of 8 x.rm s.regs ≡ aim.target
        → (outcome_of o (first_of 8 x.rn s.regs) (shifted_by_amount k amount x.rm s.regs) (flags_of (r15_in s.regs))).value ≡ aim.target
    copied below o k amount e f g s is = rw (e, f, g, is) (whole_word aim.target (flags_of (r15_in s.regs)).carry below)

pub sum_sets : (aim : Aim) (x : DataImmediate) (addend : ℕ) → IsTrue (is_free_operation (operation.DataImmediate x)) → data_writes_pc x.opcode x.rd ≡ true
    → ((flags : Flags) (carry : Bool) → (outcome_of x.opcode addend (rotated x carry) flags).value ≡ aim.target)
    → Sets aim (operation.DataImmediate x) (of_register (record { register = x.rn; word = addend }))
sum_sets aim x addend free writes gives =
    let adds : adds_an_immediate x ≡ true = either (data_writes_pc x.opcode x.rd) (adds_an_immediate x) free writes in
    let other : is_pc x.rn ≡ false = not-true (is_pc x.rn) (both _ _ adds).1 in
    record {
      register_other = other;
      word_apart = tt;
      set = λ st to s i class_is cycles_are target has written.
          leads st aim.profile to aim.target _
          (ap (λ n. (outcome_of x.opcode n (rotated x (flags_of (r15_in s.regs)).carry) (flags_of (r15_in s.regs))).value) (first_is x.rn s addend 8 other (current_is x.rn s addend has.mode has.register))
          ∙ gives (flags_of (r15_in s.regs)) (flags_of (r15_in s.regs)).carry)
          target;
    }

fourth : (a b c d e : Bool) → (a || b || c || d || e) ≡ false → d ≡ false
fourth a b c false e h = refl
fourth true b c true e h = absurd (cc)
fourth false true c true e h = absurd (cc)
fourth false false true true e h = absurd (cc)
fourth false false false true e h = absurd (cc)

rs_other : (x : Multiply) → is_pc x.rs ≡ false
rs_other x =
    fourth (register_number x.rd == register_number x.rm) (register_number x.rd == 15) (register_number x.rm == 15) (is_pc x.rs) ((bit_of x.accumulate == 1) && (register_number x.rn == 15))
    (no_clash _ 3 0 (omega arith) x.allocated)

pub multiply_sets : (aim : Aim) (x : Multiply) (number : ℕ) → multiply_cycles number ≡ aim.cycles
    → Sets aim (operation.Multiply x) (of_register (record { register = x.rs; word = number }))
multiply_sets aim x number takes = record {
  register_other = rs_other x;
  word_apart = tt;
  set = λ st to s i class_is cycles_are target has. ap multiply_cycles has.register ∙ takes ∙ cycles_are;
}

-- ## Sums and differences

-- the carry that comes in does not matter
value_same : (x : DataImmediate) (c d : Bool) → (rotated x c).value ≡ (rotated x d).value
value_same x c d = by_amount (2 * x.rotation == 0)
  where
    by_amount : (b : Bool) → (shifted_of (cond b (record { bits = word_bits x.value; carry = c }) (by_nonzero Ror (2 * x.rotation) (word_bits x.value)))).value
        ≡ (shifted_of (cond b (record { bits = word_bits x.value; carry = d }) (by_nonzero Ror (2 * x.rotation) (word_bits x.value)))).value
    by_amount true = refl
    by_amount false = refl

operand_value : (x : DataImmediate) (operand : Shifted) (carry : Bool) → operand.value < 2 ^ 32 → Has operand (by_register Ror (2 * x.rotation) (word_bits x.value) false) → (rotated x carry).value ≡ operand.value
operand_value x operand carry below has = value_same x carry false ∙ ap (λ (y : Shifted). y.value) (sym (shifted_is operand _ below has))

-- moved the other way and back, an address is itself
pub moved_back : (before up : Bool) (address offset : ℕ) → address < 2 ^ 32 → offset < 2 ^ 32 → address_by before up (address_by before (not up) address offset) offset ≡ address
moved_back false up address offset below small = refl
moved_back true true address offset below small = omega (arith, below, small)
moved_back true false address offset below small = omega (arith, below, small)

pub added : (x : DataImmediate) (target : ℕ) (operand : Shifted) → target < 2 ^ 32 → operand.value < 2 ^ 32 → Has operand (by_register Ror (2 * x.rotation) (word_bits x.value) false) → x.opcode ≡ opcode.Add
    → (flags : Flags) (carry : Bool) → (outcome_of x.opcode ((target + (2 ^ 32 - operand.value)) % 2 ^ 32) (rotated x carry) flags).value ≡ target
added x target operand below small has is flags carry =
    rw (is, operand_value x operand carry small has) (omega (arith, below, small))

is_sub : (o : Opcode) → is_add_or_sub o ≡ true → (o ≡ opcode.Add → ⊥) → o ≡ opcode.Sub
is_sub opcode.Sub h not_add = refl
is_sub opcode.Add h not_add = absurd (not_add refl)
is_sub _ h not_add = absurd (cc)

pub subtracted : (x : DataImmediate) (target : ℕ) (operand : Shifted) → target < 2 ^ 32 → operand.value < 2 ^ 32 → Has operand (by_register Ror (2 * x.rotation) (word_bits x.value) false) → adds_an_immediate x ≡ true → (x.opcode ≡ opcode.Add → ⊥)
    → (flags : Flags) (carry : Bool) → (outcome_of x.opcode ((target + operand.value) % 2 ^ 32) (rotated x carry) flags).value ≡ target
subtracted x target operand below small has adds not_add flags carry =
    rw (is_sub x.opcode (both _ _ adds).0 not_add, operand_value x operand carry small has) (omega (arith, below, small))

-- ## Some addend

-- bits are fewer than their numbers
bits_below : (bits : List Bool) → word_of bits < 2 ^ length bits
unfolding word_of
bits_below [] = omega arith
bits_below (bit ∷ bits) =
    let more = bits_below bits in
    let one = bit_fits bit in
    let double : 2 ^ suc (length bits) ≡ 2 ^ length bits * 2 = pow-suc 2 (length bits) in
    omega (arith, more, one, double)

-- a rotated word has 32 bits
rotated_long : (n : ℕ) (bits : List Bool) → length bits ≡ 32 → length (drop (n % 32) bits ++ take (n % 32) bits) ≡ 32
rotated_long n bits long =
    let both = length-append (drop (n % 32) bits) (take (n % 32) bits) in
    let back = length-drop (n % 32) bits in
    let front = length-take-le (n % 32) bits (omega (arith, long)) in
    omega (arith, long, both, back, front)

below_by_length : (bits : List Bool) → length bits ≡ 32 → word_of bits < 2 ^ 32
below_by_length bits long = subst (λ (n : ℕ). word_of bits < 2 ^ n) long (bits_below bits)

rotated_below : (x : DataImmediate) → (rotated x false).value < 2 ^ 32
rotated_below x = by_amount (2 * x.rotation == 0)
  where
    by_amount : (b : Bool) → (shifted_of (cond b (record { bits = word_bits x.value; carry = false }) (by_nonzero Ror (2 * x.rotation) (word_bits x.value)))).value < 2 ^ 32
    by_amount true = below_by_length (word_bits x.value) (length-bits_from 32 x.value)
    by_amount false = below_by_length (rotated_bits (2 * x.rotation) (word_bits x.value)) (rotated_long (2 * x.rotation) (word_bits x.value) (length-bits_from 32 x.value))

-- by an operand that is known
addend_by : (x : DataImmediate) (target operand : ℕ) → target < 2 ^ 32 → operand < 2 ^ 32 → ((carry : Bool) → (rotated x carry).value ≡ operand) → (o : Opcode) → is_add_or_sub o ≡ true
    → (addend : ℕ) × (addend < 2 ^ 32) × ((flags : Flags) (carry : Bool) → (outcome_of o addend (rotated x carry) flags).value ≡ target)
addend_by x target operand below small is opcode.Add h = ((target + (2 ^ 32 - operand)) % 2 ^ 32, omega arith, λ flags carry. rw (is carry) (omega (arith, below, small)))
addend_by x target operand below small is opcode.Sub h = ((target + operand) % 2 ^ 32, omega arith, λ flags carry. rw (is carry) (omega (arith, below, small)))
addend_by x target operand below small is _ h = absurd (cc)

-- a word in Rn by which the sum or the difference is the target
pub some_addend : (x : DataImmediate) (target : ℕ) → target < 2 ^ 32 → adds_an_immediate x ≡ true
    → (addend : ℕ) × (addend < 2 ^ 32) × ((flags : Flags) (carry : Bool) → (outcome_of x.opcode addend (rotated x carry) flags).value ≡ target)
some_addend x target below adds = addend_by x target (rotated x false).value below (rotated_below x) (λ carry. value_same x carry false) x.opcode (both _ _ adds).0
