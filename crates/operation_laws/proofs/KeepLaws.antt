-- What any instruction leaves as it is.
use Rattle.std.proofs.Common.{subst, ◌≡◌, ℕ, ◌<◌, ◌&&◌, ◌||◌, not, Bool, true, false, cond, List, [], ◌∷◌, refl, sym, ap, ◌∙◌, arith, inl, inr}
use Rattle.std.specs.Prelude.{slice_index}
use Rattle.std.specs.List.{list_any}
use Rattle.std.proofs.lemmas.Bool.{cases_Bool, cond_both, eq-eqb, eqb-true, eqb-false, false≢true, ne_eqb, or_parts}
use Rattle.std.proofs.lemmas.Bool.Decides.{nat_tests}
use Rattle.arm2_decode.specs.Bits.{bit_of_word}
use Rattle.arm2_decode.specs.Names.{is_compare, is_link, is_pc, is_same, register_number}
use Rattle.arm2_decode.specs.Transfers.{all_registers, is_listed, registers_in, writes_base}
use Rattle.arm2_decode.specs.declared.instr.Block.{Block}
use Rattle.arm2_decode.specs.declared.instr.Operation.{Operation}
use Rattle.arm2_decode.specs.declared.instr.Operation.TheVariants as row
use Rattle.arm2_decode.specs.declared.names.Register.{Register}
use Rattle.arm2_decode.specs.declared.names.Register.TheVariants.{R14, R15}
use Rattle.arm2_decode.proofs.NameLemmas.{register_fits}
use Rattle.arm2_effect.specs.declared.modes.Mode.{Mode}
use Rattle.arm2_effect.specs.declared.modes.Mode.TheVariants.{User}
use Rattle.arm2_effect.specs.Modes.{r15_in, slot_of}
use Rattle.arm2_effect.specs.Operands.{current_in, current_mode}
use Rattle.arm2_effect.specs.ProgramCounter.{mode_of}
use Rattle.arm2_transfer.specs.declared.bus.Bus.{Bus}
use Rattle.arm2_transfer.specs.declared.single_fields.Single.{Single}
use Rattle.arm2_transfer.specs.Block.{block_mode, mode_for}
use Rattle.arm2_transfer.specs.Moved.{Moved}
use Rattle.arm2_transfer.specs.Operations.{operation_moved}
use Rattle.arm2_transfer.specs.Single.{of_immediate, of_register}
use Rattle.arm2_transfer.proofs.Slots.{below_15, place, stands_at}
use Rattle.operation_laws.specs.Keeps.{KeepLaw, KeepsOthers, changes, restores}
use Rattle.operation_laws.specs.Leaves.{Leaves, LeavesSingle, loads_at, loads_pc}
use Rattle.operation_laws.specs.Left.{LeavesR15, LeavesRegisters, Psr, Kept, Flagged, Restored, is_at}
use Rattle.operation_laws.proofs.BlockLaws.{any_filtered}
use Rattle.operation_laws.proofs.OperationLaws.{operation_law}
use Rattle.operation_laws.proofs.WriteLemmas.{below_r15, no_15}

-- ## Places of other registers

slot_same : (mode : Mode) (a b : ℕ) → a < 16 → b < 15 → slot_of mode a ≡ slot_of mode b → a ≡ b
slot_same User a b f h e = grind (arith, nat_tests)
slot_same _ a b f h e = grind (arith, nat_tests)

-- what is at a register's place and User's is the register itself
user_same : (mode : Mode) (a b : ℕ) → a < 16 → b < 15 → slot_of User a ≡ slot_of mode b → a ≡ b
user_same User a b f h e = grind (arith, nat_tests)
user_same _ a b f h e = grind (arith, nat_tests)

apart_by : (mode other : Mode) (q r : Register) → is_pc r ≡ false
    → ((a b : ℕ) → a < 16 → b < 15 → slot_of other a ≡ slot_of mode b → a ≡ b)
    → is_same q r ≡ false → stands_at other (place mode r) q ≡ false
apart_by mode other q r no_pc same apart =
    ne_eqb (place other q) (place mode r) (λ e. eqb-false (register_number q) (register_number r) apart
    (same (register_number q) (register_number r) (register_fits q) (below_15 r (no_15 r no_pc)) e))

module _ (before : List ℕ) where
  pub not_at : (q r : Register) → is_pc r ≡ false → is_same q r ≡ false
      → is_at before q (place (current_mode before) r) ≡ false
  not_at q r no_pc apart =
      apart_by (current_mode before) (current_mode before) q r no_pc (slot_same (current_mode before)) apart

  pub is_at_own : (q r : Register) → is_same q r ≡ true → is_at before q (place (current_mode before) r) ≡ true
  is_at_own q r same =
      eq-eqb (place (current_mode before) q) (place (current_mode before) r)
      (ap (slot_of (current_mode before)) (eqb-true (register_number q) (register_number r) same))

-- ## In general

-- a PSR that is not restored
abbrev pub IsStaying : Psr → Type 0
IsStaying Kept = Unit {0}
IsStaying (Flagged flags) = Unit {0}
IsStaying (Restored word) = ⊥

pub mode_of_left : (psr : Psr) (before after : ℕ) (to : ℕ) → IsStaying psr → LeavesR15 to psr before after
    → mode_of after ≡ mode_of before
mode_of_left Kept before after to stays left = left.mode
mode_of_left (Flagged flags) before after to stays left = left.mode
mode_of_left (Restored word) before after to stays left = absurd stays

module _ (o : Operation) (before after : List ℕ) (written : ℕ → Bool) (IsWord : ℕ → ℕ → Type 0) (to : ℕ) (psr : Psr)
    (left : LeavesRegisters written IsWord to psr before after) where
  keeps : (restores o ≡ false → IsStaying psr)
      → ((r : Register) → is_pc r ≡ false → changes o r ≡ false → written (place (current_mode before) r) ≡ false)
      → KeepsOthers o before after
  keeps stays unwritten =
      record {
        as_many = left.as_many;
        mode = λ none. mode_of_left psr (r15_in before) (r15_in after) to (stays none) left.r15;
        others = λ r no_pc unchanged.
            left.kept (place (current_mode before) r) (below_r15 (current_mode before) r no_pc)
            (unwritten r no_pc unchanged);
      }

-- ## A register of the current mode

module _ (before after : List ℕ) (written : ℕ → Bool) (IsWord : ℕ → ℕ → Type 0) (to : ℕ) (psr : Psr)
    (left : LeavesRegisters written IsWord to psr before after) (stays : IsStaying psr) where
  pub mode_kept : current_mode after ≡ current_mode before
  mode_kept = mode_of_left psr (r15_in before) (r15_in after) to stays left.r15

  at_place : (r : Register) → current_in r after ≡ slice_index after (place (current_mode before) r)
  at_place r = ap (λ (mode : Mode). slice_index after (place mode r)) mode_kept

  pub current_kept : (r : Register) → is_pc r ≡ false → written (place (current_mode before) r) ≡ false
      → current_in r after ≡ current_in r before
  current_kept r no_pc none =
      at_place r ∙ left.kept (place (current_mode before) r) (below_r15 (current_mode before) r no_pc) none

  pub current_written : (r : Register) → is_pc r ≡ false → written (place (current_mode before) r) ≡ true
      → IsWord (place (current_mode before) r) (current_in r after)
  current_written r no_pc some =
      subst (IsWord (place (current_mode before) r)) (sym (at_place r))
      (left.written (place (current_mode before) r) (below_r15 (current_mode before) r no_pc) some)

-- ## Tests

pub or_off : (a b : Bool) → a ≡ false → b ≡ false → (a || b) ≡ false
or_off true b h k = h
or_off false b h k = k

and_off : (a b : Bool) → b ≡ false → (a && b) ≡ false
and_off true b h = h
and_off false b h = refl

-- where a write happens only under a condition, and elsewhere it is not at this place
pub under : (c same at : Bool) → (same ≡ false → at ≡ false) → (c && same) ≡ false → (c && at) ≡ false
under true same at h is = h is
under false same at h is = refl

flipped : (same c at : Bool) → (same ≡ false → at ≡ false) → (same && c) ≡ false → (c && at) ≡ false
flipped true true at h is = absurd (false≢true (sym is))
flipped true false at h is = refl
flipped false c at h is = and_off c at (h refl)

pub first_off : (a b : Bool) → (a || b) ≡ false → a ≡ false
first_off a b is = (or_parts a b is).0

-- ## Data processing

pub data_stays : (sets pc : Bool) (word : ℕ) (flags : _) → (sets && pc) ≡ false
    → IsStaying (cond sets (cond pc (Restored word) (Flagged flags)) Kept)
data_stays true true word flags is = false≢true (sym is)
data_stays true false word flags is = tt
data_stays false pc word flags is = tt

pub flagged_stays : (sets : Bool) (flags : _) → IsStaying (cond sets (Flagged flags) Kept)
flagged_stays true flags = tt
flagged_stays false flags = tt

-- ## Blocks

none_any : (test : Register → Bool) → ((q : Register) → test q ≡ false) → (xs : List Register)
    → list_any test xs ≡ false
none_any test none [] = refl
none_any test none (q ∷ xs) = or_off (test q) (list_any test xs) (none q) (none_any test none xs)

module _ (x : Block) (before : List ℕ) (r : Register) (no_pc : is_pc r ≡ false) where
  abbrev at : ℕ
  at = place (current_mode before) r

  moved_same : (mode : Mode) (a b : ℕ) → a < 16 → b < 15
      → slot_of (mode_for x mode) a ≡ slot_of mode b → a ≡ b
  moved_same mode a b f h =
      cond_both (x.user && not (x.load && is_listed x.list R15)) User mode
      (λ (m : Mode). slot_of m a ≡ slot_of mode b → a ≡ b)
      (λ _. user_same mode a b f h)
      (λ _. slot_same mode a b f h)

  listed_as : (q : Register) → is_same q r ≡ true → is_listed x.list r ≡ false → is_listed x.list q ≡ false
  listed_as q same none =
      ap (λ (n : ℕ). bit_of_word x.list n) (eqb-true (register_number q) (register_number r) same) ∙ none

  one_off : is_listed x.list r ≡ false → (q : Register)
      → (stands_at (block_mode x before) at q && is_listed x.list q) ≡ false
  one_off none q = elim (cases_Bool (is_same q r)) [
    | inl same ↦ and_off (stands_at (block_mode x before) at q) (is_listed x.list q) (listed_as q same none)
    | inr apart ↦
        ap (λ (b : Bool). b && is_listed x.list q)
        (apart_by (current_mode before) (block_mode x before) q r no_pc (moved_same (current_mode before)) apart)
  ]

  pub none_listed : is_listed x.list r ≡ false
      → list_any (stands_at (block_mode x before) at) (registers_in x.list) ≡ false
  none_listed none =
      any_filtered (stands_at (block_mode x before) at) (is_listed x.list) all_registers
      ∙ none_any (λ q. stands_at (block_mode x before) at q && is_listed x.list q) (one_off none) all_registers

  block_off : ((x.load && is_listed x.list r) || (x.write_back && is_same x.rn r)) ≡ false
      → (loads_at x before at || (x.write_back && is_at before x.rn at)) ≡ false
  block_off is =
      let parts = or_parts (x.load && is_listed x.list r) (x.write_back && is_same x.rn r) is in
      or_off (loads_at x before at) (x.write_back && is_at before x.rn at)
      (under x.load (is_listed x.list r) _ none_listed parts.0)
      (under x.write_back (is_same x.rn r) _ (not_at before x.rn r no_pc) parts.1)

block_stays : (restored : Bool) (word : ℕ) → restored ≡ false → IsStaying (cond restored (Restored word) Kept)
block_stays true word is = false≢true (sym is)
block_stays false word is = tt

-- ## Any instruction

module _ (before : List ℕ) (m : Moved) where
  data_off : (compares : Bool) (rd r : Register) → is_pc r ≡ false
      → ((is_same rd r && not compares) || false) ≡ false
      → (not compares && is_at before rd (place (current_mode before) r)) ≡ false
  data_off compares rd r no_pc is =
      flipped (is_same rd r) (not compares) _ (not_at before rd r no_pc)
      (first_off (is_same rd r && not compares) false is)

  single_keeps : (o : Operation) (x : Single) (port : ℕ) (bus : Bus) → restores o ≡ false
      → ((r : Register) → changes o r ≡ false
      → ((x.load && is_same x.rd r) || (writes_base x.before x.write_back && is_same x.rn r)) ≡ false)
      → LeavesSingle x port before bus m → KeepsOthers o before m.regs
  single_keeps o x port bus never unchanged left =
      keeps o before m.regs _ _ _ _ left.registers (λ _. tt)
      (λ r no_pc is.
      let parts =
      or_parts (x.load && is_same x.rd r) (writes_base x.before x.write_back && is_same x.rn r) (unchanged r is) in
      or_off _ _
      (under x.load (is_same x.rd r) _ (not_at before x.rd r no_pc) parts.0)
      (under (writes_base x.before x.write_back) (is_same x.rn r) _ (not_at before x.rn r no_pc) parts.1))

  kept_by : (o : Operation) (port : ℕ) (bus : Bus) → Leaves o port before bus m → KeepsOthers o before m.regs
  kept_by (row.Multiply x) port bus left =
      keeps _ before m.regs _ _ _ _ left.0 (λ _. flagged_stays x.sets_flags _)
      (λ r no_pc is. not_at before x.rd r no_pc (first_off (is_same x.rd r) false is))
  kept_by (row.DataRegister x) port bus left =
      keeps _ before m.regs _ _ _ _ left.0 (data_stays x.sets_flags (is_pc x.rd) _ _)
      (λ r no_pc is. data_off (is_compare x.opcode) x.rd r no_pc is)
  kept_by (row.DataRegisterShift x) port bus left =
      keeps _ before m.regs _ _ _ _ left.0 (data_stays x.sets_flags (is_pc x.rd) _ _)
      (λ r no_pc is. data_off (is_compare x.opcode) x.rd r no_pc is)
  kept_by (row.DataImmediate x) port bus left =
      keeps _ before m.regs _ _ _ _ left.0 (data_stays x.sets_flags (is_pc x.rd) _ _)
      (λ r no_pc is. data_off (is_compare x.opcode) x.rd r no_pc is)
  kept_by (row.SingleImmediate x) port bus left =
      single_keeps (row.SingleImmediate x) (of_immediate x) port bus refl (λ r is. first_off _ false is) left
  kept_by (row.SingleRegister x) port bus left =
      single_keeps (row.SingleRegister x) (of_register x before) port bus refl (λ r is. first_off _ false is) left
  kept_by (row.Block x) port bus left =
      keeps _ before m.regs _ _ _ _ left.registers (block_stays (loads_pc x && x.user) left.r15_word)
      (λ r no_pc is. block_off x before r no_pc (first_off _ false is))
  kept_by (row.Branch x) port bus left =
      keeps _ before m.regs _ _ _ _ left.0 (λ _. tt)
      (λ r no_pc is. under x.link (is_link r) _ (link_apart r no_pc) is)
    where
      link_apart : (r : Register) → is_pc r ≡ false → is_link r ≡ false
          → is_at before R14 (place (current_mode before) r) ≡ false
      link_apart r no_pc other =
          not_at before R14 r no_pc (ne_eqb 14 (register_number r) (λ e. eqb-false (register_number r) 14 other (sym e)))
  kept_by (row.Swi x) port bus left = absurd left
  kept_by (row.UndefinedTransfer x) port bus left = absurd left
  kept_by (row.CoprocessorTransfer x) port bus left = absurd left
  kept_by (row.Coprocessor x) port bus left = absurd left

pub keep_law : KeepLaw
keep_law o port before bus long plain =
    kept_by before (operation_moved o port before bus) o port bus (operation_law o port before bus long plain)
