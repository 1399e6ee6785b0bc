-- What transfers and calls leave in the registers that they write.
use Rattle.std.proofs.Common.{◌≡◌, ℕ, zero, suc, ◌*◌, ◌≤◌, ◌<◌, ◌%◌, ◌&&◌, ◌||◌, not, Bool, true, false, cond, List, [], ◌∷◌, refl, sym, ap, subst, ◌∙◌, arith}
use Rattle.std.specs.Prelude.{slice_index}
use Rattle.std.specs.Int.{w32, to_le_bytes}
use Rattle.std.proofs.lemmas.Bool.{and_parts, cond-false, cond-true, eq-eqb, false≢true}
use Rattle.bus_ticks.specs.Prices.{ahead_of}
use Rattle.arm2_decode.specs.Names.{is_pc, is_same, register_number}
use Rattle.arm2_decode.specs.Transfers.{is_listed, word_count, writes_base}
use Rattle.arm2_decode.specs.declared.flags.Flags.{Flags}
use Rattle.arm2_decode.specs.declared.instr.Block.{Block}
use Rattle.arm2_decode.specs.declared.instr.Branch.{Branch}
use Rattle.arm2_decode.specs.declared.instr.Multiply.{Multiply}
use Rattle.arm2_decode.specs.declared.names.Register.{Register}
use Rattle.arm2_decode.specs.declared.names.Register.TheVariants.{R14}
use Rattle.arm2_effect.specs.Modes.{r15_in}
use Rattle.arm2_effect.specs.Operands.{current_in, current_mode, first_of}
use Rattle.arm2_effect.specs.ProgramCounter.{address_of, flags_of}
use Rattle.arm2_transfer.specs.declared.bus.Bus.{Bus}
use Rattle.arm2_transfer.specs.declared.single_fields.Single.{Single}
use Rattle.arm2_transfer.specs.Bus.{seen}
use Rattle.arm2_transfer.specs.Moved.{Moved}
use Rattle.arm2_transfer.specs.Registers.{moved_by}
use Rattle.arm2_transfer.proofs.Slots.{place}
use Rattle.known_words.specs.Transfers.{fields_of}
use Rattle.operation_laws.specs.Leaves.{LeavesBlock, LeavesBranch, LeavesMultiply, LeavesSingle, base_of, loads_at, loads_pc, single_address, word_from}
use Rattle.operation_laws.specs.Left.{Kept, Flagged, Restored, flags_left, is_at}
use Rattle.operation_laws.proofs.KeepLaws.{IsStaying, current_written, is_at_own, none_listed, not_at, under}
use Rattle.operation_laws.proofs.R15Lemmas.{ahead_left}

-- ## Tests

not_both : (b : Bool) → not b ≡ true → b ≡ false
not_both true is = absurd (false≢true is)
not_both false is = refl

or_second_true : (a b : Bool) → b ≡ true → (a || b) ≡ true
or_second_true true b is = refl
or_second_true false b is = is

both_true : (a b : Bool) → a ≡ true → b ≡ true → (a && b) ≡ true
both_true true b h is = is
both_true false b h is = absurd (false≢true h)

or_first_true : (a b : Bool) → a ≡ true → (a || b) ≡ true
or_first_true true b is = refl
or_first_true false b is = absurd (false≢true is)

own : (r : Register) → is_same r r ≡ true
own r = eq-eqb (register_number r) (register_number r) refl

-- ## Bytes

byte_below : (a b c d : ℕ) → a < 256 → b < 256 → c < 256 → d < 256 → (i : ℕ)
    → slice_index (a ∷ b ∷ c ∷ d ∷ []) i ≤ 255
byte_below a b c d la lb lc ld zero = omega (arith, la)
byte_below a b c d la lb lc ld (suc zero) = omega (arith, lb)
byte_below a b c d la lb lc ld (suc (suc zero)) = omega (arith, lc)
byte_below a b c d la lb lc ld (suc (suc (suc zero))) = omega (arith, ld)
byte_below a b c d la lb lc ld (suc (suc (suc (suc i)))) = omega arith

le_byte_below : (word lane : ℕ) → slice_index (to_le_bytes w32 word) lane ≤ 255
le_byte_below word lane =
    byte_below _ _ _ _ (omega arith) (omega arith) (omega arith) (omega arith) lane

-- ## Single transfers

module _ (x : Single) (port : ℕ) (regs : List ℕ) (bus : Bus) (m : Moved) (left : LeavesSingle x port regs bus m) where
  abbrev writes : Bool
  writes = writes_base x.before x.write_back

  pub single_flags : flags_of (r15_in m.regs) ≡ flags_of (r15_in regs)
  single_flags = left.registers.r15.flags

  pub single_base : (writes && not (x.load && is_same x.rd x.rn)) ≡ true → is_pc x.rn ≡ false
      → current_in x.rn m.regs ≡ moved_by x.up (base_of x regs) x.offset
  single_base is no_pc =
      let parts = and_parts writes (not (x.load && is_same x.rd x.rn)) is in
      let at = place (current_mode regs) x.rn in
      let none =
      under x.load (is_same x.rd x.rn) (is_at regs x.rd at) (not_at regs x.rd x.rn no_pc)
      (not_both (x.load && is_same x.rd x.rn) parts.1) in
      let here = both_true writes (is_at regs x.rn at) parts.0 (is_at_own regs x.rn x.rn (own x.rn)) in
      current_written regs m.regs _ _ _ _ left.registers tt x.rn no_pc
      (or_second_true (x.load && is_at regs x.rd at) (writes && is_at regs x.rn at) here)
      ∙ cond-false (x.load && is_at regs x.rd at) (word_from x port regs bus left.spot) _ none

  pub single_byte : (x.load && x.byte) ≡ true → is_pc x.rd ≡ false → current_in x.rd m.regs ≤ 255
  single_byte is no_pc =
      let parts = and_parts x.load x.byte is in
      let at = place (current_mode regs) x.rd in
      let here = both_true x.load (is_at regs x.rd at) parts.0 (is_at_own regs x.rd x.rd (own x.rd)) in
      let word =
      current_written regs m.regs _ _ _ _ left.registers tt x.rd no_pc
      (or_first_true (x.load && is_at regs x.rd at) (writes && is_at regs x.rn at) here)
      ∙ cond-true (x.load && is_at regs x.rd at) (word_from x port regs bus left.spot) _ here
      ∙ cond-true x.byte _ _ parts.1 in
      subst (λ n. n ≤ 255) (sym word) (le_byte_below (seen bus port left.spot) (single_address x regs % 4))

pub fields_same : (x : Single) (w : Bool) → w ≡ writes_base x.before x.write_back
    → record (fields_of x) { writes_base = w } ≡ fields_of x
fields_same x w is = ap (λ (b : Bool). record (fields_of x) { writes_base = b }) is

-- ## Blocks

module _ (x : Block) (port : ℕ) (regs : List ℕ) (bus : Bus) (m : Moved) (left : LeavesBlock x port regs bus m)
    (stays : (loads_pc x && x.user) ≡ false) where
  staying : (b : Bool) (word : ℕ) → b ≡ false → IsStaying (cond b (Restored word) Kept)
  staying true word is = absurd (false≢true (sym is))
  staying false word is = tt

  flags_by : (b : Bool) (word r : ℕ) → b ≡ false → flags_left (cond b (Restored word) Kept) r ≡ flags_of r
  flags_by true word r is = absurd (false≢true (sym is))
  flags_by false word r is = refl

  pub block_flags : flags_of (r15_in m.regs) ≡ flags_of (r15_in regs)
  block_flags = left.registers.r15.flags ∙ flags_by (loads_pc x && x.user) left.r15_word (r15_in regs) stays

  pub block_base : (x.write_back && not (x.load && is_listed x.list x.rn)) ≡ true → is_pc x.rn ≡ false
      → current_in x.rn m.regs ≡ moved_by x.up (first_of 8 x.rn regs) (4 * word_count x.list)
  block_base is no_pc =
      let parts = and_parts x.write_back (not (x.load && is_listed x.list x.rn)) is in
      let at = place (current_mode regs) x.rn in
      let none : loads_at x regs at ≡ false =
      under x.load (is_listed x.list x.rn) _ (none_listed x regs x.rn no_pc)
      (not_both (x.load && is_listed x.list x.rn) parts.1) in
      let here = both_true x.write_back (is_at regs x.rn at) parts.0 (is_at_own regs x.rn x.rn (own x.rn)) in
      let word =
      current_written regs m.regs _ _ _ _ left.registers
      (staying (loads_pc x && x.user) left.r15_word stays) x.rn no_pc
      (or_second_true (loads_at x regs at) (x.write_back && is_at regs x.rn at) here) in
      word.base none
      ∙ ap (λ n. moved_by x.up n (4 * word_count x.list)) (sym (cond-false (is_pc x.rn) _ (current_in x.rn regs) no_pc))

-- ## Multiplies and branches

module _ (regs after : List ℕ) where
  pub multiply_flags : (x : Multiply) → LeavesMultiply x regs after → x.sets_flags ≡ false
      → flags_of (r15_in after) ≡ flags_of (r15_in regs)
  multiply_flags x left is = left.r15.flags ∙ by_sets x.sets_flags _ is
    where
      by_sets : (b : Bool) (f : Flags) → b ≡ false → flags_left (cond b (Flagged f) Kept) (r15_in regs) ≡ flags_of (r15_in regs)
      by_sets true f is = absurd (false≢true (sym is))
      by_sets false f is = refl

  pub branch_flags : (x : Branch) → LeavesBranch x regs after → flags_of (r15_in after) ≡ flags_of (r15_in regs)
  branch_flags x left = left.r15.flags

  pub branch_link : (x : Branch) → LeavesBranch x regs after → x.link ≡ true
      → address_of (current_in R14 after) ≡ ahead_of (address_of (r15_in regs)) 4
  branch_link x left links =
      let at = place (current_mode regs) R14 in
      ap address_of
      (current_written regs after _ _ _ _ left tt R14 refl
      (both_true x.link (is_at regs R14 at) links (is_at_own regs R14 R14 refl)))
      ∙ (ahead_left (r15_in regs)).address
