-- Writes to registers: what is at each place afterwards.
use Rattle.std.proofs.Common.{◌≡◌, ◌≢◌, ℕ, ◌<◌, ◌==◌, ◌&&◌, Bool, true, false, List, length, refl, sym, ap, subst, ◌∙◌, arith, inl, inr}
use Rattle.std.specs.Prelude.{slice_index, slice_set}
use Rattle.std.proofs.lemmas.Bool.{cases_Bool, eqb-true, eqb-false, false≢true, eq-eqb, ne_eqb}
use Rattle.std.proofs.lemmas.List.{get_or-set_same, get_or-set_other, length-set}
use Rattle.arm2_decode.specs.Names.{is_pc, register_number}
use Rattle.arm2_decode.specs.declared.names.Register.{Register}
use Rattle.arm2_effect.specs.declared.modes.Mode.{Mode}
use Rattle.arm2_effect.specs.Modes.{r15_in, slot_of, with_r15, with_register}
use Rattle.arm2_transfer.specs.Registers.{with_base}
use Rattle.arm2_transfer.proofs.Slots.{base_slot, place, slot_of_r15, stands_at}
use Rattle.operation_laws.specs.Left.{LeavesR15, LeavesRegisters, Psr}

-- ## Places

pub no_15 : (r : Register) → is_pc r ≡ false → register_number r ≢ 15
no_15 r other = eqb-false (register_number r) 15 other

pub below_r15 : (mode : Mode) (r : Register) → is_pc r ≡ false → place mode r < 26
below_r15 mode r other = base_slot mode r (no_15 r other)

pub place_of_pc : (mode : Mode) (r : Register) → is_pc r ≡ true → place mode r ≡ 26
place_of_pc mode r last = ap (slot_of mode) (eqb-true (register_number r) 15 last) ∙ slot_of_r15 mode

-- R15 alone is at its place
pub pc_stands : (mode : Mode) (r : Register) → stands_at mode 26 r ≡ is_pc r
pc_stands mode r = elim (cases_Bool (is_pc r)) [
  | inl last ↦ eq-eqb (place mode r) 26 (place_of_pc mode r last) ∙ sym last
  | inr other ↦
      ne_eqb (place mode r) 26 (λ e. omega (arith, below_r15 mode r other, e)) ∙ sym other
]

-- ## One write

module _ (regs : List ℕ) (value : ℕ) where
  pub r15_put : 26 < length regs → r15_in (with_r15 value regs) ≡ value
  r15_put long = get_or-set_same regs 26 value 0 long

  pub r15_apart : (p : ℕ) → p < 26 → slice_index (with_r15 value regs) p ≡ slice_index regs p
  r15_apart p low = get_or-set_other regs 26 p value 0 (λ e. omega (arith, low, e))

  pub put_here : (mode : Mode) (n p : ℕ) → p < length regs → (slot_of mode n == p) ≡ true
      → slice_index (with_register mode n value regs) p ≡ value
  put_here mode n p low here =
      ap (λ (k : ℕ). slice_index (slice_set regs k value) p) (eqb-true (slot_of mode n) p here)
      ∙ get_or-set_same regs p value 0 low

  pub put_apart : (mode : Mode) (n p : ℕ) → (slot_of mode n == p) ≡ false
      → slice_index (with_register mode n value regs) p ≡ slice_index regs p
  put_apart mode n p apart =
      get_or-set_other regs (slot_of mode n) p value 0 (λ e. eqb-false (slot_of mode n) p apart (sym e))

  pub r15_stays : (mode : Mode) (n : ℕ) → slot_of mode n < 26
      → r15_in (with_register mode n value regs) ≡ r15_in regs
  r15_stays mode n low =
      get_or-set_other regs (slot_of mode n) 26 value 0 (λ e. omega (arith, low, e))

  pub with_long : (mode : Mode) (n : ℕ) → length (with_register mode n value regs) ≡ length regs
  with_long mode n = length-set regs (slot_of mode n) value

  pub r15_long : length (with_r15 value regs) ≡ length regs
  r15_long = length-set regs 26 value

-- ## A base

module _ (mode : Mode) (rn : Register) (base : ℕ) (regs : List ℕ) where
  pub based_long : (w : Bool) → length (with_base w mode rn base regs) ≡ length regs
  based_long true = with_long regs base mode (register_number rn)
  based_long false = refl

  pub based_r15 : (w : Bool) → (w ≡ true → is_pc rn ≡ false)
      → r15_in (with_base w mode rn base regs) ≡ r15_in regs
  based_r15 true other = r15_stays regs base mode (register_number rn) (below_r15 mode rn (other refl))
  based_r15 false other = refl

  pub based_here : (w : Bool) (p : ℕ) → p < length regs → (w && stands_at mode p rn) ≡ true
      → slice_index (with_base w mode rn base regs) p ≡ base
  based_here true p low here = put_here regs base mode (register_number rn) p low here
  based_here false p low here = absurd (false≢true here)

  pub based_apart : (w : Bool) (p : ℕ) → (w && stands_at mode p rn) ≡ false
      → slice_index (with_base w mode rn base regs) p ≡ slice_index regs p
  based_apart true p apart = put_apart regs base mode (register_number rn) p apart
  based_apart false p apart = refl

-- ## R15 and at most one other

module _ (regs : List ℕ) (long : length regs ≡ 27) (new to : ℕ) (psr : Psr) (goes : LeavesR15 to psr (r15_in regs) new) where
  pub one_left : (writes : ℕ → Bool) (mode : Mode) (n value : ℕ)
      → ((p : ℕ) → p < 26 → writes p ≡ (slot_of mode n == p))
      → LeavesRegisters writes (λ p word. word ≡ value) to psr regs (with_r15 new (with_register mode n value regs))
  one_left writes mode n value where_is =
      let one : List ℕ = with_register mode n value regs in
      let longer : length one ≡ length regs = with_long regs value mode n in
      record {
        as_many = r15_long one new ∙ longer;
        written = λ p low is.
            r15_apart one new p low
            ∙ put_here regs value mode n p (omega (arith, low, long)) (sym (where_is p low) ∙ is);
        kept = λ p low is. r15_apart one new p low ∙ put_apart regs value mode n p (sym (where_is p low) ∙ is);
        r15 = subst (LeavesR15 to psr (r15_in regs)) (sym (r15_put one new (omega (arith, long, longer)))) goes;
      }

  pub none_left : (writes : ℕ → Bool) (IsWord : ℕ → ℕ → Type 0) → ((p : ℕ) → p < 26 → writes p ≡ false)
      → LeavesRegisters writes IsWord to psr regs (with_r15 new regs)
  none_left writes IsWord none =
      record {
        as_many = r15_long regs new;
        written = λ p low is. absurd (false≢true (sym (none p low) ∙ is));
        kept = λ p low is. r15_apart regs new p low;
        r15 = subst (LeavesR15 to psr (r15_in regs)) (sym (r15_put regs new (omega (arith, long)))) goes;
      }
