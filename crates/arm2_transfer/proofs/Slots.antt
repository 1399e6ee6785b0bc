-- Where registers are among the 27, and what one of them holds after others were written.
use Rattle.std.proofs.Common.{◌≡◌, ◌≢◌, ℕ, ◌<◌, ◌==◌, Bool, true, false, not, ◌&&◌, cond, List, [], ◌∷◌, length, refl, sym, ◌∙◌, ap, arith, inl, inr}
use Rattle.std.specs.Prelude.{slice_index, slice_set, filter}
use Rattle.std.specs.List.{list_any}
use Rattle.std.proofs.lemmas.Bool.{and_parts, cases_Bool, cond-false, cond-true, eq-eqb, eqb-true, eqb-false, ne_eqb, not-true, or_from, or_parts}
use Rattle.std.proofs.lemmas.Bool.Decides.{nat_tests}
use Rattle.std.proofs.lemmas.List.{get_or-set_same, get_or-set_other, length-set}
use Rattle.arm2_decode.specs.declared.names.Register.{Register}
use Rattle.arm2_decode.specs.Names.{is_pc, register_number}
use Rattle.arm2_decode.proofs.NameLemmas.{register_fits}
use Rattle.arm2_effect.specs.declared.modes.Mode.{Mode}
use Rattle.arm2_effect.specs.declared.modes.Mode.TheVariants.{User}
use Rattle.arm2_effect.specs.Modes.{r15_in, slot_of, with_r15}
use Rattle.arm2_effect.specs.ProgramCounter.{r15_ahead}
use Rattle.arm2_decode.specs.Transfers.{all_registers}
use Rattle.arm2_transfer.specs.Registers.{given, loaded_r15, passed, with_base, with_loaded}

-- ## Where a register is

pub below_15 : (r : Register) → register_number r ≢ 15 → register_number r < 15
below_15 r h = omega (arith, register_fits r, h)

pub slot_below : (mode : Mode) (n : ℕ) → n < 15 → slot_of mode n < 26
slot_below User n h = grind (arith, nat_tests)
slot_below _ n h = grind (arith, nat_tests)

slot_same : (mode : Mode) (a b : ℕ) → a < 16 → b < 15 → slot_of mode a ≡ slot_of mode b → a ≡ b
slot_same User a b f h e = grind (arith, nat_tests)
slot_same _ a b f h e = grind (arith, nat_tests)

pub slot_of_r15 : (mode : Mode) → slot_of mode 15 ≡ 26
slot_of_r15 User = refl
slot_of_r15 _ = refl

-- the place of a mode's register, and whether a register is at a place
abbrev pub place : Mode → Register → ℕ
place mode r = slot_of mode (register_number r)

abbrev pub stands_at : Mode → ℕ → Register → Bool
stands_at mode s r = place mode r == s

-- a base is before R15
pub base_slot : (mode : Mode) (rn : Register) → register_number rn ≢ 15 → place mode rn < 26
base_slot mode rn other = slot_below mode (register_number rn) (below_15 rn other)

pub same_stands : (mode : Mode) (r rn : Register) → (register_number r == register_number rn) ≡ true
    → stands_at mode (place mode rn) r ≡ true
same_stands mode r rn same =
    let number = eqb-true (register_number r) (register_number rn) same in
    eq-eqb (place mode r) (place mode rn) (ap (slot_of mode) number)

pub other_stands : (mode : Mode) (r rn : Register) → register_number rn ≢ 15
    → (register_number r == register_number rn) ≡ false → stands_at mode (place mode rn) r ≡ false
other_stands mode r rn base other =
    ne_eqb (place mode r) (place mode rn) (λ e. eqb-false (register_number r) (register_number rn) other
    (slot_same mode (register_number r) (register_number rn) (register_fits r) (below_15 rn base) e))

no_r15 : (mode : Mode) (s : ℕ) (r : Register) → s < 26 → stands_at mode s r ≡ true → is_pc r ≡ false
no_r15 mode s r low here = elim (cases_Bool (is_pc r)) [
  | inl last ↦
      let number : register_number r ≡ 15 = eqb-true (register_number r) 15 last in
      let at : place mode r ≡ 26 = ap (slot_of mode) number ∙ slot_of_r15 mode in
      absurd (omega (arith, low, at, eqb-true (place mode r) s here))
  | inr other ↦ other
]

-- ## One write

module _ (mode : Mode) (s : ℕ) (register : Register) (regs : List ℕ) (low : s < 26) where
  apart_from_r15 : s ≢ 26
  apart_from_r15 same = omega (arith, low, same)

  at_place : stands_at mode s register ≡ true → place mode register ≡ s
  at_place here = eqb-true (place mode register) s here

  pub loaded_here : (psr : Bool) (r word : ℕ) → 26 < length regs → stands_at mode s register ≡ true
      → slice_index (with_loaded psr mode r register word regs) s ≡ word
  loaded_here psr r word long here =
      ap (λ (xs : List ℕ). slice_index xs s)
      (cond-false (is_pc register) _ _ (no_r15 mode s register low here))
      ∙ ap (λ (k : ℕ). slice_index (slice_set regs k word) s) (at_place here)
      ∙ get_or-set_same regs s word 0 (omega (arith, low, long))

  pub loaded_apart : (psr : Bool) (r word : ℕ) → stands_at mode s register ≡ false
      → slice_index (with_loaded psr mode r register word regs) s ≡ slice_index regs s
  loaded_apart psr r word apart = elim (cases_Bool (is_pc register)) [
    | inl last ↦
        ap (λ (xs : List ℕ). slice_index xs s) (cond-true (is_pc register) _ _ last)
        ∙ get_or-set_other regs 26 s (loaded_r15 psr r word) 0 apart_from_r15
    | inr other ↦
        ap (λ (xs : List ℕ). slice_index xs s) (cond-false (is_pc register) _ _ other)
        ∙ get_or-set_other regs (place mode register) s word 0
        (λ same. eqb-false (place mode register) s apart (sym same))
  ]

  pub loaded_long : (psr : Bool) (r word : ℕ) → 26 < length regs
      → 26 < length (with_loaded psr mode r register word regs)
  loaded_long psr r word long = elim (cases_Bool (is_pc register)) [
    | inl last ↦
        rw (cond-true (is_pc register) (with_r15 (loaded_r15 psr r word) regs) _ last)
        (omega (arith, long, length-set regs 26 (loaded_r15 psr r word)))
    | inr other ↦
        rw (cond-false (is_pc register) _ (slice_set regs (place mode register) word) other)
        (omega (arith, long, length-set regs (place mode register) word))
  ]

  -- what a store takes from a register: from one that is at the place, and from another once the place was written
  pub given_here : stands_at mode s register ≡ true → given mode register regs ≡ slice_index regs s
  given_here here =
      cond-false (is_pc register) _ _ (no_r15 mode s register low here)
      ∙ ap (slice_index regs) (at_place here)

  pub given_apart : (word : ℕ) → stands_at mode s register ≡ false
      → given mode register (slice_set regs s word) ≡ given mode register regs
  given_apart word apart = elim (cases_Bool (is_pc register)) [
    | inl last ↦
        cond-true (is_pc register) _ _ last
        ∙ ap (λ (r : ℕ). r15_ahead r 12)
        (get_or-set_other regs s 26 word 0 (λ same. apart_from_r15 (sym same)))
        ∙ sym (cond-true (is_pc register) _ _ last)
    | inr other ↦
        cond-false (is_pc register) _ _ other
        ∙ get_or-set_other regs s (place mode register) word 0 (eqb-false (place mode register) s apart)
        ∙ sym (cond-false (is_pc register) _ _ other)
  ]

-- ## The base's write

module _ (mode : Mode) (rn : Register) (base : ℕ) (regs : List ℕ) (low : place mode rn < 26)
    (long : 26 < length regs) where
  pub passed_base : slice_index (passed regs) (place mode rn) ≡ slice_index regs (place mode rn)
  passed_base =
      get_or-set_other regs 26 (place mode rn) (r15_ahead (r15_in regs) 4) 0
      (λ same. omega (arith, low, same))

  pub passed_long : 26 < length (passed regs)
  passed_long = omega (arith, long, length-set regs 26 (r15_ahead (r15_in regs) 4))

  pub based_written : (writes : Bool) → writes ≡ true
      → slice_index (with_base writes mode rn base regs) (place mode rn) ≡ base
  based_written true is = get_or-set_same regs (place mode rn) base 0 (omega (arith, low, long))
  based_written false is = absurd cc

  pub based_kept : (writes : Bool) → writes ≡ false
      → slice_index (with_base writes mode rn base regs) (place mode rn) ≡ slice_index regs (place mode rn)
  based_kept true is = absurd cc
  based_kept false is = refl

  pub based_long : (writes : Bool) → 26 < length (with_base writes mode rn base regs)
  based_long true = omega (arith, long, length-set regs (place mode rn) base)
  based_long false = long

-- ## No two registers of a mode are at one place

abbrev Apart : Mode → List Register → Type 0
Apart mode [] = Unit {0}
Apart mode (r ∷ rest) = (list_any (stands_at mode (place mode r)) rest ≡ false) × Apart mode rest

abbrev are_apart : Mode → List Register → Bool
are_apart mode [] = true
are_apart mode (r ∷ rest) = not (list_any (stands_at mode (place mode r)) rest) && are_apart mode rest

apart_from : (mode : Mode) (xs : List Register) → are_apart mode xs ≡ true → Apart mode xs
apart_from mode [] all = tt
apart_from mode (r ∷ rest) all =
    let parts = and_parts _ (are_apart mode rest) all in
    (not-true _ parts.0, apart_from mode rest parts.1)

all_apart : (mode : Mode) → are_apart mode all_registers ≡ true
unfolding all_registers
all_apart User = refl
all_apart _ = refl

none_chosen : (test : Register → Bool) (x : Register) (xs : List Register) (kept : Bool)
    → test x ≡ false → list_any test xs ≡ false → list_any test (cond kept (x ∷ xs) xs) ≡ false
none_chosen test x xs true here rest = or_from (test x) (list_any test xs) here rest
none_chosen test x xs false here rest = rest

none_filtered : (test kept : Register → Bool) (xs : List Register)
    → list_any test xs ≡ false → list_any test (filter kept xs) ≡ false
none_filtered test kept [] none = refl
none_filtered test kept (x ∷ xs) none =
    let parts = or_parts (test x) (list_any test xs) none in
    none_chosen test x (filter kept xs) (kept x) parts.0 (none_filtered test kept xs parts.1)

apart_chosen : (mode : Mode) (x : Register) (xs : List Register) (kept : Bool)
    → list_any (stands_at mode (place mode x)) xs ≡ false → Apart mode xs → Apart mode (cond kept (x ∷ xs) xs)
apart_chosen mode x xs true here rest = (here, rest)
apart_chosen mode x xs false here rest = rest

apart_filtered : (mode : Mode) (kept : Register → Bool) (xs : List Register) → Apart mode xs
    → Apart mode (filter kept xs)
apart_filtered mode kept [] all = tt
apart_filtered mode kept (x ∷ xs) all =
    apart_chosen mode x (filter kept xs) (kept x)
    (none_filtered (stands_at mode (place mode x)) kept xs all.0)
    (apart_filtered mode kept xs all.1)

-- after a register that is at a place, no other of the list is
abbrev pub AtMostOne : Mode → ℕ → List Register → Type 0
AtMostOne mode s [] = Unit {0}
AtMostOne mode s (r ∷ rest) =
    (stands_at mode s r ≡ true → list_any (stands_at mode s) rest ≡ false) × AtMostOne mode s rest

one_of_apart : (mode : Mode) (s : ℕ) (xs : List Register) → Apart mode xs → AtMostOne mode s xs
one_of_apart mode s [] all = tt
one_of_apart mode s (r ∷ rest) all =
    let at : (k : ℕ) → place mode r ≡ k → list_any (stands_at mode k) rest ≡ false =
    λ k here. ap (λ (k : ℕ). list_any (stands_at mode k) rest) (sym here) ∙ all.0 in
    ((λ here. at s (eqb-true (place mode r) s here)), one_of_apart mode s rest all.1)

pub one_listed : (mode : Mode) (s : ℕ) (kept : Register → Bool) → AtMostOne mode s (filter kept all_registers)
one_listed mode s kept =
    one_of_apart mode s (filter kept all_registers)
    (apart_filtered mode kept all_registers (apart_from mode all_registers (all_apart mode)))
