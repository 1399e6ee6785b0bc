-- R15 after an instruction: what is written to it, and that no other register changes it.
use Rattle.std.proofs.Common.{◌≡◌, ℕ, ◌+◌, ◌*◌, ◌/◌, ◌%◌, ◌^◌, ◌<◌, ◌==◌, Bool, true, false, cond, List, length, refl, ap, ◌∙◌, arith}
use Rattle.std.proofs.lemmas.Bool.{eqb-false}
use Rattle.std.proofs.lemmas.List.{get_or-set_same, get_or-set_other, length-set}
use Rattle.bus_ticks.specs.Prices.{ahead_of}
use Rattle.arm2_decode.specs.Names.{is_pc, register_number}
use Rattle.arm2_decode.specs.declared.names.Register.{Register}
use Rattle.arm2_effect.specs.declared.modes.Mode.{Mode}
use Rattle.arm2_effect.specs.declared.modes.Mode.TheVariants.{User, Fiq, Irq, Svc}
use Rattle.arm2_effect.specs.Modes.{mode_number, r15_in, slot_of, with_r15, with_register}
use Rattle.arm2_effect.specs.ProgramCounter.{address_of, r15_jumped, mode_of, psr_of, r15_ahead, r15_of, r15_restored}
use Rattle.arm2_transfer.specs.Registers.{with_base, with_loaded, loaded_r15, passed}
use Rattle.arm2_transfer.proofs.Slots.{below_15, slot_below}

-- ## Addresses in R15

-- an address in R15: a multiple of 4 below 4000000
abbrev pub IsWordAddress : ℕ → Type 0
IsWordAddress t = (t < 2 ^ 26) × (t % 4 ≡ 0)

pub word_address_of : (r : ℕ) → IsWordAddress (address_of r)
word_address_of r = (omega arith, omega arith)

pub word_address_ahead : (r n : ℕ) → IsWordAddress (ahead_of (address_of r) (4 * n))
word_address_ahead r n = (omega arith, omega arith)

mode_small : (m : Mode) → mode_number m < 4
mode_small User = omega arith
mode_small Fiq = omega arith
mode_small Irq = omega arith
mode_small Svc = omega arith

pub address_put : (psr t : ℕ) (m : Mode) → IsWordAddress t → address_of (r15_of psr t m) ≡ t
address_put psr t m h = omega (arith, h.0, h.1, mode_small m)

pub address_ahead : (r : ℕ) → address_of (r15_ahead r 4) ≡ ahead_of (address_of r) 4
address_ahead r = address_put (psr_of r) (ahead_of (address_of r) 4) (mode_of r) (word_address_ahead r 1)

address_cond : (b : Bool) (x y t : ℕ) → address_of x ≡ t → address_of y ≡ t → address_of (cond b x y) ≡ t
address_cond true x y t p q = p
address_cond false x y t p q = q

pub address_restored : (r value t : ℕ) → IsWordAddress t → address_of (r15_restored r value t) ≡ t
address_restored r value t h =
    address_cond (r % 4 == 0) (r15_of (value / 2 ^ 28 * 4 + psr_of r % 4) t User) (r15_of (psr_of value) t (mode_of value)) t
    (address_put (value / 2 ^ 28 * 4 + psr_of r % 4) t User h)
    (address_put (psr_of value) t (mode_of value) h)

pub address_jumped : (r value : ℕ) → address_of (r15_jumped r value) ≡ address_of value
address_jumped r value = address_put (psr_of r) (address_of value) (mode_of r) (word_address_of value)

-- ## Writes

pub r15_put : (regs : List ℕ) (value : ℕ) → 26 < length regs → r15_in (with_r15 value regs) ≡ value
r15_put regs value long = get_or-set_same regs 26 value 0 long

pub long_with : (mode : Mode) (n value : ℕ) (regs : List ℕ) → 26 < length regs → 26 < length (with_register mode n value regs)
long_with mode n value regs long = omega (arith, length-set regs (slot_of mode n) value, long)

-- where a value is put into R15, its address is where the step goes
pub goes : (regs : List ℕ) (value t : ℕ) → 26 < length regs → address_of value ≡ t → address_of (r15_in (with_r15 value regs)) ≡ t
goes regs value t long e = ap address_of (r15_put regs value long) ∙ e

apart_r15 : (mode : Mode) (r : Register) → is_pc r ≡ false → 26 ≡ slot_of mode (register_number r) → ⊥
apart_r15 mode r other e = omega (arith, slot_below mode (register_number r) (below_15 r (eqb-false (register_number r) 15 other)), e)

-- a write to another register leaves R15
pub r15_stays : (mode : Mode) (r : Register) (value : ℕ) (regs : List ℕ) → is_pc r ≡ false → r15_in (with_register mode (register_number r) value regs) ≡ r15_in regs
r15_stays mode r value regs other = get_or-set_other regs (slot_of mode (register_number r)) 26 value 0 (apart_r15 mode r other)

-- a base that is written back is not R15
pub base_stays : (write_back : Bool) (mode : Mode) (rn : Register) (base : ℕ) (regs : List ℕ) → (write_back ≡ true → is_pc rn ≡ false) → r15_in (with_base write_back mode rn base regs) ≡ r15_in regs
base_stays true mode rn base regs other = r15_stays mode rn base regs (other refl)
base_stays false mode rn base regs other = refl

pub loaded_stays : (psr : Bool) (mode : Mode) (r : ℕ) (register : Register) (word : ℕ) (regs : List ℕ) → is_pc register ≡ false → r15_in (with_loaded psr mode r register word regs) ≡ r15_in regs
loaded_stays psr mode r register word regs other =
    ap (λ (b : Bool). r15_in (cond b (with_r15 (loaded_r15 psr r word) regs) (with_register mode (register_number register) word regs))) other
    ∙ r15_stays mode register word regs other

-- a loaded word in R15
address_loaded : (psr : Bool) (r word : ℕ) → address_of (loaded_r15 psr r word) ≡ address_of word
address_loaded true r word = address_restored r word (address_of word) (word_address_of word)
address_loaded false r word = address_jumped r word

pub loaded_goes : (psr : Bool) (mode : Mode) (r : ℕ) (register : Register) (word : ℕ) (regs : List ℕ) → 26 < length regs → is_pc register ≡ true → address_of (r15_in (with_loaded psr mode r register word regs)) ≡ address_of word
loaded_goes psr mode r register word regs long last =
    ap (λ (b : Bool). address_of (r15_in (cond b (with_r15 (loaded_r15 psr r word) regs) (with_register mode (register_number register) word regs)))) last
    ∙ goes regs (loaded_r15 psr r word) (address_of word) long (address_loaded psr r word)

long_cond : (b : Bool) (xs ys : List ℕ) → 26 < length xs → 26 < length ys → 26 < length (cond b xs ys)
long_cond true xs ys h k = h
long_cond false xs ys h k = k

pub long_r15 : (regs : List ℕ) (value : ℕ) → 26 < length regs → 26 < length (with_r15 value regs)
long_r15 regs value long = omega (arith, length-set regs 26 value, long)

pub long_based : (write_back : Bool) (mode : Mode) (rn : Register) (base : ℕ) (regs : List ℕ) → 26 < length regs → 26 < length (with_base write_back mode rn base regs)
long_based write_back mode rn base regs long =
    long_cond write_back (with_register mode (register_number rn) base regs) regs (long_with mode (register_number rn) base regs long) long

pub long_loaded : (psr : Bool) (mode : Mode) (r : ℕ) (register : Register) (word : ℕ) (regs : List ℕ) → 26 < length regs → 26 < length (with_loaded psr mode r register word regs)
long_loaded psr mode r register word regs long =
    long_cond (is_pc register) (with_r15 (loaded_r15 psr r word) regs) (with_register mode (register_number register) word regs)
    (long_r15 regs (loaded_r15 psr r word) long)
    (long_with mode (register_number register) word regs long)

-- R15 one instruction on
pub passed_goes : (regs : List ℕ) → 26 < length regs → address_of (r15_in (passed regs)) ≡ ahead_of (address_of (r15_in regs)) 4
passed_goes regs long = goes regs (r15_ahead (r15_in regs) 4) (ahead_of (address_of (r15_in regs)) 4) long (address_ahead (r15_in regs))
