-- R15 after an instruction, by its parts.
use Rattle.std.proofs.Common.{◌≡◌, ℕ, ◌+◌, ◌*◌, ◌/◌, ◌%◌, ◌^◌, ◌<◌, ◌≤◌, ◌==◌, Bool, true, false, cond, refl, sym, ap, ◌∙◌, arith}
use Rattle.std.proofs.lemmas.Bool.{cond_both, eqb-true}
use Rattle.bus_ticks.specs.Prices.{ahead_of}
use Rattle.arm2_decode.specs.Allowed.{bit_of}
use Rattle.arm2_decode.specs.declared.flags.Flags.{Flags}
use Rattle.arm2_effect.specs.declared.modes.Mode.{Mode}
use Rattle.arm2_effect.specs.declared.modes.Mode.TheVariants.{User, Fiq, Irq, Svc}
use Rattle.arm2_effect.specs.Modes.{is_user, mode_named, mode_number}
use Rattle.arm2_effect.specs.Operations.{next_r15}
use Rattle.arm2_effect.specs.Outcomes.{flags_after}
use Rattle.arm2_effect.specs.ProgramCounter.{address_of, branch_target, flags_of, is_fiq_masked, is_irq_masked, mode_of, psr_of, psr_with, r15_ahead, r15_jumped, r15_of, r15_restored}
use Rattle.operation_laws.specs.Left.{LeavesR15, Kept, Flagged, Restored}

-- an address in R15: a multiple of 4 below 4000000
abbrev pub IsWordAddress : ℕ → Type 0
IsWordAddress a = (a < 2 ^ 26) × (a % 4 ≡ 0)

pub is_word_address : (r : ℕ) → IsWordAddress (address_of r)
is_word_address r = (omega arith, omega arith)

pub next_word_address : (r : ℕ) → IsWordAddress (ahead_of (address_of r) 4)
next_word_address r = (omega arith, omega arith)

-- ## Its parts

number_small : (m : Mode) → mode_number m < 4
number_small User = omega arith
number_small Fiq = omega arith
number_small Irq = omega arith
number_small Svc = omega arith

named_back : (m : Mode) → mode_named (mode_number m) ≡ m
named_back User = refl
named_back Fiq = refl
named_back Irq = refl
named_back Svc = refl

module _ (psr a : ℕ) (m : Mode) (is_word : IsWordAddress a) where
  address_put : address_of (r15_of psr a m) ≡ a
  address_put = omega (arith, is_word.0, is_word.1, number_small m)

  psr_put : psr_of (r15_of psr a m) ≡ psr
  psr_put = omega (arith, is_word.0, is_word.1, number_small m)

  mode_put : mode_of (r15_of psr a m) ≡ m
  mode_put =
      let small = number_small m in
      let low : r15_of psr a m % 4 ≡ mode_number m = omega (arith, is_word.1, small) in
      ap mode_named low ∙ named_back m

same_flags : (f g : Flags) → f.negative ≡ g.negative → f.zero ≡ g.zero → f.carry ≡ g.carry
    → f.overflow ≡ g.overflow → f ≡ g
same_flags f g n z c v = λ i. record { negative = n i; zero = z i; carry = c i; overflow = v i }

-- the flags of two words with the same PSR but for I and F, and those masks
bit_same : (m n : ℕ) → m ≡ n → (m == 1) ≡ (n == 1)
bit_same m n e = ap (λ k. k == 1) e

module _ (x y : ℕ) where
  flags_same : psr_of x / 4 ≡ psr_of y / 4 → flags_of x ≡ flags_of y
  flags_same e =
      same_flags (flags_of x) (flags_of y)
      (bit_same (x / 2 ^ 31 % 2) (y / 2 ^ 31 % 2) (omega (arith, e)))
      (bit_same (x / 2 ^ 30 % 2) (y / 2 ^ 30 % 2) (omega (arith, e)))
      (bit_same (x / 2 ^ 29 % 2) (y / 2 ^ 29 % 2) (omega (arith, e)))
      (bit_same (x / 2 ^ 28 % 2) (y / 2 ^ 28 % 2) (omega (arith, e)))

  fiq_same : psr_of x % 4 ≡ psr_of y % 4 → is_fiq_masked x ≡ is_fiq_masked y
  fiq_same e = bit_same (x / 2 ^ 26 % 2) (y / 2 ^ 26 % 2) (omega (arith, e))

  irq_same : psr_of x % 4 ≡ psr_of y % 4 → is_irq_masked x ≡ is_irq_masked y
  irq_same e = bit_same (x / 2 ^ 27 % 2) (y / 2 ^ 27 % 2) (omega (arith, e))

bit_fits : (b : Bool) → bit_of b ≤ 1
bit_fits true = omega arith
bit_fits false = omega arith

bit_is : (n : ℕ) (b : Bool) → n ≡ bit_of b → (n == 1) ≡ b
bit_is n true e = bit_same n 1 e
bit_is n false e = bit_same n 0 e

-- flags that were put into a PSR
flags_put : (f : Flags) (psr r : ℕ) → psr_of r ≡ psr_with f psr → flags_of r ≡ f
flags_put f psr r e =
    let n = bit_fits f.negative in
    let z = bit_fits f.zero in
    let c = bit_fits f.carry in
    let v = bit_fits f.overflow in
    same_flags (flags_of r) f
    (bit_is (r / 2 ^ 31 % 2) f.negative (omega (arith, n, z, c, v, e)))
    (bit_is (r / 2 ^ 30 % 2) f.zero (omega (arith, n, z, c, v, e)))
    (bit_is (r / 2 ^ 29 % 2) f.carry (omega (arith, n, z, c, v, e)))
    (bit_is (r / 2 ^ 28 % 2) f.overflow (omega (arith, n, z, c, v, e)))

-- ## What is left

module _ (r a : ℕ) (is_word : IsWordAddress a) where
  -- the PSR and the mode stay
  pub kept_left : LeavesR15 a Kept r (r15_of (psr_of r) a (mode_of r))
  kept_left =
      let new : ℕ = r15_of (psr_of r) a (mode_of r) in
      let psr = psr_put (psr_of r) a (mode_of r) is_word in
      record {
        address = address_put (psr_of r) a (mode_of r) is_word;
        flags = flags_same new r (ap (λ n. n / 4) psr);
        fiq = fiq_same new r (ap (λ n. n % 4) psr);
        irq = irq_same new r (ap (λ n. n % 4) psr);
        mode = mode_put (psr_of r) a (mode_of r) is_word;
      }

  -- the flags are set
  pub flagged_left : (f : Flags) → LeavesR15 a (Flagged f) r (r15_of (psr_with f (psr_of r)) a (mode_of r))
  flagged_left f =
      let new : ℕ = r15_of (psr_with f (psr_of r)) a (mode_of r) in
      let psr = psr_put (psr_with f (psr_of r)) a (mode_of r) is_word in
      let low : psr_of new % 4 ≡ psr_of r % 4 = omega (arith, psr) in
      record {
        address = address_put (psr_with f (psr_of r)) a (mode_of r) is_word;
        flags = flags_put f (psr_of r) new psr;
        fiq = fiq_same new r low;
        irq = irq_same new r low;
        mode = mode_put (psr_with f (psr_of r)) a (mode_of r) is_word;
      }

  -- those of a word come in, by the mode
  abbrev RestoredLeft : (w new : ℕ) → Type 0
  RestoredLeft w new = LeavesR15 a (Restored w) r new

  user_left : (w : ℕ) → mode_of r ≡ User → RestoredLeft w (r15_of (w / 2 ^ 28 * 4 + psr_of r % 4) a User)
  user_left w in_user =
      let new : ℕ = r15_of (w / 2 ^ 28 * 4 + psr_of r % 4) a User in
      let psr = psr_put (w / 2 ^ 28 * 4 + psr_of r % 4) a User is_word in
      let high : psr_of new / 4 ≡ psr_of w / 4 = omega (arith, psr) in
      let low : psr_of new % 4 ≡ psr_of r % 4 = omega (arith, psr) in
      let stays : r ≡ cond (is_user (mode_of r)) r w = rw in_user refl in
      record {
        address = address_put (w / 2 ^ 28 * 4 + psr_of r % 4) a User is_word;
        flags = flags_same new w high;
        fiq = fiq_same new r low ∙ ap is_fiq_masked stays;
        irq = irq_same new r low ∙ ap is_irq_masked stays;
        mode = mode_put (w / 2 ^ 28 * 4 + psr_of r % 4) a User is_word ∙ sym in_user ∙ ap mode_of stays;
      }

  other_left : (w : ℕ) → is_user (mode_of r) ≡ false → RestoredLeft w (r15_of (psr_of w) a (mode_of w))
  other_left w no_user =
      let new : ℕ = r15_of (psr_of w) a (mode_of w) in
      let psr = psr_put (psr_of w) a (mode_of w) is_word in
      let comes : w ≡ cond (is_user (mode_of r)) r w = ap (λ (b : Bool). cond b r w) (sym no_user) in
      record {
        address = address_put (psr_of w) a (mode_of w) is_word;
        flags = flags_same new w (ap (λ n. n / 4) psr);
        fiq = fiq_same new w (ap (λ n. n % 4) psr) ∙ ap is_fiq_masked comes;
        irq = irq_same new w (ap (λ n. n % 4) psr) ∙ ap is_irq_masked comes;
        mode = mode_put (psr_of w) a (mode_of w) is_word ∙ ap mode_of comes;
      }

  named_user : (n : ℕ) → (n == 0) ≡ true → mode_named n ≡ User
  named_user n e = ap mode_named (eqb-true n 0 e)

  named_other : (n : ℕ) → (n == 0) ≡ false → is_user (mode_named n) ≡ false
  named_other n e = rw e (by_rest (n == 1) (n == 2))
    where
      by_rest : (b c : Bool) → is_user (cond b Fiq (cond c Irq Svc)) ≡ false
      by_rest true c = refl
      by_rest false true = refl
      by_rest false false = refl

  pub restored_left : (w : ℕ) → RestoredLeft w (r15_restored r w a)
  restored_left w =
      cond_both (r % 4 == 0) (r15_of (w / 2 ^ 28 * 4 + psr_of r % 4) a User) (r15_of (psr_of w) a (mode_of w))
      (RestoredLeft w)
      (λ e. user_left w (named_user (r % 4) e))
      (λ e. other_left w (named_other (r % 4) e))

-- ## By the code's names

pub ahead_left : (r : ℕ) → LeavesR15 (ahead_of (address_of r) 4) Kept r (r15_ahead r 4)
ahead_left r = kept_left r (ahead_of (address_of r) 4) (next_word_address r)

pub jumped_left : (r w : ℕ) → LeavesR15 (address_of w) Kept r (r15_jumped r w)
jumped_left r w = kept_left r (address_of w) (is_word_address w)

pub next_left : (sets : Bool) (out : _) (r : ℕ)
    → LeavesR15 (ahead_of (address_of r) 4) (cond sets (Flagged (flags_after out)) Kept) r (next_r15 sets out r)
next_left true out r = flagged_left r (ahead_of (address_of r) 4) (next_word_address r) (flags_after out)
next_left false out r = ahead_left r

pub branched_left : (r offset : ℕ)
    → LeavesR15 (branch_target (address_of r) offset) Kept r (r15_of (psr_of r) (branch_target (address_of r) offset) (mode_of r))
branched_left r offset = kept_left r (branch_target (address_of r) offset) (omega arith, omega arith)
