-- What the registers hold of a machine that is at a word, with both interrupts masked.
use Rattle.std.proofs.Common.{◌≡◌, ℕ, ◌/◌, ◌%◌, ◌^◌, ◌==◌, ◌&&◌, not, Bool, true, false, cond, None}
use Rattle.std.proofs.Common.{Some, refl, ap, ◌∙◌, arith}
use Rattle.arm2_decode.specs.Allowed.{bit_of}
use Rattle.arm2_decode.specs.declared.flags.Flags.{Flags}
use Rattle.arm2_decode.proofs.WordLemmas.{bit_fits}
use Rattle.bus_ticks.specs.declared.profile.Profile.{Profile}
use Rattle.arm2_effect.specs.declared.exceptions.Vector.TheVariants as vector
use Rattle.arm2_effect.specs.declared.modes.Mode.TheVariants.{Svc}
use Rattle.arm2_effect.specs.Modes.{mode_named, r15_in}
use Rattle.arm2_effect.specs.ProgramCounter.{address_of, flags_of, is_fiq_masked, is_irq_masked, mode_of}
use Rattle.arm2_effect.specs.ProgramCounter.{psr_with, r15_of}
use Rattle.arm2_exec.specs.State.{State}
use Rattle.arm2_exec.specs.Step.{address_in, interrupt_due, with_lines}
use Rattle.flow_graph.specs.TightWork.{FetchesAt, masked}
use Rattle.flow_graph.proofs.StepRegisters.{IsWordAddress, address_put}

-- ## R15 of SVC mode with both interrupts masked

abbrev r15_at : Flags → ℕ → ℕ
r15_at f address = r15_of (psr_with f masked) address Svc

mode_put : (f : Flags) (address : ℕ) → IsWordAddress address → mode_of (r15_at f address) ≡ Svc
mode_put f address h =
    let three : r15_at f address % 4 ≡ 3 = omega (arith, h.1) in
    ap mode_named three

-- a flag as a number is told apart by its bit
bit_read : (b : Bool) → (bit_of b == 1) ≡ b
bit_read true = refl
bit_read false = refl

bit_is : (n : ℕ) (b : Bool) → n ≡ bit_of b → (n == 1) ≡ b
bit_is n b e = ap (λ m. m == 1) e ∙ bit_read b

same_flags : (f g : Flags) → f.negative ≡ g.negative → f.zero ≡ g.zero → f.carry ≡ g.carry
    → f.overflow ≡ g.overflow → f ≡ g
same_flags f g n z c v = λ i. record { negative = n i; zero = z i; carry = c i; overflow = v i }

flags_put : (f : Flags) (address : ℕ) → IsWordAddress address → flags_of (r15_at f address) ≡ f
flags_put f address h =
    let n = bit_fits f.negative in
    let z = bit_fits f.zero in
    let c = bit_fits f.carry in
    let v = bit_fits f.overflow in
    same_flags (flags_of (r15_at f address)) f
    (bit_is (r15_at f address / 2 ^ 31 % 2) f.negative (omega (arith, n, z, c, v, h.0, h.1)))
    (bit_is (r15_at f address / 2 ^ 30 % 2) f.zero (omega (arith, n, z, c, v, h.0, h.1)))
    (bit_is (r15_at f address / 2 ^ 29 % 2) f.carry (omega (arith, n, z, c, v, h.0, h.1)))
    (bit_is (r15_at f address / 2 ^ 28 % 2) f.overflow (omega (arith, n, z, c, v, h.0, h.1)))

fiq_masked : (f : Flags) (address : ℕ) → IsWordAddress address → is_fiq_masked (r15_at f address) ≡ true
fiq_masked f address h =
    let one : r15_at f address / 2 ^ 26 % 2 ≡ 1 = omega (arith, h.0, h.1) in
    ap (λ n. n == 1) one

irq_masked : (f : Flags) (address : ℕ) → IsWordAddress address → is_irq_masked (r15_at f address) ≡ true
irq_masked f address h =
    let one : r15_at f address / 2 ^ 27 % 2 ≡ 1 = omega (arith, h.0, h.1) in
    ap (λ n. n == 1) one

-- ## What is due

none_due : (fiq irq : Bool) (fiq_off irq_off : Bool) → fiq_off ≡ true → irq_off ≡ true →
    cond (fiq && not fiq_off) (Some vector.Fiq) (cond (irq && not irq_off) (Some vector.Irq) None) ≡ None
none_due true true true true f i = refl
none_due true false true true f i = refl
none_due false true true true f i = refl
none_due false false true true f i = refl
none_due fiq irq false irq_off f i = absurd (cc)
none_due fiq irq true false f i = absurd (cc)

-- ## The machine

module _ (profile : Profile) (word address : ℕ) (flags : Flags) (s : State)
    (begins : FetchesAt profile word address flags s) where
  is_word : IsWordAddress address
  is_word = (begins.below, begins.whole)

  pub at_address : address_in s.regs ≡ address
  at_address = ap address_of begins.r15 ∙ address_put (psr_with flags masked) address Svc is_word

  pub in_svc : mode_of (r15_in s.regs) ≡ Svc
  in_svc = ap mode_of begins.r15 ∙ mode_put flags address is_word

  pub flags_are : flags_of (r15_in s.regs) ≡ flags
  flags_are = ap flags_of begins.r15 ∙ flags_put flags address is_word

  pub no_interrupt : (lines : ℕ) → interrupt_due (with_lines lines s.bus) (r15_in s.regs) ≡ None
  no_interrupt lines =
      none_due _ _ (is_fiq_masked (r15_in s.regs)) (is_irq_masked (r15_in s.regs))
      (ap is_fiq_masked begins.r15 ∙ fiq_masked flags address is_word)
      (ap is_irq_masked begins.r15 ∙ irq_masked flags address is_word)
