-- The lowest of some faults, joined from the parts that they come from.
use Rattle.std.proofs.Common.{◌≡◌, ◌≤◌, ◌==◌, ℕ, Bool, true, false, Option, Some, None, Result, Ok, Err, refl, sym, ap, subst, ◌∙◌, inl, inr, ◌⊎◌, arith}
use Rattle.std.proofs.lemmas.Bool.{cases_Bool}
use Rattle.std.specs.Prelude.{nat_lt, if◌then◌else◌}
use Rattle.std.proofs.lemmas.Bool.Decides.{nat_tests}
use Rattle.std.specs.Result.{result_err}
use Rattle.asm_text.proofs.WordLaws.{false_true}
use Rattle.assembler.specs.Faults.{lower, number}
use Rattle.assembler.specs.Refusals.{IsLowest}
use Rattle.assembler.specs.declared.fault.LineFault.{LineFault}
use Rattle.assembler.specs.declared.fault.LineFault.TheVariants.{NotText, UnknownWord, BadOperand, ImmediateNotRotated, BranchTooFar, LabelTwice, LabelMissing, OutOfRange, Unallocated, TooLong}

-- the lowest fault of those that hold, or none does
unfoldable pub IsLeast : (LineFault → Type 0) → Option LineFault → Type 0
IsLeast Has None = (fault : LineFault) → Has fault → ⊥
IsLeast Has (Some fault) = IsLowest Has fault

pub either : (o : Option LineFault) → (o ≡ None) ⊎ ((f : LineFault) × (o ≡ Some f))
either None = inl refl
either (Some f) = inr (f, refl)

-- ## Numbers

pub same_le : (f g : LineFault) → f ≡ g → number f ≤ number g
same_le f g e = subst (λ x. number f ≤ number x) e (omega arith)

abbrev fault_at : ℕ → LineFault
fault_at n =
    if n == 2 then NotText
    else if n == 3 then UnknownWord
    else if n == 4 then BadOperand
    else if n == 5 then ImmediateNotRotated
    else if n == 6 then BranchTooFar
    else if n == 7 then LabelTwice
    else if n == 8 then LabelMissing
    else if n == 9 then OutOfRange
    else if n == 10 then Unallocated
    else TooLong

back : (f : LineFault) → fault_at (number f) ≡ f
back NotText = refl
back _ = refl

same_number : (f g : LineFault) → number f ≡ number g → f ≡ g
same_number f g e = sym (back f) ∙ ap fault_at e ∙ back g

-- ## One part

pub least_none : IsLeast (λ f. ⊥) None
unfolding IsLeast
least_none = λ f h. h

pub least_option : (o : Option LineFault) → IsLeast (λ f. o ≡ Some f) o
unfolding IsLeast
least_option None = λ f e. let k = e in absurd cc
least_option (Some g) = record { holds = refl; lowest = λ f e. same_le g f (let k = e in cc) }

pub least_result : {A : Type 0} (r : Result A LineFault) → IsLeast (λ f. r ≡ Err f) (result_err r)
unfolding IsLeast
least_result (Ok a) = λ f e. let k = e in absurd cc
least_result (Err g) = record { holds = refl; lowest = λ f e. same_le g f (let k = e in cc) }

abbrev pub guard : Bool → LineFault → Option LineFault
guard b g = if b then Some g else None

pub least_guard : (b : Bool) (g : LineFault) (M : Type 0) → (b ≡ true → M) → (M → b ≡ true)
    → IsLeast (λ f. (f ≡ g) × M) (guard b g)
unfolding IsLeast
least_guard true g M there again =
    record { holds = (refl, there refl); lowest = λ f e. same_le g f (sym e.0) }
least_guard false g M there again = λ f e. false_true (again e.1)

-- ## Two parts

chain : (a b c : ℕ) → a ≤ b → b ≤ c → a ≤ c
chain a b c h k = omega (arith, h, k)

pub least_both : (P Q : LineFault → Type 0) (a b : Option LineFault) → IsLeast P a → IsLeast Q b
    → IsLeast (λ f. P f ⊎ Q f) (lower a b)
unfolding IsLeast
least_both P Q None None h k = λ f e. elim e [ inl x ↦ h f x | inr x ↦ k f x ]
least_both P Q None (Some b) h k =
    record { holds = inr k.holds; lowest = λ f e. elim e [ inl x ↦ absurd (h f x) | inr x ↦ k.lowest f x ] }
least_both P Q (Some a) None h k =
    record { holds = inl h.holds; lowest = λ f e. elim e [ inl x ↦ h.lowest f x | inr x ↦ absurd (k f x) ] }
least_both P Q (Some a) (Some b) h k =
    elim (cases_Bool (nat_lt (number b) (number a))) [
      | inl t ↦ let lt : number b ≤ number a = grind (arith, nat_tests, t) in rw t (lowest_is b (inr k.holds) lt (omega arith))
      | inr t ↦ let le : number a ≤ number b = grind (arith, nat_tests, t) in rw t (lowest_is a (inl h.holds) (omega arith) le)
    ]
  where
    -- the lower of the two
    lowest_is : (c : LineFault) → P c ⊎ Q c → number c ≤ number a → number c ≤ number b
        → IsLowest (λ f. P f ⊎ Q f) c
    lowest_is c there under-a under-b = record {
      holds = there;
      lowest =
          λ f e. elim e [
            | inl x ↦ chain (number c) (number a) (number f) under-a (h.lowest f x)
            | inr x ↦ chain (number c) (number b) (number f) under-b (k.lowest f x)
          ];
    }

pub least_same : (P Q : LineFault → Type 0) (o : Option LineFault) → ((f : LineFault) → P f → Q f)
    → ((f : LineFault) → Q f → P f) → IsLeast P o → IsLeast Q o
unfolding IsLeast
least_same P Q None there again h = λ f e. h f (again f e)
least_same P Q (Some g) there again h =
    record { holds = there g h.holds; lowest = λ f e. h.lowest f (again f e) }

-- ## There is one answer

pub least_is : (P : LineFault → Type 0) (o : Option LineFault) (f : LineFault) → IsLeast P o → IsLowest P f → o ≡ Some f
unfolding IsLeast
least_is P None f h k = absurd (h f k.holds)
least_is P (Some g) f h k =
    ap Some (same_number g f
    (let x = h.lowest f k.holds in let y = k.lowest g h.holds in omega (arith, x, y)))

pub least_no : (P : LineFault → Type 0) (o : Option LineFault) → IsLeast P o → ((f : LineFault) → P f → ⊥) → o ≡ None
unfolding IsLeast
least_no P None h k = refl
least_no P (Some g) h k = absurd (k g h.holds)

pub no_least : (P : LineFault → Type 0) (o : Option LineFault) → IsLeast P o → o ≡ None → (f : LineFault) → P f → ⊥
unfolding IsLeast
no_least P o h e = let k : IsLeast P None = subst (IsLeast P) e h in k

pub is_least : (P : LineFault → Type 0) (o : Option LineFault) (f : LineFault) → IsLeast P o → o ≡ Some f → IsLowest P f
unfolding IsLeast
is_least P o f h e = let k : IsLeast P (Some f) = subst (IsLeast P) e h in k
