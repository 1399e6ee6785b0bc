-- A text behind what is there, and texts one behind the other.
use Rattle.std.proofs.Common.{◌≡◌, ℕ, List, [], ◌++◌, Result, Ok, Err, refl, sym, ap, ◌∙◌, append_assoc, inl, inr}
use Rattle.std.proofs.lemmas.List.{append-nil}
use Rattle.asm_text.proofs.WordLaws.{same_Ok}
use Rattle.std.specs.Prelude.{OnOk, false, true}
use Rattle.std.specs.Prelude.{Option}
use Rattle.objasm.specs.Exchanges.{exchange_of}
use Rattle.objasm.specs.Names.{Meanings, Told, mapped}
use Rattle.objasm.specs.Parts.{Part}
use Rattle.objasm.specs.PlainLines.{Text, assert_text, behind, instruction_text, is_sum, joined, ltorg_text, operation_text, kind_with, spaced_operands, word_with}
use Rattle.objasm.specs.Words.{is_assert, is_ltorg, is_nop, is_silent, word_text}
use Rattle.objasm.specs.declared.exchanges.Flip.{Flip}
use Rattle.objasm.specs.declared.faults.LineFault.{LineFault}

-- ## A text behind another

pub behind_front : (old mid front : List ℕ) (r : Text) → mid ≡ old ++ front → behind old (behind front r) ≡ behind mid r
behind_front old mid front (Ok t) is = ap Ok (sym (append_assoc old front t) ∙ ap (λ (m : List ℕ). m ++ t) (sym is))
behind_front old mid front (Err fault) is = refl

pub told_behind : (fault : LineFault) (front : List ℕ) (r : Text) → Told fault r → Told fault (behind front r)
told_behind fault front r (inl is) = inl is
told_behind fault front r (inr is) = inr (ap (behind front) is)

pub fault_behind : (old : List ℕ) (fault : LineFault) (r : Text) → behind old r ≡ Err fault → r ≡ Err fault
fault_behind old fault (Ok t) is = absurd cc
fault_behind old fault (Err f) is = is

pub nothing_behind : (old : List ℕ) → behind old (Ok []) ≡ Ok old
nothing_behind old = ap Ok (append-nil old)

pub behind_nothing : (r : Text) → behind [] r ≡ r
behind_nothing (Ok t) = refl
behind_nothing (Err fault) = refl

-- ## Two texts

pub joined_behind : (old mid : List ℕ) (a b : Text) → behind old a ≡ Ok mid → behind old (joined a b) ≡ behind mid b
joined_behind old mid (Ok x) (Ok y) first = ap Ok (sym (append_assoc old x y) ∙ ap (λ (m : List ℕ). m ++ y) (same_Ok (old ++ x) mid first))
joined_behind old mid (Ok x) (Err fault) first = refl
joined_behind old mid (Err fault) b first = absurd cc

pub told_first : (fault : LineFault) (a b : Text) → Told fault a → Told fault (joined a b)
told_first fault a b (inl is) = inl is
told_first fault a b (inr is) = inr (ap (λ (r : Text). joined r b) is)

pub told_second : (fault : LineFault) (old mid : List ℕ) (a b : Text) → behind old a ≡ Ok mid → Told fault b → Told fault (joined a b)
told_second fault old mid a b first (inl is) = inl is
told_second fault old mid (Ok x) b first (inr is) = inr (ap (mapped (λ y. x ++ y)) is)
told_second fault old mid (Err f) b first (inr is) = absurd cc

-- ## An instruction

pub on_ok : {A P Q : Type 0} (r : Result A LineFault) → (P → Q) → OnOk r P → OnOk r Q
on_ok (Ok a) f p = f p
on_ok (Err fault) f p = tt

pub operation_put : (m : Meanings) (word : List ℕ) (ps : List Part) (e : Option Flip) (old mid new : List ℕ) → is_sum m word ps ≡ false → exchange_of m word ps ≡ Ok e
    → mid ≡ old ++ word_text (word_with word e) → behind mid (spaced_operands m (kind_with word e) ps) ≡ Ok new → behind old (operation_text m word ps) ≡ Ok new
unfolding operation_text
operation_put m word ps e old mid new sum is put ok =
    rw (sum, is) (behind_front old mid (word_text (word_with word e)) (spaced_operands m (kind_with word e) ps) put ∙ ok)

pub assert_put : (m : Meanings) (word : List ℕ) (ps : List Part) (old : List ℕ) → is_nop word ≡ false → is_silent word ≡ false → is_ltorg word ≡ false → is_assert word ≡ true → assert_text m ps ≡ Ok []
    → behind old (instruction_text m word ps) ≡ Ok old
assert_put m word ps old nop silent ltorg assert is = rw (nop, silent, ltorg, assert, is) (nothing_behind old)

pub ltorg_put : (m : Meanings) (word : List ℕ) (ps : List Part) (old : List ℕ) → is_nop word ≡ false → is_silent word ≡ false → is_ltorg word ≡ true → ltorg_text ps ≡ Ok []
    → behind old (instruction_text m word ps) ≡ Ok old
ltorg_put m word ps old nop silent ltorg is = rw (nop, silent, ltorg, is) (nothing_behind old)
