-- What holds once registers were written.
use Rattle.std.proofs.Common.{◌≡◌, ℕ, ◌==◌, ◌&&◌, ◌^◌, not, nat_le, Bool, true, false, cond, List, [], ◌∷◌, refl, sym, ap, subst, ◌∙◌, inl, inr}
use Rattle.std.specs.Prelude.{slice_index_or}
use Rattle.std.proofs.lemmas.Bool.{cases_Bool, cond-false, cond-true, eqb-true, eq-eqb, ne_eqb, eqb-false, false≢true, true≢false}
use Rattle.shifter.specs.declared.shifts.Shifted.{Shifted}
use Rattle.arm2_decode.specs.Names.{is_compare, is_pc, is_same, register_number}
use Rattle.arm2_decode.specs.declared.flags.Flags.{Flags}
use Rattle.arm2_decode.specs.declared.names.Opcode.{Opcode}
use Rattle.arm2_decode.specs.declared.names.Register.{Register}
use Rattle.arm2_decode.specs.declared.names.Register.TheVariants.{R0, R1, R2, R3, R4, R5, R6, R7, R8, R9, R10}
use Rattle.arm2_decode.specs.declared.names.Register.TheVariants.{R11, R12, R13, R14, R15}
use Rattle.arm2_effect.specs.Modes.{r15_in, register_in}
use Rattle.arm2_effect.specs.Operands.{current_in, current_mode, first_of}
use Rattle.arm2_effect.specs.Outcomes.{difference_of, flags_after, outcome_of}
use Rattle.arm2_effect.specs.ProgramCounter.{flags_of}
use Rattle.operation_laws.specs.Leaves.{LeavesData}
use Rattle.arm2_transfer.proofs.Slots.{place}
use Rattle.operation_laws.specs.Left.{is_at, Kept, Flagged, Restored, flags_left}
use Rattle.operation_laws.proofs.KeepLaws.{IsStaying, current_kept, current_written, data_stays, is_at_own, mode_kept, not_at, under}
use Rattle.known_words.specs.Entering.{Enters, FlagsBy, SetsSigns}
use Rattle.known_words.specs.Known.{IsKnown}
use Rattle.known_words.specs.Knowledge.{AreFlagsOf, AreSigns, Holds, known_of, without}
use Rattle.known_words.specs.declared.knowledge.Compared.{Compared}
use Rattle.known_words.specs.declared.knowledge.Compared.TheVariants.{Less, Nothing, Of}
use Rattle.known_words.specs.declared.knowledge.Knowledge.{Knowledge}
use Rattle.known_words.specs.declared.words.Known.{Known}
use Rattle.known_words.specs.declared.words.Known.TheVariants.{Any}

-- ## Flags

module _ (before after : List ℕ) (flags_stay : flags_of (r15_in after) ≡ flags_of (r15_in before)) where
  pub signs_kept : (register : Register) → current_in register after ≡ current_in register before
      → AreSigns (flags_of (r15_in before)) (current_in register before)
      → AreSigns (flags_of (r15_in after)) (current_in register after)
  signs_kept register same signs =
      record {
        negative = ap (λ (f : Flags). f.negative) flags_stay ∙ signs.negative ∙ ap (nat_le (2 ^ 31)) (sym same);
        zero = ap (λ (f : Flags). f.zero) flags_stay ∙ signs.zero ∙ ap (λ n. n == 0) (sym same);
      }

  pub less_kept : (register : Register) (number : ℕ) → current_in register after ≡ current_in register before
      → flags_of (r15_in before) ≡ flags_after (difference_of (current_in register before) number false)
      → flags_of (r15_in after) ≡ flags_after (difference_of (current_in register after) number false)
  less_kept register number same is =
      flags_stay ∙ is ∙ ap (λ n. flags_after (difference_of n number false)) (sym same)

  -- where the registers stay that were compared
  pub flags_kept : (compared : Compared)
      → ((r : Register) → is_pc r ≡ false → current_in r after ≡ current_in r before)
      → AreFlagsOf compared before → AreFlagsOf compared after
  flags_kept Nothing same is = tt
  flags_kept (Of r) same is = (is.0, signs_kept r (same r is.0) is.1)
  flags_kept (Less r number) same is = (is.0, less_kept r number (same r is.0) is.1)

  pub either_flags : (b : Bool) (compared : Compared) → (b ≡ false → AreFlagsOf compared after)
      → AreFlagsOf (cond b Nothing compared) after
  either_flags true compared h = tt
  either_flags false compared h = h refl

  -- where one register does not stay, and what was compared with it is forgotten
  pub flags_without : (register : Register) (compared : Compared)
      → ((r : Register) → is_pc r ≡ false → is_same register r ≡ false → current_in r after ≡ current_in r before)
      → AreFlagsOf compared before → AreFlagsOf (without register compared) after
  flags_without register Nothing same is = tt
  flags_without register (Of r) same is =
      either_flags (is_same register r) (Of r) (λ apart. (is.0, signs_kept r (same r is.0 apart) is.1))
  flags_without register (Less r number) same is =
      either_flags (is_same register r) (Less r number)
      (λ apart. (is.0, less_kept r number (same r is.0 apart) is.1))

-- ## Registers

-- a list of what is known of R0 to R14
pub each_register : (P : Register → Known → Type 0) (a b c d e f g h i j k l m n o : Known)
    → P R0 a → P R1 b → P R2 c → P R3 d → P R4 e → P R5 f → P R6 g → P R7 h → P R8 i → P R9 j → P R10 k → P R11 l → P R12 m → P R13 n → P R14 o → (r : Register) → is_pc r ≡ false
    → P r (slice_index_or (a ∷ b ∷ c ∷ d ∷ e ∷ f ∷ g ∷ h ∷ i ∷ j ∷ k ∷ l ∷ m ∷ n ∷ o ∷ []) (register_number r) Any)
each_register P _ _ _ _ _ _ _ _ _ _ _ _ _ _ _ ha _ _ _ _ _ _ _ _ _ _ _ _ _ _ R0 no_pc = ha
each_register P _ _ _ _ _ _ _ _ _ _ _ _ _ _ _ _ hb _ _ _ _ _ _ _ _ _ _ _ _ _ R1 no_pc = hb
each_register P _ _ _ _ _ _ _ _ _ _ _ _ _ _ _ _ _ hc _ _ _ _ _ _ _ _ _ _ _ _ R2 no_pc = hc
each_register P _ _ _ _ _ _ _ _ _ _ _ _ _ _ _ _ _ _ hd _ _ _ _ _ _ _ _ _ _ _ R3 no_pc = hd
each_register P _ _ _ _ _ _ _ _ _ _ _ _ _ _ _ _ _ _ _ he _ _ _ _ _ _ _ _ _ _ R4 no_pc = he
each_register P _ _ _ _ _ _ _ _ _ _ _ _ _ _ _ _ _ _ _ _ hf _ _ _ _ _ _ _ _ _ R5 no_pc = hf
each_register P _ _ _ _ _ _ _ _ _ _ _ _ _ _ _ _ _ _ _ _ _ hg _ _ _ _ _ _ _ _ R6 no_pc = hg
each_register P _ _ _ _ _ _ _ _ _ _ _ _ _ _ _ _ _ _ _ _ _ _ hh _ _ _ _ _ _ _ R7 no_pc = hh
each_register P _ _ _ _ _ _ _ _ _ _ _ _ _ _ _ _ _ _ _ _ _ _ _ hi _ _ _ _ _ _ R8 no_pc = hi
each_register P _ _ _ _ _ _ _ _ _ _ _ _ _ _ _ _ _ _ _ _ _ _ _ _ hj _ _ _ _ _ R9 no_pc = hj
each_register P _ _ _ _ _ _ _ _ _ _ _ _ _ _ _ _ _ _ _ _ _ _ _ _ _ hk _ _ _ _ R10 no_pc = hk
each_register P _ _ _ _ _ _ _ _ _ _ _ _ _ _ _ _ _ _ _ _ _ _ _ _ _ _ hl _ _ _ R11 no_pc = hl
each_register P _ _ _ _ _ _ _ _ _ _ _ _ _ _ _ _ _ _ _ _ _ _ _ _ _ _ _ hm _ _ R12 no_pc = hm
each_register P _ _ _ _ _ _ _ _ _ _ _ _ _ _ _ _ _ _ _ _ _ _ _ _ _ _ _ _ hn _ R13 no_pc = hn
each_register P _ _ _ _ _ _ _ _ _ _ _ _ _ _ _ _ _ _ _ _ _ _ _ _ _ _ _ _ _ ho R14 no_pc = ho
each_register P _ _ _ _ _ _ _ _ _ _ _ _ _ _ _ _ _ _ _ _ _ _ _ _ _ _ _ _ _ _ R15 no_pc = absurd (true≢false no_pc)

-- two registers of one number
pub current_same : (q r : Register) (now : List ℕ) → is_same q r ≡ true → current_in r now ≡ current_in q now
current_same q r now same =
    ap (λ (n : ℕ). register_in (current_mode now) n now) (sym (eqb-true (register_number q) (register_number r) same))

pub one_known : (entry turns before after : List ℕ) (old new : Knowledge) (register : Register) (known : Known) (word : ℕ)
    → ((other : Register) → is_pc other ≡ false
    → known_of new other ≡ cond (is_same register other) known (known_of old other))
    → IsKnown entry turns known word → Enters register word before after → Holds entry turns old before
    → (r : Register) → is_pc r ≡ false → IsKnown entry turns (known_of new r) (current_in r after)
one_known entry turns before after old new register known word are is enters holds r no_pc =
    elim (cases_Bool (is_same register r)) [
      | inl same ↦
          let knows = are r no_pc ∙ cond-true (is_same register r) known (known_of old r) same in
          let here = current_same register r after same ∙ enters.written in
          subst (λ (k : Known). IsKnown entry turns k (current_in r after)) (sym knows)
          (subst (IsKnown entry turns known) (sym here) is)
      | inr apart ↦
          let knows = are r no_pc ∙ cond-false (is_same register r) known (known_of old r) apart in
          let stays = enters.others r no_pc apart in
          subst (λ (k : Known). IsKnown entry turns k (current_in r after)) (sym knows)
          (subst (IsKnown entry turns (known_of old r)) (sym stays) (holds.registers r no_pc))
    ]

module _ (entry turns before after : List ℕ) (old new : Knowledge) (register : Register) (known : Known) (word : ℕ)
    (are : (other : Register) → is_pc other ≡ false
    → known_of new other ≡ cond (is_same register other) known (known_of old other))
    (is : IsKnown entry turns known word) (enters : Enters register word before after)
    (holds : Holds entry turns old before) where
  pub entered_holds : AreFlagsOf new.compared after → Holds entry turns new after
  entered_holds flags_are =
      record {
        mode = enters.mode ∙ holds.mode;
        registers = one_known entry turns before after old new register known word are is enters holds;
        flags = flags_are;
      }

  pub entered_flags : AreSigns (flags_of (r15_in after)) word → AreSigns (flags_of (r15_in after)) (current_in register after)
  entered_flags signs = subst (AreSigns (flags_of (r15_in after))) (sym enters.written) signs

  pub entered_keeps : flags_of (r15_in after) ≡ flags_of (r15_in before) → new.compared ≡ without register old.compared
      → Holds entry turns new after
  entered_keeps stay forgets =
      entered_holds
      (subst (λ (c : Compared). AreFlagsOf c after) (sym forgets)
      (flags_without before after stay register old.compared enters.others holds.flags))

-- ## Data processing

flags_set : (sets pc : Bool) (value : ℕ) (f : Flags) (r : ℕ) → (sets && pc) ≡ false → sets ≡ true
    → flags_left (cond sets (cond pc (Restored value) (Flagged f)) Kept) r ≡ f
flags_set true true value f r stays is = absurd (false≢true (sym stays))
flags_set true false value f r stays is = refl
flags_set false pc value f r stays is = absurd (false≢true is)

flags_stay : (sets pc : Bool) (value : ℕ) (f : Flags) (r : ℕ) → sets ≡ false
    → flags_left (cond sets (cond pc (Restored value) (Flagged f)) Kept) r ≡ flags_of r
flags_stay true pc value f r is = absurd (false≢true (sym is))
flags_stay false pc value f r is = refl

module _ (o : Opcode) (sets : Bool) (rn rd : Register) (by : ℕ) (shifted : Shifted) (before after : List ℕ)
    (stays : (sets && is_pc rd) ≡ false) (left : LeavesData o sets rn rd by shifted before after) where
  abbrev value : ℕ
  value = (outcome_of o (first_of by rn before) shifted (flags_of (r15_in before))).value

  abbrev flags : Flags
  flags = flags_after (outcome_of o (first_of by rn before) shifted (flags_of (r15_in before)))

  is_staying : IsStaying (cond sets (cond (is_pc rd) (Restored value) (Flagged flags)) Kept)
  is_staying = data_stays sets (is_pc rd) value flags stays

  pub data_mode : current_mode after ≡ current_mode before
  data_mode = mode_kept before after _ _ _ _ left is_staying

  pub data_others : (r : Register) → is_pc r ≡ false → (not (is_compare o) && is_same rd r) ≡ false
      → current_in r after ≡ current_in r before
  data_others r no_pc is =
      current_kept before after _ _ _ _ left is_staying r no_pc
      (under (not (is_compare o)) (is_same rd r) _ (not_at before rd r no_pc) is)

  pub data_written : is_compare o ≡ false → is_pc rd ≡ false → current_in rd after ≡ value
  data_written computes no_pc =
      current_written before after _ _ _ _ left is_staying rd no_pc
      (ap (λ (b : Bool). not b && is_at before rd (place (current_mode before) rd)) computes
      ∙ is_at_own before rd rd (eq-eqb (register_number rd) (register_number rd) refl))

  pub data_flags : sets ≡ true → flags_of (r15_in after) ≡ flags
  data_flags is = left.r15.flags ∙ flags_set sets (is_pc rd) value flags (r15_in before) stays is

  pub data_flags_kept : sets ≡ false → flags_of (r15_in after) ≡ flags_of (r15_in before)
  data_flags_kept is = left.r15.flags ∙ flags_stay sets (is_pc rd) value flags (r15_in before) is

  pub data_enters : is_compare o ≡ false → is_pc rd ≡ false → Enters rd value before after
  data_enters computes no_pc =
      record {
        mode = data_mode;
        written = data_written computes no_pc;
        others = λ r other apart. data_others r other
            (ap (λ (b : Bool). not (is_compare o) && b) apart ∙ nothing (not (is_compare o)));
      }
    where
      nothing : (b : Bool) → (b && false) ≡ false
      nothing true = refl
      nothing false = refl

  set_signs : (b : Bool) → sets ≡ b → SetsSigns b value before after
  set_signs true is =
      let set = data_flags is in
      record { negative = ap (λ (f : Flags). f.negative) set; zero = ap (λ (f : Flags). f.zero) set }
  set_signs false is = data_flags_kept is

  pub data_signs : SetsSigns sets value before after
  data_signs = set_signs sets refl

  -- a compare
  compare_others : is_compare o ≡ true → (r : Register) → is_pc r ≡ false → current_in r after ≡ current_in r before
  compare_others compares r no_pc =
      data_others r no_pc (ap (λ (b : Bool). not b && is_same rd r) compares)

  by_compared : (compared : Compared) → is_compare o ≡ true → sets ≡ true
      → FlagsBy compared rn (first_of by rn before) flags → AreFlagsOf compared after
  by_compared Nothing compares is given = tt
  by_compared (Of other) compares is given =
      let set = data_flags is in
      let no_pc : is_pc other ≡ false = ap is_pc given.0 ∙ given.1 in
      let word = compared_word other given.0 given.1 compares in (
        no_pc,
        record {
          negative = ap (λ (f : Flags). f.negative) set ∙ given.2.negative ∙ ap (nat_le (2 ^ 31)) (sym word);
          zero = ap (λ (f : Flags). f.zero) set ∙ given.2.zero ∙ ap (λ n. n == 0) (sym word);
        },
      )
    where
      compared_word : (other : Register) → other ≡ rn → is_pc rn ≡ false → is_compare o ≡ true
          → current_in other after ≡ first_of by rn before
      compared_word other same no_pc compares =
          ap (λ (r : Register). current_in r after) same ∙ compare_others compares rn no_pc
          ∙ sym (cond-false (is_pc rn) _ (current_in rn before) no_pc)
  by_compared (Less other number) compares is given =
      let no_pc : is_pc other ≡ false = ap is_pc given.0 ∙ given.1 in
      let word =
      ap (λ (r : Register). current_in r after) given.0 ∙ compare_others compares rn given.1
      ∙ sym (cond-false (is_pc rn) _ (current_in rn before) given.1) in
      (no_pc, data_flags is ∙ given.2 ∙ ap (λ n. flags_after (difference_of n number false)) (sym word))

  pub compare_holds : (entry turns : List ℕ) (old new : Knowledge) → is_compare o ≡ true
      → ((r : Register) → known_of new r ≡ known_of old r) → AreFlagsOf new.compared after
      → Holds entry turns old before → Holds entry turns new after
  compare_holds entry turns old new compares same flags_are holds =
      record {
        mode = data_mode ∙ holds.mode;
        registers = λ r no_pc.
            subst (λ (k : Known). IsKnown entry turns k (current_in r after)) (sym (same r))
            (subst (IsKnown entry turns (known_of old r)) (sym (compare_others compares r no_pc)) (holds.registers r no_pc));
        flags = flags_are;
      }

  pub compare_sets : (compared : Compared) → is_compare o ≡ true → sets ≡ true
      → FlagsBy compared rn (first_of by rn before) flags → AreFlagsOf compared after
  compare_sets = by_compared

  pub compare_keeps : (compared : Compared) → is_compare o ≡ true → sets ≡ false
      → AreFlagsOf compared before → AreFlagsOf compared after
  compare_keeps compared compares is = flags_kept before after (data_flags_kept is) compared (compare_others compares)

  -- a jump that sets no flags
  pub jump_others : is_pc rd ≡ true → (r : Register) → is_pc r ≡ false → current_in r after ≡ current_in r before
  jump_others last r no_pc =
      data_others r no_pc (ap (λ (b : Bool). not (is_compare o) && b) (apart r no_pc) ∙ nothing (not (is_compare o)))
    where
      nothing : (b : Bool) → (b && false) ≡ false
      nothing true = refl
      nothing false = refl

      apart : (r : Register) → is_pc r ≡ false → is_same rd r ≡ false
      apart r no_pc =
          ne_eqb (register_number rd) (register_number r)
          (λ e. eqb-false (register_number r) 15 no_pc (sym e ∙ eqb-true (register_number rd) 15 last))

  pub jump_holds : (entry turns : List ℕ) (old : Knowledge) → is_pc rd ≡ true → sets ≡ false
      → Holds entry turns old before → Holds entry turns old after
  jump_holds entry turns old last is holds =
      record {
        mode = data_mode ∙ holds.mode;
        registers = λ r no_pc.
            subst (IsKnown entry turns (known_of old r)) (sym (jump_others last r no_pc)) (holds.registers r no_pc);
        flags = flags_kept before after (data_flags_kept is) old.compared (jump_others last) holds.flags;
      }
