-- What holds where it is forgotten what an instruction may change, and where more is known of a register.
use Rattle.std.proofs.Common.{◌≡◌, ℕ, ◌⊎◌, Bool, true, false, cond, List, refl, sym, ap, subst, ◌∙◌, inl, inr}
use Rattle.std.proofs.lemmas.Bool.{cases_Bool, cond-false, cond-true}
use Rattle.arm2_decode.specs.Names.{is_pc, is_same, register_number}
use Rattle.arm2_decode.specs.declared.instr.Operation.{Operation}
use Rattle.arm2_decode.specs.declared.names.Register.{Register}
use Rattle.arm2_effect.specs.declared.modes.Mode.{Mode}
use Rattle.arm2_effect.specs.Modes.{r15_in, register_in}
use Rattle.arm2_effect.specs.Operands.{current_in, current_mode}
use Rattle.arm2_effect.specs.ProgramCounter.{flags_of}
use Rattle.operation_laws.specs.Keeps.{KeepsOthers, changes, restores}
use Rattle.arm2_effect.specs.Effects.{skipped}
use Rattle.operation_laws.proofs.KeepLaws.{current_kept, mode_kept}
use Rattle.operation_laws.proofs.OperationLaws.{skip_law}
use Rattle.known_words.specs.After.{Passing, unless_changed}
use Rattle.known_words.specs.Known.{IsKnown}
use Rattle.known_words.specs.Knowledge.{AreFlagsOf, Holds, known_of}
use Rattle.known_words.specs.declared.knowledge.Compared.{Compared}
use Rattle.known_words.specs.declared.knowledge.Compared.TheVariants.{Less, Nothing, Of}
use Rattle.known_words.specs.declared.knowledge.Knowledge.{Knowledge}
use Rattle.known_words.specs.declared.words.Known.{Known}
use Rattle.known_words.specs.declared.words.Known.TheVariants.{Any}
use Rattle.known_words.proofs.HoldLemmas.{current_same, either_flags, flags_kept, less_kept, signs_kept}

either_known : (entry turns : List ℕ) (b : Bool) (known : Known) (word : ℕ) → (b ≡ false → IsKnown entry turns known word)
    → IsKnown entry turns (cond b Any known) word
either_known entry turns true known word h = tt
either_known entry turns false known word h = h refl

module _ (o : Operation) (entry turns before after : List ℕ) (keeps : KeepsOthers o before after)
    (stays : restores o ≡ false) where
  pub mode_stays : current_mode after ≡ current_mode before
  mode_stays = keeps.mode stays

  pub others_stay : (r : Register) → is_pc r ≡ false → changes o r ≡ false → current_in r after ≡ current_in r before
  others_stay r no_pc none =
      ap (λ (mode : Mode). register_in mode (register_number r) after) mode_stays ∙ keeps.others r no_pc none

  flags_unless : (compared : Compared) → flags_of (r15_in after) ≡ flags_of (r15_in before)
      → AreFlagsOf compared before → AreFlagsOf (unless_changed o compared) after
  flags_unless Nothing same is = tt
  flags_unless (Of r) same is =
      either_flags before after same (changes o r) (Of r)
      (λ none. (is.0, signs_kept before after same r (others_stay r is.0 none) is.1))
  flags_unless (Less r number) same is =
      either_flags before after same (changes o r) (Less r number)
      (λ none. (is.0, less_kept before after same r number (others_stay r is.0 none) is.1))

  module _ (old new : Knowledge)
      (are : (r : Register) → is_pc r ≡ false → known_of new r ≡ cond (changes o r) Any (known_of old r))
      (holds : Holds entry turns old before) where
    forgotten_with : AreFlagsOf new.compared after → Holds entry turns new after
    forgotten_with flags_are =
        record {
          mode = mode_stays ∙ holds.mode;
          registers = λ r no_pc.
              subst (λ (k : Known). IsKnown entry turns k (current_in r after)) (sym (are r no_pc))
              (either_known entry turns (changes o r) (known_of old r) (current_in r after)
              (λ none.
              subst (IsKnown entry turns (known_of old r)) (sym (others_stay r no_pc none)) (holds.registers r no_pc)));
          flags = flags_are;
        }

    pub forgotten_holds : new.compared ≡ unless_changed o old.compared
        → flags_of (r15_in after) ≡ flags_of (r15_in before) → Holds entry turns new after
    forgotten_holds forgets same =
        forgotten_with
        (subst (λ (c : Compared). AreFlagsOf c after) (sym forgets) (flags_unless old.compared same holds.flags))

    pub forgotten_flags : Holds entry turns (record new { compared = Nothing }) after
    forgotten_flags =
        record {
          mode = mode_stays ∙ holds.mode;
          registers = λ r no_pc.
              subst (λ (k : Known). IsKnown entry turns k (current_in r after)) (sym (are r no_pc))
              (either_known entry turns (changes o r) (known_of old r) (current_in r after)
              (λ none.
              subst (IsKnown entry turns (known_of old r)) (sym (others_stay r no_pc none)) (holds.registers r no_pc)));
          flags = tt;
        }

-- ## More of one register

pub learned_holds : (entry turns now : List ℕ) (old new : Knowledge) (register : Register) (known : Known)
    → ((other : Register) → is_pc other ≡ false
    → known_of new other ≡ cond (is_same register other) known (known_of old other))
    → new.compared ≡ old.compared → Holds entry turns old now → IsKnown entry turns known (current_in register now)
    → Holds entry turns new now
learned_holds entry turns now old new register known are same holds is =
    record {
      mode = holds.mode;
      registers = λ r no_pc. by_place r no_pc (are r no_pc) (cases_Bool (is_same register r));
      flags = subst (λ (c : Compared). AreFlagsOf c now) (sym same) holds.flags;
    }
  where
    by_place : (r : Register) → is_pc r ≡ false → known_of new r ≡ cond (is_same register r) known (known_of old r)
        → (is_same register r ≡ true) ⊎ (is_same register r ≡ false)
        → IsKnown entry turns (known_of new r) (current_in r now)
    by_place r no_pc knows (inl here) =
        subst (λ (k : Known). IsKnown entry turns k (current_in r now))
        (sym (knows ∙ cond-true (is_same register r) known (known_of old r) here))
        (subst (IsKnown entry turns known) (sym (current_same register r now here)) is)
    by_place r no_pc knows (inr apart) =
        subst (λ (k : Known). IsKnown entry turns k (current_in r now))
        (sym (knows ∙ cond-false (is_same register r) known (known_of old r) apart))
        (holds.registers r no_pc)

-- ## A failed condition

pub skipped_holds : Passing
skipped_holds entry turns regs known long holds =
    let left = skip_law regs long in
    let same : (r : Register) → is_pc r ≡ false → current_in r (skipped regs).regs ≡ current_in r regs =
    λ r no_pc. current_kept regs (skipped regs).regs _ _ _ _ left tt r no_pc refl in
    record {
      mode = mode_kept regs (skipped regs).regs _ _ _ _ left tt ∙ holds.mode;
      registers = λ r no_pc.
          subst (IsKnown entry turns (known_of known r)) (sym (same r no_pc)) (holds.registers r no_pc);
      flags = flags_kept regs (skipped regs).regs left.r15.flags known.compared same holds.flags;
    }
