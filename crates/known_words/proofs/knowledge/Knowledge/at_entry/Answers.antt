use Rattle.std.proofs.Common.{refl}
use Rattle.arm2_decode.specs.declared.names.Register.TheVariants.{R0, R1, R2, R3, R4, R5, R6, R7, R8, R9, R10}
use Rattle.arm2_decode.specs.declared.names.Register.TheVariants.{R11, R12, R13, R14}
use Rattle.arm2_effect.specs.Operands.{current_in}
use Rattle.known_words.specs.Known.{IsKnown}
use Rattle.known_words.proofs.HoldLemmas.{each_register}
use Rattle.known_words.proofs.knowledge.Knowledge.at_entry.Goals as goal

pub returns : goal.returns
returns c = λ entry turns words.
    record {
      mode = refl;
      registers = each_register (λ r k. IsKnown entry turns k (current_in r entry)) c.at_entry.result c.at_entry-2.result c.at_entry-3.result c.at_entry-4.result c.at_entry-5.result c.at_entry-6.result c.at_entry-7.result c.at_entry-8.result c.at_entry-9.result c.at_entry-10.result c.at_entry-11.result c.at_entry-12.result c.at_entry-13.result c.at_entry-14.result c.at_entry-15.result
          (c.at_entry.ensures entry turns (words R0 refl))
          (c.at_entry-2.ensures entry turns (words R1 refl))
          (c.at_entry-3.ensures entry turns (words R2 refl))
          (c.at_entry-4.ensures entry turns (words R3 refl))
          (c.at_entry-5.ensures entry turns (words R4 refl))
          (c.at_entry-6.ensures entry turns (words R5 refl))
          (c.at_entry-7.ensures entry turns (words R6 refl))
          (c.at_entry-8.ensures entry turns (words R7 refl))
          (c.at_entry-9.ensures entry turns (words R8 refl))
          (c.at_entry-10.ensures entry turns (words R9 refl))
          (c.at_entry-11.ensures entry turns (words R10 refl))
          (c.at_entry-12.ensures entry turns (words R11 refl))
          (c.at_entry-13.ensures entry turns (words R12 refl))
          (c.at_entry-14.ensures entry turns (words R13 refl))
          (c.at_entry-15.ensures entry turns (words R14 refl));
      flags = tt;
    }
