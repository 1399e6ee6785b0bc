use Rattle.std.proofs.Common.{refl}
use Rattle.arm2_effect.specs.Operands.{current_in}
use Rattle.known_words.specs.Knowledge.{known_of}
use Rattle.known_words.specs.Turning.{BecomesWord}
use Rattle.known_words.proofs.HoldLemmas.{each_register}
use Rattle.known_words.proofs.knowledge.Knowledge.before.Goals as goal

pub returns : goal.returns
returns c = λ entry before after now t holds.
    let next = c.args.self.now in
    record {
      mode = holds.mode;
      registers = λ r no_pc.
          each_register (λ q k. BecomesWord c.args.turns k (known_of next q))
          c.word_before.result c.word_before-2.result c.word_before-3.result c.word_before-4.result c.word_before-5.result c.word_before-6.result c.word_before-7.result c.word_before-8.result c.word_before-9.result c.word_before-10.result c.word_before-11.result c.word_before-12.result c.word_before-13.result c.word_before-14.result c.word_before-15.result
          c.word_before.ensures
          c.word_before-2.ensures
          c.word_before-3.ensures
          c.word_before-4.ensures
          c.word_before-5.ensures
          c.word_before-6.ensures
          c.word_before-7.ensures
          c.word_before-8.ensures
          c.word_before-9.ensures
          c.word_before-10.ensures
          c.word_before-11.ensures
          c.word_before-12.ensures
          c.word_before-13.ensures
          c.word_before-14.ensures
          c.word_before-15.ensures
          r no_pc entry before after (current_in r now) t (holds.registers r no_pc);
      flags = holds.flags;
    }
