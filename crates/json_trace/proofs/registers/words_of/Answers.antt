use Rattle.json_trace.proofs.WordsLaws.{reads_all}
use Rattle.json_trace.proofs.registers.words_of.Goals as goal

pub returns : goal.returns
returns c =
    rw (
      c.get.ensures.word,
      c.get-2.ensures.word,
      c.get-3.ensures.word,
      c.get-4.ensures.word,
      c.get-5.ensures.word,
      c.get-6.ensures.word,
      c.get-7.ensures.word,
      c.get-8.ensures.word,
      c.get-9.ensures.word,
      c.get-10.ensures.word,
      c.get-11.ensures.word,
      c.get-12.ensures.word,
      c.get-13.ensures.word,
      c.get-14.ensures.word,
      c.get-15.ensures.word,
      c.get-16.ensures.word,
      c.get-17.ensures.word,
      c.get-18.ensures.word,
      c.get-19.ensures.word,
      c.get-20.ensures.word,
      c.get-21.ensures.word,
      c.get-22.ensures.word,
      c.get-23.ensures.word,
      c.get-24.ensures.word,
      c.get-25.ensures.word,
      c.get-26.ensures.word,
      c.get-27.ensures.word,
    )
    (reads_all c.args.registers.now c.get.ensures.all)
