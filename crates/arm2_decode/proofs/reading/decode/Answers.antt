use Rattle.arm2_decode.proofs.LowestLemmas.{err_lowest}
use Rattle.arm2_decode.proofs.OnlyLemmas.{decode_only}
use Rattle.arm2_decode.proofs.reading.decode.Goals as goal

pub returns-clause-only : goal.returns-clause-only
returns-clause-only c = λ i m. decode_only c.args.word i c.instr_of.result c.instr_of.ensures m

pub returns-clause-lowest : goal.returns-clause-lowest
returns-clause-lowest c = err_lowest c.args.word c.instr_of.result c.instr_of.ensures
