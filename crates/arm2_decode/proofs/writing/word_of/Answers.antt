use Rattle.std.proofs.Common.{arith}
use Rattle.arm2_decode.proofs.WordLemmas.{below_fits, word_fits}
use Rattle.arm2_decode.proofs.writing.word_of.Goals as goal

pub overflow_add-result : goal.overflow_add-result
overflow_add-result c = omega (arith, below_fits c.args.instr.now.operation)

pub returns : goal.returns
returns c = word_fits _ _ c.args.instr.now.operation (omega arith) (omega arith)
