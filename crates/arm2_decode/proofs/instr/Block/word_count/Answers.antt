use Rattle.std.proofs.Common.{arith}
use Rattle.arm2_decode.proofs.Listed.{ones_are, some_words}
use Rattle.arm2_decode.proofs.instr.Block.word_count.Goals as goal

pub returns-clause-count : goal.returns-clause-count
returns-clause-count c = ones_are c.args.self.list c.args.self.list_fits

pub returns-clause-some : goal.returns-clause-some
returns-clause-some c = omega (arith, some_words c.args.self, ones_are c.args.self.list c.args.self.list_fits)
