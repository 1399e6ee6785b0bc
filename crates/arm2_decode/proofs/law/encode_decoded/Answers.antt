use Rattle.arm2_decode.proofs.OnlyLemmas.{one_word}
use Rattle.arm2_decode.proofs.law.encode_decoded.Goals as goal

pub returns : goal.returns
returns c = λ word fits instr means again again_fits again_means. one_word again word instr again_fits fits again_means means
