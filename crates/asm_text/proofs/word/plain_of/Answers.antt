use Rattle.std.proofs.Common.{arith}
use Rattle.std.proofs.lemmas.Grind.{common_steps}
use Rattle.asm_text.proofs.WordLaws.{short_cond}
use Rattle.asm_text.proofs.word.plain_of.Goals as goal

pub returns-then-rest-lt2 : goal.returns-then-rest-lt2
returns-then-rest-lt2 c =
    let short = short_cond c.split_at.result.1.now c.if-rest-lt2.true in
    grind (arith, common_steps)
