use Rattle.statement.proofs.OffsetLemmas.{last_sign_is}
use Rattle.statement.proofs.offsets.last_sign.Goals as goal

pub returns-clause-value : goal.returns-clause-value
returns-clause-value c = last_sign_is c.args.text.now c.memrchr2.result c.memrchr2.ensures
