use Rattle.std.proofs.lemmas.Result.{IfOk-weaker}
use Rattle.certificate.proofs.FaultLaws.{bad_line, ends_early, goes_on, only, read_spells}
use Rattle.certificate.proofs.reading.read_cert.Goals as goal

pub returns-clause-found : goal.returns-clause-found
returns-clause-found c = IfOk-weaker c.read_lines.result _ _ (λ cert read. read_spells c.args.text.now cert read) c.read_lines.ensures.found

pub returns-clause-only : goal.returns-clause-only
returns-clause-only c = only c.read_lines.result c.args.text.now c.read_lines.ensures.found c.read_lines.ensures.bad_line c.read_lines.ensures.truncated c.read_lines.ensures.trailing

pub returns-clause-bad_line : goal.returns-clause-bad_line
returns-clause-bad_line c = λ n e. bad_line c.args.text.now n (c.read_lines.ensures.bad_line n e)

pub returns-clause-truncated : goal.returns-clause-truncated
returns-clause-truncated c = λ e. ends_early c.args.text.now (c.read_lines.ensures.truncated e)

pub returns-clause-trailing : goal.returns-clause-trailing
returns-clause-trailing c = λ e. goes_on c.args.text.now (c.read_lines.ensures.trailing e)
