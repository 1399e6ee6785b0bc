use Rattle.asm_text.proofs.PieceLaws.{ok_written, ok_spaced, ok_only}
use Rattle.asm_text.proofs.token.tokens.Goals as goal

pub returns-clause-written : goal.returns-clause-written
returns-clause-written c = ok_written c.read_tokens.result c.args.line.now c.read_tokens.ensures.exact

pub returns-clause-spaced : goal.returns-clause-spaced
returns-clause-spaced c = ok_spaced c.read_tokens.result c.args.line.now c.read_tokens.ensures.exact

pub returns-clause-only : goal.returns-clause-only
returns-clause-only c = ok_only c.read_tokens.result c.args.line.now c.read_tokens.ensures.exact
