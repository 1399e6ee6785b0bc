use Rattle.std.proofs.Common.{[]}
use Rattle.text_refusals.proofs.PlainLemmas.{lines_state}
use Rattle.text_refusals.proofs.law.plain_lines_are_seen.Goals as goal

pub returns : goal.returns
returns c = λ keys. lines_state keys 1 [] [] []
