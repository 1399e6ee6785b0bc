use Rattle.asm_text.proofs.SpelledLines.{line_again, line_is}
use Rattle.asm_text.proofs.law.lines_are_spelled.Goals as goal

pub returns-clause-read : goal.returns-clause-read
returns-clause-read c = line_is

pub returns-clause-spelled : goal.returns-clause-spelled
returns-clause-spelled c = line_again
