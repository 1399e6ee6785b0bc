use Rattle.asm_text.proofs.WordLaws.{ok_found, ok_only}
use Rattle.asm_text.proofs.word.spelled_word.Goals as goal

pub returns-clause-found : goal.returns-clause-found
returns-clause-found c = ok_found c.args.text.now _ c.read_spelling.ensures

pub returns-clause-only : goal.returns-clause-only
returns-clause-only c = ok_only c.args.text.now _ c.read_spelling.ensures
