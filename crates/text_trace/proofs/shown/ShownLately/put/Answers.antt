use Rattle.std.proofs.Common.{◌≡◌, ◌∙◌, ◌==◌, ◌/◌, ◌%◌, sym, subst, arith}
use Rattle.std.proofs.lemmas.Bool.{and_parts}
use Rattle.std.proofs.lemmas.Bool.Decides.{nat_tests}
use Rattle.assembler.specs.ShownLines.{IsShown}
use Rattle.asm_text.specs.Appended.{Appends}
use Rattle.text_trace.proofs.LatelyLaws.{set_right}
use Rattle.text_trace.proofs.shown.ShownLately.put.Goals as goal

pub put-requires-clause-right : goal.put-requires-clause-right
put-requires-clause-right c = c.requires.right (c.args.at / 4 % 64) c.in-Some.row c.in-Some.is

pub returns-then-is_of-clause-text : goal.returns-then-is_of-clause-text
returns-then-is_of-clause-text c =
    let row = c.in-Some.row in
    let same =
    and_parts (row.word == c.args.word) (row.at == c.args.at) (sym c.is_of.ensures ∙ c.if-is_of.true) in
    let word : row.word ≡ c.args.word = grind (arith, nat_tests, same.0) in
    let at : row.at ≡ c.args.at = grind (arith, nat_tests, same.1) in
    subst (λ w. Appends (IsShown w c.args.at) c.args.out.now.bytes c.put.new.out.bytes) word
    (subst (λ a. Appends (IsShown row.word a) c.args.out.now.bytes c.put.new.out.bytes) at c.put.ensures.text)

pub returns-clause-right : goal.returns-clause-right
returns-clause-right c =
    set_right c.args.self.now.rows (c.args.at / 4 % 64) c.of-row.result c.requires.right
    c.of-row.ensures.right
