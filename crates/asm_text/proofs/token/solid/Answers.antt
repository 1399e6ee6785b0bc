use Rattle.std.proofs.Common.{◌<◌, ◌∙◌, length, ap, sym, arith, length-drop}
use Rattle.std.proofs.lemmas.Bool.Decides.{nat_tests}
use Rattle.asm_text.proofs.PieceLaws.{comma_text, name_text, name_len_text, sign_text}
use Rattle.asm_text.proofs.token.solid.Goals as goal

pub returns-then-b-eq44 : goal.returns-then-b-eq44
returns-then-b-eq44 c =
    let some : 0 < length c.args.text.now = grind (arith, nat_tests) in
    (rw (c.after_blanks.ensures.rest, c.tail.ensures) (comma_text c.args.text.now some c.if-b-eq44.true), omega (arith, c.after_blanks.ensures.within, simp length-drop at (ap length c.tail.ensures)))

pub returns-then-is_name : goal.returns-then-is_name
returns-then-is_name c =
    let some : 0 < length c.args.text.now = grind (arith, nat_tests) in
    let name = sym c.is_name.ensures ∙ c.if-is_name.true in (
      rw (c.split_at.ensures.front, c.split_at.ensures.back, c.name_len.ensures.len) (name_text c.args.text.now some name),
      omega (arith, simp length-drop at (ap length c.split_at.ensures.back), c.name_len.ensures.len, name_len_text c.args.text.now some name),
    )

pub returns-else-is_name : goal.returns-else-is_name
returns-else-is_name c =
    let some : 0 < length c.args.text.now = grind (arith, nat_tests) in
    (rw (c.tail-else-is_name.ensures, c.mark_of.ensures) (sign_text c.args.text.now some c.requires (sym c.is_name.ensures ∙ c.if-is_name.false) c.if-b-eq44.false), omega (arith, simp length-drop at (ap length c.tail-else-is_name.ensures)))
