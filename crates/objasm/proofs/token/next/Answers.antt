use Rattle.std.proofs.Common.{◌<◌, ◌∙◌, length, ap, sym, arith, length-drop}
use Rattle.std.proofs.lemmas.Bool.Decides.{nat_tests}
use Rattle.objasm.proofs.PartLaws.{no_parts, run_first, byte_first}
use Rattle.objasm.proofs.token.next.Goals as goal

pub returns-then-is_empty : goal.returns-then-is_empty
returns-then-is_empty c = no_parts c.args.text.now (grind (arith, nat_tests))

pub returns-then-is_name : goal.returns-then-is_name
returns-then-is_name c =
    let some : 0 < length c.args.text.now = grind (arith, nat_tests) in
    let t = run_first c.args.text.now c.name_len.result c.name_len.ensures.len some (sym c.is_name.ensures ∙ c.if-is_name.true) in
    (rw (c.split_at.ensures.front, c.split_at.ensures.back) t.0, omega (arith, simp length-drop at (ap length c.split_at.ensures.back), t.1))

pub returns-else-is_name : goal.returns-else-is_name
returns-else-is_name c =
    let some : 0 < length c.args.text.now = grind (arith, nat_tests) in
    (rw c.tail.ensures (byte_first c.args.text.now some (sym c.is_name.ensures ∙ c.if-is_name.false)), omega (arith, simp length-drop at (ap length c.tail.ensures)))
