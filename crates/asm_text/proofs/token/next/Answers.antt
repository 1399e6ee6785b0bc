use Rattle.std.proofs.Common.{◌≡◌, ◌<◌, ◌≤◌, ◌⊎◌, inl, inr, get_or, length, arith}
use Rattle.std.proofs.lemmas.Bool.Decides.{nat_tests}
use Rattle.asm_text.proofs.PieceLaws.{next_none, next_gap, next_same, next_by}
use Rattle.asm_text.proofs.token.next.Goals as goal

pub returns-then-is_empty : goal.returns-then-is_empty
returns-then-is_empty c = next_none c.args.text.now c.after_blanks-rest.result.now c.after_blanks-rest.ensures.rest (grind (arith, nat_tests))

pub returns-then-rest-text : goal.returns-then-rest-text
returns-then-rest-text c =
    let some : 0 < length c.after_blanks-rest.result.now = grind (arith, nat_tests) in
    (next_gap c.args.text.now c.after_blanks-rest.result.now c.after_blanks-rest.ensures.rest some c.if-rest-ne44.true c.if-rest-text.true, c.if-rest-text.true)

pub returns-else-rest-ne44 : goal.returns-else-rest-ne44
returns-else-rest-ne44 c =
    let text = c.args.text.now in
    let rest = c.after_blanks-rest.result.now in
    let some : 0 < length rest = grind (arith, nat_tests) in
    let either : (get_or rest 0 0 ≡ 44) ⊎ (length text ≤ length rest) = elim c.else-rest-ne44.either [ inl p ↦ inr p.1 | inr e ↦ inl e ] in
    next_by c.solid.result text rest (next_same text rest c.after_blanks-rest.ensures.rest some c.after_blanks-rest.ensures.within either) c.after_blanks-rest.ensures.within some c.solid.ensures
