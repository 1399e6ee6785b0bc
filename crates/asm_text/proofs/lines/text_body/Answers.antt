use Rattle.std.proofs.Common.{◌∙◌, sym, arith}
use Rattle.std.proofs.lemmas.Bool.Decides.{nat_tests}
use Rattle.asm_text.proofs.BodyLaws.{comment_after, nothing_after, other_after}
use Rattle.asm_text.proofs.lines.text_body.Goals as goal

pub returns-then-is_empty : goal.returns-then-is_empty
returns-then-is_empty c =
    let t = nothing_after c.args.line.now c.split_at.result.1.now c.plain_len.result c.plain_len.ensures.len c.split_at.ensures.back (grind (arith, nat_tests)) in
    (t.0, c.split_at.ensures.front ∙ t.1)

pub returns-then-comment-ne59 : goal.returns-then-comment-ne59
returns-then-comment-ne59 c = other_after c.args.line.now c.split_at.result.1.now c.plain_len.result c.plain_len.ensures.len c.split_at.ensures.back (grind (arith, nat_tests)) c.if-comment-ne59.true

pub returns-then-are_comment_bytes : goal.returns-then-are_comment_bytes
returns-then-are_comment_bytes c =
    let t = comment_after c.args.line.now c.split_at.result.1.now c.plain_len.result c.plain_len.ensures.len c.split_at.ensures.back c.if-comment-ne59.false in
    (t.0 ∙ sym c.are_comment_bytes.ensures ∙ c.if-are_comment_bytes.true, c.split_at.ensures.front ∙ t.1)

pub returns-else-are_comment_bytes : goal.returns-else-are_comment_bytes
returns-else-are_comment_bytes c =
    let t = comment_after c.args.line.now c.split_at.result.1.now c.plain_len.result c.plain_len.ensures.len c.split_at.ensures.back c.if-comment-ne59.false in
    t.0 ∙ sym c.are_comment_bytes.ensures ∙ c.if-are_comment_bytes.false
