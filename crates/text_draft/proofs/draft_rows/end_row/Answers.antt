use Rattle.std.proofs.lemmas.Result.{on_ok_weaker}
use Rattle.std.proofs.Common.{arith}
use Rattle.text_draft.proofs.FlatLaws.{row_ended}
use Rattle.text_draft.proofs.draft_rows.end_row.Goals as goal

pub returns : goal.returns
returns c =
    on_ok_weaker c.put.result
    (λ last. λ before text is at.
    row_ended c.args.line before text c.args.out.now.items c.put_remark.new.out.items c.truncate.new.self.items
    c.put.new.out.items c.args.start c.len-end.result c.saturating_sub.result c.saturating_sub-room.result is at
    (omega (arith, c.len-end.ensures)) c.saturating_sub.ensures c.saturating_sub-room.ensures c.in_ok-put_remark.ensures
    c.truncate.ensures.items last)
    c.put.ensures
