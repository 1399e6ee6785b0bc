use Rattle.std.proofs.Common.{ap, codes}
use Rattle.std.proofs.lemmas.Result.{on_ok_weaker}
use Rattle.text_draft.specs.DraftText.{way_text}
use Rattle.text_draft.proofs.FlatLaws.{way_whole}
use Rattle.text_draft.proofs.statement_text.Sheet.put_way.Goals as goal

pub returns-in_ok-put-in-Jump : goal.returns-in_ok-put-in-Jump
returns-in_ok-put-in-Jump c =
    let lines = c.args.self.now.lines.now in
    let t = c.args.target.now in
    on_ok_weaker c.put_destinations.result
    (way_whole lines t.way t.at c.ahead_of.result t.branches (codes "kind = \"jump\"  # or \"call\", \"return\", \"leave\"\n")
    c.args.out.now.items c.put-in-Jump.new.out.items c.put_destinations.new.out.items
    (ap (λ w. way_text lines w t.at t.branches) c.in-Jump.is) c.ahead_of.ensures.sum c.in_ok-put-in-Jump.ensures)
    c.put_destinations.ensures

pub returns-in_ok-put-in-Call : goal.returns-in_ok-put-in-Call
returns-in_ok-put-in-Call c =
    let lines = c.args.self.now.lines.now in
    let t = c.args.target.now in
    on_ok_weaker c.put_destinations-in-Call.result
    (way_whole lines t.way t.at c.ahead_of.result t.branches (codes "kind = \"call\"  # or \"jump\", \"return\", \"leave\"\n")
    c.args.out.now.items c.put-in-Call.new.out.items c.put_destinations-in-Call.new.out.items
    (ap (λ w. way_text lines w t.at t.branches) c.in-Call.is) c.ahead_of.ensures.sum c.in_ok-put-in-Call.ensures)
    c.put_destinations-in-Call.ensures
