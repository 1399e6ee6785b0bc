use Rattle.std.proofs.Common.{◌≡◌, Some, ap, codes, rules}
use Rattle.std.proofs.lemmas.Result.{on_ok_weaker}
use Rattle.text_draft.specs.DraftText.{bound_text}
use Rattle.text_draft.proofs.FlatLaws.{bound_whole}
use Rattle.text_draft.proofs.statement_text.put_bound.Goals as goal

pub returns-in_ok-put : goal.returns-in_ok-put
returns-in_ok-put c =
    let turns = c.in-Some.turns in
    let indent = c.args.indent in
    on_ok_weaker c.put_counted.result
    (bound_whole indent c.args.proved c.args.turns turns (codes "bound = ") (codes "  # proved\n") c.args.out.now.items c.put_blanks.new.out.items
    c.put-then-proved.new.out.items c.put_counted.new.out.items (ap (λ b. bound_text indent b (Some turns)) c.if-proved.true)
    (let some : c.args.turns ≡ Some turns = search rules in some) c.in_ok-put_blanks.ensures c.in_ok-put.ensures)
    c.put_counted.ensures
