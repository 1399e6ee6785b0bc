use Rattle.std.proofs.Common.{subst, sym}
use Rattle.std.specs.Prelude.{All}
use Rattle.std.proofs.lemmas.List.Elements.{All-push}
use Rattle.text_draft.specs.Targets.{IsTarget}
use Rattle.text_draft.proofs.pc_writers.keep_target.Goals as goal

pub returns-clause-shown : goal.returns-clause-shown
returns-clause-shown c = λ addresses trusted all.
    subst (All (IsTarget c.args.image.now addresses)) (sym c.in_ok-push.ensures.items)
    (All-push (IsTarget c.args.image.now addresses) c.args.found.now.items _ all
    (record { way_is = c.way_at-way.ensures addresses trusted; table = c.table_len-branches.ensures }))
