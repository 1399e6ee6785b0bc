use Rattle.std.proofs.Common.{◌∙◌, sym}
use Rattle.clap.specs.Matches.{found_of}
use Rattle.clap.specs.Walk.{rows_of}
use Rattle.command_line.specs.Rows.{asked_of, usage_of}
use Rattle.command_line.proofs.RowLaws.{asked_allowed, chosen, unchosen}
use Rattle.command_line.proofs.requests.asked_by.Goals as goal

pub returns-then-is_allowed : goal.returns-then-is_allowed
returns-then-is_allowed c =
    let q = asked_of c.in_ok-request.request in
    chosen _ q (sym c.is_allowed.ensures ∙ c.if-is_allowed.true)
    ∙ asked_allowed c.args.name.now (rows_of (found_of c.args.values.now)) (usage_of c.in-Some.row.now) q c.in-Some.ensures c.in_ok-request.ensures

pub returns : goal.returns
returns c =
    let q = asked_of c.in_ok-request.request in
    unchosen _ q (sym c.is_allowed.ensures ∙ c.if-is_allowed.false)
    ∙ asked_allowed c.args.name.now (rows_of (found_of c.args.values.now)) (usage_of c.in-Some.row.now) q c.in-Some.ensures c.in_ok-request.ensures
