use Rattle.std.proofs.Common.{◌≡◌, IfOk, Option, option_map, subst}
use Rattle.std.specs.Box.{box_value}
use Rattle.clap.specs.Walk.{rows_of}
use Rattle.clap.specs.Matches.{found_of}
use Rattle.clap.specs.declared.parser.matches.ArgMatches.TheViews.{out-ArgMatches, out-SubCommand}
use Rattle.command_line.specs.Line.{Asked}
use Rattle.command_line.specs.Rows.{asked_of}
use Rattle.command_line.proofs.RowLaws.{pair_asked}
use Rattle.command_line.proofs.requests.request_in.Goals as goal

pub returns-in-Some : goal.returns-in-Some
returns-in-Some c =
    let rows = rows_of (found_of c.in-Some.values.now) in
    subst (λ (o : Option Asked). IfOk c.asked_by.result (λ q. option_map asked_of q ≡ o))
    (pair_asked (out-ArgMatches c.args.matches.now).subcommand (λ b. (out-SubCommand (box_value b)).name.now)
    (λ b. rows_of (found_of (out-SubCommand (box_value b)).matches)) c.in-Some.name.now rows c.in-Some.ensures.name c.in-Some.ensures.rows)
    c.asked_by.ensures
