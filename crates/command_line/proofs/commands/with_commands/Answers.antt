use Rattle.std.proofs.Common.{◌∙◌, ◌+◌, List, drop, map, sym, ap, arith}
use Rattle.std.proofs.lemmas.List.{at_drop_more}
use Rattle.clap.specs.Simple.{App, app_of, with_subcommand}
use Rattle.command_line.specs.Line.{with_commands}
use Rattle.command_line.specs.Rows.{usage_of}
use Rattle.command_line.specs.declared.command_rows.CommandRow.{CommandRow}
use Rattle.command_line.proofs.commands.with_commands.Goals as goal

pub loop-row-preserved : goal.loop-row-preserved
loop-row-preserved c =
    let i = c.loop-row.row-index in
    let made = ap (λ (a : App). a.top) c.in_ok-command.ensures.shape in
    let added = c.in_ok-outer.ensures.shape c.in_ok-command.ensures.no_globals ∙ ap (with_subcommand (app_of c.loop-row.outer)) made in
    ap (λ (a : App). with_commands a (map usage_of (drop (i + 1) c.args.rows.now))) added
    ∙ sym (at_drop_more (λ (rows : List CommandRow). with_commands (app_of c.loop-row.outer) (map usage_of rows)) c.args.rows.now i _ (omega (arith, c.loop-row-test.true)))
    ∙ c.loop-row.invariant
