use Rattle.std.proofs.Common.{◌≡◌, drop, map}
use Rattle.clap.specs.Simple.{app_of}
use Rattle.command_line.specs.Line.{with_commands}
use Rattle.command_line.specs.Rows.{usage_of}
use Rattle.command_line.proofs.commands.with_commands.Given as goal

abbrev pub invariant-loop-row : goal.invariant-loop-row
invariant-loop-row l =
    with_commands (app_of l.outer) (map usage_of (drop l.row-index l.rows)) ≡ with_commands (app_of l.initial.outer) (map usage_of l.rows)
