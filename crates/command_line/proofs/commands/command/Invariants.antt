use Rattle.std.proofs.Common.{◌≡◌, false, drop, map}
use Rattle.clap.specs.Simple.{app_of, new_app}
use Rattle.clap.specs.declared.builder.command.Command.TheViews.{out-Command}
use Rattle.command_line.specs.Line.{with_arguments}
use Rattle.command_line.specs.Rows.{argument_of}
use Rattle.command_line.proofs.commands.command.Given as goal

abbrev pub invariant-loop-argument_row : goal.invariant-loop-argument_row
invariant-loop-argument_row l = record {
  shape : with_arguments (app_of l.command) (map argument_of (drop l.argument_row-index l.row.arguments.now)) ≡ with_arguments (new_app l.row.name.now) (map argument_of l.row.arguments.now);
  no_globals : (out-Command l.command).has_globals ≡ false;
}
