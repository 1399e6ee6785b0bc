use Rattle.std.proofs.Common.{◌≡◌, drop, fold, map}
use Rattle.clap.specs.Matches.{found_of}
use Rattle.clap.specs.Walk.{rows_of}
use Rattle.command_line.specs.Line.{numbers_in, plainly, with_argument}
use Rattle.command_line.specs.Rows.{argument_of, asked_of}
use Rattle.command_line.proofs.requests.asked.Given as goal

abbrev pub invariant-loop-argument : goal.invariant-loop-argument
invariant-loop-argument l =
    let rows = rows_of (found_of l.values) in
    fold (with_argument rows) (asked_of l.request) (map argument_of (drop l.argument-index l.row.arguments.now))
    ≡ fold (with_argument rows) (plainly l.row.command (numbers_in rows)) (map argument_of l.row.arguments.now)
