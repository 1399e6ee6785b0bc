use Rattle.std.proofs.Common.{◌≡◌, drop, fold, map}
use Rattle.command_line.specs.Line.{Asked, with_value}
use Rattle.command_line.specs.Rows.{argument_of, asked_of}
use Rattle.command_line.proofs.requests.add_argument.Given as goal

abbrev pub invariant-loop-value : goal.invariant-loop-value
invariant-loop-value l =
    let a = argument_of l.row in
    fold (λ (asked : Asked) value. with_value a value asked) (asked_of l.request) (map (λ v. v.now) (drop l.value-index l.given))
    ≡ fold (λ (asked : Asked) value. with_value a value asked) (asked_of l.initial.request) (map (λ v. v.now) l.given)
