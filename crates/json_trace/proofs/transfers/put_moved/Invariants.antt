use Rattle.std.proofs.Common.{◌≡◌, ◌++◌, map, string_bytes}
use Rattle.json_trace.specs.Json.{separated}
use Rattle.json_trace.specs.Planned.{words_from}
use Rattle.json_trace.specs.StepLine.{transfer_value}
use Rattle.json_trace.proofs.transfers.put_moved.Given as goal

abbrev pub invariant-loop-number : goal.invariant-loop-number
invariant-loop-number l =
    string_bytes l.out
    ≡ string_bytes l.initial.out
    ++ separated (map (transfer_value l.word l.memc) (words_from l.moved.store l.moved.address l.number))
