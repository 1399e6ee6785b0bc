use Rattle.std.proofs.Common.{◌≡◌, ◌++◌, string_bytes}
use Rattle.json_trace.specs.Json.{ended}
use Rattle.json_trace.specs.StepLine.{changed}
use Rattle.json_trace.proofs.registers.put_bank.Given as goal

abbrev pub invariant-loop-k : goal.invariant-loop-k
invariant-loop-k l =
    string_bytes l.out ≡ string_bytes l.initial.out ++ ended (changed l.mode l.before l.after l.first l.k)
