use Rattle.std.proofs.Common.{◌≡◌, ◌+◌, ◌-◌, ◌*◌, ◌≤◌, ◌++◌, length, drop, vec_capacity}
use Rattle.debugger.specs.Answers.{breaks_text}
use Rattle.debugger.proofs.rows.put_breaks.Given as goal

abbrev pub invariant-loop-address : goal.invariant-loop-address
invariant-loop-address l =
    (l.out.items ++ breaks_text (drop l.address-index l.breaks) ≡ l.initial.out.items ++ breaks_text l.breaks)
    × (length l.out.items + (length l.breaks - l.address-index) * 9 ≤ vec_capacity l.out)
