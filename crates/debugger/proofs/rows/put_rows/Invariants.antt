use Rattle.std.proofs.Common.{◌≡◌, ◌+◌, ◌-◌, ◌*◌, ◌≤◌, length, drop, vec_capacity}
use Rattle.asm_text.specs.Appended.{Appends}
use Rattle.debugger.specs.declared.rows.TheConstants.{ROW_ROOM}
use Rattle.debugger.proofs.RowLaws.{RowsSoFar}
use Rattle.debugger.proofs.rows.put_rows.Given as goal

abbrev pub invariant-loop-word : goal.invariant-loop-word
invariant-loop-word l =
    Appends (RowsSoFar l.row l.address l.words l.at (drop l.word-index l.words)) l.initial.out.items l.out.items
    × (l.at ≡ l.address + 4 * l.word-index)
    × (length l.out.items + (length l.words - l.word-index) * ROW_ROOM ≤ vec_capacity l.out)
