use Rattle.std.proofs.Common.{◌≡◌, ◌≤◌, ◌+◌, false, [], length}
use Rattle.asm_text.specs.Source.{lines_of}
use Rattle.objasm.specs.Conditions.{open_in}
use Rattle.objasm.specs.Literals.{no_pool, pool_of}
use Rattle.objasm.specs.Names.{meanings_of}
use Rattle.objasm.specs.Source.{plain_lines, plain_of, state_in}
use Rattle.objasm.proofs.SourceLaws.{after}
use Rattle.objasm.proofs.source.plain_with.Given as goal

abbrev pub invariant-loop-line : goal.invariant-loop-line
invariant-loop-line l = record {
  count : l.number + length l.rest ≤ length l.source + 1;
  same : after (plain_of l.out.plain) (plain_lines l.ended (meanings_of l.names) (state_in (open_in l.conditions) (pool_of l.out.pool)) l.number (lines_of l.rest))
      ≡ plain_lines false (meanings_of l.names) (state_in [] no_pool) 1 (lines_of l.source);
}

abbrev pub decreases-loop-line : goal.decreases-loop-line
decreases-loop-line l = length l.rest
