-- A statement as it is stored.
use Rattle.std.specs.Prelude.{◌≤◌, All, length}
use Rattle.statement.specs.declared.stated.Statement.TheInside.{Inside}
use Rattle.statement.specs.declared.stated.StatedLoops.TheInside as loops_inside
use Rattle.statement.specs.Stated.{IsLoop, IsStated, Stated, StatedLoops}
use Rattle.statement.specs.Stretches.{AreOf, number_for}

abbrev pub loops_of : loops_inside.Inside → StatedLoops
loops_of loops = record { list = loops.list.items; apart = loops.apart }

-- each of them is a loop, and a statement may have as many
pub record AreStoredLoops (loops : loops_inside.Inside) : Type 0 where
  pub within : All (IsLoop loops.apart) loops.list.items
  pub few : length loops.list.items ≤ 256

abbrev pub stated_of : Inside → Stated
stated_of statement = record {
  entry = statement.entry;
  leave = statement.leave;
  returns = statement.returns;
  loops = statement.loops;
  targets = statement.targets.entries;
  accesses = statement.accesses.entries;
  rules = statement.rules.items;
  multiplies = statement.multiplies.entries;
  branches = statement.branches.entries;
}

-- it is within the limits of statements, and its index gives the numbers of its rules
pub record IsStored (statement : Inside) : Type 0 where
  pub stated : IsStated (stated_of statement)
  pub indexed : AreOf statement.index (number_for statement.rules.items)
