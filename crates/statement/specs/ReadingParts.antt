-- The parts of a statement as they are read.
use Rattle.std.specs.Prelude.{◌<◌, ◌≤◌, ℕ, All, AllPairs, List, Vec, length}
use Rattle.std.specs.declared.alloc.Global.{Global}
use Rattle.bus_ticks.specs.declared.profile.Class.{Class}
use Rattle.bus_ticks.specs.declared.space.TheConstants.{SPACE_END}
use Rattle.walks.specs.declared.limits.TheConstants.{MOST_ROUNDS}
use Rattle.statement.specs.Stated.{IsRule, IsStated, ShareNoWord, Target}
use Rattle.statement.specs.Statement.{Frame, Limits, Parts, Words, stated_by}
use Rattle.statement.specs.declared.apart.ApartStretch.{ApartStretch}
use Rattle.statement.specs.declared.stated.BaseRule.{BaseRule}
use Rattle.statement.specs.declared.stated.Loop.{Loop}
use Rattle.statement.specs.declared.stated.Taken.{Taken}

abbrev pub StoredWords : Type 0
StoredWords = Vec (ℕ × Target) Global × Vec (ℕ × Class) Global

abbrev pub StoredLimits : Type 0
StoredLimits = Vec (ℕ × ℕ) Global × Vec (ℕ × Taken) Global

abbrev pub Stored : Type 0
Stored = (Frame × StoredWords) × (Vec BaseRule Global × StoredLimits)

abbrev pub pair_of : Vec Loop Global × List ApartStretch → List Loop × List ApartStretch
pair_of p = (p.0.items, p.1)

abbrev pub words_of : StoredWords → Words
words_of p = (p.0.items, p.1.items)

abbrev pub limits_of : StoredLimits → Limits
limits_of p = (p.0.items, p.1.items)

abbrev pub rules_of : Vec BaseRule Global × StoredLimits → List BaseRule × Limits
rules_of p = (p.0.items, limits_of p.1)

abbrev pub parts_in : Stored → Parts
parts_in p = ((p.0.0, words_of p.0.1), rules_of p.1)

-- what holds of loops that were read, before it is judged where their headers lie
pub record AreBounded (loops : List Loop) : Type 0 where
  pub small : All (λ l. (l.last < SPACE_END) × (l.bound ≤ MOST_ROUNDS)) loops
  pub few : length loops ≤ 256

-- what holds of parts that were read: of a statement, if no two of its rules are for one register at one
-- address
pub record AreRead (p : Parts) : Type 0 where
  pub rules : All IsRule p.1.0
  pub stated : AllPairs ShareNoWord p.1.0 → IsStated (stated_by p)
