-- No more entries have begun than items were passed.
use Rattle.std.proofs.Common.{◌≤◌, ◌<◌, ◌+◌, ℕ, Bool, true, false, Option, Some, None, cond, arith}
use Rattle.statement.specs.declared.spots.TableList.{TableList}
use Rattle.statement.specs.declared.spots.TableList.TheVariants.{Loops, Targets, Accesses, Rules, Multiplies, Branches}
use Rattle.text_refusals.specs.Courses.{HasRoom, after, at_front, begun_table, counted, counted_if, entered, entry_list, is_destination, is_end, is_stretch, is_stretch_table, passed, passed_own, stretch_entered, stretched, value_list}
use Rattle.text_refusals.specs.Outline.{Begins, Ends, Item, KeyValue, States, Table}
use Rattle.text_refusals.specs.declared.course.Course.{Course}

pub record IsUpTo (n : ℕ) (c : Course) : Type 0 where
  pub loops : c.loops ≤ n
  pub targets : c.targets ≤ n
  pub accesses : c.accesses ≤ n
  pub rules : c.rules ≤ n
  pub multiplies : c.multiplies ≤ n
  pub branches : c.branches ≤ n
  pub destinations : c.destinations ≤ n
  pub stretches : c.stretches ≤ n
  pub ends : c.ends ≤ n

pub none_passed : IsUpTo 0 at_front
none_passed = record {
  loops = omega arith;
  targets = omega arith;
  accesses = omega arith;
  rules = omega arith;
  multiplies = omega arith;
  branches = omega arith;
  destinations = omega arith;
  stretches = omega arith;
  ends = omega arith;
}

pub has_room : (n : ℕ) (c : Course) → IsUpTo n c → n + 1 < 18446744073709551616 → HasRoom c
has_room n c h low = record {
  loops = omega (arith, h.loops, low);
  targets = omega (arith, h.targets, low);
  accesses = omega (arith, h.accesses, low);
  rules = omega (arith, h.rules, low);
  multiplies = omega (arith, h.multiplies, low);
  branches = omega (arith, h.branches, low);
  destinations = omega (arith, h.destinations, low);
  stretches = omega (arith, h.stretches, low);
  ends = omega (arith, h.ends, low);
}

more : (n : ℕ) (c : Course) → IsUpTo n c → IsUpTo (n + 1) c
more n c h = record {
  loops = omega (arith, h.loops);
  targets = omega (arith, h.targets);
  accesses = omega (arith, h.accesses);
  rules = omega (arith, h.rules);
  multiplies = omega (arith, h.multiplies);
  branches = omega (arith, h.branches);
  destinations = omega (arith, h.destinations);
  stretches = omega (arith, h.stretches);
  ends = omega (arith, h.ends);
}

counted_up_to : (n : ℕ) (c : Course) (list : TableList) → IsUpTo n c → IsUpTo (n + 1) (counted list c)
counted_up_to n c Loops h = record {
  loops = omega (arith, h.loops);
  targets = omega (arith, h.targets);
  accesses = omega (arith, h.accesses);
  rules = omega (arith, h.rules);
  multiplies = omega (arith, h.multiplies);
  branches = omega (arith, h.branches);
  destinations = omega (arith, h.destinations);
  stretches = omega (arith, h.stretches);
  ends = omega (arith, h.ends);
}
counted_up_to n c Targets h = record {
  loops = omega (arith, h.loops);
  targets = omega (arith, h.targets);
  accesses = omega (arith, h.accesses);
  rules = omega (arith, h.rules);
  multiplies = omega (arith, h.multiplies);
  branches = omega (arith, h.branches);
  destinations = omega (arith, h.destinations);
  stretches = omega (arith, h.stretches);
  ends = omega (arith, h.ends);
}
counted_up_to n c Accesses h = record {
  loops = omega (arith, h.loops);
  targets = omega (arith, h.targets);
  accesses = omega (arith, h.accesses);
  rules = omega (arith, h.rules);
  multiplies = omega (arith, h.multiplies);
  branches = omega (arith, h.branches);
  destinations = omega (arith, h.destinations);
  stretches = omega (arith, h.stretches);
  ends = omega (arith, h.ends);
}
counted_up_to n c Rules h = record {
  loops = omega (arith, h.loops);
  targets = omega (arith, h.targets);
  accesses = omega (arith, h.accesses);
  rules = omega (arith, h.rules);
  multiplies = omega (arith, h.multiplies);
  branches = omega (arith, h.branches);
  destinations = omega (arith, h.destinations);
  stretches = omega (arith, h.stretches);
  ends = omega (arith, h.ends);
}
counted_up_to n c Multiplies h = record {
  loops = omega (arith, h.loops);
  targets = omega (arith, h.targets);
  accesses = omega (arith, h.accesses);
  rules = omega (arith, h.rules);
  multiplies = omega (arith, h.multiplies);
  branches = omega (arith, h.branches);
  destinations = omega (arith, h.destinations);
  stretches = omega (arith, h.stretches);
  ends = omega (arith, h.ends);
}
counted_up_to n c Branches h = record {
  loops = omega (arith, h.loops);
  targets = omega (arith, h.targets);
  accesses = omega (arith, h.accesses);
  rules = omega (arith, h.rules);
  multiplies = omega (arith, h.multiplies);
  branches = omega (arith, h.branches);
  destinations = omega (arith, h.destinations);
  stretches = omega (arith, h.stretches);
  ends = omega (arith, h.ends);
}

counted_if_up_to : (n : ℕ) (c : Course) (list : Option TableList) → IsUpTo n c → IsUpTo (n + 1) (counted_if list c)
counted_if_up_to n c None h = more n c h
counted_if_up_to n c (Some list) h = counted_up_to n c list h

entered_up_to : (n : ℕ) (c : Course) (list : Option TableList) → IsUpTo n c → IsUpTo (n + 1) (entered list c)
entered_up_to n c None h = record {
  loops = omega (arith, h.loops);
  targets = omega (arith, h.targets);
  accesses = omega (arith, h.accesses);
  rules = omega (arith, h.rules);
  multiplies = omega (arith, h.multiplies);
  branches = omega (arith, h.branches);
  destinations = omega arith;
  stretches = omega (arith, h.stretches);
  ends = omega (arith, h.ends);
}
entered_up_to n c (Some list) h =
    let up = counted_up_to n c list h in
    record {
      loops = up.loops;
      targets = up.targets;
      accesses = up.accesses;
      rules = up.rules;
      multiplies = up.multiplies;
      branches = up.branches;
      destinations = omega arith;
      stretches = up.stretches;
      ends = up.ends;
    }

stretched_up_to : (n : ℕ) (c : Course) → IsUpTo n c → IsUpTo (n + 1) (stretched c)
stretched_up_to n c h = record {
  loops = omega (arith, h.loops);
  targets = omega (arith, h.targets);
  accesses = omega (arith, h.accesses);
  rules = omega (arith, h.rules);
  multiplies = omega (arith, h.multiplies);
  branches = omega (arith, h.branches);
  destinations = omega (arith, h.destinations);
  stretches = omega (arith, h.stretches);
  ends = omega arith;
}

begun_up_to : (n : ℕ) (c : Course) (t : Table) → IsUpTo n c → IsUpTo (n + 1) (begun_table t c)
begun_up_to n c t h = by_test (is_stretch_table t)
  where
    by_test : (b : Bool) → IsUpTo (n + 1) (cond b (stretch_entered c) (entered (entry_list t) c))
    by_test true = record {
      loops = omega (arith, h.loops);
      targets = omega (arith, h.targets);
      accesses = omega (arith, h.accesses);
      rules = omega (arith, h.rules);
      multiplies = omega (arith, h.multiplies);
      branches = omega (arith, h.branches);
      destinations = omega arith;
      stretches = omega (arith, h.stretches);
      ends = omega arith;
    }
    by_test false = entered_up_to n c (entry_list t) h

own_up_to : (n : ℕ) (c : Course) (p : KeyValue) → IsUpTo n c → IsUpTo (n + 1) (passed_own p c)
own_up_to n c p h = by_tests (is_stretch p) (is_end p)
  where
    by_tests : (a b : Bool) → IsUpTo (n + 1) (cond a (stretched c) (cond b (record c { ends = c.ends + 1 }) (counted_if (value_list p) c)))
    by_tests true b = stretched_up_to n c h
    by_tests false true = record {
      loops = omega (arith, h.loops);
      targets = omega (arith, h.targets);
      accesses = omega (arith, h.accesses);
      rules = omega (arith, h.rules);
      multiplies = omega (arith, h.multiplies);
      branches = omega (arith, h.branches);
      destinations = omega (arith, h.destinations);
      stretches = omega (arith, h.stretches);
      ends = omega (arith, h.ends);
    }
    by_tests false false = counted_if_up_to n c (value_list p) h

passed_up_to : (n : ℕ) (c : Course) (p : KeyValue) → IsUpTo n c → IsUpTo (n + 1) (passed p c)
passed_up_to n c p h = by_test (is_destination p)
  where
    by_test : (b : Bool) → IsUpTo (n + 1) (cond b (record c { destinations = c.destinations + 1 }) (passed_own p c))
    by_test true = record {
      loops = omega (arith, h.loops);
      targets = omega (arith, h.targets);
      accesses = omega (arith, h.accesses);
      rules = omega (arith, h.rules);
      multiplies = omega (arith, h.multiplies);
      branches = omega (arith, h.branches);
      destinations = omega (arith, h.destinations);
      stretches = omega (arith, h.stretches);
      ends = omega (arith, h.ends);
    }
    by_test false = own_up_to n c p h

pub after_up_to : (n : ℕ) (c : Course) (i : Item) → IsUpTo n c → IsUpTo (n + 1) (after c i)
after_up_to n c (Begins t) h = begun_up_to n c t h
after_up_to n c (States p) h = passed_up_to n c p h
after_up_to n c Ends h = more n c h
