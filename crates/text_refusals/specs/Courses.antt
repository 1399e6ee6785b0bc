-- Where in its document each item of a statement's text is: of which entry of which list, and which of its
-- destinations or of its ends, by the tables and values before it.
use Rattle.std.specs.Prelude.{◌==◌, ◌&&◌, ◌+◌, ◌<◌, not, ℕ, Bool, List, codes, drop, length, take}
use Rattle.std.specs.Prelude.{Option, Some, None, if◌then◌else◌}
use Rattle.std.specs.List.{prefix_len}
use Rattle.std.specs.Str.{bytes_eq}
use Rattle.statement.specs.Places.{list_key}
use Rattle.statement.specs.declared.spots.TableList.{TableList}
use Rattle.statement.specs.declared.spots.TableList.TheVariants.{Loops, Targets, Accesses, Rules, Multiplies}
use Rattle.statement.specs.declared.spots.TableList.TheVariants.{Branches}
use Rattle.text_refusals.specs.Outline.{Begins, Ends, Item, KeyValue, States, Table}
use Rattle.text_refusals.specs.declared.course.Course.{Course}

-- the list that a word names
abbrev pub named_list : List ℕ → Option TableList
named_list w =
    if bytes_eq w (list_key Loops) then Some Loops
    else (if bytes_eq w (list_key Targets) then Some Targets
    else (if bytes_eq w (list_key Accesses) then Some Accesses
    else (if bytes_eq w (list_key Rules) then Some Rules
    else (if bytes_eq w (list_key Multiplies) then Some Multiplies
    else (if bytes_eq w (list_key Branches) then Some Branches else None)))))

-- no dot
abbrev pub is_inner : ℕ → Bool
is_inner b = not (b == 46)

-- the first part of a key with dots
abbrev pub key_head : List ℕ → List ℕ
key_head key = take (prefix_len is_inner key) key

-- the second part, empty where there is none
abbrev pub inner_key : List ℕ → List ℕ
inner_key key = key_head (drop (prefix_len is_inner key + 1) key)

-- the list of which the table is an entry
abbrev pub entry_list : Table → Option TableList
entry_list t = if t.is_listed then named_list t.name else None

-- in so many arrays, at the key
abbrev pub is_at_key : (depth : ℕ) → (key : List ℕ) → KeyValue → Bool
is_at_key depth key p = p.depth == depth && bytes_eq p.key key

-- the list of which the value, in an array of the statement itself, is an entry
abbrev pub value_list : KeyValue → Option TableList
value_list p = if length p.list == 0 && p.depth == 1 then named_list p.key else None

-- the value is a destination of the table at hand
abbrev pub is_destination : KeyValue → Bool
is_destination p = not (length p.list == 0) && is_at_key 1 (codes "to") p

-- the value is an entry of the list of stretches apart
abbrev pub is_stretch : KeyValue → Bool
is_stretch p = length p.list == 0 && is_at_key 1 (codes "apart") p

-- the value is one of such an entry
abbrev pub is_end : KeyValue → Bool
is_end p = length p.list == 0 && is_at_key 2 (codes "apart") p

-- the table is an entry of that list, where none may be
abbrev pub is_stretch_table : Table → Bool
is_stretch_table t = t.is_listed && bytes_eq t.name (codes "apart")

-- ## Courses

abbrev pub at_front : Course
at_front =
    record {
      loops = 0;
      targets = 0;
      accesses = 0;
      rules = 0;
      multiplies = 0;
      branches = 0;
      entry = None;
      destinations = 0;
      stretches = 0;
      ends = 0;
    }

-- how many entries of the list have begun
abbrev pub begun : TableList → Course → ℕ
begun Loops c = c.loops
begun Targets c = c.targets
begun Accesses c = c.accesses
begun Rules c = c.rules
begun Multiplies c = c.multiplies
begun Branches c = c.branches

-- one entry of the list more
abbrev pub counted : TableList → Course → Course
counted Loops c = record c { loops = c.loops + 1 }
counted Targets c = record c { targets = c.targets + 1 }
counted Accesses c = record c { accesses = c.accesses + 1 }
counted Rules c = record c { rules = c.rules + 1 }
counted Multiplies c = record c { multiplies = c.multiplies + 1 }
counted Branches c = record c { branches = c.branches + 1 }

abbrev pub counted_if : Option TableList → Course → Course
counted_if None c = c
counted_if (Some list) c = counted list c

-- a table has begun, which is the next entry of the list, or none
abbrev pub entered : Option TableList → Course → Course
entered None c = record c { entry = None; destinations = 0 }
entered (Some list) c = record (counted list c) { entry = Some (list, begun list c); destinations = 0 }

-- one stretch apart more
abbrev pub stretched : Course → Course
stretched c = record c { stretches = c.stretches + 1; ends = 0 }

-- the same, by a table
abbrev pub stretch_entered : Course → Course
stretch_entered c = record c { entry = None; destinations = 0; stretches = c.stretches + 1; ends = 0 }

abbrev pub begun_table : Table → Course → Course
begun_table t c = if is_stretch_table t then stretch_entered c else entered (entry_list t) c

-- a value outside tables was passed: a stretch apart, one of its ends, an entry of a list, or none of these
abbrev pub passed_own : KeyValue → Course → Course
passed_own p c =
    if is_stretch p then stretched c
    else (if is_end p then record c { ends = c.ends + 1 } else counted_if (value_list p) c)

-- a value was passed
abbrev pub passed : KeyValue → Course → Course
passed p c = if is_destination p then record c { destinations = c.destinations + 1 } else passed_own p c

abbrev pub after : Course → Item → Course
after c (Begins t) = begun_table t c
after c (States p) = passed p c
after c Ends = c

-- one more of each can be counted
pub record HasRoom (c : Course) : Type 0 where
  pub loops : c.loops + 1 < 18446744073709551616
  pub targets : c.targets + 1 < 18446744073709551616
  pub accesses : c.accesses + 1 < 18446744073709551616
  pub rules : c.rules + 1 < 18446744073709551616
  pub multiplies : c.multiplies + 1 < 18446744073709551616
  pub branches : c.branches + 1 < 18446744073709551616
  pub destinations : c.destinations + 1 < 18446744073709551616
  pub stretches : c.stretches + 1 < 18446744073709551616
  pub ends : c.ends + 1 < 18446744073709551616
