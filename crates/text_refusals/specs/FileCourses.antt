-- Of which entry of which list each item of the text of a machine file, a cycle profile or a file of facts
-- is: by the tables and values before it.
use Rattle.std.specs.Prelude.{◌==◌, ◌&&◌, ◌+◌, ◌<◌, ℕ, List, codes, length}
use Rattle.std.specs.Prelude.{Option, Some, None, if◌then◌else◌}
use Rattle.std.specs.Str.{bytes_eq}
use Rattle.machine_file.specs.MachinePlaces.{list_key}
use Rattle.machine_file.specs.ProfilePlaces.{price_key}
use Rattle.machine_file.specs.declared.spots.MachineList.TheVariants.{Pages, Events, Words}
use Rattle.machine_file.specs.declared.spots.PriceList.TheVariants.{Rom, Io}
use Rattle.text_refusals.specs.Outline.{Begins, Ends, Item, KeyValue, States, Table}
use Rattle.text_refusals.specs.declared.file_course.FileCourse.{FileCourse}
use Rattle.text_refusals.specs.declared.file_course.FileList.{FileList}
use Rattle.text_refusals.specs.declared.file_course.FileList.TheVariants.{Tables, Prices, Facts}

-- the list that a word names
abbrev pub named_list : List ℕ → Option FileList
named_list w =
    if bytes_eq w (list_key Pages) then Some (Tables Pages)
    else (if bytes_eq w (list_key Events) then Some (Tables Events)
    else (if bytes_eq w (list_key Words) then Some (Tables Words)
    else (if bytes_eq w (price_key Rom) then Some (Prices Rom)
    else (if bytes_eq w (price_key Io) then Some (Prices Io)
    else (if bytes_eq w (codes "given") then Some Facts else None)))))

-- the list of which the table is an entry
abbrev pub entry_list : Table → Option FileList
entry_list t = if t.is_listed then named_list t.name else None

-- the list of which the value, in an array of the file itself, is an entry
abbrev pub value_list : KeyValue → Option FileList
value_list p = if length p.list == 0 && p.depth == 1 then named_list p.key else None

-- ## Courses

abbrev pub at_front : FileCourse
at_front = record { pages = 0; events = 0; words = 0; rom = 0; io = 0; facts = 0; entry = None }

-- how many entries of the list have begun
abbrev pub begun : FileList → FileCourse → ℕ
begun (Tables Pages) c = c.pages
begun (Tables Events) c = c.events
begun (Tables Words) c = c.words
begun (Prices Rom) c = c.rom
begun (Prices Io) c = c.io
begun Facts c = c.facts

-- one entry of the list more
abbrev pub counted : FileList → FileCourse → FileCourse
counted (Tables Pages) c = record c { pages = c.pages + 1 }
counted (Tables Events) c = record c { events = c.events + 1 }
counted (Tables Words) c = record c { words = c.words + 1 }
counted (Prices Rom) c = record c { rom = c.rom + 1 }
counted (Prices Io) c = record c { io = c.io + 1 }
counted Facts c = record c { facts = c.facts + 1 }

abbrev pub counted_if : Option FileList → FileCourse → FileCourse
counted_if None c = c
counted_if (Some list) c = counted list c

-- a table has begun, which is the next entry of the list, or none
abbrev pub entered : Option FileList → FileCourse → FileCourse
entered None c = record c { entry = None }
entered (Some list) c = record (counted list c) { entry = Some (list, begun list c) }

abbrev pub after : FileCourse → Item → FileCourse
after c (Begins t) = entered (entry_list t) c
after c (States p) = counted_if (value_list p) c
after c Ends = c

-- one more of each can be counted
pub record HasRoom (c : FileCourse) : Type 0 where
  pub pages : c.pages + 1 < 18446744073709551616
  pub events : c.events + 1 < 18446744073709551616
  pub words : c.words + 1 < 18446744073709551616
  pub rom : c.rom + 1 < 18446744073709551616
  pub io : c.io + 1 < 18446744073709551616
  pub facts : c.facts + 1 < 18446744073709551616
