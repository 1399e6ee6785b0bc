-- No more entries have begun than items were passed.
use Rattle.std.proofs.Common.{◌≡◌, ◌≤◌, ◌<◌, ◌+◌, ℕ, Option, Some, None, arith}
use Rattle.machine_file.specs.declared.spots.MachineList.TheVariants.{Pages, Events, Words}
use Rattle.machine_file.specs.declared.spots.PriceList.TheVariants.{Rom, Io}
use Rattle.text_refusals.specs.FileCourses.{HasRoom, after, counted, counted_if, entered, entry_list, value_list}
use Rattle.text_refusals.specs.Outline.{Begins, Ends, Item, States}
use Rattle.text_refusals.specs.declared.file_course.FileCourse.{FileCourse}
use Rattle.text_refusals.specs.declared.file_course.FileList.{FileList}
use Rattle.text_refusals.specs.declared.file_course.FileList.TheVariants.{Tables, Prices, Facts}

abbrev pub total : FileCourse → ℕ
total c = c.pages + (c.events + (c.words + (c.rom + (c.io + c.facts))))

pub has_room : (n : ℕ) (c : FileCourse) → total c ≤ n → n + 1 < 18446744073709551616 → HasRoom c
has_room n c h low = record {
  pages = omega (arith, h, low);
  events = omega (arith, h, low);
  words = omega (arith, h, low);
  rom = omega (arith, h, low);
  io = omega (arith, h, low);
  facts = omega (arith, h, low);
}

counted_one : (list : FileList) (c : FileCourse) → total (counted list c) ≡ total c + 1
counted_one (Tables Pages) c = omega arith
counted_one (Tables Events) c = omega arith
counted_one (Tables Words) c = omega arith
counted_one (Prices Rom) c = omega arith
counted_one (Prices Io) c = omega arith
counted_one Facts c = omega arith

counted_most : (o : Option FileList) (c : FileCourse) → total (counted_if o c) ≤ total c + 1
counted_most None c = omega arith
counted_most (Some list) c = omega (arith, counted_one list c)

entered_most : (o : Option FileList) (c : FileCourse) → total (entered o c) ≤ total c + 1
entered_most None c = omega arith
entered_most (Some list) c = omega (arith, counted_one list c)

after_most : (i : Item) (c : FileCourse) → total (after c i) ≤ total c + 1
after_most (Begins t) c = entered_most (entry_list t) c
after_most (States p) c = counted_most (value_list p) c
after_most Ends c = omega arith

pub after_up_to : (n : ℕ) (c : FileCourse) (i : Item) → total c ≤ n → total (after c i) ≤ n + 1
after_up_to n c i h = omega (arith, h, after_most i c)
