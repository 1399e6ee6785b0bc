-- The document that states a machine (over the documents of TOML).
use Rattle.std.specs.Prelude.{◌==◌, ◌++◌, ℕ, pos, Bool, List, [], ◌∷◌, map, fold, codes, if◌then◌else◌}
use Rattle.std.specs.Prelude.{Option, Some, None, option_map}
use Rattle.std.specs.Cmp.Lexicographic.{slice_cmp}
use Rattle.std.specs.List.{zip}
use Rattle.std.specs.Ordering.{match_ordering, nat_cmp}
use Rattle.toml.specs.Data.{Data, Members, array, integer, member, no_members, string, table}
use Rattle.toml.specs.View.{items_of}
use Rattle.arm2_effect.specs.declared.modes.Mode.{Mode}
use Rattle.arm2_effect.specs.declared.modes.Mode.TheVariants.{User, Fiq, Irq, Svc}
use Rattle.machine_file.specs.MachineRules.{kilobytes}
use Rattle.machine_file.specs.Names.{register_keys}
use Rattle.machine_file.specs.Stated.{Controller, IocSetting, Processor, Schedule, Stated, VidcSetting}
use Rattle.machine_file.specs.declared.flags.PsrFlags.{PsrFlags}
use Rattle.machine_file.specs.declared.ioc_settings.TimerSetting.{TimerSetting}
use Rattle.machine_file.specs.declared.pages.MappedPage.{MappedPage}

-- ## Tables

-- the table with a value at a key; its keys ascend
unfoldable pub with_key : List ℕ → Data → Members → Members
with_key k d no_members = member k d no_members
with_key k d (member l e ms) =
    match_ordering
    (slice_cmp nat_cmp k l)
    (member k d (member l e ms))
    (member l d ms)
    (member l e (with_key k d ms))

-- a key, and its value where the table has one
abbrev pub Row : Type 0
Row = List ℕ × Option Data

abbrev pub with_optional : Members → List ℕ → Option Data → Members
with_optional ms key None = ms
with_optional ms key (Some d) = with_key key d ms

abbrev pub with_rows : Members → List Row → Members
with_rows ms rows = fold (λ t row. with_optional t row.0 row.1) ms rows

abbrev pub table_of : List Row → Members
table_of rows = with_rows no_members rows

-- ## Values

abbrev pub number : ℕ → Data
number n = integer (pos n)

abbrev pub unless_zero : ℕ → Option Data
unless_zero n = if n == 0 then None else Some (number n)

-- a list, left out where it is empty
abbrev pub list_value : List Data → Option Data
list_value [] = None
list_value (d ∷ ds) = Some (array (items_of (d ∷ ds)))

-- a table, left out where it is empty
abbrev pub table_value : Members → Option Data
table_value no_members = None
table_value (member k d ms) = Some (table (member k d ms))

abbrev pub mode_name : Mode → List ℕ
mode_name User = codes "user"
mode_name Fiq = codes "fiq"
mode_name Irq = codes "irq"
mode_name Svc = codes "svc"

abbrev pub letter_if : Bool → List ℕ → List ℕ
letter_if set letter = if set then letter else []

-- the letters of the flags that are set
abbrev pub letters_of : PsrFlags → List ℕ
letters_of f =
    letter_if f.negative (codes "N") ++ letter_if f.zero (codes "Z") ++ letter_if f.carry (codes "C")
    ++ letter_if f.overflow (codes "V") ++ letter_if f.irq_masked (codes "I")
    ++ letter_if f.fiq_masked (codes "F")

-- ## The tables in the file

-- the registers that are not 0
abbrev pub register_row : List ℕ × ℕ → Row
register_row e = (e.0, unless_zero e.1)

abbrev pub register_table : List ℕ → Members
register_table words = table_of (map register_row (zip register_keys words))

abbrev pub page_rows : MappedPage → List Row
page_rows p =
    (codes "logical", Some (number p.logical))
    ∷ (codes "physical", Some (number p.physical))
    ∷ (codes "level", Some (number p.level))
    ∷ []

abbrev pub page_data : MappedPage → Data
page_data p = table (table_of (page_rows p))

abbrev pub word_rows : ℕ × ℕ → List Row
word_rows w = (codes "at", Some (number w.0)) ∷ (codes "value", Some (number w.1)) ∷ []

abbrev pub word_data : ℕ × ℕ → Data
word_data w = table (table_of (word_rows w))

-- what is not as after a reset

abbrev pub timer_rows : (latch count : List ℕ) → TimerSetting → List Row
timer_rows latch count t = (latch, unless_zero t.latch) ∷ (count, option_map number t.count) ∷ []

abbrev pub byte_rows : IocSetting → List Row
byte_rows s =
    (codes "mask_a", unless_zero s.mask_a)
    ∷ (codes "mask_b", unless_zero s.mask_b)
    ∷ (codes "mask_fiq", unless_zero s.mask_fiq)
    ∷ (codes "requests_a", unless_zero s.requests_a)
    ∷ []

abbrev pub ioc_rows : IocSetting → List Row
ioc_rows s =
    byte_rows s ++ timer_rows (codes "timer_0") (codes "count_0") s.timer_0
    ++ timer_rows (codes "timer_1") (codes "count_1") s.timer_1

abbrev pub cycle_rows : VidcSetting → List Row
cycle_rows s =
    (codes "horizontal_cycle", option_map number s.horizontal_cycle)
    ∷ (codes "vertical_cycle", option_map number s.vertical_cycle)
    ∷ []

abbrev pub display_rows : VidcSetting → List Row
display_rows s =
    (codes "display_end", unless_zero s.display_end)
    ∷ (codes "pixel_rate", unless_zero s.pixel_rate)
    ∷ (codes "ticks", unless_zero s.ticks)
    ∷ []

abbrev pub vidc_rows : VidcSetting → List Row
vidc_rows s = cycle_rows s ++ display_rows s

-- ## The file

abbrev pub processor_rows : Processor → List Row
processor_rows p =
    (codes "pc", Some (number p.pc))
    ∷ (codes "mode", Some (string (mode_name p.mode)))
    ∷ (codes "flags", Some (string (letters_of p.flags)))
    ∷ (codes "registers", table_value (register_table p.registers))
    ∷ []

abbrev pub controller_rows : Controller → List Row
controller_rows c =
    (codes "pages", Some (number (kilobytes c.size)))
    ∷ (codes "low_rom", Some (number c.low_rom))
    ∷ (codes "high_rom", Some (number c.high_rom))
    ∷ (codes "map", list_value (map page_data c.pages))
    ∷ []

abbrev pub schedule_rows : Schedule → List Row
schedule_rows s = (codes "steps", Some (number s.steps)) ∷ (codes "port", Some (number s.port)) ∷ []

abbrev pub word_list_rows : List (ℕ × ℕ) → List Row
word_list_rows words = (codes "word", list_value (map word_data words)) ∷ []

abbrev pub device_rows : IocSetting → VidcSetting → List Row
device_rows ioc vidc =
    (codes "ioc", table_value (table_of (ioc_rows ioc)))
    ∷ (codes "vidc", table_value (table_of (vidc_rows vidc)))
    ∷ []

abbrev pub file_rows : Stated → List Row
file_rows s =
    processor_rows s.processor ++ controller_rows s.controller ++ schedule_rows s.schedule
    ++ word_list_rows s.words ++ device_rows s.ioc s.vidc

-- the document of a machine file without events
abbrev pub document_of : Stated → Members
document_of s = table_of (file_rows s)
