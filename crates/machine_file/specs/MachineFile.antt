-- Which machine a text states, and its faults, of which the lowest over the whole text is answered (over the
-- documents of TOML).
use Rattle.std.specs.Prelude.{◌==◌, ◌&&◌, not, ℕ, ℤ, pos, negsuc, Bool, List, map, fold}
use Rattle.std.specs.Prelude.{replicate, codes, count_by, nat_le, if◌then◌else◌, Option, Some, None}
use Rattle.std.specs.Prelude.{Ok, Err}
use Rattle.std.specs.Int.RustNames.{bit_or}
use Rattle.std.specs.List.{list_all}
use Rattle.std.specs.Map.{keys_of}
use Rattle.toml.specs.Data.{Data, Members, get_member, as_integer, as_str, as_table}
use Rattle.arm2_effect.specs.declared.modes.Mode.{Mode}
use Rattle.arm2_effect.specs.declared.modes.Mode.TheVariants.{Svc}
use Rattle.arm2_effect.specs.declared.modes.Reg.{Reg}
use Rattle.ioc.specs.declared.lines.Lines.{Lines}
use Rattle.ioc.specs.Interrupts.{has as has_bits}
use Rattle.image.specs.Image.{may_hold}
use Rattle.memc.specs.Memory.{can_map, shift_of_size}
use Rattle.memc.specs.declared.spots.PageSize.{PageSize}
use Rattle.memc.specs.declared.spots.PageSize.TheVariants.{K4, K8, K16, K32}
use Rattle.toml_reading.specs.Documents.{IsAnswer, are_distinct, in_space, list_at, name_at}
use Rattle.toml_reading.specs.Documents.{number_in, number_or, of_keys, once, tables_at}
use Rattle.toml_reading.specs.Readings.{Reading, all, and_then, pair, optional, required, reading_map}
use Rattle.ioc.specs.LineNames.{line_named}
use Rattle.machine_file.specs.MachineFaults.{machine_faults}
use Rattle.machine_file.specs.Names.{event_keys, file_keys, ioc_keys, map_keys, name_of, named_mode}
use Rattle.machine_file.specs.Names.{named_registers, register_keys, vidc_keys, word_keys}
use Rattle.machine_file.specs.Stated.{Controller, IocSetting, Processor, Schedule, Stated, VidcSetting}
use Rattle.machine_file.specs.Stated.{no_ioc, no_vidc}
use Rattle.machine_file.specs.Words.{number_if, word_at, word_in, word_or}
use Rattle.machine_file.specs.declared.events.Event.{Event}
use Rattle.machine_file.specs.declared.flags.PsrFlags.{PsrFlags}
use Rattle.machine_file.specs.declared.ioc_settings.TimerSetting.{TimerSetting}
use Rattle.machine_file.specs.declared.machine_faults.MachineFileFault.{MachineFileFault}
use Rattle.machine_file.specs.declared.machine_faults.MachineFileFault.TheVariants.{NotToml, WrongKind}
use Rattle.machine_file.specs.declared.machine_faults.MachineFileFault.TheVariants.{OutOfRange, Twice}
use Rattle.machine_file.specs.declared.pages.MappedPage.{MappedPage}

abbrev pub Read : Type 0 → Type 0
Read A = Reading MachineFileFault A

-- ## Flags

-- how often a letter appears in a text
abbrev pub times : ℕ → List ℕ → ℕ
times letter text = count_by (λ x. x == letter) text

-- the letters N Z C V I F
abbrev pub is_letter : ℕ → Bool
is_letter c = not (times c (codes "NZCVIF") == 0)

abbrev pub is_single : List ℕ → Bool
is_single text = list_all (λ letter. nat_le (times letter text) 1) (codes "NZCVIF")

abbrev pub has : List ℕ → ℕ → Bool
has text letter = not (times letter text == 0)

-- the flags whose letters are there are set: 78 N, 90 Z, 67 C, 86 V, 73 I, 70 F
abbrev pub set_flags : List ℕ → PsrFlags
set_flags text =
    record {
      negative = has text 78;
      zero = has text 90;
      carry = has text 67;
      overflow = has text 86;
      irq_masked = has text 73;
      fiq_masked = has text 70;
    }

abbrev pub flags_of_letters : List ℕ → Read PsrFlags
flags_of_letters text =
    if list_all is_letter text then (if is_single text then Ok (set_flags text) else Err Twice)
    else Err WrongKind

abbrev pub flags_at : Data → Read PsrFlags
flags_at d = required machine_faults (as_str d) flags_of_letters

-- IRQ and FIQ are masked where the key is missing
abbrev pub flags_in : Members → Read PsrFlags
flags_in ms = optional (set_flags (codes "IF")) (get_member (codes "flags") ms) flags_at

-- ## The processor

abbrev pub pc_at : Data → Read ℕ
pc_at d = required machine_faults (as_integer d) (in_space machine_faults)

abbrev pub pc_in : Members → Read ℕ
pc_in ms = required machine_faults (get_member (codes "pc") ms) pc_at

abbrev pub mode_at : Data → Read Mode
mode_at d = name_at machine_faults named_mode d

abbrev pub mode_in : Members → Read Mode
mode_in ms = optional Svc (get_member (codes "mode") ms) mode_at

-- the words of the 26 registers in their order, 0 where one is not named
abbrev pub register_in : Members → Reg → Read ℕ
register_in ms r = word_or machine_faults (name_of r) 0 ms

abbrev pub registers_of : Members → Read (List ℕ)
registers_of ms =
    of_keys machine_faults register_keys ms (all machine_faults (map (register_in ms) named_registers))

abbrev pub registers_at : Data → Read (List ℕ)
registers_at d = required machine_faults (as_table d) registers_of

abbrev pub registers_in : Members → Read (List ℕ)
registers_in ms = optional (replicate 26 0) (get_member (codes "registers") ms) registers_at

abbrev pub processor_of : (ℕ × (Mode × PsrFlags)) × List ℕ → Processor
processor_of p = record { pc = p.0.0; mode = p.0.1.0; flags = p.0.1.1; registers = p.1 }

abbrev pub processor_in : Members → Read Processor
processor_in ms =
    reading_map processor_of
    (pair machine_faults (pair machine_faults (pc_in ms) (pair machine_faults (mode_in ms) (flags_in ms)))
    (registers_in ms))

-- ## The memory controller

-- 4, 8, 16 or 32 KB
abbrev pub size_of : ℤ → Read PageSize
size_of (pos n) =
    if n == 4 then Ok K4
    else
    (if n == 8 then Ok K8 else (if n == 16 then Ok K16 else (if n == 32 then Ok K32 else Err OutOfRange)))
size_of (negsuc n) = Err OutOfRange

abbrev pub size_at : Data → Read PageSize
size_at d = required machine_faults (as_integer d) size_of

abbrev pub size_in : Members → Read PageSize
size_in ms = optional K4 (get_member (codes "pages") ms) size_at

abbrev pub page_of : (ℕ × ℕ) × ℕ → MappedPage
page_of p = record { logical = p.0.0; physical = p.0.1; level = p.1 }

abbrev pub page_in : Members → Read MappedPage
page_in ms =
    of_keys
    machine_faults
    map_keys
    ms
    (reading_map page_of
    (pair machine_faults
    (pair machine_faults (word_in machine_faults (codes "logical") ms)
    (word_in machine_faults (codes "physical") ms))
    (word_in machine_faults (codes "level") ms)))

abbrev pub page_at : Data → Read MappedPage
page_at d = required machine_faults (as_table d) page_in

-- MEMC can map the page, of 2 ^ shift bytes
abbrev pub is_mappable : ℕ → MappedPage → Bool
is_mappable shift p = can_map shift p.physical p.logical p.level

abbrev pub are_single : List MappedPage → Bool
are_single pages = are_distinct (map (λ p. p.logical) pages) && are_distinct (map (λ p. p.physical) pages)

-- pages of that size that can be mapped beside one another
abbrev pub mapped : PageSize × List MappedPage → Read (PageSize × List MappedPage)
mapped p =
    if list_all (is_mappable (shift_of_size p.0)) p.1 then (if are_single p.1 then Ok p else Err Twice)
    else Err OutOfRange

abbrev pub pages_in : Members → Read (PageSize × List MappedPage)
pages_in ms =
    and_then
    (pair machine_faults (size_in ms)
    (tables_at machine_faults page_at (get_member (codes "map") ms))) mapped

-- the time fields of low and high ROM
abbrev pub rom_in : Members → Read (ℕ × ℕ)
rom_in ms =
    pair machine_faults (number_or machine_faults (codes "low_rom") 3 0 ms)
    (number_or machine_faults (codes "high_rom") 3 0 ms)

abbrev pub controller_of : (ℕ × ℕ) × (PageSize × List MappedPage) → Controller
controller_of p = record { size = p.1.0; low_rom = p.0.0; high_rom = p.0.1; pages = p.1.1 }

abbrev pub controller_in : Members → Read Controller
controller_in ms = reading_map controller_of (pair machine_faults (rom_in ms) (pages_in ms))

-- ## Events

-- the lines of a list of names: a line is active where its name is there
abbrev pub union : List Lines → Lines
union lines = fold (λ (a b : Lines). record { 0 = bit_or a.0 b.0 }) (record { 0 = 0 }) lines

abbrev pub line_at : Data → Read Lines
line_at d = name_at machine_faults line_named d

abbrev pub lines_at : Data → Read (Option Lines)
lines_at d = reading_map (λ ls. Some (union ls)) (list_at machine_faults line_at d)

abbrev pub lines_in : Members → Read (Option Lines)
lines_in ms = optional None (get_member (codes "lines") ms) lines_at

abbrev pub port_at : Data → Read (Option ℕ)
port_at d = reading_map (λ word. Some word) (word_at machine_faults d)

abbrev pub port_in : Members → Read (Option ℕ)
port_in ms = optional None (get_member (codes "port") ms) port_at

abbrev pub event_of : ℕ × (ℕ × (Option Lines × Option ℕ)) → ℕ × Event
event_of p = (p.0, record { bursts = p.1.0; lines = p.1.1.0; port = p.1.1.1 })

-- an event, by its step
abbrev pub event_in : Members → Read (ℕ × Event)
event_in ms =
    of_keys
    machine_faults
    event_keys
    ms
    (reading_map event_of
    (pair machine_faults (number_in machine_faults (codes "step") 65535 ms)
    (pair machine_faults (number_or machine_faults (codes "bursts") 65535 0 ms)
    (pair machine_faults (lines_in ms) (port_in ms)))))

abbrev pub event_at : Data → Read (ℕ × Event)
event_at d = required machine_faults (as_table d) event_in

-- one event at most for a step
abbrev pub events_in : Members → Read (List (ℕ × Event))
events_in ms =
    and_then (tables_at machine_faults event_at (get_member (codes "event") ms)) (once Twice keys_of)

abbrev pub counts_in : Members → Read (ℕ × ℕ)
counts_in ms =
    pair machine_faults (number_or machine_faults (codes "steps") 65536 65536 ms)
    (word_or machine_faults (codes "port") 0 ms)

abbrev pub schedule_of : (ℕ × ℕ) × List (ℕ × Event) → Schedule
schedule_of p = record { steps = p.0.0; port = p.0.1; events = p.1 }

abbrev pub schedule_in : Members → Read Schedule
schedule_in ms = reading_map schedule_of (pair machine_faults (counts_in ms) (events_in ms))

-- ## Words put into memory

-- the address of a word in RAM or in ROM
abbrev pub put_address_of : ℤ → Read ℕ
put_address_of (pos n) = if may_hold n then Ok n else Err OutOfRange
put_address_of (negsuc n) = Err OutOfRange

abbrev pub put_address_at : Data → Read ℕ
put_address_at d = required machine_faults (as_integer d) put_address_of

abbrev pub put_address_in : Members → Read ℕ
put_address_in ms = required machine_faults (get_member (codes "at") ms) put_address_at

-- a word, by its address
abbrev pub put_word_in : Members → Read (ℕ × ℕ)
put_word_in ms =
    of_keys
    machine_faults
    word_keys
    ms
    (pair machine_faults (put_address_in ms) (word_in machine_faults (codes "value") ms))

abbrev pub put_word_at : Data → Read (ℕ × ℕ)
put_word_at d = required machine_faults (as_table d) put_word_in

-- in the text's order, no two at one address
abbrev pub put_words_in : Members → Read (List (ℕ × ℕ))
put_words_in ms =
    and_then (tables_at machine_faults put_word_at (get_member (codes "word") ms)) (once Twice keys_of)

-- ## IOC

-- a byte that has no other bits than those of IRQ A's four latched requests: 2 A2, 3 flyback, 5 and 6
-- timers 0 and 1
abbrev pub are_latched : ℕ → Bool
are_latched n = nat_le n 0xFF && has_bits 0x6C n

abbrev pub requests_of : ℤ → Read ℕ
requests_of (pos n) = if are_latched n then Ok n else Err OutOfRange
requests_of (negsuc n) = Err OutOfRange

abbrev pub requests_at : Data → Read ℕ
requests_at d = required machine_faults (as_integer d) requests_of

abbrev pub requests_in : Members → Read ℕ
requests_in ms = optional 0 (get_member (codes "requests_a") ms) requests_at

abbrev pub timer_of : ℕ × Option ℕ → TimerSetting
timer_of p = record { latch = p.0; count = p.1 }

abbrev pub timer_in : (latch count : List ℕ) → Members → Read TimerSetting
timer_in latch count ms =
    reading_map timer_of
    (pair machine_faults (number_or machine_faults latch 0xFFFF 0 ms)
    (number_if machine_faults count 0xFFFF ms))

abbrev pub ioc_with : ((ℕ × ℕ) × (ℕ × ℕ)) × (TimerSetting × TimerSetting) → IocSetting
ioc_with p =
    record {
      mask_a = p.0.0.0;
      mask_b = p.0.0.1;
      mask_fiq = p.0.1.0;
      requests_a = p.0.1.1;
      timer_0 = p.1.0;
      timer_1 = p.1.1;
    }

abbrev pub mask_in : List ℕ → Members → Read ℕ
mask_in key ms = number_or machine_faults key 0xFF 0 ms

abbrev pub bytes_in : Members → Read ((ℕ × ℕ) × (ℕ × ℕ))
bytes_in ms =
    pair machine_faults (pair machine_faults (mask_in (codes "mask_a") ms) (mask_in (codes "mask_b") ms))
    (pair machine_faults (mask_in (codes "mask_fiq") ms) (requests_in ms))

abbrev pub timers_in : Members → Read (TimerSetting × TimerSetting)
timers_in ms =
    pair machine_faults (timer_in (codes "timer_0") (codes "count_0") ms)
    (timer_in (codes "timer_1") (codes "count_1") ms)

abbrev pub ioc_of : Members → Read IocSetting
ioc_of ms =
    of_keys
    machine_faults
    ioc_keys
    ms
    (reading_map ioc_with (pair machine_faults (bytes_in ms) (timers_in ms)))

abbrev pub ioc_at : Data → Read IocSetting
ioc_at d = required machine_faults (as_table d) ioc_of

abbrev pub ioc_in : Members → Read IocSetting
ioc_in ms = optional no_ioc (get_member (codes "ioc") ms) ioc_at

-- ## VIDC

abbrev pub vidc_with : (Option ℕ × Option ℕ) × ((ℕ × ℕ) × ℕ) → VidcSetting
vidc_with p =
    record {
      horizontal_cycle = p.0.0;
      vertical_cycle = p.0.1;
      display_end = p.1.0.0;
      pixel_rate = p.1.0.1;
      ticks = p.1.1;
    }

abbrev pub cycles_in : Members → Read (Option ℕ × Option ℕ)
cycles_in ms =
    pair machine_faults (number_if machine_faults (codes "horizontal_cycle") 0x3FF ms)
    (number_if machine_faults (codes "vertical_cycle") 0x3FF ms)

abbrev pub display_in : Members → Read ((ℕ × ℕ) × ℕ)
display_in ms =
    pair machine_faults
    (pair machine_faults (number_or machine_faults (codes "display_end") 0x3FF 0 ms)
    (number_or machine_faults (codes "pixel_rate") 3 0 ms))
    (word_or machine_faults (codes "ticks") 0 ms)

abbrev pub vidc_of : Members → Read VidcSetting
vidc_of ms =
    of_keys
    machine_faults
    vidc_keys
    ms
    (reading_map vidc_with (pair machine_faults (cycles_in ms) (display_in ms)))

abbrev pub vidc_at : Data → Read VidcSetting
vidc_at d = required machine_faults (as_table d) vidc_of

abbrev pub vidc_in : Members → Read VidcSetting
vidc_in ms = optional no_vidc (get_member (codes "vidc") ms) vidc_at

-- ## The file

abbrev pub devices_in : Members → Read (IocSetting × VidcSetting)
devices_in ms = pair machine_faults (ioc_in ms) (vidc_in ms)

abbrev pub stated_of :
    Processor × (Controller × (Schedule × (List (ℕ × ℕ) × (IocSetting × VidcSetting)))) → Stated
stated_of p =
    record {
      processor = p.0;
      controller = p.1.0;
      schedule = p.1.1.0;
      words = p.1.1.1.0;
      ioc = p.1.1.1.1.0;
      vidc = p.1.1.1.1.1;
    }

abbrev pub machine_in : Members → Read Stated
machine_in ms =
    of_keys
    machine_faults
    file_keys
    ms
    (reading_map stated_of
    (pair machine_faults (processor_in ms)
    (pair machine_faults (controller_in ms)
    (pair machine_faults (schedule_in ms)
    (pair machine_faults (put_words_in ms) (devices_in ms))))))

-- the answer to a text, but for lack of memory
abbrev pub IsMachineFile : List ℕ → Read Stated → Type 0
IsMachineFile text answer = IsAnswer NotToml machine_in text answer
