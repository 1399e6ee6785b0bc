-- What a machine file states, key by key (over the documents of TOML).
use Rattle.std.specs.Prelude.{◌≡◌, ◌-◌, ◌^◌, ℕ, pos, true, List, [], codes, replicate, None}
use Rattle.std.specs.Prelude.{IsSomeAnd, IsTrue}
use Rattle.std.specs.List.{AllZip, list_all}
use Rattle.std.specs.Map.{keys_of}
use Rattle.toml.specs.Data.{Data, Members, as_integer, as_str}
use Rattle.arm2_effect.specs.declared.modes.Mode.TheVariants.{Svc}
use Rattle.ioc.specs.declared.lines.Lines.{Lines}
use Rattle.image.specs.Image.{may_hold}
use Rattle.memc.specs.Memory.{shift_of_size}
use Rattle.memc.specs.declared.spots.PageSize.{PageSize}
use Rattle.memc.specs.declared.spots.PageSize.TheVariants.{K4, K8, K16, K32}
use Rattle.toml_reading.specs.Documents.{are_distinct, has_only_keys}
use Rattle.bus_ticks.specs.Prices.{is_word_address}
use Rattle.toml_reading.specs.Lowest.{AtKey, AtKeyOr, IsListOf, IsNamed, IsNumber, IsTable}
use Rattle.machine_file.specs.MachineFile.{are_latched, are_single, is_letter, is_mappable, is_single}
use Rattle.ioc.specs.LineNames.{line_named}
use Rattle.machine_file.specs.MachineFile.{set_flags, union}
use Rattle.machine_file.specs.Names.{event_keys, file_keys, map_keys, name_of, named_mode, named_registers}
use Rattle.machine_file.specs.Names.{ioc_keys, register_keys, vidc_keys, word_keys}
use Rattle.machine_file.specs.Stated.{Controller, IocSetting, Processor, Schedule, Stated, VidcSetting}
use Rattle.machine_file.specs.Stated.{no_ioc, no_vidc}
use Rattle.machine_file.specs.Words.{HasNumber, IsWord, MayHaveNumber}
use Rattle.machine_file.specs.declared.events.Event.{Event}
use Rattle.machine_file.specs.declared.flags.PsrFlags.{PsrFlags}
use Rattle.machine_file.specs.declared.ioc_settings.TimerSetting.{TimerSetting}
use Rattle.machine_file.specs.declared.pages.MappedPage.{MappedPage}

-- ## Values

-- an address of the program
abbrev pub IsAddress : Data → ℕ → Type 0
IsAddress d n = IsSomeAnd (as_integer d) (λ z. (z ≡ pos n) × IsTrue (is_word_address n))

-- the address of a word in RAM or in ROM
abbrev pub IsPutAddress : Data → ℕ → Type 0
IsPutAddress d n = IsSomeAnd (as_integer d) (λ z. (z ≡ pos n) × IsTrue (may_hold n))

-- the size of a page in KB
abbrev pub kilobytes : PageSize → ℕ
kilobytes K4 = 4
kilobytes K8 = 8
kilobytes K16 = 16
kilobytes K32 = 32

abbrev pub IsSize : Data → PageSize → Type 0
IsSize d size = IsSomeAnd (as_integer d) (λ z. z ≡ pos (kilobytes size))

-- letters of NZCVIF, each once at most: those flags are set, and no others
abbrev pub AreFlags : Data → PsrFlags → Type 0
AreFlags d flags =
    IsSomeAnd
    (as_str d)
    (λ text. (flags ≡ set_flags text) × (list_all is_letter text ≡ true) × (is_single text ≡ true))

-- bits of IRQ A's latched requests
abbrev pub AreRequests : Data → ℕ → Type 0
AreRequests d n = IsSomeAnd (as_integer d) (λ z. (z ≡ pos n) × IsTrue (are_latched n))

-- names of lines, which are active
abbrev pub AreLines : Data → Lines → Type 0
AreLines d lines = (all : List Lines) × IsListOf (IsNamed line_named) d all × (lines ≡ union all)

-- ## Tables

-- the words of the registers in their order, 0 where one is not named
abbrev pub AreRegisters : Data → List ℕ → Type 0
AreRegisters d words =
    IsTable
    register_keys
    (λ ms. AllZip (λ r n. AtKeyOr (name_of r) ms (n ≡ 0) (λ e. IsWord e n)) named_registers words)
    d

-- a mapped page, all of whose keys are required
abbrev pub IsPage : Data → MappedPage → Type 0
IsPage d page =
    IsTable
    map_keys
    (λ ms.
    AtKey (codes "logical") ms (λ e. IsWord e page.logical)
    × AtKey (codes "physical") ms (λ e. IsWord e page.physical)
    × AtKey (codes "level") ms (λ e. IsWord e page.level))
    d

-- an event by its step, which is required
abbrev pub IsEvent : Data → ℕ × Event → Type 0
IsEvent d event =
    IsTable
    event_keys
    (λ ms.
    AtKey (codes "step") ms (λ e. IsNumber 65535 e event.0)
    × AtKeyOr (codes "bursts") ms (event.1.bursts ≡ 0) (λ e. IsNumber 65535 e event.1.bursts)
    × AtKeyOr (codes "lines") ms (event.1.lines ≡ None) (λ e. IsSomeAnd event.1.lines (AreLines e))
    × AtKeyOr (codes "port") ms (event.1.port ≡ None) (λ e. IsSomeAnd event.1.port (IsWord e)))
    d

-- a word that is put into memory, by its address; both keys are required
abbrev pub IsPutWord : Data → ℕ × ℕ → Type 0
IsPutWord d word =
    IsTable
    word_keys
    (λ ms.
    AtKey (codes "at") ms (λ e. IsPutAddress e word.0)
    × AtKey (codes "value") ms (λ e. IsWord e word.1))
    d

-- a timer of 16 bits by the keys of its latch and of its count, which is the latch's where its key is missing
abbrev pub StatesTimer : (latch count : List ℕ) → Members → TimerSetting → Type 0
StatesTimer latch count ms timer =
    HasNumber latch 0xFFFF ms timer.latch × MayHaveNumber count 0xFFFF ms timer.count

-- IOC: masks of eight bits, requests and timers
abbrev pub IsIoc : Data → IocSetting → Type 0
IsIoc d ioc =
    IsTable
    ioc_keys
    (λ ms.
    HasNumber (codes "mask_a") 0xFF ms ioc.mask_a
    × HasNumber (codes "mask_b") 0xFF ms ioc.mask_b
    × HasNumber (codes "mask_fiq") 0xFF ms ioc.mask_fiq
    × AtKeyOr (codes "requests_a") ms (ioc.requests_a ≡ 0) (λ e. AreRequests e ioc.requests_a)
    × StatesTimer (codes "timer_0") (codes "count_0") ms ioc.timer_0
    × StatesTimer (codes "timer_1") (codes "count_1") ms ioc.timer_1)
    d

-- VIDC: values of ten bits, and the pixel rate of two; a cycle register whose key is missing was not written
abbrev pub IsVidc : Data → VidcSetting → Type 0
IsVidc d vidc =
    IsTable
    vidc_keys
    (λ ms.
    MayHaveNumber (codes "horizontal_cycle") 0x3FF ms vidc.horizontal_cycle
    × MayHaveNumber (codes "vertical_cycle") 0x3FF ms vidc.vertical_cycle
    × HasNumber (codes "display_end") 0x3FF ms vidc.display_end
    × HasNumber (codes "pixel_rate") 3 ms vidc.pixel_rate
    × HasNumber (codes "ticks") (2 ^ 32 - 1) ms vidc.ticks)
    d

-- ## What the file states

-- only `pc` is required; where another key is missing, what is written here beside it holds

pub record StatesProcessor (ms : Members) (p : Processor) : Type 0 where
  pub pc : AtKey (codes "pc") ms (λ d. IsAddress d p.pc)
  pub mode : AtKeyOr (codes "mode") ms (p.mode ≡ Svc) (λ d. IsNamed named_mode d p.mode)
  pub flags : AtKeyOr (codes "flags") ms (p.flags ≡ set_flags (codes "IF")) (λ d. AreFlags d p.flags)
  pub registers : AtKeyOr (codes "registers") ms (p.registers ≡ replicate 26 0)
      (λ d. AreRegisters d p.registers)

-- MEMC can map each of the pages, and no logical or physical page appears twice
pub record StatesController (ms : Members) (c : Controller) : Type 0 where
  pub low_rom : AtKeyOr (codes "low_rom") ms (c.low_rom ≡ 0) (λ d. IsNumber 3 d c.low_rom)
  pub high_rom : AtKeyOr (codes "high_rom") ms (c.high_rom ≡ 0) (λ d. IsNumber 3 d c.high_rom)
  pub size : AtKeyOr (codes "pages") ms (c.size ≡ K4) (λ d. IsSize d c.size)
  pub pages : AtKeyOr (codes "map") ms (c.pages ≡ []) (λ d. IsListOf IsPage d c.pages)
  pub mappable : list_all (is_mappable (shift_of_size c.size)) c.pages ≡ true
  pub pages_once : are_single c.pages ≡ true

pub record StatesSchedule (ms : Members) (s : Schedule) : Type 0 where
  pub steps : AtKeyOr (codes "steps") ms (s.steps ≡ 65536) (λ d. IsNumber 65536 d s.steps)
  pub port : AtKeyOr (codes "port") ms (s.port ≡ 0) (λ d. IsWord d s.port)
  pub events : AtKeyOr (codes "event") ms (s.events ≡ []) (λ d. IsListOf IsEvent d s.events)
  pub steps_once : are_distinct (keys_of s.events) ≡ true

-- no two words are at one address
pub record StatesMachine (ms : Members) (stated : Stated) : Type 0 where
  pub known : has_only_keys file_keys ms ≡ true
  pub processor : StatesProcessor ms stated.processor
  pub controller : StatesController ms stated.controller
  pub schedule : StatesSchedule ms stated.schedule
  pub words : AtKeyOr (codes "word") ms (stated.words ≡ []) (λ d. IsListOf IsPutWord d stated.words)
  pub words_once : are_distinct (keys_of stated.words) ≡ true
  pub ioc : AtKeyOr (codes "ioc") ms (stated.ioc ≡ no_ioc) (λ d. IsIoc d stated.ioc)
  pub vidc : AtKeyOr (codes "vidc") ms (stated.vidc ≡ no_vidc) (λ d. IsVidc d stated.vidc)
