-- What the parts of a start leave.
use Rattle.std.specs.Prelude.{◌≡◌, ◌<◌, ◌++◌, ◌||◌, ℕ, Bool, true, List, length, drop, Option, Some, None}
use Rattle.std.specs.Prelude.{if◌then◌else◌, unwrap_or}
use Rattle.std.specs.List.{list_all}
use Rattle.arm2_exec.specs.State.{State}
use Rattle.memc.specs.Memory.{Memory}
use Rattle.memc.specs.Paged.{Paged, page_at}
use Rattle.machine_file.specs.MachineFile.{are_single, is_mappable}
use Rattle.machine_file.specs.Started.{stated_at}
use Rattle.machine_file.specs.Stated.{IocSetting}
use Rattle.machine_file.specs.declared.ioc_settings.TimerSetting.{TimerSetting}
use Rattle.machine_file.specs.declared.ioc_start.TimerName.{TimerName}
use Rattle.machine_file.specs.declared.ioc_start.TimerName.TheVariants.{Timer0, Timer1}
use Rattle.machine_file.specs.declared.pages.MappedPage.{MappedPage}
use Rattle.ioc.specs.Interrupts.{Controller, has}
use Rattle.ioc.specs.Registers.{on_timer_0, on_timer_1}
use Rattle.ioc.specs.declared.timers.Timer.{Timer}
use Rattle.vidc.specs.Video.{Video, rate_of}

-- the first registers hold the words
abbrev pub with_words : List ℕ → State → State
with_words words s = record s { regs = words ++ drop (length words) s.regs }

-- all but the page map
pub record IsSameRest (m n : Memory) : Type 0 where
  pub size : n.shift ≡ m.shift
  pub words : n.paged.words ≡ m.paged.words
  pub count : length n.paged.pages ≡ length m.paged.pages
  pub control : n.control ≡ m.control
  pub rom : n.rom ≡ m.rom

pub record IsUnmapped (paged : Paged) : Type 0 where
  pub at : (logical : ℕ) → page_at paged logical ≡ None

-- pages that can be put one after another on a map without pages
pub record CanMap (m : Memory) (pages : List MappedPage) : Type 0 where
  pub mappable : list_all (is_mappable m.shift) pages ≡ true
  pub single : are_single pages ≡ true
  pub room : (p : MappedPage) → is_mappable m.shift p ≡ true → p.logical < length m.paged.pages

pub record AreMapped (pages : List MappedPage) (paged : Paged) : Type 0 where
  pub at : (logical : ℕ) → page_at paged logical ≡ stated_at pages logical

-- ## IOC

abbrev pub on_timer : TimerName → (Timer → Timer) → Controller → Controller
on_timer Timer0 change c = on_timer_0 change c
on_timer Timer1 change c = on_timer_1 change c

-- the offset of a timer's first register
abbrev pub first_of : TimerName → ℕ
first_of Timer0 = 0x40
first_of Timer1 = 0x50

abbrev pub with_latch : ℕ → Timer → Timer
with_latch latch t = record t { latch = latch }

abbrev pub with_start : Timer → Timer
with_start t = record t { count = t.latch }

abbrev pub with_numbers : TimerSetting → Timer → Timer
with_numbers s t = record t { latch = s.latch; count = unwrap_or s.count s.latch }

-- one decrement before the request, if there is to be one
abbrev pub near_request : (request : Bool) → Timer → Timer
near_request request t = if request then record t { latch = 1; count = 1 } else t

-- A2 and flyback latched, and the timers that are to request an interrupt near to it
abbrev pub with_requests : ℕ → Controller → Controller
with_requests bits c =
    on_timer Timer1 (near_request (has bits 0x40))
    (on_timer Timer0 (near_request (has bits 0x20))
    (record c { a2_rose = c.a2_rose || has bits 0x04; flyback_rose = c.flyback_rose || has bits 0x08 }))

abbrev pub with_masks : IocSetting → Controller → Controller
with_masks s c = record c { mask_a = s.mask_a; mask_b = s.mask_b; mask_f = s.mask_fiq }

-- ## VIDC

abbrev pub with_horizontal : Option ℕ → Video → Video
with_horizontal None v = v
with_horizontal (Some n) v = record v { horizontal_cycle = n; horizontal_written = true; position = 0 }

abbrev pub with_vertical : Option ℕ → Video → Video
with_vertical None v = v
with_vertical (Some n) v = record v { vertical_cycle = n; vertical_written = true; position = 0 }

abbrev pub with_display_end : ℕ → Video → Video
with_display_end n v = record v { display_end = n; position = 0 }

abbrev pub with_rate : ℕ → Video → Video
with_rate n v = record v { rate = rate_of n; position = 0 }
