-- What a machine file states, as a value.
use Rattle.std.specs.Prelude.{ℕ, List, Option, None}
use Rattle.arm2_effect.specs.declared.modes.Mode.{Mode}
use Rattle.memc.specs.declared.spots.PageSize.{PageSize}
use Rattle.machine_file.specs.declared.flags.PsrFlags.{PsrFlags}
use Rattle.machine_file.specs.declared.pages.MappedPage.{MappedPage}
use Rattle.machine_file.specs.declared.events.Event.{Event}
use Rattle.machine_file.specs.declared.ioc_settings.TimerSetting.{TimerSetting}

-- the processor: R15's address, mode and flags, and the other 26 registers in their order
pub record Processor : Type 0 where
  pub pc : ℕ
  pub mode : Mode
  pub flags : PsrFlags
  pub registers : List ℕ

-- the memory controller: the page size, the ROM time fields, and the mapped pages in the text's order, none
-- where the reset map stays
pub record Controller : Type 0 where
  pub size : PageSize
  pub low_rom : ℕ
  pub high_rom : ℕ
  pub pages : List MappedPage

-- what comes from outside: the number of steps, the port's first word, and the events by their steps
pub record Schedule : Type 0 where
  pub steps : ℕ
  pub port : ℕ
  pub events : List (ℕ × Event)

-- IOC: the masks of IRQ A, IRQ B and FIQ, the latched requests of IRQ A by the bits of its status, and the
-- latches of both timers with their counts, if these are not the latches'
pub record IocSetting : Type 0 where
  pub mask_a : ℕ
  pub mask_b : ℕ
  pub mask_fiq : ℕ
  pub requests_a : ℕ
  pub timer_0 : TimerSetting
  pub timer_1 : TimerSetting

-- IOC after a reset
abbrev pub no_ioc : IocSetting
no_ioc =
    record {
      mask_a = 0;
      mask_b = 0;
      mask_fiq = 0;
      requests_a = 0;
      timer_0 = record { latch = 0; count = None };
      timer_1 = record { latch = 0; count = None };
    }

-- VIDC: the horizontal and the vertical cycle, if they were written, the vertical display end, the pixel
-- rate by bits 1:0 of the control register, and the ticks of the 8 MHz processor since a frame began
pub record VidcSetting : Type 0 where
  pub horizontal_cycle : Option ℕ
  pub vertical_cycle : Option ℕ
  pub display_end : ℕ
  pub pixel_rate : ℕ
  pub ticks : ℕ

-- VIDC after a reset
abbrev pub no_vidc : VidcSetting
no_vidc =
    record { horizontal_cycle = None; vertical_cycle = None; display_end = 0; pixel_rate = 0; ticks = 0 }

-- all of these, and the words that are put into memory after the image's, by their addresses, in the text's
-- order
pub record Stated : Type 0 where
  pub processor : Processor
  pub controller : Controller
  pub schedule : Schedule
  pub words : List (ℕ × ℕ)
  pub ioc : IocSetting
  pub vidc : VidcSetting
