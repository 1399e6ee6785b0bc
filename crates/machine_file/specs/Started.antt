-- The machine that a file states, before words are put into its memory: as it is after a reset, but for what
-- the file states (R15, IOC and VIDC by the VL86C010, VL86C410 and VL86C310 data sheets).
use Rattle.std.specs.Prelude.{◌≡◌, ◌+◌, ◌*◌, ◌^◌, ◌<◌, ◌≤◌, ◌==◌, ◌++◌, ℕ, List, [], ◌∷◌, length, All}
use Rattle.std.specs.Prelude.{Bool, if◌then◌else◌, Option, Some, None, is_some, unwrap_or}
use Rattle.arm2_decode.specs.Allowed.{bit_of}
use Rattle.arm2_effect.specs.ProgramCounter.{r15_of}
use Rattle.arm2_exec.specs.State.{State}
use Rattle.bus_ticks.specs.declared.profile.Profile.{Profile}
use Rattle.ioc.specs.Interrupts as ioc
use Rattle.ioc.specs.Interrupts.{has}
use Rattle.ioc.specs.declared.timers.Timer.{Timer}
use Rattle.memc.specs.Memory.{Memory, control_of, shift_of_size}
use Rattle.memc.specs.Paged.{Paged, page_at}
use Rattle.bus_ticks.specs.declared.space.TheConstants.{PHYSICAL_START}
use Rattle.memc.specs.declared.pages.Entry.{Entry}
use Rattle.memc.specs.declared.pages.TheConstants.{PHYSICAL_PAGES}
use Rattle.vidc.specs.Video as vidc
use Rattle.machine_file.specs.Stated.{Controller, IocSetting, Processor, Stated, VidcSetting}
use Rattle.machine_file.specs.declared.flags.PsrFlags.{PsrFlags}
use Rattle.machine_file.specs.declared.ioc_settings.TimerSetting.{TimerSetting}
use Rattle.machine_file.specs.declared.pages.MappedPage.{MappedPage}

-- N Z C V I F, as a number with F lowest
abbrev pub psr_number : PsrFlags → ℕ
psr_number f =
    bit_of f.negative * 32 + bit_of f.zero * 16 + bit_of f.carry * 8 + bit_of f.overflow * 4
    + bit_of f.irq_masked * 2 + bit_of f.fiq_masked

abbrev pub r15_in : Processor → ℕ
r15_in p = r15_of (psr_number p.flags) p.pc p.mode

-- where a list puts a logical page
abbrev pub stated_at : List MappedPage → ℕ → Option Entry
stated_at [] logical = None
stated_at (p ∷ ps) logical =
    if p.logical == logical then Some (record { physical = p.physical; level = p.level })
    else stated_at ps logical

-- the map after a reset
pub record IsResetMap (paged : Paged) : Type 0 where
  pub low : (i : ℕ) → i < PHYSICAL_PAGES → page_at paged i ≡ Some (record { physical = i; level = 0 })
  pub high : (i : ℕ) → PHYSICAL_PAGES ≤ i → page_at paged i ≡ None

-- the stated pages alone are mapped; without any the map after a reset stays
abbrev pub IsMap : List MappedPage → Paged → Type 0
IsMap [] paged = IsResetMap paged
IsMap (p ∷ ps) paged = (logical : ℕ) → page_at paged logical ≡ stated_at (p ∷ ps) logical

-- the memory controller: all words of RAM are 0, and ROM has none
pub record IsController (c : Controller) (m : Memory) : Type 0 where
  pub size : m.shift ≡ shift_of_size c.size
  pub words : length m.paged.words ≡ 2 ^ (shift_of_size c.size + 5)
  pub zero_words : All (λ w. w ≡ 0) m.paged.words
  pub count : length m.paged.pages * 2 ^ shift_of_size c.size ≡ PHYSICAL_START
  pub map : IsMap c.pages m.paged
  pub control : m.control ≡ control_of (c.low_rom * 2 ^ 4 + c.high_rom * 2 ^ 6)
  pub no_rom : m.rom ≡ []

-- a timer: its count is the latch where none is stated. Each fourth tick decrements it, so the request of a
-- timer that moves rises 4 * count ticks after the start
abbrev pub timer_start : TimerSetting → (request : Bool) → Timer
timer_start t request =
    record { count = unwrap_or t.count t.latch; latch = t.latch; output = 0; request = request }

-- IOC: as after a reset, but for the masks, the latched requests (IRQ A's bits 2, 3, 5 and 6) and the timers
abbrev pub ioc_start : IocSetting → ioc.Controller
ioc_start s =
    record ioc.fresh {
      a2_rose = has s.requests_a 0x04;
      flyback_rose = has s.requests_a 0x08;
      mask_a = s.mask_a;
      mask_b = s.mask_b;
      mask_f = s.mask_fiq;
      timers =
          record {
            phase = 0;
            timer_0 = timer_start s.timer_0 (has s.requests_a 0x20);
            timer_1 = timer_start s.timer_1 (has s.requests_a 0x40);
          };
    }

-- VIDC with those registers, where a frame begins
abbrev pub frame_start : VidcSetting → vidc.Video
frame_start s =
    record {
      horizontal_cycle = unwrap_or s.horizontal_cycle 0;
      vertical_cycle = unwrap_or s.vertical_cycle 0;
      display_end = s.display_end;
      rate = vidc.rate_of s.pixel_rate;
      horizontal_written = is_some s.horizontal_cycle;
      vertical_written = is_some s.vertical_cycle;
      position = 0;
    }

-- VIDC: so many ticks later
abbrev pub vidc_start : VidcSetting → vidc.Video
vidc_start s = vidc.advanced s.ticks (frame_start s)

-- the machine
pub record IsStarted (file : Stated) (profile : Profile) (s : State) : Type 0 where
  pub registers : s.regs ≡ file.processor.registers ++ r15_in file.processor ∷ []
  pub memory : IsController file.controller s.bus.memc
  pub ioc : s.bus.ioc ≡ ioc_start file.ioc
  pub vidc : s.bus.vidc ≡ vidc_start file.vidc
  pub prices : s.profile ≡ profile
