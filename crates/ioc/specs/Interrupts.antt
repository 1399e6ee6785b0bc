-- IOC as a source of interrupts (shaped on the VL86C410 data sheet): three banks of status and mask bits,
-- IRQ A, IRQ B and FIQ. All lines but A2 are levels; A2 is latched where it becomes active.
use Rattle.std.specs.Prelude.{ℕ, ◌+◌, ◌*◌, ◌/◌, ◌%◌, Bool, true, false, ◌==◌, ◌&&◌, ◌||◌, not, if◌then◌else◌}
use Rattle.std.specs.Int.RustNames.{bit_and}
use Rattle.ioc.specs.declared.timers.Timer.{Timer}
use Rattle.ioc.specs.declared.timers.Timers.{Timers}
use Rattle.ioc.specs.Timers.{ticked}

-- lines: A0 to A2 in bits 0 to 2, IL0 in bit 8, B1 to B7 in bits 9 to 15, F0 to F5 in bits 16 to 21.
-- Four requests are latched: that A2 became active, that a flyback rose, and one in each timer
pub record Controller : Type 0 where
  pub lines : ℕ
  pub a2_rose : Bool
  pub flyback_rose : Bool
  pub mask_a : ℕ
  pub mask_b : ℕ
  pub mask_f : ℕ
  pub timers : Timers

abbrev pub fresh_timer : Timer
fresh_timer = record { count = 0; latch = 0; output = 0; request = false }

-- as IOC starts
abbrev pub fresh : Controller
fresh =
    record {
      lines = 0;
      a2_rose = false;
      flyback_rose = false;
      mask_a = 0;
      mask_b = 0;
      mask_f = 0;
      timers = record { phase = 0; timer_0 = fresh_timer; timer_1 = fresh_timer };
    }

-- whether the lines have this bit
abbrev pub has : ℕ → ℕ → Bool
has lines bit = bit_and lines bit == bit

-- new lines; A2 is latched where it becomes active
abbrev pub with_lines : ℕ → Controller → Controller
with_lines lines c = record c { lines = lines; a2_rose = c.a2_rose || (has lines 4 && not (has c.lines 4)) }

-- a flyback, latched
abbrev pub with_flyback : Controller → Controller
with_flyback c = record c { flyback_rose = true }

-- so many ticks on
abbrev pub advanced : ℕ → Controller → Controller
advanced ticks c = record c { timers = ticked ticks c.timers }

-- a bit that is set where its condition holds
abbrev pub bit_where : Bool → ℕ → ℕ
bit_where on bit = if on then bit else 0

-- IRQ A: bits 0 and 1 lines, 2 A2, 3 flyback, 4 clear, 5 and 6 timers 0 and 1, 7 set
abbrev pub status_a : Controller → ℕ
status_a c =
    c.lines % 4 + bit_where c.a2_rose 0x04 + bit_where c.flyback_rose 0x08
    + bit_where c.timers.timer_0.request 0x20 + bit_where c.timers.timer_1.request 0x40 + 0x80

-- IRQ B: bit 0 is IL0, 1 to 7 lines
abbrev pub status_b : Controller → ℕ
status_b c = c.lines / 0x100 % 0x100

-- FIQ: bits 0 to 5 lines, 6 is IL0, 7 set
abbrev pub status_f : Controller → ℕ
status_f c = c.lines / 0x1_0000 % 0x40 + c.lines / 0x100 % 2 * 0x40 + 0x80

-- whether a status and its mask share a bit
abbrev pub shares : ℕ → ℕ → Bool
shares status mask = not (bit_and status mask == 0)

abbrev pub fiq_of : Controller → Bool
fiq_of c = shares (status_f c) c.mask_f

abbrev pub irq_of : Controller → Bool
irq_of c = shares (status_a c) c.mask_a || shares (status_b c) c.mask_b
