-- IOC's registers by their offsets (shaped on the VL86C410 data sheet). Ours alone: which addresses are
-- registers'; that a write to offset 14 clears every latched request whatever its byte (the chip clears
-- those whose bit in the byte is 1); that writes to 24 and 34 do nothing; that elsewhere a read returns 0
-- and a write does nothing.
use Rattle.std.specs.Prelude.{ℕ, ◌+◌, ◌*◌, ◌/◌, ◌%◌, Bool, false, ◌==◌, if◌then◌else◌}
use Rattle.std.specs.Int.RustNames.{bit_and}
use Rattle.ioc.specs.declared.timers.Timer.{Timer}
use Rattle.ioc.specs.Interrupts.{Controller, status_a, status_b, status_f}

-- 3200000 to 320007F, in words of four bytes
abbrev pub is_register : ℕ → Bool
is_register address = address / 0x80 == 0x6_4000

abbrev pub offset_of : ℕ → ℕ
offset_of address = address / 4 % 0x20 * 4

-- the byte that a read returns: of each bank the status, the request (status and mask) and the mask; of each
-- timer its output
unfoldable pub read_of : ℕ → Controller → ℕ
read_of offset c =
    if offset == 0x10 then status_a c
    else if offset == 0x14 then bit_and (status_a c) c.mask_a
    else if offset == 0x18 then c.mask_a
    else if offset == 0x20 then status_b c
    else if offset == 0x24 then bit_and (status_b c) c.mask_b
    else if offset == 0x28 then c.mask_b
    else if offset == 0x30 then status_f c
    else if offset == 0x34 then bit_and (status_f c) c.mask_f
    else if offset == 0x38 then c.mask_f
    else if offset == 0x40 then c.timers.timer_0.output % 0x100
    else if offset == 0x44 then c.timers.timer_0.output / 0x100
    else if offset == 0x50 then c.timers.timer_1.output % 0x100
    else if offset == 0x54 then c.timers.timer_1.output / 0x100
    else 0

abbrev pub read_at : ℕ → Controller → ℕ
read_at address c = if is_register address then read_of (offset_of address) c else 0

-- a timer's four registers: the two bytes of its latch, the latch as its count, its count as the output
abbrev pub with_low : ℕ → Timer → Timer
with_low byte t = record t { latch = t.latch / 0x100 * 0x100 + byte }

abbrev pub with_high : ℕ → Timer → Timer
with_high byte t = record t { latch = byte * 0x100 + t.latch % 0x100 }

abbrev pub started : Timer → Timer
started t = record t { count = t.latch }

abbrev pub sampled : Timer → Timer
sampled t = record t { output = t.count }

abbrev pub cleared : Timer → Timer
cleared t = record t { request = false }

-- without a latched request: bits 2, 3, 5 and 6 of IRQ A
abbrev pub all_cleared : Controller → Controller
all_cleared c =
    record c {
      a2_rose = false;
      flyback_rose = false;
      timers = record c.timers { timer_0 = cleared c.timers.timer_0; timer_1 = cleared c.timers.timer_1 };
    }

abbrev pub on_timer_0 : (Timer → Timer) → Controller → Controller
on_timer_0 change c = record c { timers = record c.timers { timer_0 = change c.timers.timer_0 } }

abbrev pub on_timer_1 : (Timer → Timer) → Controller → Controller
on_timer_1 change c = record c { timers = record c.timers { timer_1 = change c.timers.timer_1 } }

-- what the write of a byte does
unfoldable pub write_of : ℕ → ℕ → Controller → Controller
write_of offset byte c =
    if offset == 0x14 then all_cleared c
    else if offset == 0x18 then record c { mask_a = byte }
    else if offset == 0x28 then record c { mask_b = byte }
    else if offset == 0x38 then record c { mask_f = byte }
    else if offset == 0x40 then on_timer_0 (with_low byte) c
    else if offset == 0x44 then on_timer_0 (with_high byte) c
    else if offset == 0x48 then on_timer_0 started c
    else if offset == 0x4C then on_timer_0 sampled c
    else if offset == 0x50 then on_timer_1 (with_low byte) c
    else if offset == 0x54 then on_timer_1 (with_high byte) c
    else if offset == 0x58 then on_timer_1 started c
    else if offset == 0x5C then on_timer_1 sampled c
    else c

-- the byte of a written word is in its bits 23:16
abbrev pub byte_of : ℕ → ℕ
byte_of word = word / 0x1_0000 % 0x100

abbrev pub write_at : ℕ → ℕ → Controller → Controller
write_at address word c = if is_register address then write_of (offset_of address) (byte_of word) c else c
