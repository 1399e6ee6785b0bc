-- IOC and VIDC as they are after writes to their registers.
use Rattle.std.proofs.Common.{◌≡◌, ℕ, ◌+◌, ◌*◌, ◌/◌, ◌%◌, ◌<◌, ◌≤◌, ◌==◌, Bool, true, false, if◌then◌else◌, Option, Some, None, refl, ap, arith}
use Rattle.ioc.specs.Interrupts.{Controller, advanced, fresh, has}
use Rattle.ioc.specs.Registers.{on_timer_0, on_timer_1, write_of}
use Rattle.vidc.specs.Video.{Video, rate_of, value_of, written}
use Rattle.vidc.specs.Video as vidc
use Rattle.machine_file.specs.Started.{frame_start, ioc_start, timer_start}
use Rattle.machine_file.specs.Stated.{IocSetting, VidcSetting}
use Rattle.machine_file.specs.StartWork.{first_of, near_request, on_timer, with_display_end, with_horizontal, with_latch, with_masks, with_numbers, with_rate, with_requests, with_start, with_vertical}
use Rattle.machine_file.specs.declared.ioc_settings.TimerSetting.{TimerSetting}
use Rattle.machine_file.specs.declared.ioc_start.TimerName.{TimerName}
use Rattle.machine_file.specs.declared.ioc_start.TimerName.TheVariants.{Timer0, Timer1}

-- ## IOC

-- a latch of two bytes
two_bytes : (latch old : ℕ) → latch < 65536 → latch / 256 * 256 + (old / 256 * 256 + latch % 256) % 256 ≡ latch
two_bytes latch old low = omega (arith, low)

pub latch_set : (timer : TimerName) (latch : ℕ) (c : Controller) → latch < 65536
    → write_of (first_of timer + 4) (latch / 256) (write_of (first_of timer) (latch % 256) c) ≡ on_timer timer (with_latch latch) c
unfolding write_of
latch_set Timer0 latch c low = ap (λ (n : ℕ). on_timer_0 (with_latch n) c) (two_bytes latch c.timers.timer_0.latch low)
latch_set Timer1 latch c low = ap (λ (n : ℕ). on_timer_1 (with_latch n) c) (two_bytes latch c.timers.timer_1.latch low)

pub start_set : (timer : TimerName) (c : Controller) → write_of (first_of timer + 8) 0 c ≡ on_timer timer with_start c
unfolding write_of
start_set Timer0 c = refl
start_set Timer1 c = refl

pub masks_set : (s : IocSetting) (c : Controller)
    → write_of 0x38 s.mask_fiq (write_of 0x28 s.mask_b (write_of 0x18 s.mask_a c)) ≡ with_masks s c
unfolding write_of
masks_set s c = refl

pub timer_set : (timer : TimerName) (s : TimerSetting) (count : ℕ) (c : Controller)
    → on_timer timer (with_latch s.latch) (on_timer timer with_start (on_timer timer (with_latch count) c)) ≡ on_timer timer (λ t. record t { latch = s.latch; count = count }) c
timer_set Timer0 s count c = refl
timer_set Timer1 s count c = refl

-- both timers, of which some were one decrement before their requests
requests_set : (s t : TimerSetting) (a2 flyback a b : Bool)
    → on_timer Timer1 (with_numbers t) (on_timer Timer0 (with_numbers s) (advanced 4 (on_timer Timer1 (near_request b) (on_timer Timer0 (near_request a) (record fresh { a2_rose = a2; flyback_rose = flyback })))))
    ≡ record fresh { a2_rose = a2; flyback_rose = flyback; timers = record { phase = 0; timer_0 = timer_start s a; timer_1 = timer_start t b } }
requests_set s t a2 flyback true true = refl
requests_set s t a2 flyback true false = refl
requests_set s t a2 flyback false true = refl
requests_set s t a2 flyback false false = refl

pub ioc_set : (s : IocSetting)
    → with_masks s (on_timer Timer1 (with_numbers s.timer_1) (on_timer Timer0 (with_numbers s.timer_0) (advanced 4 (with_requests s.requests_a fresh)))) ≡ ioc_start s
ioc_set s =
    ap (with_masks s) (requests_set s.timer_0 s.timer_1 (has s.requests_a 0x04) (has s.requests_a 0x08) (has s.requests_a 0x20) (has s.requests_a 0x40))

-- ## VIDC

-- what a word does, by its eight top bits, its value and its lowest bits
abbrev by_top : (top value bits : ℕ) → Video → Video
by_top top value bits v =
    if top == 0x80 then record v { horizontal_cycle = value; horizontal_written = true; position = 0 }
    else if top == 0xA0 then record v { vertical_cycle = value; vertical_written = true; position = 0 }
    else if top == 0xB0 then record v { display_end = value; position = 0 }
    else if top == 0xE0 then record v { rate = rate_of bits; position = 0 }
    else v

written_by : (word top value bits : ℕ) (v : Video) → word / 0x100_0000 ≡ top → value_of word ≡ value → word % 4 ≡ bits
    → written word v ≡ by_top top value bits v
unfolding written
written_by word top value bits v a b c i = by_top (a i) (b i) (c i) v

pub horizontal_set : (n : ℕ) (v : Video) → n ≤ 0x3FF → written (0x8000_0000 + n * 0x4000) v ≡ with_horizontal (Some n) v
horizontal_set n v low =
    written_by (0x8000_0000 + n * 0x4000) 0x80 n ((0x8000_0000 + n * 0x4000) % 4) v (omega (arith, low)) (omega (arith, low)) refl

pub vertical_set : (n : ℕ) (v : Video) → n ≤ 0x3FF → written (0xA000_0000 + n * 0x4000) v ≡ with_vertical (Some n) v
vertical_set n v low =
    written_by (0xA000_0000 + n * 0x4000) 0xA0 n ((0xA000_0000 + n * 0x4000) % 4) v (omega (arith, low)) (omega (arith, low)) refl

pub display_end_set : (n : ℕ) (v : Video) → n ≤ 0x3FF → written (0xB000_0000 + n * 0x4000) v ≡ with_display_end n v
display_end_set n v low =
    written_by (0xB000_0000 + n * 0x4000) 0xB0 n ((0xB000_0000 + n * 0x4000) % 4) v (omega (arith, low)) (omega (arith, low)) refl

pub rate_set : (n : ℕ) (v : Video) → n ≤ 3 → written (0xE000_0000 + n) v ≡ with_rate n v
rate_set n v low =
    written_by (0xE000_0000 + n) 0xE0 (value_of (0xE000_0000 + n)) n v (omega (arith, low)) refl (omega (arith, low))

frame_by : (h w : Option ℕ) (end rate ticks : ℕ)
    → with_rate rate (with_display_end end (with_vertical w (with_horizontal h vidc.fresh))) ≡ frame_start (record { horizontal_cycle = h; vertical_cycle = w; display_end = end; pixel_rate = rate; ticks = ticks })
frame_by None None end rate ticks = refl
frame_by None (Some w) end rate ticks = refl
frame_by (Some h) None end rate ticks = refl
frame_by (Some h) (Some w) end rate ticks = refl

pub frame_set : (s : VidcSetting)
    → with_rate s.pixel_rate (with_display_end s.display_end (with_vertical s.vertical_cycle (with_horizontal s.horizontal_cycle vidc.fresh))) ≡ frame_start s
frame_set s = frame_by s.horizontal_cycle s.vertical_cycle s.display_end s.pixel_rate s.ticks
