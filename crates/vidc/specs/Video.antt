-- VIDC by four of its registers (shaped on the VL86C310 data sheet): horizontal cycle, vertical cycle,
-- vertical display end and control. Ours alone: which words are taken, where a frame begins again, and that
-- nothing moves before both cycle registers were written.
use Rattle.std.specs.Prelude.{ℕ, ◌+◌, ◌*◌, ◌/◌, ◌%◌, Bool, true, false, ◌==◌, ◌&&◌, if◌then◌else◌}
use Rattle.vidc.specs.declared.PixelRate.{PixelRate}
use Rattle.vidc.specs.declared.PixelRate.TheVariants.{Mhz8, Mhz12, Mhz16, Mhz24}
use Rattle.vidc.specs.Frame.{arrivals, position_after}

-- the registers' values, whether the two cycle registers were written, and the position in the frame, in
-- sixths of a tick
pub record Video : Type 0 where
  pub horizontal_cycle : ℕ
  pub vertical_cycle : ℕ
  pub display_end : ℕ
  pub rate : PixelRate
  pub horizontal_written : Bool
  pub vertical_written : Bool
  pub position : ℕ

-- as VIDC starts
abbrev pub fresh : Video
fresh =
    record {
      horizontal_cycle = 0;
      vertical_cycle = 0;
      display_end = 0;
      rate = Mhz8;
      horizontal_written = false;
      vertical_written = false;
      position = 0;
    }

-- the pixel rate by control bits 1:0
abbrev pub rate_of : ℕ → PixelRate
rate_of bits = if bits == 0 then Mhz8 else if bits == 1 then Mhz12 else if bits == 2 then Mhz16 else Mhz24

-- what a pixel takes, in sixths of a tick
abbrev pub pixel_of : PixelRate → ℕ
pixel_of Mhz8 = 6
pixel_of Mhz12 = 4
pixel_of Mhz16 = 3
pixel_of Mhz24 = 2

-- what a raster takes: in pixels, twice the horizontal cycle and two more
abbrev pub raster_of : (horizontal_cycle : ℕ) → PixelRate → ℕ
raster_of horizontal_cycle rate = (2 * horizontal_cycle + 2) * pixel_of rate

-- what a frame takes: one raster more than the vertical cycle says
abbrev pub frame_of : (horizontal_cycle vertical_cycle : ℕ) → PixelRate → ℕ
frame_of horizontal_cycle vertical_cycle rate = raster_of horizontal_cycle rate * (vertical_cycle + 1)

abbrev pub frame : Video → ℕ
frame v = frame_of v.horizontal_cycle v.vertical_cycle v.rate

-- flyback rises where the raster after the display's last begins; no position is there where the frame has no
-- such raster
abbrev pub flyback : Video → ℕ
flyback v = raster_of v.horizontal_cycle v.rate * (v.display_end + 1)

-- whether the position moves
abbrev pub runs : Video → Bool
runs v = v.horizontal_written && v.vertical_written

-- VIDC so many ticks on
abbrev pub advanced : ℕ → Video → Video
advanced ticks v =
    if runs v then record v { position = position_after (ticks * 6) (frame v) v.position } else v

-- the flybacks that rise meanwhile
abbrev pub flybacks : ℕ → Video → ℕ
flybacks ticks v = if runs v then arrivals (ticks * 6) (frame v) (flyback v) v.position else 0

-- the value of a word is in its bits 23:14
abbrev pub value_of : ℕ → ℕ
value_of word = word / 0x4000 % 0x400

-- what the write of a word does, by its eight top bits: each of the four registers begins a frame, other
-- words do nothing
unfoldable pub written : ℕ → Video → Video
written word v =
    if word / 0x100_0000 == 0x80
    then record v { horizontal_cycle = value_of word; horizontal_written = true; position = 0 }
    else if word / 0x100_0000 == 0xA0
    then record v { vertical_cycle = value_of word; vertical_written = true; position = 0 }
    else if word / 0x100_0000 == 0xB0 then record v { display_end = value_of word; position = 0 }
    else if word / 0x100_0000 == 0xE0 then record v { rate = rate_of (word % 4); position = 0 }
    else v
