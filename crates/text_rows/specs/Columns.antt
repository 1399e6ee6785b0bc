-- Texts in columns, for a terminal of 80 columns. A byte is a column: a character of UTF-8 that has more of
-- them takes no more room than that.
use Rattle.std.specs.Prelude.{ℕ, zero, suc, ◌-◌, ◌&&◌, nat_le}
use Rattle.std.specs.Prelude.{nat_lt, Bool, if◌then◌else◌, List, ◌++◌, length}
use Rattle.std.specs.Prelude.{replicate, slice_index_or, take, codes}

-- a text that ends so many columns on, with blanks in front
abbrev pub in_columns : ℕ → List ℕ → List ℕ
in_columns width text = replicate (width - length text) 32 ++ text

-- a byte that goes on with a character of UTF-8 is at least 128 and below 192
abbrev pub goes_on : ℕ → Bool
goes_on byte = nat_le 128 byte && nat_lt byte 192

-- the greatest number of bytes, up to so many, after which a cut parts no character
abbrev pub cut_at : ℕ → List ℕ → ℕ
cut_at zero text = zero
cut_at (suc n) text = if goes_on (slice_index_or text (suc n) 0) then cut_at n text else suc n

-- as much of a text as column 80 leaves room for in a row that has so many columns, and the end of the row
abbrev pub cut_row : (used : ℕ) → List ℕ → List ℕ
cut_row used text = take (cut_at (80 - used) text) text ++ codes "\n"
