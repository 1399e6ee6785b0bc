-- Words side by side, as an image is written.
use Rattle.std.specs.Prelude.{ℕ, suc, ◌+◌, ◌==◌, Bool, if◌then◌else◌, [], ◌∷◌, map}
use Rattle.image.specs.Image.{Words}
use Rattle.image.specs.ImageBytes.{Segment}

-- a word right after an address
abbrev pub is_next : ℕ → ℕ × ℕ → Bool
is_next before e = e.0 == before + 4

-- the number of words that are side by side after an address
abbrev pub run_after : ℕ → Words → ℕ
run_after before [] = 0
run_after before (e ∷ rest) = if is_next before e then suc (run_after e.0 rest) else 0

-- a run of words as a segment
abbrev pub segment_in : ℕ → Words → Segment
segment_in address run = record { address = address; words = map (λ e. e.1) run }
