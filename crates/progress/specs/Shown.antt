-- What is shown of work that is being done: lines on an output of their own.
use Rattle.std.specs.Prelude.{◌≡◌, ◌⊎◌, ◌++◌, ℕ, ◌-◌, ◌*◌, List, [], ◌∷◌, codes, decimal, map, Option}
use Rattle.std.specs.Prelude.{Result, Ok, Err}
use Rattle.std.specs.Int.{div_ceil}
use Rattle.std.specs.List.{range_with_len}
use Rattle.std.specs.Io.KnownBytes.{Appends}
use Rattle.outputs.specs.Output.{FailsSince, TakesFront}

-- ## The lines

-- before a file of this name is read
abbrev pub reading_line : List ℕ → List ℕ
reading_line name = codes "reading " ++ (name ++ codes "\n")

-- how many stretches of 16 MiB are begun, after so many bytes
abbrev pub begun : ℕ → ℕ
begun bytes = div_ceil bytes 16777216

-- where one begins: how many MiB were written before it
abbrev pub writing_line : ℕ → List ℕ
writing_line stretch = codes "writing: " ++ (decimal (16 * stretch) ++ codes " MiB\n")

-- of the stretches that are begun after so many bytes, and were not before: one line each, in their order
abbrev pub writing_lines : (before after : ℕ) → List (List ℕ)
writing_lines before after = map writing_line (range_with_len (begun before) (begun after - begun before))

-- how many bytes a write took
abbrev pub bytes_taken : {E : Type 0} → Result ℕ E → ℕ
bytes_taken (Ok n) = n
bytes_taken (Err e) = 0

-- ## What an output takes of them

module _ {E : Type 0} (taken : E → Option (List ℕ)) (failures : E → ℕ) where
  -- the line, and no write failed, or a front of it, and one did
  abbrev pub TakesLine : (old new : E) → List ℕ → Type 0
  TakesLine old new line =
      (Appends (taken old) (taken new) line × (failures new ≡ failures old))
      ⊎ (TakesFront (taken old) (taken new) line × FailsSince (failures old) (failures new))

  -- each of the lines, one after another; after one that failed too
  abbrev pub Shows : (old new : E) → List (List ℕ) → Type 0
  Shows old new [] = new ≡ old
  Shows old new (line ∷ lines) = (between : E) × TakesLine old between line × Shows between new lines
