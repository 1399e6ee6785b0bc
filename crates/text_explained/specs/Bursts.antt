-- What DMA bursts add to a bound. During a burst the handler stands still.
use Rattle.std.specs.Prelude.{◌≡◌, ℕ, ◌+◌, ◌*◌, ◌≤◌, List, [], ◌++◌, codes, decimal, Option, Some, None}
use Rattle.std.specs.Int.{div_ceil}
use Rattle.text_explained.specs.Columns.{time_text}
use Rattle.text_explained.specs.declared.bursts.Bursts.{Bursts}

-- ## Ticks

-- the ticks of a bound and so many bursts
abbrev pub with_bursts : (price bound count : ℕ) → ℕ
with_bursts price bound count = bound + count * price

-- of bursts that come at the first tick and then every so many ticks, no more come before the end
abbrev pub AreEnough : (price bound every count : ℕ) → Type 0
AreEnough price bound every count = with_bursts price bound count ≤ count * every

-- the least number of bursts that is enough; None where none is, and the handler never ends
abbrev pub AreFewest : (price bound every : ℕ) → Option ℕ → Type 0
AreFewest price bound every (Some count) =
    AreEnough price bound every count × ((other : ℕ) → AreEnough price bound every other → count ≤ other)
AreFewest price bound every None = (count : ℕ) → AreEnough price bound every count → ⊥

-- a time that is the bound and a burst for each stretch of so many ticks that is begun in it
abbrev pub IsBurstTime : (price bound every ticks : ℕ) → Type 0
IsBurstTime price bound every ticks = ticks ≡ with_bursts price bound (div_ceil ticks every)

-- ## Lines

-- with so many bursts in all; nothing where no number is given
abbrev pub count_line : (price bound : ℕ) → Option ℕ → List ℕ
count_line price bound None = []
count_line price bound (Some count) =
    codes "with " ++ (decimal count ++ (codes " bursts " ++ time_text (with_bursts price bound count)))

-- with the fewest that are enough
abbrev pub end_text : (price bound : ℕ) → Option ℕ → List ℕ
end_text price bound None = codes "it never ends\n"
end_text price bound (Some count) = time_text (with_bursts price bound count)

-- with a burst every so many ticks; nothing where no number is given
abbrev pub IsEveryLine : (price bound : ℕ) → Option ℕ → List ℕ → Type 0
IsEveryLine price bound None line = line ≡ []
IsEveryLine price bound (Some every) line =
    (fewest : Option ℕ) × AreFewest price bound every fewest
    × (line
    ≡ codes "with a burst every " ++ (decimal every ++ (codes " ticks " ++ end_text price bound fewest)))

-- a line for each number that is given
pub record AreBurstLines (price bound : ℕ) (bursts : Bursts) (text : List ℕ) : Type 0 where
  pub every_line : List ℕ
  pub is_every_line : IsEveryLine price bound bursts.every every_line
  pub text_is : text ≡ count_line price bound bursts.count ++ every_line
