-- What is printed around the rows: the facts, how many entries follow, and what that says of runs.
use Rattle.std.specs.Prelude.{◌≡◌, ◌==◌, ℕ, Bool, true, false, if◌then◌else◌, List, [], ◌∷◌, ◌++◌, codes}
use Rattle.std.specs.Prelude.{count_by, decimal, length, Option, Some, None}
use Rattle.asm_text.specs.Hex.{hex8}
use Rattle.known_places.specs.OnTrust.{OnTrust}
use Rattle.known_words.specs.declared.given.Given.{Given}
use Rattle.text_explained.specs.Rules.{register_text}
use Rattle.text_rows.specs.Rows.{AreRows}
use Rattle.justify_reports.specs.declared.rows.Row.{Row}
use Rattle.justify_reports.specs.declared.rows.Verdict.{Verdict}
use Rattle.justify_reports.specs.declared.rows.Verdict.TheVariants as verdict

-- ## Facts

-- from the lowest to the highest word that a register may have
abbrev pub range_text : (low high : ℕ) → List ℕ
range_text low high =
    if low == high then codes " = " ++ hex8 low
    else codes " from " ++ (hex8 low ++ (codes " to " ++ hex8 high))

abbrev pub fact_row : Given → List ℕ
fact_row g = codes "given " ++ (register_text g.register ++ (range_text g.low g.high ++ codes "\n"))

abbrev pub AreFactRows : List Given → List ℕ → Type 0
AreFactRows = AreRows (λ g row. row ≡ fact_row g)

-- ## Counts

abbrev pub is_following : Verdict → Bool
is_following verdict.Follows = true
is_following verdict.OnTrust = false
is_following verdict.False = false

abbrev pub is_false : Verdict → Bool
is_false verdict.Follows = false
is_false verdict.OnTrust = false
is_false verdict.False = true

abbrev pub follows_count : List Row → ℕ
follows_count rows = count_by (λ row. is_following row.verdict) rows

abbrev pub false_count : List Row → ℕ
false_count rows = count_by (λ row. is_false row.verdict) rows

-- where the table of what is known does not hold along the handler
abbrev pub unseen_text : Option OnTrust → List ℕ
unseen_text None = codes "Nothing is seen of the registers along this handler: all is on trust.\n"
unseen_text (Some trusted) = []

-- what is on trust of every handler: the rest of what it is to keep a statement
abbrev pub others_text : List ℕ
others_text =
    codes "On trust too: code unchanged, no exception or stop, the class of leave, where\n"
    ++ codes "returns, stated jumps and calls go, ways of branches, cycles of multiplies.\n"

abbrev pub facts_text : List Given → List ℕ
facts_text [] = codes "without facts at the entry"
facts_text (g ∷ given) =
    codes "given " ++ (decimal (length (g ∷ given)) ++ codes " of the registers at the entry")

-- where some go elsewhere
abbrev pub false_text : ℕ → List ℕ
false_text count = if count == 0 then [] else decimal count ++ codes " FALSE, "

-- how many entries follow
abbrev pub counts_text : List Row → List Given → List ℕ
counts_text rows given =
    decimal (follows_count rows)
    ++ (codes " of "
    ++ (decimal (length rows) ++ (codes " entries follow, "
    ++ (false_text (false_count rows) ++ (facts_text given ++ codes ".\n")))))

-- ## The theorem

abbrev pub runs_text : List Given → List ℕ
runs_text [] = codes "Every run that keeps what is on trust"
runs_text (g ∷ given) = codes "Every run that begins as given and keeps what is on trust"

-- every such run takes at most the bound, and for each DMA burst the profile's price more
abbrev pub theorem_text : List Given → (bound price : ℕ) → List ℕ
theorem_text given bound price =
    runs_text given
    ++ (codes ", without visits, takes at most\n"
    ++ (decimal bound ++ (codes " ticks, and " ++ (decimal price ++ codes " more for each DMA burst.\n"))))

-- all behind the rows
abbrev pub summary_text : Option OnTrust → List Row → List Given → (bound price : ℕ) → List ℕ
summary_text left rows given bound price =
    codes "\n" ++ (unseen_text left
    ++ (others_text ++ (counts_text rows given ++ theorem_text given bound price)))
