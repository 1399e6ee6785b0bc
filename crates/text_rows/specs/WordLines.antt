-- The lines of words.
use Rattle.std.specs.Prelude.{◌≡◌, ◌+◌, ◌%◌, ◌^◌, zero, suc, ℕ, List, [], ◌∷◌, ◌++◌}
use Rattle.std.specs.Prelude.{Option, None, option_map, nat_eq}
use Rattle.std.specs.BTreeMap.{BTreeMap, get}
use Rattle.std.specs.Map.{update_all}
use Rattle.std.specs.Ordering.{nat_cmp}
use Rattle.asm_text.specs.Source.{lines_of}
use Rattle.assembler.specs.declared.placed_line.PlacedLine.{PlacedLine}
use Rattle.image.specs.Labels.{NamedAddresses}
use Rattle.text_rows.specs.LineLabels.{label_of}
use Rattle.text_rows.specs.declared.line_labels.SourceLine.{SourceLine}

-- the line of the word at an address
abbrev pub line_at : BTreeMap ℕ SourceLine → ℕ → Option SourceLine
line_at lines at = get nat_cmp lines at

-- the label of its line
abbrev pub label_at : BTreeMap ℕ SourceLine → ℕ → Option (List ℕ)
label_at lines at = option_map (λ line. line.label.now) (line_at lines at)

-- ## Which line each word has

-- the number of a line, the label of its word and its text
pub record Numbered : Type 0 where
  pub number : ℕ
  pub label : List ℕ
  pub text : List ℕ

abbrev pub numbered : SourceLine → Numbered
numbered line = record { number = line.number; label = line.label.now; text = line.text.now }

abbrev pub numbered_at : BTreeMap ℕ SourceLine → ℕ → Option Numbered
numbered_at lines at = option_map numbered (line_at lines at)

-- the words of a line, the first of which has the label; addresses wrap
abbrev pub words_from : (at count : ℕ) → Numbered → List (ℕ × Numbered)
words_from at zero line = []
words_from at (suc n) line = (at, line) ∷ words_from ((at + 4) % 2 ^ 32) n (record line { label = [] })

-- the words of lines, of which the first has the number, where the line before has the label
abbrev pub words_of : NamedAddresses → ℕ → List ℕ → List (List ℕ) → List PlacedLine → List (ℕ × Numbered)
words_of names number before [] placed = []
words_of names number before (text ∷ lines) [] = []
words_of names number before (text ∷ lines) (p ∷ placed) =
    words_from p.at p.words (record { number = number; label = label_of names text before p.at; text = text })
    ++ words_of names (number + 1) (label_of names text before p.at) lines placed

-- the words of all lines and no others; where two are at one address, the later
abbrev pub AreLinesOf : NamedAddresses → (source : List ℕ) → List PlacedLine → BTreeMap ℕ SourceLine → Type 0
AreLinesOf names source placed lines =
    (at : ℕ) → numbered_at lines at
    ≡ update_all nat_eq (λ a. None) (words_of names 1 [] (lines_of source) placed) at
