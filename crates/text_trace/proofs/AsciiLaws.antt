-- Words and their lines are ASCII.
use Rattle.std.proofs.Common.{◌≡◌, ◌∙◌, ℕ, zero, suc, ◌<◌, ◌≤◌, Bool, true, ◌&&◌, nat_lt, List, []}
use Rattle.std.proofs.Common.{◌∷◌, length, inl, inr, refl, sym, ap, arith}
use Rattle.std.specs.Prelude.{slice_index}
use Rattle.std.specs.List.{list_all}
use Rattle.std.specs.Str.{IsUtf8}
use Rattle.std.proofs.lemmas.Bool.{and_parts, cases_Bool, false≢true}
use Rattle.std.proofs.lemmas.Bool.Decides.{nat_tests}
use Rattle.std.proofs.lemmas.Str.{IsUtf8-from_ascii}
use Rattle.asm_text.specs.Hex.{hex8, hex_digit}
use Rattle.asm_text.specs.Shown.{is_shown, is_upper}
use Rattle.asm_text.proofs.HexLaws.{all_digits}
use Rattle.assembler.specs.Shown.{hex_line}
use Rattle.assembler.specs.ShownLines.{IsShown}
use Rattle.assembler.proofs.ByteLaws.{spelling_shown}

is_ascii : ℕ → Bool
is_ascii b = nat_lt b 128

shown_ascii : (b : ℕ) → is_shown b ≡ true → is_ascii b ≡ true
unfolding is_ascii
shown_ascii b h = grind (arith, nat_tests, h)

all_ascii : (text : List ℕ) → list_all is_shown text ≡ true → list_all is_ascii text ≡ true
all_ascii [] h = refl
all_ascii (b ∷ bs) h =
    let k = and_parts (is_shown b) (list_all is_shown bs) h in
    rw (shown_ascii b k.0, all_ascii bs k.1) refl

digit_ascii : (d : ℕ) → d < 16 → is_ascii (hex_digit d) ≡ true
unfolding is_ascii
digit_ascii d lt = grind (arith, nat_tests)

hex_ascii : (n : ℕ) → list_all is_ascii (hex8 n) ≡ true
hex_ascii n = all_digits is_ascii 8 n digit_ascii

line_ascii : (word : ℕ) → list_all is_ascii (hex_line word) ≡ true
unfolding is_ascii
line_ascii word = hex_ascii word

-- of a spelling, or else of a DCD line
shown_all : (word at : ℕ) (line : List ℕ) → IsShown word at line → length line ≤ 64
    → list_all is_ascii line ≡ true
shown_all word at line shown short = elim (cases_Bool (list_all is_ascii line)) [
  | inl all ↦ all
  | inr other ↦ ap (list_all is_ascii) (shown.dcd (λ i means gives.
      let text =
      and_parts (list_all is_shown line && is_upper line) _
      (spelling_shown line i at (shown.spelled i means gives) short) in
      absurd (false≢true (sym other ∙ all_ascii line
      (and_parts (list_all is_shown line) (is_upper line) text.0).0)))) ∙ line_ascii word
]

below : (b : ℕ) → is_ascii b ≡ true → b < 128
unfolding is_ascii
below b h = grind (arith, nat_tests, h)

index_ascii : (line : List ℕ) → list_all is_ascii line ≡ true → (i : ℕ) → slice_index line i < 128
index_ascii [] h i = omega arith
index_ascii (b ∷ bs) h zero = below b (and_parts (is_ascii b) (list_all is_ascii bs) h).0
index_ascii (b ∷ bs) h (suc i) = index_ascii bs (and_parts (is_ascii b) (list_all is_ascii bs) h).1 i

-- for the crates above
pub ascii_utf8 : (text : List ℕ) → list_all (λ b. nat_lt b 128) text ≡ true → IsUtf8 text
unfolding is_ascii
ascii_utf8 text all = IsUtf8-from_ascii text (index_ascii text all)

pub digits_utf8 : (n : ℕ) → IsUtf8 (hex8 n)
digits_utf8 n = IsUtf8-from_ascii (hex8 n) (index_ascii (hex8 n) (hex_ascii n))

pub shown_utf8 : (word at : ℕ) (line : List ℕ) → IsShown word at line → length line ≤ 64 → IsUtf8 line
shown_utf8 word at line shown short =
    IsUtf8-from_ascii line (index_ascii line (shown_all word at line shown short))
