-- The names of lines are ASCII, so bytes that are no text name none.
use Rattle.std.proofs.Common.{◌≡◌, ◌∙◌, ℕ, Bool, true, nat_lt, List, [], ◌∷◌, None, refl, ap, subst, inl, inr}
use Rattle.std.proofs.Common.{length}
use Rattle.std.specs.Prelude.{◌==◌, option_map}
use Rattle.std.specs.List.{list_all}
use Rattle.std.specs.Str.{IsUtf8, bytes_eq}
use Rattle.std.proofs.lemmas.Bool.{and_parts, cases_Bool, cond-true, cond-false}
use Rattle.std.proofs.lemmas.Slice.Eq.{bytes_eq-Decides}
use Rattle.bitflags.specs.Sets.{Row, find_name, find_row}
use Rattle.ioc.specs.declared.lines.Lines.{Lines}
use Rattle.text_trace.proofs.AsciiLaws.{ascii_utf8}
use Rattle.ioc.specs.LineNames.{line_named, line_names}

abbrev is_plain : List ℕ → Bool
is_plain text = list_all (λ b. nat_lt b 128) text

none_found : (rows : List Row) (name : List ℕ) → list_all (λ row. is_plain row.0) rows ≡ true
    → (IsUtf8 name → ⊥) → find_row rows name ≡ None
unfolding find_row
none_found [] name plain no_text = refl
none_found (row ∷ rows) name plain no_text =
    let parts = and_parts (is_plain row.0) (list_all (λ row. is_plain row.0) rows) plain in
    elim (cases_Bool (bytes_eq row.0 name)) [
      | inl same ↦
          let is = (bytes_eq-Decides row.0 name).0 same in
          absurd (no_text (subst IsUtf8 is (ascii_utf8 row.0 parts.0)))
      | inr other ↦ cond-false (bytes_eq row.0 name) _ _ other ∙ none_found rows name parts.1 no_text
    ]

unnamed : (rows : List Row) (name : List ℕ) → list_all (λ row. is_plain row.0) rows ≡ true
    → (IsUtf8 name → ⊥) → find_name rows name ≡ None
unnamed rows name plain no_text = elim (cases_Bool (length name == 0)) [
  | inl empty ↦ cond-true (length name == 0) _ _ empty
  | inr some ↦ cond-false (length name == 0) _ _ some ∙ none_found rows name plain no_text
]

pub no_line : (name : List ℕ) → (IsUtf8 name → ⊥) → line_named name ≡ None
no_line name no_text =
    let line : ℕ → Lines = λ bits. record { 0 = bits } in
    ap (option_map line) (unnamed line_names name refl no_text)
