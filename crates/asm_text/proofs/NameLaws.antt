-- What a text names in a table is what the first row says that has it.
use Rattle.std.proofs.Common.{◌≡◌, ◌∙◌, ℕ, List, [], ◌∷◌, Option, refl, ap, map, inl, inr}
use Rattle.std.specs.Borrow.{Bor}
use Rattle.std.specs.List.{find}
use Rattle.std.specs.Prelude.{option_map}
use Rattle.std.specs.Str.{bytes_eq}
use Rattle.std.proofs.lemmas.Bool.{cases_Bool}
use Rattle.asm_text.specs.Registers.{name_of, named_in}

row_found : {A : Type 0} (rows : List (Bor (List ℕ) × A)) (text : List ℕ) → option_map (λ row. row.1) (find (λ row. bytes_eq text row.0.now) rows) ≡ named_in (map name_of rows) text
row_found [] text = refl
row_found (row ∷ rows) text = elim (cases_Bool (bytes_eq text row.0.now)) [ inl h ↦ rw h refl | inr h ↦ rw h (row_found rows text) ]

pub found_by : {A : Type 0} (r : Option (Bor (Bor (List ℕ) × A))) (rows : List (Bor (List ℕ) × A)) (text : List ℕ) → option_map (λ row. row.now) r ≡ find (λ row. bytes_eq text row.0.now) rows
    → option_map (λ row. row.1) (option_map (λ row. row.now) r) ≡ named_in (map name_of rows) text
found_by r rows text e = ap (option_map (λ row. row.1)) e ∙ row_found rows text
