-- The first row of a name.
use Rattle.std.proofs.Common.{◌≡◌, ◌∙◌, Bool, true, false, List, [], ◌∷◌, Option, Some, None, map, refl, sym, ap, ap₂, inl, inr}
use Rattle.std.specs.List.{find, list_any}
use Rattle.std.specs.Borrow.{Bor}
use Rattle.std.specs.Prelude.{option_and_then, option_map, unwrap_or, if◌then◌else◌, ◌||◌}
use Rattle.std.specs.Str.{bytes_eq}
use Rattle.std.proofs.lemmas.Bool.{cases_Bool}
use Rattle.std.proofs.lemmas.Option.{none-some}
use Rattle.clap.specs.Walk.{Row, Text}
use Rattle.command_line.specs.Line.{Asked, Usage, allowed, asked_as, asked_by, has_at_sign, usages}
use Rattle.command_line.specs.Rows.{usage_of}
use Rattle.command_line.specs.declared.command_rows.CommandRow.{CommandRow}

-- as the definitions have it
find_usage : (rows : List CommandRow) (name : Text)
    → option_map usage_of (find (λ row. bytes_eq name row.name.now) rows) ≡ find (λ u. bytes_eq name u.name) (map usage_of rows)
find_usage [] name = refl
find_usage (row ∷ rows) name =
    elim (cases_Bool (bytes_eq name row.name.now)) [ inl h ↦ rw h refl | inr h ↦ rw h (find_usage rows name) ]

-- of the row that a search lends
pub usage_found : (r : Option (Bor CommandRow)) (rows : List CommandRow) (name : Text)
    → option_map (λ row. row.now) r ≡ find (λ row. bytes_eq name row.name.now) rows
    → option_map (λ row. usage_of row.now) r ≡ find (λ u. bytes_eq name u.name) (map usage_of rows)
usage_found None rows name e = ap (option_map usage_of) e ∙ find_usage rows name
usage_found (Some row) rows name e = ap (option_map usage_of) e ∙ find_usage rows name

-- what a pair asks, of whose parts a search tells apart
pub pair_asked : {X : Type 0} (s : Option X) (n : X → Text) (r : X → List Row) (name : Text) (rows : List Row)
    → Some name ≡ option_map n s → Some rows ≡ option_map (λ (p : Text × List Row). p.1) (option_map (λ x. (n x, r x)) s)
    → asked_by (name, rows) ≡ option_and_then asked_by (option_map (λ x. (n x, r x)) s)
pair_asked None n r name rows named rowed = absurd (none-some name (sym named))
pair_asked (Some x) n r name rows named rowed =
    ap₂ (λ (t : Text) (l : List Row). asked_by (t, l)) (ap (λ o. unwrap_or o name) named) (ap (λ o. unwrap_or o rows) rowed)

-- ## What may be asked

-- an image's name among those of files
abbrev pub among_names_of : List (Bor Text) → Text → Bool
among_names_of names word = list_any (λ name. bytes_eq name.now word) names

pub among_names : (names : List (Bor Text)) (word : Text) → among_names_of names word ≡ list_any (λ name. bytes_eq name word) (map (λ s. s.now) names)
among_names [] word = refl
among_names (name ∷ names) word = ap (λ (b : Bool). bytes_eq name.now word || b) (among_names names word)

-- one of some names has an `@`
pub at_signs : (names : List (Bor Text)) → list_any (λ name. has_at_sign name.now) names ≡ list_any has_at_sign (map (λ s. s.now) names)
at_signs [] = refl
at_signs (name ∷ names) = ap (λ (b : Bool). has_at_sign name.now || b) (at_signs names)

pub chosen : (b : Bool) (q : Asked) → b ≡ true → Some q ≡ (if b then Some q else None)
chosen true q is = refl
chosen false q is = absurd (cc is)

pub unchosen : (b : Bool) (q : Asked) → b ≡ false → None ≡ (if b then Some q else None)
unchosen false q is = refl
unchosen true q is = absurd (cc is)

-- what is asked by the row of a name, if it may be
pub asked_allowed : (name : Text) (rows : List Row) (u : Usage) (q : Asked) → Some u ≡ find (λ u. bytes_eq name u.name) usages → q ≡ asked_as u rows → allowed q ≡ asked_by (name, rows)
asked_allowed name rows u q found is = ap allowed is ∙ ap (option_and_then (λ u. allowed (asked_as u rows))) found
