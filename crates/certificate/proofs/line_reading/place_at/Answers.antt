use Rattle.std.proofs.Common.{◌≡◌, ◌∙◌, ◌++◌, ◌∷◌, ℕ, List, codes, ap, sym, drop}
use Rattle.std.specs.Fmt.{decimal}
use Rattle.asm_text.specs.Hex.{hex}
use Rattle.longest_walk.specs.declared.rows.PlaceRow.{PlaceRow}
use Rattle.certificate.specs.Words.{AreCalls, list_words, place_words}
use Rattle.certificate.proofs.CutLaws.{one_cut}
use Rattle.certificate.proofs.FieldLaws.{from_none, hex_first, list-blank, no_word, other_word}
use Rattle.certificate.proofs.line_reading.place_at.Goals as goal

-- what follows the line's name
fields : (words rest : List ℕ) (r : PlaceRow) → words ≡ codes "place " ++ rest → words ≡ place_words r
    → rest ≡ list_words r.list ++ 32 ∷ (hex r.address ++ 32 ∷ decimal r.distance)
fields words rest r is e = ap (drop 6) (sym is ∙ e)

pub returns-in_err-word : goal.returns-in_err-word
returns-in_err-word c = from_none _ _ _ c.from_residual-in_err-word.ensures (λ r fits e.
    no_word AreCalls list_words c.in_ok-rest.rest.now c.in_err-word.ensures r.list _ (fits.place.1, fits.place.2) (fields _ _ r c.in_ok-rest.ensures e))

pub returns-in_err-list : goal.returns-in_err-list
returns-in_err-list c = from_none _ _ _ c.from_residual-in_err-list.ensures (λ r fits e.
    other_word AreCalls list_words list-blank c.in_ok-rest.rest.now c.in_ok-word.word.now c.in_ok-word.rest.now c.in_ok-word.ensures.1 c.in_ok-word.ensures.0 c.in_err-list.ensures
    r.list _ (fits.place.1, fits.place.2) (fields _ _ r c.in_ok-rest.ensures e))

pub returns-in_err-address : goal.returns-in_err-address
returns-in_err-address c = from_none _ _ _ c.from_residual-in_err-address.ensures (λ r fits e.
    let cut = one_cut 32 c.in_ok-word.word.now (list_words r.list) c.in_ok-word.rest.now _ c.in_ok-word.ensures.1 (list-blank r.list (fits.place.1, fits.place.2)) (sym c.in_ok-word.ensures.0 ∙ fields _ _ r c.in_ok-rest.ensures e) in
    c.in_err-address.ensures r.address _ fits.place.0 cut.1)

pub returns-in_err-distance : goal.returns-in_err-distance
returns-in_err-distance c = from_none _ _ _ c.from_residual-in_err-distance.ensures (λ r fits e.
    let cut = one_cut 32 c.in_ok-word.word.now (list_words r.list) c.in_ok-word.rest.now _ c.in_ok-word.ensures.1 (list-blank r.list (fits.place.1, fits.place.2)) (sym c.in_ok-word.ensures.0 ∙ fields _ _ r c.in_ok-rest.ensures e) in
    let address = hex_first c.in_ok-address.address r.address _ _ c.in_ok-address.ensures.0 fits.place.0 (sym c.in_ok-address.ensures.1 ∙ cut.1) in
    c.in_err-distance.ensures r.distance fits.distance address.1)

pub returns : goal.returns
returns c = (
  record { place = (c.in_ok-address.ensures.0, c.in_ok-list.ensures.0.0, c.in_ok-list.ensures.0.1); distance = c.in_ok-distance.ensures.0 },
  c.in_ok-rest.ensures ∙ ap (λ (x : List ℕ). codes "place " ++ x) (c.in_ok-word.ensures.0 ∙ ap (λ (x : List ℕ). x ++ 32 ∷ c.in_ok-word.rest.now) c.in_ok-list.ensures.1
      ∙ ap (λ (x : List ℕ). list_words c.in_ok-list.list ++ 32 ∷ x) (c.in_ok-address.ensures.1 ∙ ap (λ (x : List ℕ). hex c.in_ok-address.address ++ 32 ∷ x) c.in_ok-distance.ensures.1)),
)
