use Rattle.std.proofs.Common.{◌≡◌, ◌∙◌, ◌++◌, ◌∷◌, ℕ, List, codes, ap, sym, drop}
use Rattle.std.specs.Fmt.{decimal}
use Rattle.asm_text.specs.Hex.{hex}
use Rattle.longest_walk.specs.declared.rows.InstanceRow.{InstanceRow}
use Rattle.certificate.specs.Words.{AreCalls, instance_words, list_words}
use Rattle.certificate.proofs.CutLaws.{one_cut}
use Rattle.certificate.proofs.FieldLaws.{decimal_first, from_none, hex_first, list-blank, no_word, other_word}
use Rattle.certificate.proofs.line_reading.instance_at.Goals as goal

-- what follows the line's name
fields : (words rest : List ℕ) (r : InstanceRow) → words ≡ codes "instance " ++ rest → words ≡ instance_words r
    → rest ≡ list_words r.list ++ 32 ∷ (hex r.header ++ 32 ∷ (decimal r.arrival ++ 32 ∷ decimal r.round))
fields words rest r is e = ap (drop 9) (sym is ∙ e)

pub returns-in_err-word : goal.returns-in_err-word
returns-in_err-word c = from_none _ _ _ c.from_residual-in_err-word.ensures (λ r fits e.
    no_word AreCalls list_words c.in_ok-rest.rest.now c.in_err-word.ensures r.list _ (fits.header.1, fits.header.2) (fields _ _ r c.in_ok-rest.ensures e))

pub returns-in_err-list : goal.returns-in_err-list
returns-in_err-list c = from_none _ _ _ c.from_residual-in_err-list.ensures (λ r fits e.
    other_word AreCalls list_words list-blank c.in_ok-rest.rest.now c.in_ok-word.word.now c.in_ok-word.rest.now c.in_ok-word.ensures.1 c.in_ok-word.ensures.0 c.in_err-list.ensures
    r.list _ (fits.header.1, fits.header.2) (fields _ _ r c.in_ok-rest.ensures e))

pub returns-in_err-header : goal.returns-in_err-header
returns-in_err-header c = from_none _ _ _ c.from_residual-in_err-header.ensures (λ r fits e.
    let cut = one_cut 32 c.in_ok-word.word.now (list_words r.list) c.in_ok-word.rest.now _ c.in_ok-word.ensures.1 (list-blank r.list (fits.header.1, fits.header.2)) (sym c.in_ok-word.ensures.0 ∙ fields _ _ r c.in_ok-rest.ensures e) in
    c.in_err-header.ensures r.header _ fits.header.0 cut.1)

pub returns-in_err-arrival : goal.returns-in_err-arrival
returns-in_err-arrival c = from_none _ _ _ c.from_residual-in_err-arrival.ensures (λ r fits e.
    let cut = one_cut 32 c.in_ok-word.word.now (list_words r.list) c.in_ok-word.rest.now _ c.in_ok-word.ensures.1 (list-blank r.list (fits.header.1, fits.header.2)) (sym c.in_ok-word.ensures.0 ∙ fields _ _ r c.in_ok-rest.ensures e) in
    let header = hex_first c.in_ok-header.header r.header _ _ c.in_ok-header.ensures.0 fits.header.0 (sym c.in_ok-header.ensures.1 ∙ cut.1) in
    c.in_err-arrival.ensures r.arrival _ fits.arrival header.1)

pub returns-in_err-round : goal.returns-in_err-round
returns-in_err-round c = from_none _ _ _ c.from_residual-in_err-round.ensures (λ r fits e.
    let cut = one_cut 32 c.in_ok-word.word.now (list_words r.list) c.in_ok-word.rest.now _ c.in_ok-word.ensures.1 (list-blank r.list (fits.header.1, fits.header.2)) (sym c.in_ok-word.ensures.0 ∙ fields _ _ r c.in_ok-rest.ensures e) in
    let header = hex_first c.in_ok-header.header r.header _ _ c.in_ok-header.ensures.0 fits.header.0 (sym c.in_ok-header.ensures.1 ∙ cut.1) in
    let arrival = decimal_first c.in_ok-arrival.arrival r.arrival _ _ c.in_ok-arrival.ensures.0 fits.arrival (sym c.in_ok-arrival.ensures.1 ∙ header.1) in
    c.in_err-round.ensures r.round fits.round arrival.1)

pub returns : goal.returns
returns c = (
  record { header = (c.in_ok-header.ensures.0, c.in_ok-list.ensures.0.0, c.in_ok-list.ensures.0.1); arrival = c.in_ok-arrival.ensures.0; round = c.in_ok-round.ensures.0 },
  c.in_ok-rest.ensures ∙ ap (λ (x : List ℕ). codes "instance " ++ x) (c.in_ok-word.ensures.0 ∙ ap (λ (x : List ℕ). x ++ 32 ∷ c.in_ok-word.rest.now) c.in_ok-list.ensures.1
      ∙ ap (λ (x : List ℕ). list_words c.in_ok-list.list ++ 32 ∷ x) (c.in_ok-header.ensures.1 ∙ ap (λ (x : List ℕ). hex c.in_ok-header.header ++ 32 ∷ x) (c.in_ok-arrival.ensures.1
      ∙ ap (λ (x : List ℕ). decimal c.in_ok-arrival.arrival ++ 32 ∷ x) c.in_ok-round.ensures.1))),
)
