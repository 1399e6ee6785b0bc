use Rattle.std.proofs.Common.{◌≡◌, ◌∙◌, ◌++◌, ◌∷◌, ℕ, List, codes, ap, sym, drop, arith}
use Rattle.std.specs.Fmt.{decimal}
use Rattle.asm_text.specs.Hex.{hex}
use Rattle.certificate.specs.Words.{label_words, to_words}
use Rattle.certificate.proofs.FieldLaws.{from_none, hex_first, label_first, to_first}
use Rattle.certificate.proofs.NumberLaws.{decimal_is_one}
use Rattle.certificate.proofs.line_reading.step_at.Goals as goal

pub returns-in_err-label : goal.returns-in_err-label
returns-in_err-label c = from_none _ _ _ c.from_residual-in_err-label.ensures (λ s fits e.
    let tail : c.in_ok-rest.rest.now ≡ hex s.address ++ 32 ∷ (label_words s.label ++ 32 ∷ (to_words s.to ++ 32 ∷ decimal s.cost)) = ap (drop 5) (sym c.in_ok-rest.ensures ∙ e) in
    let address = hex_first c.in_ok-address.address s.address _ _ c.in_ok-address.ensures.0 fits.address (sym c.in_ok-address.ensures.1 ∙ tail) in
    c.in_err-label.ensures s.label _ address.1)

pub returns-in_err-to : goal.returns-in_err-to
returns-in_err-to c = from_none _ _ _ c.from_residual-in_err-to.ensures (λ s fits e.
    let tail : c.in_ok-rest.rest.now ≡ hex s.address ++ 32 ∷ (label_words s.label ++ 32 ∷ (to_words s.to ++ 32 ∷ decimal s.cost)) = ap (drop 5) (sym c.in_ok-rest.ensures ∙ e) in
    let address = hex_first c.in_ok-address.address s.address _ _ c.in_ok-address.ensures.0 fits.address (sym c.in_ok-address.ensures.1 ∙ tail) in
    let label = label_first c.in_ok-label.label s.label _ _ (sym c.in_ok-label.ensures ∙ address.1) in
    c.in_err-to.ensures s.to _ fits.to label.1)

pub returns-in_err-cost : goal.returns-in_err-cost
returns-in_err-cost c = from_none _ _ _ c.from_residual-in_err-cost.ensures (λ s fits e.
    let tail : c.in_ok-rest.rest.now ≡ hex s.address ++ 32 ∷ (label_words s.label ++ 32 ∷ (to_words s.to ++ 32 ∷ decimal s.cost)) = ap (drop 5) (sym c.in_ok-rest.ensures ∙ e) in
    let address = hex_first c.in_ok-address.address s.address _ _ c.in_ok-address.ensures.0 fits.address (sym c.in_ok-address.ensures.1 ∙ tail) in
    let label = label_first c.in_ok-label.label s.label _ _ (sym c.in_ok-label.ensures ∙ address.1) in
    let to = to_first c.in_ok-to.to s.to _ _ c.in_ok-to.ensures.0 fits.to (sym c.in_ok-to.ensures.1 ∙ label.1) in
    c.in_err-cost.ensures s.cost fits.cost to.1)

pub returns-then-cost-eq0 : goal.returns-then-cost-eq0
returns-then-cost-eq0 c = λ s fits e.
    let tail : c.in_ok-rest.rest.now ≡ hex s.address ++ 32 ∷ (label_words s.label ++ 32 ∷ (to_words s.to ++ 32 ∷ decimal s.cost)) = ap (drop 5) (sym c.in_ok-rest.ensures ∙ e) in
    let address = hex_first c.in_ok-address.address s.address _ _ c.in_ok-address.ensures.0 fits.address (sym c.in_ok-address.ensures.1 ∙ tail) in
    let label = label_first c.in_ok-label.label s.label _ _ (sym c.in_ok-label.ensures ∙ address.1) in
    let to = to_first c.in_ok-to.to s.to _ _ c.in_ok-to.ensures.0 fits.to (sym c.in_ok-to.ensures.1 ∙ label.1) in
    let same : c.in_ok-cost.cost ≡ s.cost = decimal_is_one c.in_ok-cost.cost s.cost c.in_ok-cost.ensures.0 fits.cost (sym c.in_ok-cost.ensures.1 ∙ to.1) in
    absurd (omega (arith, same, fits.some, c.if-cost-eq0.true))

pub returns : goal.returns
returns c = (
  record { address = c.in_ok-address.ensures.0; to = c.in_ok-to.ensures.0; some = omega (arith, c.if-cost-eq0.false); cost = c.in_ok-cost.ensures.0 },
  c.in_ok-rest.ensures ∙ ap (λ (x : List ℕ). codes "step " ++ x) (c.in_ok-address.ensures.1 ∙ ap (λ (x : List ℕ). hex c.in_ok-address.address ++ 32 ∷ x) (c.in_ok-label.ensures
      ∙ ap (λ (x : List ℕ). label_words c.in_ok-label.label ++ 32 ∷ x) (c.in_ok-to.ensures.1 ∙ ap (λ (x : List ℕ). to_words c.in_ok-to.to ++ 32 ∷ x) c.in_ok-cost.ensures.1))),
)
