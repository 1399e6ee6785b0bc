use Rattle.std.proofs.Common.{◌≡◌, ◌∙◌, sym, arith}
use Rattle.certificate.proofs.NumberLaws.{decimal_is_one}
use Rattle.certificate.proofs.line_reading.price_at.Goals as goal

pub returns-then-number-ge256 : goal.returns-then-number-ge256
returns-then-number-ge256 c = λ n small e.
    let same : c.in_ok-number.number ≡ n = decimal_is_one c.in_ok-number.number n c.in_ok-number.ensures.0 (omega arith) (sym c.in_ok-number.ensures.1 ∙ e) in
    absurd (omega (arith, same, c.if-number-ge256.true))
