use Rattle.std.proofs.Common.{◌≡◌, ◌∙◌, ap, sym, drop, arith}
use Rattle.certificate.proofs.NumberLaws.{decimal_is_one}
use Rattle.certificate.proofs.line_reading.repeat_at.Goals as goal

pub returns-then-count-eq0 : goal.returns-then-count-eq0
returns-then-count-eq0 c = λ k some few e.
    let same : c.in_ok-count.count ≡ k = decimal_is_one c.in_ok-count.count k c.in_ok-count.ensures.0 (omega arith) (sym c.in_ok-count.ensures.1 ∙ ap (drop 7) (sym c.in_ok-after_front.ensures ∙ e)) in
    absurd (omega (arith, same, some, c.if-count-eq0.true))

pub returns-then-count-gt-MOST_TURNS : goal.returns-then-count-gt-MOST_TURNS
returns-then-count-gt-MOST_TURNS c = λ k some few e.
    let same : c.in_ok-count.count ≡ k = decimal_is_one c.in_ok-count.count k c.in_ok-count.ensures.0 (omega arith) (sym c.in_ok-count.ensures.1 ∙ ap (drop 7) (sym c.in_ok-after_front.ensures ∙ e)) in
    absurd (omega (arith, same, few, c.if-count-gt-MOST_TURNS.true))
