use Rattle.std.proofs.Common.{rules, ◌≡◌, ◌<◌, ℕ, get_or, sym, subst, ap, ◌∙◌, arith, take, take_all}
use Rattle.std.specs.Char.{digit_value}
use Rattle.std.specs.Fmt.{decimal}
use Rattle.std.specs.Str.Parse.{digits_value}
use Rattle.std.proofs.lemmas.Int.Digits.{digits_more, digits_value_more}
use Rattle.certificate.proofs.FieldLaws.{from_none}
use Rattle.certificate.proofs.DecimalLaws.{all, begins, digit_in, some, spelled, tenth, value}
use Rattle.certificate.proofs.numbers.decimal_at.Goals as goal

pub returns-then-number : goal.returns-then-number
returns-then-number c = λ n small is.
    omega (arith, tenth c.args.word.now n small is c.loop-byte.byte-index c.loop-byte-test.true, c.loop-byte.invariant.value, c.if-number.true)

pub returns-in_err-digit : goal.returns-in_err-digit
returns-in_err-digit c =
    from_none _ _ _ c.from_residual.ensures
    (λ n small is. c.in_err-digit.ensures.value
    (subst (λ (b : ℕ). digit_value b < 10) (sym c.from.ensures) (digit_in 10 c.args.word.now c.loop-byte.byte-index (all c.args.word.now n small is) c.loop-byte-test.true)))

pub loop-byte-preserved : goal.loop-byte-preserved
loop-byte-preserved c =
    let digit : digit_value (get_or c.args.word.now c.loop-byte.byte-index 0) < 10 = subst (λ (b : ℕ). digit_value b < 10) c.from.ensures c.in_ok-digit.ensures.value.0 in
    let is : c.in_ok-digit.digit ≡ digit_value (get_or c.args.word.now c.loop-byte.byte-index 0) = c.in_ok-digit.ensures.value.1 ∙ ap digit_value c.from.ensures in
    record {
      digits = digits_more 10 c.args.word.now c.loop-byte.byte-index c.loop-byte-test.true c.loop-byte.invariant.digits digit;
      value = omega (arith, digits_value_more 10 c.args.word.now c.loop-byte.byte-index c.loop-byte-test.true, c.loop-byte.invariant.value, is, c.from-in-loop-byte.ensures);
    }

pub returns-then-number-ge-COST_LIMIT : goal.returns-then-number-ge-COST_LIMIT
returns-then-number-ge-COST_LIMIT c = λ n small is.
    let whole : digits_value 10 (take c.loop-byte.byte-index c.args.word.now) ≡ digits_value 10 c.args.word.now = ap (digits_value 10) (take_all c.loop-byte.byte-index c.args.word.now c.loop-byte-test.false) in
    omega (arith, whole, value c.args.word.now n small is, c.loop-byte.invariant.value, c.if-number-ge-COST_LIMIT.true)

pub returns-in-empty : goal.returns-in-empty
returns-in-empty c = λ n small is. omega (arith, some c.args.word.now n small is, c.in-empty.len_below)

pub returns-in-48 : goal.returns-in-48
returns-in-48 c = λ n small is. omega (arith, begins c.args.word.now n small is (search rules), c.in-48.len_at_least)

pub returns-in_default : goal.returns-in_default
returns-in_default c = (
  c.if-number-ge-COST_LIMIT.false,
  subst (λ (m : ℕ). c.args.word.now ≡ decimal m) (sym c.loop-byte.invariant.value)
      (spelled c.args.word.now c.loop-byte.byte-index c.loop-byte-test.false c.loop-byte.invariant.digits c.in_default.len_at_least (λ z. omega (arith, c.in_default.len_at_least, c.in_default.len_below))
      (omega (arith, c.loop-byte.invariant.value, c.if-number-ge-COST_LIMIT.false))),
)

pub returns-in_default-2 : goal.returns-in_default-2
returns-in_default-2 c = (
  c.if-number-ge-COST_LIMIT.false,
  subst (λ (m : ℕ). c.args.word.now ≡ decimal m) (sym c.loop-byte.invariant.value)
      (spelled c.args.word.now c.loop-byte.byte-index c.loop-byte-test.false c.loop-byte.invariant.digits (omega (arith, c.in_default.len_at_least)) (λ z. absurd (search (rules, z)))
      (omega (arith, c.loop-byte.invariant.value, c.if-number-ge-COST_LIMIT.false))),
)
