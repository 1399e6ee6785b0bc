use Rattle.std.proofs.Common.{◌∙◌, suc, ap, length, get_or, arith}
use Rattle.certificate.proofs.FieldLaws.{from_none}
use Rattle.certificate.proofs.NumberLaws.{after_first_at, front_more, front_one, hex_inside, hex_some, hex_starts}
use Rattle.certificate.proofs.numbers.hex_at.Goals as goal

pub returns-in_default : goal.returns-in_default
returns-in_default c = λ n small e. absurd (omega (arith, ap length e, hex_some n small, c.in_default.len_below))

pub returns-in_err-number : goal.returns-in_err-number
returns-in_err-number c = from_none _ _ _ c.from_residual.ensures (λ n small e.
    let start = hex_starts n n (omega arith) small in
    c.in_err-number.ensures start.digit start.small (ap (λ (w : _). get_or w 0 0) e ∙ start.is))

pub loop-byte-init : goal.loop-byte-init
loop-byte-init c = record {
  small = omega (arith, c.in_ok-number.ensures.0);
  so_far = front_one c.args.word.now c.in_ok-number.number (omega (arith, c.in-len1-up.len_at_least)) c.in_ok-number.ensures.0 c.in_ok-number.ensures.1;
}

pub returns-then-number-eq0 : goal.returns-then-number-eq0
returns-then-number-eq0 c = λ n small e.
    let next = after_first_at c.args.word.now c.loop-byte.byte-index c.loop-byte-test.true in
    let inside = hex_inside n c.loop-byte.number (suc c.loop-byte.byte-index) c.args.word.now small c.loop-byte.invariant.small e c.loop-byte.invariant.so_far next.0 in
    absurd (omega (arith, inside.some, c.if-number-eq0.true))

pub returns-then-number : goal.returns-then-number
returns-then-number c = λ n small e.
    let next = after_first_at c.args.word.now c.loop-byte.byte-index c.loop-byte-test.true in
    let inside = hex_inside n c.loop-byte.number (suc c.loop-byte.byte-index) c.args.word.now small c.loop-byte.invariant.small e c.loop-byte.invariant.so_far next.0 in
    absurd (omega (arith, inside.small, c.if-number.true))

pub returns-in_err-number-2 : goal.returns-in_err-number-2
returns-in_err-number-2 c = from_none _ _ _ c.from_residual-in_err-number-2.ensures (λ n small e.
    let next = after_first_at c.args.word.now c.loop-byte.byte-index c.loop-byte-test.true in
    let inside = hex_inside n c.loop-byte.number (suc c.loop-byte.byte-index) c.args.word.now small c.loop-byte.invariant.small e c.loop-byte.invariant.so_far next.0 in
    c.in_err-number-2.ensures inside.digit inside.digit_small (next.1 ∙ inside.byte_is))

pub loop-byte-preserved : goal.loop-byte-preserved
loop-byte-preserved c = record {
  small = omega (arith, c.if-number.false, c.in_ok-number-2.ensures.0);
  so_far = front_more c.args.word.now c.loop-byte.number c.in_ok-number-2.field-0 c.loop-byte.byte-index c.loop-byte.invariant.so_far (omega (arith, c.if-number-eq0.false)) (omega (arith, c.if-number.false)) c.in_ok-number-2.ensures.0 c.loop-byte-test.true c.in_ok-number-2.ensures.1;
}
