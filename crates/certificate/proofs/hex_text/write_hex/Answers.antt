use Rattle.std.proofs.Common.{◌≡◌, ◌+◌, ◌-◌, ◌<◌, ◌^◌, ◌%◌, arith, append_assoc}
use Rattle.std.proofs.lemmas.List.{drop-set}
use Rattle.asm_text.proofs.HexLaws.{hex_one}
use Rattle.certificate.proofs.PairLaws.{hex_one_len, hex_pair, hex_pair_len, hex_two, hex_two_len, pair_at}
use Rattle.certificate.proofs.hex_text.write_hex.Goals as goal

pub overflow_sub-at : goal.overflow_sub-at
overflow_sub-at c =
    let small : c.loop-left.left < 2 ^ 64 = omega (arith, c.loop-left.auto.left-fits.fits) in
    omega (arith, hex_pair_len c.loop-left.left c.loop-left-test.true small)

pub write_pair-requires : goal.write_pair-requires
write_pair-requires c =
    let small : c.loop-left.left < 2 ^ 64 = omega (arith, c.loop-left.auto.left-fits.fits) in
    omega (arith, hex_pair_len c.loop-left.left c.loop-left-test.true small)

pub loop-left-preserved : goal.loop-left-preserved
loop-left-preserved c =
    let l = c.loop-left in
    let small : l.left < 2 ^ 64 = omega (arith, l.auto.left-fits.fits) in
    let long = hex_pair_len l.left c.loop-left-test.true small in
    let e : l.at - 2 + 2 ≡ l.at = omega arith in
    record {
      room = omega arith;
      within = omega arith;
      len = omega arith;
      text = rw (c.write_pair.ensures, e) (rw (hex_pair l.left c.loop-left-test.true small, append_assoc) at l.invariant.text);
    }

pub overflow_sub-at-then-left-ge16 : goal.overflow_sub-at-then-left-ge16
overflow_sub-at-then-left-ge16 c = omega (arith, hex_two_len c.loop-left.left c.if-left-ge16.true (omega arith))

pub write_pair-requires-then-left-ge16 : goal.write_pair-requires-then-left-ge16
write_pair-requires-then-left-ge16 c = omega (arith, hex_two_len c.loop-left.left c.if-left-ge16.true (omega arith))

pub overflow_sub-result : goal.overflow_sub-result
overflow_sub-result c = omega (arith, hex_two_len c.loop-left.left c.if-left-ge16.true (omega arith))

pub returns-then-left-ge16-clause-start : goal.returns-then-left-ge16-clause-start
returns-then-left-ge16-clause-start c = omega (arith, hex_two_len c.loop-left.left c.if-left-ge16.true (omega arith))

pub returns-then-left-ge16-clause-written : goal.returns-then-left-ge16-clause-written
returns-then-left-ge16-clause-written c =
    let l = c.loop-left in
    let two = hex_two_len l.left c.if-left-ge16.true (omega arith) in
    let e : l.at - 2 + 2 ≡ l.at = omega arith in
    rw (c.write_pair-then-left-ge16.ensures, e) (rw (hex_two l.left c.if-left-ge16.true (omega arith)) at l.invariant.text)

pub bounds-buf-at : goal.bounds-buf-at
bounds-buf-at c = omega (arith, hex_one_len c.loop-left.left c.if-left-ge16.false)

pub overflow_sub-buf : goal.overflow_sub-buf
overflow_sub-buf c = omega (arith, hex_one_len c.loop-left.left c.if-left-ge16.false)

pub overflow_sub-result-2 : goal.overflow_sub-result-2
overflow_sub-result-2 c = omega (arith, hex_one_len c.loop-left.left c.if-left-ge16.false)

pub returns-clause-start : goal.returns-clause-start
returns-clause-start c = omega (arith, hex_one_len c.loop-left.left c.if-left-ge16.false)

pub returns-clause-written : goal.returns-clause-written
returns-clause-written c =
    let l = c.loop-left in
    let one = hex_one_len l.left c.if-left-ge16.false in
    let e : l.at - 1 + 1 ≡ l.at = omega arith in
    let digit : l.left % 16 ≡ l.left = omega arith in
    rw (drop-set l.buf (l.at - 1) _ (omega arith), e, (pair_at l.left (omega arith)).1, digit)
    (rw (hex_one l.left c.if-left-ge16.false) at l.invariant.text)
