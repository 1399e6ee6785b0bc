use Rattle.std.proofs.Common.{◌≡◌, ◌+◌, ◌*◌, ◌^◌, get_or, drop, arith}
use Rattle.std.specs.Prelude.{min}
use Rattle.std.specs.Char.{digit_value}
use Rattle.std.specs.Str.Parse.{digits_value_after}
use Rattle.std.proofs.lemmas.List.{at_drop_more}
use Rattle.std.proofs.lemmas.Grind.{common_steps}
use Rattle.asm_text.proofs.Capped.{cap_fold}
use Rattle.objasm.proofs.numbers.capped.Goals as goal

pub loop-byte-preserved : goal.loop-byte-preserved
loop-byte-preserved c =
    let ds = c.args.text.now in
    let r = c.args.radix in
    let i = c.loop-byte.byte-index in
    let v = c.loop-byte.value in
    let turn = at_drop_more (digits_value_after r v) ds i 0 c.loop-byte-test.true in
    let whole = v * r + digit_value (get_or ds i 0) in
    let is : c.min-value.result ≡ min whole (2 ^ 32) = grind (arith, common_steps) in
    let step = cap_fold (2 ^ 32) r (drop (i + 1) ds) c.min-value.result whole (omega (arith, c.requires.low)) (omega (arith, is)) in
    record {
      small = omega (arith, is);
      value = grind (arith, common_steps);
      digits = grind (arith, common_steps);
    }
