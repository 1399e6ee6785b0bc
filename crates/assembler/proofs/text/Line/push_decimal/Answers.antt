use Rattle.std.proofs.Common.{◌∙◌, ◌<◌, ◌^◌, ap, length, length-append, arith, rules}
use Rattle.std.specs.Prelude.{decimal}
use Rattle.assembler.proofs.ShownLaws.{decimal_wide}
use Rattle.assembler.proofs.text.Line.push_decimal.Goals as goal

pub put_decimal-requires : goal.put_decimal-requires
put_decimal-requires c =
    let below : c.args.n < 2 ^ 32 = search rules in
    omega (arith, decimal_wide c.args.n below)

pub returns-clause-room : goal.returns-clause-room
returns-clause-room c =
    let below : c.args.n < 2 ^ 32 = search rules in
    omega (arith, decimal_wide c.args.n below, ap length c.put_decimal.ensures ∙ length-append c.args.self.now (decimal c.args.n))
