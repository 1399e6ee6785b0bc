use Rattle.std.proofs.Common.{◌∙◌, ap, length, length-append, arith}
use Rattle.std.proofs.lemmas.Fmt.{length-decimal-le}
use Rattle.std.proofs.lemmas.List.{length-drop}
use Rattle.std.specs.Fmt.{decimal}
use Rattle.certificate.proofs.line_end.LineEnd.put_decimal.Goals as goal

pub write_digits-self-inside-requires : goal.write_digits-self-inside-requires
write_digits-self-inside-requires c =
    let short = length-decimal-le 20 c.args.n (omega arith) (omega arith) c.ranges.n.fits in
    omega (arith, short, c.requires, c.self.invariant, ap length c.self.view_is, length-drop c.self.inside.start c.self.inside.room)

pub returns-clause-len : goal.returns-clause-len
returns-clause-len c =
    let short = length-decimal-le 20 c.args.n (omega arith) (omega arith) c.ranges.n.fits in
    let longer = ap length c.write_digits-self-inside.ensures.written ∙ length-append (decimal c.args.n) _ in
    omega (arith, short, longer, ap length c.self.view_is)
