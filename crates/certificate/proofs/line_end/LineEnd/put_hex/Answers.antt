use Rattle.std.proofs.Common.{◌∙◌, ap, length, length-append, arith}
use Rattle.asm_text.proofs.HexLaws.{hex_room}
use Rattle.std.proofs.lemmas.List.{length-drop}
use Rattle.asm_text.specs.Hex.{hex}
use Rattle.certificate.proofs.line_end.LineEnd.put_hex.Goals as goal

pub write_hex-self-inside-requires : goal.write_hex-self-inside-requires
write_hex-self-inside-requires c =
    let short = hex_room c.args.n (omega (arith, c.ranges.n.fits)) in
    omega (arith, short, c.requires, c.self.invariant, ap length c.self.view_is, length-drop c.self.inside.start c.self.inside.room)

pub returns-clause-len : goal.returns-clause-len
returns-clause-len c =
    let short = hex_room c.args.n (omega (arith, c.ranges.n.fits)) in
    let longer = ap length c.write_hex-self-inside.ensures.written ∙ length-append (hex c.args.n) _ in
    omega (arith, short, longer, ap length c.self.view_is)
