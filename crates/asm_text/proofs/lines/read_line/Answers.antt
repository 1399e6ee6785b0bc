use Rattle.std.proofs.Common.{◌∙◌, map, ap, sym}
use Rattle.asm_text.specs.Pieces.{piece_of}
use Rattle.asm_text.specs.Statements.{parsed}
use Rattle.asm_text.proofs.BodyLaws.{line_said}
use Rattle.asm_text.proofs.lines.read_line.Goals as goal

pub returns-in-Ok-clause-ok : goal.returns-in-Ok-clause-ok
returns-in-Ok-clause-ok c =
    line_said c.args.text.now c.in-Some.body.now _ c.in-Some.ensures.0 c.in-Some.ensures.1
    (ap parsed (sym c.in_ok-tokens.ensures.exact ∙ ap (map piece_of) (sym c.deref.ensures.value)) ∙ c.in-Ok.ensures.ok)
