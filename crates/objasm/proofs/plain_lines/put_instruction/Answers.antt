use Rattle.std.proofs.Common.{map, sym, ◌∙◌}
use Rattle.objasm.specs.Names.{meanings_of}
use Rattle.objasm.specs.Parts.{part_of}
use Rattle.objasm.proofs.TextLaws.{assert_put, ltorg_put, on_ok}
use Rattle.objasm.proofs.plain_lines.put_instruction.Goals as goal

pub returns-then-is_assert-clause-ok : goal.returns-then-is_assert-clause-ok
returns-then-is_assert-clause-ok c =
    on_ok c.assert_holds.result (assert_put (meanings_of c.args.names.now) c.args.word.now (map part_of c.args.tokens.now) c.args.out.now.items
    (sym c.is_nop.ensures ∙ c.if-is_nop.false) (sym c.is_silent.ensures ∙ c.if-is_silent.false) (sym c.is_ltorg.ensures ∙ c.if-is_ltorg.false) (sym c.is_assert.ensures ∙ c.if-is_assert.true)) c.assert_holds.ensures.ok

pub returns-then-is_ltorg-clause-ok : goal.returns-then-is_ltorg-clause-ok
returns-then-is_ltorg-clause-ok c =
    on_ok c.ltorg_alone.result (ltorg_put (meanings_of c.args.names.now) c.args.word.now (map part_of c.args.tokens.now) c.args.out.now.items
    (sym c.is_nop.ensures ∙ c.if-is_nop.false) (sym c.is_silent.ensures ∙ c.if-is_silent.false) (sym c.is_ltorg.ensures ∙ c.if-is_ltorg.true)) c.ltorg_alone.ensures.ok
