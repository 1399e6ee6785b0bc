use Rattle.std.proofs.Common.{map, sym, ap, ◌∙◌}
use Rattle.objasm.specs.Names.{meanings_of}
use Rattle.objasm.specs.Parts.{part_of}
use Rattle.objasm.specs.PlainLines.{behind, spaced_operands}
use Rattle.objasm.specs.declared.words.Operands.{Operands}
use Rattle.objasm.proofs.TextLaws.{on_ok, operation_put}
use Rattle.objasm.proofs.plain_lines.put_operation.Goals as goal

pub returns-clause-ok : goal.returns-clause-ok
returns-clause-ok c =
    let m = meanings_of c.args.names.now in
    let ps = map part_of c.args.tokens.now in
    on_ok c.put_word_operands.result (λ put.
    operation_put m c.args.word.now ps c.in_ok-exchange.exchange c.args.out.now.items c.put_word_with.new.out.items c.put_word_operands.new.out.items
    (sym c.is_sum.ensures ∙ c.if-is_sum.false) c.in_ok-exchange.ensures.ok c.in_ok-put_word_with.ensures
    (ap (λ (k : Operands). behind c.put_word_with.new.out.items (spaced_operands m k ps)) (sym c.kind_with.ensures) ∙ put)) c.put_word_operands.ensures.ok
