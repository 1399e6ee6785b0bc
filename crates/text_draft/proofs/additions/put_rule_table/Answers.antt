use Rattle.std.proofs.Common.{◌++◌, codes}
use Rattle.std.proofs.lemmas.Result.{on_ok_weaker}
use Rattle.assembler.proofs.PutLaws.{joined, three}
use Rattle.text_draft.specs.DraftOnText.{class_line}
use Rattle.text_draft.specs.DraftText.{register_text}
use Rattle.text_draft.proofs.additions.put_rule_table.Goals as goal

pub returns : goal.returns
returns c =
    let r = c.args.rule.now in
    on_ok_weaker c.put_class_line.result
    (λ last. three c.args.out.now.items (codes "\n[[base]]\nregister = \"") (register_text r.register) (codes "\"\n" ++ class_line r.class r.basis)
    c.in_ok-put.ensures c.in_ok-put_register.ensures
    (joined c.put_register.new.out.items c.put-2.new.out.items c.put_class_line.new.out.items (codes "\"\n") (class_line r.class r.basis)
    c.in_ok-put-2.ensures last))
    c.put_class_line.ensures
