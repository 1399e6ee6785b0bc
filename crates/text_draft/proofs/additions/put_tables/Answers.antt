use Rattle.std.proofs.Common.{◌∙◌, ◌++◌, ap}
use Rattle.std.proofs.lemmas.Result.{on_ok_weaker}
use Rattle.assembler.proofs.PutLaws.{three}
use Rattle.text_draft.specs.DraftOnText.{as_tables}
use Rattle.text_draft.specs.declared.forms.ListKey.TheVariants.{Loop, Target}
use Rattle.text_draft.proofs.additions.put_tables.Goals as goal

pub returns : goal.returns
returns c =
    let t = c.args.tables.now in
    let out = c.args.out.now.items in
    let forms = c.args.forms in
    on_ok_weaker c.put_as_tables-2.result
    (λ last. three out (as_tables Loop forms.loops t.loops.items) t.candidates.items
    (as_tables Target forms.targets t.targets.items)
    (c.in_ok-put_as_tables.ensures ∙ ap (λ xs. out ++ as_tables Loop forms.loops xs) c.deref.ensures.value)
    (c.in_ok-put.ensures ∙ ap (λ xs. c.put_as_tables.new.out.items ++ xs) c.deref-2.ensures.value)
    (last ∙ ap (λ xs. c.put.new.out.items ++ as_tables Target forms.targets xs) c.deref-3.ensures.value))
    c.put_as_tables-2.ensures
