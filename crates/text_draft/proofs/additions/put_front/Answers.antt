use Rattle.std.proofs.Common.{◌∙◌, ◌++◌, ap}
use Rattle.std.proofs.lemmas.Result.{on_ok_weaker}
use Rattle.assembler.proofs.PutLaws.{three}
use Rattle.text_draft.specs.DraftOnText.{if_absent}
use Rattle.text_draft.specs.DraftText.{apart_text, entries_text, rules_text}
use Rattle.text_draft.proofs.additions.put_front.Goals as goal

pub returns : goal.returns
returns c =
    let found = c.args.found.now in
    let lines = c.args.sheet.now.lines.now in
    let forms = c.args.forms in
    on_ok_weaker c.put_new_entries.result
    (λ last. three c.args.out.now.items (if_absent forms.apart (apart_text lines found.loops.apart.items))
    (if_absent forms.base (rules_text lines found.rules.items)) (if_absent forms.access (entries_text lines found.entries.items))
    (c.in_ok-put_new_apart.ensures ∙ ap (λ xs. c.args.out.now.items ++ if_absent forms.apart (apart_text lines xs)) c.deref.ensures.value)
    (c.in_ok-put_new_rules.ensures ∙ ap (λ xs. c.put_new_apart.new.out.items ++ if_absent forms.base (rules_text lines xs)) c.deref-2.ensures.value)
    (last ∙ ap (λ xs. c.put_new_rules.new.out.items ++ if_absent forms.access (entries_text lines xs)) c.deref-3.ensures.value))
    c.put_new_entries.ensures
