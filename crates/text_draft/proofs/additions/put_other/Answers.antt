use Rattle.std.proofs.Common.{◌∙◌, ◌++◌, ap}
use Rattle.std.proofs.lemmas.Result.{on_ok_weaker}
use Rattle.std.specs.List.{flat_map}
use Rattle.assembler.proofs.PutLaws.{three}
use Rattle.text_draft.specs.DraftOnText.{apart_rows, entry_rows, entry_table, if_other, aside, rule_rows, rule_table}
use Rattle.text_draft.specs.declared.forms.ListKey.TheVariants.{Access, Apart, Base}
use Rattle.text_draft.proofs.additions.put_other.Goals as goal

pub returns : goal.returns
returns c =
    let found = c.args.found.now in
    let lines = c.args.sheet.now.lines.now in
    let forms = c.args.forms in
    let out = c.args.out.now.items in
    let apart = apart_rows lines found.loops.apart.items in
    let rules = rule_rows lines found.rules.items in
    let entries = entry_rows lines found.entries.items in
    on_ok_weaker c.put_other_entries.result
    (λ last. three out (if_other forms.apart (aside Apart apart) (aside Apart apart))
    (if_other forms.base (flat_map rule_table found.rules.items) (aside Base rules))
    (if_other forms.access (flat_map (entry_table lines) found.entries.items) (aside Access entries))
    (c.in_ok-put_other_apart.ensures
    ∙ ap (λ xs. out ++ if_other forms.apart (aside Apart xs) (aside Apart xs)) (c.deref.ensures.value ∙ c.requires.apart))
    (c.in_ok-put_other_rules.ensures
    ∙ ap (λ rs. c.put_other_apart.new.out.items ++ if_other forms.base (flat_map rule_table rs) (aside Base c.deref-3.result.now)) c.deref-2.ensures.value
    ∙ ap (λ xs. c.put_other_apart.new.out.items ++ if_other forms.base (flat_map rule_table found.rules.items) (aside Base xs))
    (c.deref-3.ensures.value ∙ c.requires.rules))
    (last
    ∙ ap (λ es. c.put_other_rules.new.out.items ++ if_other forms.access (flat_map (entry_table lines) es) (aside Access c.deref-5.result.now))
    c.deref-4.ensures.value
    ∙ ap (λ xs. c.put_other_rules.new.out.items ++ if_other forms.access (flat_map (entry_table lines) found.entries.items) (aside Access xs))
    (c.deref-5.ensures.value ∙ c.requires.entries)))
    c.put_other_entries.ensures
