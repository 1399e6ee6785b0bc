use Rattle.std.proofs.Common.{◌≡◌, ◌∙◌, ℕ, List, ◌++◌, ap}
use Rattle.assembler.proofs.PutLaws.{joined, three}
use Rattle.text_draft.specs.DraftOnText.{apart_rows, as_tables, begun_text, entry_rows, front_text, loops_text, named_text, notes_text, other_text, rule_rows}
use Rattle.text_draft.specs.DraftOnText.{tables_text}
use Rattle.text_draft.specs.Forms.{filled, forms_of}
use Rattle.text_draft.specs.Lacking.{lacking_of}
use Rattle.text_draft.specs.declared.forms.Forms.{Forms}
use Rattle.text_draft.specs.declared.forms.ListKey.TheVariants.{Loop, Target}
use Rattle.text_draft.proofs.additions.text_on.Goals as goal

pub returns : goal.returns
returns c =
    let found = c.args.found.now in
    let l = lacking_of found in
    let lines = c.args.sheet.now.lines.now in
    let st = c.args.statement.now in
    let begun = c.args.begun.now in
    let rows = c.in_ok-rows.rows in
    let are = c.in_ok-rows.ensures in
    let old = c.new-out.result.items in
    let a = front_text lines (forms_of begun st) l in
    let b = begun_text lines begun l in
    let n = notes_text lines begun l in
    let o = other_text lines (forms_of begun st) l in
    let t = tables_text lines (forms_of begun st) st l in
    let tabs = c.in_ok-tables.tables in
    let has = c.in_ok-tables.ensures in
    let of : Forms → (loops candidates targets : List ℕ) → List ℕ =
    λ f x y z. as_tables Loop f.loops x ++ (y ++ as_tables Target f.targets z) in
    let f = forms_of begun st in
    let is_tables : of c.of-forms.result tabs.loops.items tabs.candidates.items tabs.targets.items ≡ t =
    ap (λ f. of f tabs.loops.items tabs.candidates.items tabs.targets.items) c.of-forms.ensures
    ∙ ap (λ x. of f x tabs.candidates.items tabs.targets.items) has.loops
    ∙ ap (λ y. of f (loops_text lines l) y tabs.targets.items) has.candidates
    ∙ ap (λ z. of f (loops_text lines l) (named_text lines st l) z) has.targets in
    let fills : filled rows.apart.items rows.rules.items rows.entries.items begun ≡ b =
    ap (λ x. filled x rows.rules.items rows.entries.items begun) are.apart
    ∙ ap (λ x. filled (apart_rows lines l.apart) x rows.entries.items begun) are.rules
    ∙ ap (λ x. filled (apart_rows lines l.apart) (rule_rows lines l.rules) x begun) are.entries in
    three old a b (n ++ (o ++ t))
    (c.in_ok-put_front.ensures ∙ ap (λ f. old ++ front_text lines f l) c.of-forms.ensures)
    (c.in_ok-put_filled.ensures ∙ ap (λ x. c.put_front.new.out.items ++ x) fills)
    (three c.put_filled.new.out.items n o t c.in_ok-put_notes.ensures
    (c.in_ok-put_other.ensures ∙ ap (λ f. c.put_notes.new.out.items ++ other_text lines f l) c.of-forms.ensures)
    (c.in_ok-put_tables.ensures ∙ ap (λ x. c.put_other.new.out.items ++ x) is_tables))
    ∙ ap (λ x. x ++ (a ++ (b ++ (n ++ (o ++ t))))) c.new-out.ensures.items
