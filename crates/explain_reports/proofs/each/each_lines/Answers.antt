use Rattle.std.proofs.Common.{◌≡◌, ◌∙◌, ◌++◌, List, ℕ, ap, subst, sym, rules}
use Rattle.std.specs.Map.{keys_of}
use Rattle.std.proofs.lemmas.Result.{IfOk-weaker}
use Rattle.text_rows.specs.Rows.{AreRows, section}
use Rattle.explain_reports.specs.Each.{AreEachLines, AreEachRows, AreTargetRows, each_heading}
use Rattle.explain_reports.proofs.EachLemmas.{section_of}
use Rattle.explain_reports.proofs.each.each_lines.Goals as goal

pub returns : goal.returns
returns c =
    let st = c.args.statement.now in
    let keys : c.in_ok-addresses.addresses.items ≡ keys_of st.targets = search rules in
    let given = c.deref.ensures.value ∙ keys in
    let shown = c.in_ok-put_targets.ensures in
    IfOk-weaker c.section.result _ _
    (λ text is. section_of c.args.read.now st c.args.profile.now c.deref.result.now given c.new-rows.result.items c.put_targets.new.out.items text.items c.new-rows.ensures.items shown
    (is ∙ ap (λ (xs : List ℕ). section each_heading xs) c.deref-2.ensures.value))
    c.section.ensures
