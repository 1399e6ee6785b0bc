use Rattle.std.proofs.Common.{◌∙◌, ◌++◌, List, ap, subst, sym}
use Rattle.std.proofs.lemmas.Result.{IfOk-weaker}
use Rattle.longest_walk.specs.Folded.{unfolded}
use Rattle.text_savings.specs.Savings.{AreSavings}
use Rattle.text_rows.specs.Rows.{section}
use Rattle.text_savings.specs.Sections.{heading, total_row}
use Rattle.text_savings.specs.declared.saving.Saving.{Saving}
use Rattle.text_savings.proofs.sections.savings_text.Goals as goal

pub returns : goal.returns
returns c lines =
    let handler = c.args.walk.handler.now in
    let AreFor : List Saving → Type 0 = AreSavings handler.image.now handler.statement handler.graph (unfolded c.args.walk.longest.now.walk) in
    IfOk-weaker c.section.result _ _
    (λ text is. record {
      list = c.deref.result.now;
      rows = c.in_ok-rows.rows.items;
      are_savings = subst AreFor (sym c.deref.ensures.value) c.in_ok-list.ensures;
      are_rows = c.in_ok-rows.ensures lines;
      text_is =
          is ∙ ap (section heading)
          (c.deref-3.ensures.value ∙ c.in_ok-put_total.ensures
          ∙ ap (λ (list : List Saving). c.in_ok-rows.rows.items ++ total_row list) (c.deref-2.ensures.value ∙ sym c.deref.ensures.value));
    })
    c.section.ensures
