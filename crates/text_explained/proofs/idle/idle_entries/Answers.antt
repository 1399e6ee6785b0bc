use Rattle.std.proofs.Common.{◌∙◌, List, ℕ, ap}
use Rattle.std.proofs.lemmas.Result.{IfOk-weaker}
use Rattle.text_explained.specs.Idle.{idle_heading}
use Rattle.text_rows.specs.Rows.{section}
use Rattle.text_explained.proofs.idle.idle_entries.Goals as goal

pub returns : goal.returns
returns c =
    IfOk-weaker c.section.result _ _
    (λ text is. (c.in_ok-rows.rows.items, c.in_ok-rows.ensures, is ∙ ap (λ (xs : List ℕ). section idle_heading xs) c.deref.ensures.value))
    c.section.ensures
