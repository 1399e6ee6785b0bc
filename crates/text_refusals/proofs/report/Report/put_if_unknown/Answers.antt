use Rattle.std.proofs.Common.{◌≡◌, [], ◌∷◌, Bool, List, ℕ, ap, codes, subst, sym, ◌∙◌}
use Rattle.std.specs.Prelude.{OnOk}
use Rattle.text_refusals.specs.Courses.{key_head}
use Rattle.text_refusals.specs.Nearest.{meant_text}
use Rattle.text_refusals.specs.Outline.{table_of}
use Rattle.text_refusals.specs.Refused.{Adds, Row, list_names, row_if, table_row}
use Rattle.text_refusals.proofs.report.Report.put_if_unknown.Goals as goal

pub returns-then-has_unknown : goal.returns-then-has_unknown
returns-then-has_unknown c =
    let row = λ (words : List ℕ). table_row (table_of c.args.table.now) (codes " is no list of statements") words in
    let meant = meant_text list_names (key_head (table_of c.args.table.now).name) in
    let is : c.deref.result.now ≡ meant = c.deref.ensures.value ∙ c.in_ok-meant.ensures ∙ ap (meant_text list_names) c.key_head.ensures in
    let put = subst (λ (words : List ℕ). OnOk c.put_table.result (Adds (row words ∷ []) c.args.self.now c.put_table.new.self)) is c.put_table.ensures in
    subst (λ (b : Bool). OnOk c.put_table.result (Adds (row_if b (row meant)) c.args.self.now c.put_table.new.self))
    (sym (sym c.has_unknown.ensures ∙ c.if-has_unknown.true)) put
