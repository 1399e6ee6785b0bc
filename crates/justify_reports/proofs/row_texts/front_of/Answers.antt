use Rattle.std.proofs.Common.{◌∙◌, ◌++◌, ℕ, List, ap}
use Rattle.text_rows.specs.Columns.{in_columns}
use Rattle.justify_reports.specs.RowTexts.{kind_text, stated_text, verdict_text}
use Rattle.justify_reports.proofs.TextLemmas.{after}
use Rattle.justify_reports.proofs.row_texts.front_of.Goals as goal

pub returns : goal.returns
returns c =
    let row = c.args.row in
    let a = c.put.new.out.items in
    let b = c.put_right.new.out.items in
    let kind = kind_text row.entry in
    let stated = in_columns 17 (stated_text row.entry) in
    let trust = verdict_text row.verdict in
    let text = c.deref.ensures.value ∙ c.in_ok-put_stated.ensures ∙ ap (λ (xs : List ℕ). xs ++ stated_text row.entry) c.new-stated.ensures.items in
    after c.new-front.result.items kind (stated ++ trust) a c.put-2.new.out.items (c.in_ok-put.ensures ∙ ap (λ (xs : List ℕ). c.new-front.result.items ++ xs) c.kind_text.ensures)
    (after a stated trust b c.put-2.new.out.items (c.in_ok-put_right.ensures ∙ ap (λ (xs : List ℕ). a ++ in_columns 17 xs) text) (c.in_ok-put-2.ensures ∙ ap (λ (xs : List ℕ). b ++ xs) c.verdict_text.ensures))
    ∙ ap (λ (xs : List ℕ). xs ++ (kind ++ (stated ++ trust))) c.new-front.ensures.items
