use Rattle.std.proofs.Common.{◌∙◌, ◌++◌, List, ℕ, ap, append_assoc}
use Rattle.text_objections.specs.Texts.{edge_lines, numbers_line}
use Rattle.text_objections.proofs.objection_texts.at_row.Goals as goal

pub returns : goal.returns
returns c =
    c.in_ok-put_numbers.ensures ∙ ap (λ (xs : List ℕ). xs ++ numbers_line c.args.row.now) c.in_ok-out.ensures
    ∙ append_assoc c.args.heading.now (edge_lines c.args.row.now.edge) (numbers_line c.args.row.now)
