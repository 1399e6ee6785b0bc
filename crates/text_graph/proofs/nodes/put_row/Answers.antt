use Rattle.std.proofs.Common.{◌∙◌, ◌++◌, ℕ, List, ap, codes, get_or}
use Rattle.std.specs.List.{slice_get}
use Rattle.std.proofs.lemmas.Result.{on_ok_weaker}
use Rattle.asm_text.specs.Hex.{hex8}
use Rattle.control_flow.specs.Places.{place_address}
use Rattle.loop_bounds.specs.Tree.{place_in}
use Rattle.text_rows.proofs.ColumnLaws.{four_parts}
use Rattle.text_graph.specs.Pieces.{escaped}
use Rattle.text_graph.specs.Text.{label_of}
use Rattle.text_graph.proofs.nodes.put_row.Goals as goal

pub returns : goal.returns
returns c =
    let d = c.args.drawn in
    let n = c.args.number in
    on_ok_weaker c.put-2.result
    (four_parts c.args.out.now.items (hex8 (place_address (place_in d.graph.now d.tree.now n))) (codes "  ") (escaped (label_of (slice_get d.labels.now (get_or d.tree.now.order n 0)))) (codes "\\l")
    _ _ _ _
    (c.in_ok-put_address.ensures ∙ ap (λ a. c.args.out.now.items ++ hex8 a) (c.address.ensures ∙ ap place_address c.place_in.ensures))
    c.in_ok-put.ensures
    (c.in_ok-put_label.ensures ∙ ap (λ (ns : List ℕ). c.put.new.out.items ++ escaped (label_of (slice_get d.labels.now (get_or ns n 0)))) c.order.ensures))
    c.put-2.ensures
