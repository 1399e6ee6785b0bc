use Rattle.std.proofs.Common.{◌∙◌, ◌++◌, ap, codes}
use Rattle.std.proofs.lemmas.Result.{on_ok_weaker}
use Rattle.control_flow.specs.Places.{place_address}
use Rattle.loop_bounds.specs.Tree.{place_in}
use Rattle.text_rows.proofs.ColumnLaws.{four_parts}
use Rattle.text_graph.specs.Clusters.{loop_taken, loop_ticks, name_at, turns}
use Rattle.text_graph.specs.Parts.{scene_of}
use Rattle.text_graph.proofs.clusters.put_loop_label.Goals as goal

pub returns : goal.returns
returns c =
    let d = c.args.drawn in
    let s = c.args.span.now in
    let scene = scene_of d in
    on_ok_weaker c.put-2.result
    (four_parts c.args.out.now.items (codes "label=\"loop ") (name_at scene (place_address (place_in d.graph.now d.tree.now s.header)))
    (loop_taken (turns scene s) (loop_ticks scene s) d.bound) (codes "\"; ") _ _ _ _ c.in_ok-put.ensures
    (c.in_ok-put_name_at.ensures ∙ ap (λ a. c.put.new.out.items ++ name_at scene a) (c.address.ensures ∙ ap place_address c.place_in.ensures))
    (c.in_ok-put_loop_taken.ensures
    ∙ (λ i. c.put_name_at.new.out.items ++ loop_taken (c.turns.ensures i) (c.loop_ticks.ensures i) d.bound)))
    c.put-2.ensures
