use Rattle.std.proofs.Common.{◌∙◌, ◌++◌, ap, codes}
use Rattle.std.proofs.lemmas.Result.{on_ok_weaker}
use Rattle.assembler.proofs.PutLaws.{joined}
use Rattle.control_flow.specs.Places.{place_address}
use Rattle.loop_bounds.specs.Tree.{place_in}
use Rattle.text_graph.specs.Clusters.{name_at}
use Rattle.text_graph.specs.Parts.{scene_of}
use Rattle.text_graph.proofs.clusters.put_routine_name.Goals as goal

pub returns : goal.returns
returns c =
    let d = c.args.drawn in
    let scene = scene_of d in
    on_ok_weaker c.put.result
    (joined c.args.out.now.items c.put_name_at.new.out.items c.put.new.out.items (name_at scene (place_address (place_in d.graph.now d.tree.now c.args.number))) (codes ", ")
    (c.in_ok-put_name_at.ensures ∙ ap (λ a. c.args.out.now.items ++ name_at scene a) (c.address.ensures ∙ ap place_address c.place_in.ensures)))
    c.put.ensures
