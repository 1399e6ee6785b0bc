use Rattle.std.proofs.Common.{◌∙◌, ◌++◌, ap, append_assoc, codes, flat_map, length}
use Rattle.std.specs.List.{range_with_len}
use Rattle.assembler.proofs.PutLaws.{three}
use Rattle.text_graph.specs.Parts.{scene_of}
use Rattle.text_graph.specs.Pieces.{name}
use Rattle.text_graph.specs.Text.{begun}
use Rattle.text_graph.proofs.document.drawn_text.Goals as goal

pub returns : goal.returns
returns c =
    let d = c.args.drawn in
    let exit = length d.graph.now.places in
    let all = flat_map (begun (scene_of d)) (range_with_len 0 exit) in
    let last = codes " [label=\"Exit\", shape=oval];\n}\n" in
    let shapes = codes "digraph handler {\nnode [shape=box, style=filled, fillcolor=white, margin=\"0.08,0.04\"];\n" in
    let fonts = codes "node [fontname=\"Courier\", fontsize=10];\nedge [fontname=\"Courier\", fontsize=10];\n" in
    let gaps = codes "graph [fontname=\"Courier\", fontsize=10, labeljust=l, ranksep=0.3, nodesep=0.2];\n" in
    three c.put-2.new.out.items all (name exit) last c.in_ok-put_stretches.ensures
    (c.in_ok-put_name.ensures ∙ ap (λ n. c.put_stretches.new.out.items ++ name n) (ap length c.places.ensures.value)) c.in_ok-put-3.ensures
    ∙ ap (λ xs. xs ++ (all ++ (name exit ++ last)))
    (c.in_ok-put-2.ensures ∙ ap (λ xs. xs ++ gaps) (c.in_ok-put.ensures ∙ ap (λ xs. xs ++ fonts) c.in_ok-out.ensures.items) ∙ append_assoc shapes fonts gaps)
