use Rattle.std.proofs.Common.{codes}
use Rattle.std.proofs.lemmas.Result.{on_ok_weaker}
use Rattle.asm_text.specs.Hex.{hex8}
use Rattle.text_rows.proofs.ColumnLaws.{five_parts}
use Rattle.text_graph.specs.Clusters.{routine_names}
use Rattle.text_graph.specs.Parts.{scene_of}
use Rattle.text_graph.proofs.clusters.put_call_label.Goals as goal

pub returns : goal.returns
returns c =
    on_ok_weaker c.put-3.result
    (five_parts c.args.out.now.items (codes "label=\"routine ") (routine_names (scene_of c.args.drawn) c.args.caller) (codes "called at ") (hex8 c.args.at) (codes "\"; ")
    _ _ _ _ _ c.in_ok-put.ensures c.in_ok-put_routine_names.ensures c.in_ok-put-2.ensures c.in_ok-put_address.ensures)
    c.put-3.ensures
