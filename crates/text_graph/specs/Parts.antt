-- What is drawn, by the record that private functions are handed.
use Rattle.text_graph.specs.Scene.{Scene}
use Rattle.text_graph.specs.declared.tables.Drawn.{Drawn}
use Rattle.text_rows.specs.WordLines.{numbered_at}

abbrev pub scene_of : Drawn → Scene
scene_of d = record {
  flow = d.graph.now;
  tree = d.tree.now;
  counts = d.counts.now;
  labels = d.labels.now;
  line = numbered_at d.lines.now;
  bound = d.bound;
  extent = d.extent;
}
