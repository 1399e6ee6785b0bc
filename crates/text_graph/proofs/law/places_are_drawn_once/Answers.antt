use Rattle.text_graph.proofs.NodeLaws.{each_once, lead_to_nodes}
use Rattle.text_graph.proofs.law.places_are_drawn_once.Goals as goal

pub returns : goal.returns
returns c = record { places = each_once; edges = lead_to_nodes }
