use Rattle.text_graph.proofs.StraightLaws.{is_stretch, next_from, next_leads}
use Rattle.text_graph.proofs.law.nodes_are_stretches_of_the_graph.Goals as goal

pub returns : goal.returns
returns c = record {
  next = λ flow tree m n well t m_in n_in. (next_leads flow tree well t m n m_in n_in, next_from flow tree well t m n m_in n_in);
  nodes = λ flow tree n well t. is_stretch flow tree well t n;
}
