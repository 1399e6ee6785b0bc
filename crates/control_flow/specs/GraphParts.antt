-- A flow graph as it is stored.
use Rattle.control_flow.specs.declared.graph.Graph.TheInside.{Inside}
use Rattle.control_flow.specs.Flow.{Flow}

abbrev pub flow_of : Inside → Flow
flow_of graph =
    record {
      entry = graph.entry;
      places = graph.places.items;
      edges = graph.edges.items;
      firsts = graph.firsts.items;
      profile = graph.profile;
    }
