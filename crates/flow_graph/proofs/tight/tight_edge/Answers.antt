use Rattle.std.proofs.Common.{refl, rules}
use Rattle.flow_graph.proofs.TightMade.{can_place, edge_entry, placed_takes}
use Rattle.flow_graph.proofs.tight.tight_edge.Goals as goal

pub unreachable-requires : goal.unreachable-requires
unreachable-requires c =
    c.place_word.ensures.none (search rules) (edge_entry c.args.inputs.now.image.now c.args.inputs.now.statement.now c.args.inputs.now.profile.now c.args.edge.now c.requires.is_edge)

pub placed-requires : goal.placed-requires
placed-requires c =
    can_place c.args.inputs.now.image.now c.args.inputs.now.statement.now c.args.inputs.now.profile.now c.args.edge.now c.in_ok-file.file c.in-Some.word c.in_ok-file.ensures.tight c.in-Some.ensures.word c.requires.free

pub returns-clause-tight : goal.returns-clause-tight
returns-clause-tight c = record {
  takes =
      placed_takes c.args.inputs.now.image.now c.args.inputs.now.statement.now c.args.inputs.now.profile.now c.args.edge.now c.in_ok-file.file c.in-Some.word c.in_ok-machine.machine _ c.in_ok-file.ensures.tight c.in-Some.ensures.word c.in_ok-machine.ensures.placed c.port.ensures;
  file = c.in_ok-file.ensures.tight;
  word = c.in-Some.word;
  word_is = c.in-Some.ensures.word;
  made = c.in_ok-machine.ensures.placed;
  quiet = refl;
  no_lines = search rules;
  port = c.port.ensures;
}
