use Rattle.std.proofs.Common.{sym, ◌∙◌}
use Rattle.text_refusals.proofs.CycleLemmas.{plain, turned}
use Rattle.text_refusals.proofs.search.open_end.Goals as goal

pub returns-then-turns_back-clause-cleared : goal.returns-then-turns_back-clause-cleared
returns-then-turns_back-clause-cleared c = λ is. absurd (turned c.args.graph.now c.args.loops.now c.requires.well_formed c.args.edge.now (sym c.turns_back.ensures ∙ c.if-turns_back.true) is)

pub index_of-to-requires : goal.index_of-to-requires
index_of-to-requires c = c.requires.well_formed.ends c.args.edge.now c.requires.has

pub returns-clause-open : goal.returns-clause-open
returns-clause-open c = record {
  plain = plain c.args.graph.now c.args.loops.now c.args.edge.now c.requires.has (sym c.turns_back.ensures ∙ c.if-turns_back.false);
  most = c.index_of-to.ensures.most;
  end = c.index_of-to.ensures.number;
  marked = c.if-marks-to-eq0.false;
}
