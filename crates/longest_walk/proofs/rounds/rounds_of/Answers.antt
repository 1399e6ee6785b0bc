use Rattle.std.proofs.Common.{map, refl, sym, subst, List, ap}
use Rattle.longest_walk.specs.Folded.{Opened, open_item}
use Rattle.longest_walk.specs.Ways.{IsRound}
use Rattle.longest_walk.proofs.RoundLemmas.{rounds_none, rounds_some}
use Rattle.longest_walk.proofs.rounds.rounds_of.Goals as goal

pub returns-in_default-clause-rounds : goal.returns-in_default-clause-rounds
returns-in_default-clause-rounds c = rounds_none c.args.search.graph.now c.args.search.tree.now c.args.search.index.now c.args.search.tables.now c.requires.searched c.args.span.now c.in_default.ensures

pub returns-clause-rounds : goal.returns-clause-rounds
returns-clause-rounds c =
    rounds_some c.args.search.graph.now c.args.search.tree.now c.args.search.index.now c.args.search.tables.now c.requires.searched c.args.span.now c.requires.known (record { count = c.args.span.now.bound; body = c.in_ok-new.field-0 }) refl
    (subst (λ (items : List Opened). IsRound c.args.search.graph.now c.args.search.tree.now c.args.search.tables.now c.args.span.now items) (sym (ap (λ v. map open_item v.items) c.in_ok-new.ensures.ok)) c.in_ok-body.ensures)
