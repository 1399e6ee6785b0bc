use Rattle.std.proofs.Common.{eqb-true, sym, arith}
use Rattle.std.proofs.lemmas.List.{nil_from_length}
use Rattle.loop_bounds.proofs.Visit.{visit_starts, visit_met, step_nearer}
use Rattle.loop_bounds.proofs.Steps.{visited}
use Rattle.loop_bounds.proofs.order.Search.visit.Goals as goal

pub loop-self-init : goal.loop-self-init
loop-self-init c =
    let firsts = c.args.firsts.now in
    let edges = c.args.edges.now in
    record {
      searching = rw c.in_ok-push.ensures.items (visit_starts firsts edges c.requires.grouped c.args.self.now c.args.node c.requires.searched c.requires.inside c.requires.white);
      met = visit_met firsts edges c.requires.grouped c.args.self.now c.args.node c.requires.searched c.requires.inside;
    }

pub loop-self-smaller : goal.loop-self-smaller
loop-self-smaller c = step_nearer c.args.firsts.now c.args.edges.now c.requires.grouped c.loop-self.self c.step.new.self c.in_ok-step.ensures.searching c.in_ok-step.ensures.step

pub loop-self-preserved : goal.loop-self-preserved
loop-self-preserved c = record {
  searching = c.in_ok-step.ensures.searching;
  met = λ v l white. c.loop-self.invariant.met v l (c.in_ok-step.ensures.step.met v white);
}

pub returns-clause-searched : goal.returns-clause-searched
returns-clause-searched c =
    visited c.args.firsts.now c.args.edges.now c.loop-self.self c.args.node c.loop-self.invariant
    (nil_from_length c.loop-self.self.path.items (omega (arith, eqb-true _ 0 (sym c.loop-self-test.ensures))))
