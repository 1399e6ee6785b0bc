use Rattle.std.proofs.Common.{◌∙◌, ◌<◌, ◌≤◌, ℕ, length, ap, arith, subst, sym}
use Rattle.std.proofs.lemmas.Bool.{false≢true}
use Rattle.std.proofs.lemmas.List.{get_or_default}
use Rattle.control_flow.specs.declared.edges.Edge.{Edge}
use Rattle.control_flow.proofs.Firsts.{no_edge}
use Rattle.longest_walk.specs.Built.{step_at}
use Rattle.cert_check.specs.Weighing.{EdgePasses}
use Rattle.cert_check.proofs.FailingLemmas.{first_at}
use Rattle.cert_check.proofs.PassLemmas.{every_edge, one_more}
use Rattle.cert_check.proofs.row_tests.first_not_passed.Goals as goal

pub returns-then-not-edge_passes : goal.returns-then-not-edge_passes
returns-then-not-edge_passes c =
    let edges = c.args.indexed.graph.now.edges in
    let n = c.loop-number.number in
    let lt : n < length edges = omega (arith, c.loop-number-test.true, ap length c.edges-number-end.ensures.value) in
    let Pass = λ (e : Edge). EdgePasses c.args.indexed.tree.now c.args.cert.now c.args.test e in (
      lt,
      first_at Pass edges (step_at edges n) n lt (get_or_default edges n (step_at edges n) no_edge lt)
          (λ j d below. subst Pass (get_or_default edges j no_edge d (omega (arith, below, lt))) (c.loop-number.invariant j below))
          (λ passes. absurd (false≢true (sym c.if-not-edge_passes.true ∙ c.edge_passes.ensures.1 passes))),
    )

pub loop-number-preserved : goal.loop-number-preserved
loop-number-preserved c =
    one_more (λ (k : ℕ). EdgePasses c.args.indexed.tree.now c.args.cert.now c.args.test (step_at c.args.indexed.graph.now.edges k)) c.loop-number.number c.loop-number.invariant (c.edge_passes.ensures.0 c.if-not-edge_passes.false)

pub returns : goal.returns
returns c =
    let edges = c.args.indexed.graph.now.edges in
    let le : length edges ≤ c.loop-number.number = omega (arith, c.loop-number-test.false, ap length c.edges-number-end.ensures.value) in
    every_edge edges (EdgePasses c.args.indexed.tree.now c.args.cert.now c.args.test) c.loop-number.number le c.loop-number.invariant
