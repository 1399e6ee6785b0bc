use Rattle.std.proofs.Common.{◌≡◌, ◌+◌, ◌∙◌, ℕ, List, [], ◌∷◌, ◌++◌, take, Option, sym, ap, subst, arith}
use Rattle.std.proofs.lemmas.List.{take_all, take_more}
use Rattle.control_flow.specs.declared.edges.Edge.{Edge}
use Rattle.responses.specs.Arriving.{greater}
use Rattle.responses.specs.Response.{IsWorstStepAt}
use Rattle.responses.proofs.StepsAt.{other_step, step_there, with_edges}
use Rattle.responses.proofs.arriving.worst_step_at.Goals.{then-is_at, else-is_at}
use Rattle.responses.proofs.arriving.worst_step_at.Goals as goal

pub loop-edge-preserved : goal.loop-edge-preserved
loop-edge-preserved c =
    let flow = c.args.graph.now in
    let address = c.args.address in
    let items = c.edges-edge-items.result.now in
    let i = c.loop-edge.edge-index in
    let e = c.edge-item.result in
    let worst = c.loop-edge.worst in
    let seen = take i items in
    let grown : take (i + 1) items ≡ seen ++ e ∷ [] = take_more items i e c.loop-edge-test.true
    ∙ ap (λ (x : Edge). seen ++ x ∷ []) (sym c.edge-item.is) in
    elim c.if-is_at.branch [
      | then-is_at w ↦ subst (λ (o : Option ℕ). IsWorstStepAt (with_edges flow (take (i + 1) items)) address
          o) (sym (w.worst-is ∙ w.greater_step-worst.ensures))
          (subst (λ (es : List Edge). IsWorstStepAt (with_edges flow es) address (greater worst e.cost))
          (sym grown) (step_there flow address seen e worst (sym c.is_at.ensures
          ∙ w.if-is_at.true) c.loop-edge.invariant))
      | else-is_at w ↦ subst (λ (o : Option ℕ). IsWorstStepAt (with_edges flow (take (i + 1) items)) address
          o) (sym w.worst-is)
          (subst (λ (es : List Edge). IsWorstStepAt (with_edges flow es) address worst) (sym grown)
          (other_step flow address seen e worst (sym c.is_at.ensures
          ∙ w.if-is_at.false) c.loop-edge.invariant))
    ]

pub returns : goal.returns
returns c =
    let flow = c.args.graph.now in
    let items = c.edges-edge-items.result.now in
    let i = c.loop-edge.edge-index in
    let all : take i items ≡ flow.edges = take_all i items (omega (arith, c.loop-edge-test.false))
    ∙ c.edges-edge-items.ensures.value in
    subst (λ (es : List Edge). IsWorstStepAt (with_edges flow es) c.args.address c.loop-edge.worst) all
    c.loop-edge.invariant
