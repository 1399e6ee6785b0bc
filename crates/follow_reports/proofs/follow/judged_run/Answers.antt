use Rattle.std.proofs.Common.{ℕ, List, subst, sym}
use Rattle.arm2_exec.specs.declared.machine.Input.{Input}
use Rattle.control_flow.specs.Graph.{IsFlowGraph}
use Rattle.image.specs.Image.{Words}
use Rattle.kept_runs.specs.Keeping.{IsFollowed}
use Rattle.follow_reports.specs.FollowWork.{IsFollowedText}
use Rattle.follow_reports.proofs.FollowLemmas.{all_places, run_text}
use Rattle.follow_reports.proofs.follow.judged_run.Goals as goal
use Rattle.sources.specs.File.{file_of}

pub follow-requires-clause-handler : goal.follow-requires-clause-handler
follow-requires-clause-handler c =
    let h = c.args.bounded.handler.now in
    record { graph_is = subst (λ (w : Words). IsFlowGraph w h.statement h.graph.profile h.graph) (sym c.requires.image) c.requires.graph; tree_is = c.requires.tree.tree_is }

pub judgement-requires-clause-places : goal.judgement-requires-clause-places
judgement-requires-clause-places c =
    let h = c.args.bounded.handler.now in
    all_places h.image.now h.statement h.graph h.tree c.args.placed.now.machine c.deref.result.now c.follow.new.machine c.in_ok-followed.followed c.in_ok-followed.ensures.followed

pub returns-clause-judged : goal.returns-clause-judged
returns-clause-judged c =
    let b = c.args.bounded in
    let h = b.handler.now in
    let start = c.args.placed.now.machine in
    let inputs = c.in_ok-inputs.inputs.items in
    let after = c.follow.new.machine in
    let f = c.in_ok-followed.followed in
    let is : IsFollowed b.read.now.image h.statement h.graph h.tree start inputs after f =
    subst (λ (w : Words). IsFollowed w h.statement h.graph h.tree start inputs after f) c.requires.image
    (subst (λ (is : List Input). IsFollowed h.image.now h.statement h.graph h.tree start is after f) c.deref.ensures.value c.in_ok-followed.ensures.followed) in
    let j = c.in_ok-judgement.field-0 in
    record {
      inputs = inputs;
      inputs_are = c.in_ok-inputs.ensures;
      is_text = run_text b.read.now.image h.statement h.graph h.tree c.requires.tree (file_of b.source) b.longest.now start inputs c.graphs_are_well_formed.ensures c.step_law.ensures.cost c.run_law.ensures c.requires.longest c.requires.greatest after f j.kept j.text.items is (subst (λ (at : ℕ). IsFollowedText (file_of b.source) b.read.now.image h.statement h.graph b.longest.now at f j.kept j.text.items) c.address-after.ensures.address c.in_ok-judgement.ensures);
    }
