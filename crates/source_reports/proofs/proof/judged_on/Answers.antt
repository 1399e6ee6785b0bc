use Rattle.std.proofs.Common.{◌≡◌, [], refl, subst, sym}
use Rattle.std.specs.Prelude.{IfSome}
use Rattle.control_flow.specs.Graph.{IsFlowGraph}
use Rattle.handlers.proofs.HandlerLemmas.{refused_as}
use Rattle.handlers.specs.Report.{IsHandlerOf}
use Rattle.handlers.specs.declared.fault.ReportFault.{ReportFault}
use Rattle.handlers.specs.declared.fault.ReportFault.TheVariants.{Memory}
use Rattle.image.specs.Image.{Words}
use Rattle.known_places.specs.OnTrust.{Justifies}
use Rattle.source_reports.proofs.ProvedLaws.{follows, priced_graph}
use Rattle.source_reports.proofs.proof.judged_on.Goals as goal

pub judged_handler-requires-clause-graph : goal.judged_handler-requires-clause-graph
judged_handler-requires-clause-graph c =
    let h = c.in-Some.handler in
    let read = c.args.read.now in
    let profile = c.one-profile.result in
    let source = c.requires.said.0 in
    let said = c.requires.said.1 in
    let is = subst (λ o. IfSome o (IsHandlerOf read c.args.text.now profile)) c.in-Some.is c.in_ok-handler.ensures.is in
    subst (λ (w : Words). IsFlowGraph w h.statement h.graph.profile h.graph) (sym is.image)
    (priced_graph source c.args.text.now profile read said h.statement h.graph (is.loops source said))

pub judged_handler-requires-clause-tree : goal.judged_handler-requires-clause-tree
judged_handler-requires-clause-tree c =
    (subst (λ o. IfSome o (IsHandlerOf c.args.read.now c.args.text.now c.one-profile.result)) c.in-Some.is c.in_ok-handler.ensures.is).tree

pub returns-clause-proved : goal.returns-clause-proved
returns-clause-proved c = λ draft closes. λ none.
    let h = c.in-Some.handler in
    let read = c.args.read.now in
    let profile = c.one-profile.result in
    let source = c.requires.said.0 in
    let said = c.requires.said.1 in
    let is = subst (λ o. IfSome o (IsHandlerOf read c.args.text.now profile)) c.in-Some.is c.in_ok-handler.ensures.is in
    let all = c.in_ok-left.ensures none in
    follows source c.args.text.now profile read said h.statement h.graph (is.loops source said) draft c.args.found.now closes c.requires.settled
    c.one-profile.ensures all.0 (subst (λ (w : Words). Justifies w h.statement h.graph [] all.0) is.image all.1) all.2 all.3

pub returns-in_err-left-clause-memory : goal.returns-in_err-left-clause-memory
returns-in_err-left-clause-memory c =
    refused_as c.from_residual-in_err-left.result Memory (λ (e : ReportFault). e ≡ Memory) c.from_residual-in_err-left.ensures.1 refl
