use Rattle.std.proofs.Common.{◌≡◌, ◌∷◌, []}
use Rattle.handlers.specs.declared.fault.ReportFault.TheVariants.{Memory}
use Rattle.std.proofs.lemmas.Result.{IfErr-weaker}
use Rattle.handlers.proofs.RefusalLemmas.{first_carries, told_err, told_ok, told_carries}
use Rattle.explain_reports.proofs.finding.found_of.Goals as goal
use Rattle.sources.specs.File.{file_of}

pub returns-clause-found : goal.returns-clause-found
returns-clause-found g c =
    let said = c.in_ok-said.said in
    told_ok said c.source_found-found.result c.with_source.result c.with_source.ensures _
    (c.source_found-found.ensures.found (file_of c.args.inputs.source) c.in_ok-said.ensures.is.said)

pub returns-clause-carries : goal.returns-clause-carries
returns-clause-carries g c =
    let said = c.in_ok-said.said in
    told_carries said c.source_found-found.result c.with_source.result c.with_source.ensures (file_of c.args.inputs.source) (c.args.inputs.statement.now ∷ []) c.args.profile.now c.in_ok-said.ensures.is
    (IfErr-weaker c.source_found-found.result _ _ (first_carries said c.args.inputs.statement.now c.args.profile.now (file_of c.args.inputs.source) []) c.source_found-found.ensures.carries)

pub returns-clause-only : goal.returns-clause-only
returns-clause-only g c = λ able.
    told_err c.in_ok-said.said c.source_found-found.result c.with_source.result c.with_source.ensures (λ e. e ≡ Memory)
    (c.source_found-found.ensures.only (file_of c.args.inputs.source) c.in_ok-said.ensures.is.said able)
