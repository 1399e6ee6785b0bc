use Rattle.std.proofs.Common.{◌∷◌, []}
use Rattle.std.proofs.lemmas.Result.{IfErr-weaker}
use Rattle.handlers.proofs.RefusalLemmas.{first_carries, told_ok, told_carries}
use Rattle.bound_reports.proofs.bound.read_longest.Goals as goal
use Rattle.sources.specs.File.{file_of}

pub returns-clause-report : goal.returns-clause-report
returns-clause-report c =
    let said = c.in_ok-said.said in
    told_ok said c.source_longest-found.result c.with_source.result c.with_source.ensures _
    (c.source_longest-found.ensures.report (file_of c.args.source) c.in_ok-said.ensures.is.said)

pub returns-clause-carries : goal.returns-clause-carries
returns-clause-carries c =
    let said = c.in_ok-said.said in
    told_carries said c.source_longest-found.result c.with_source.result c.with_source.ensures (file_of c.args.source) (c.args.statement.now ∷ []) c.args.profile.now c.in_ok-said.ensures.is
    (IfErr-weaker c.source_longest-found.result _ _ (first_carries said c.args.statement.now c.args.profile.now (file_of c.args.source) []) c.source_longest-found.ensures.carries)
