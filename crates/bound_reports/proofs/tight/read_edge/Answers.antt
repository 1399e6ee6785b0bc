use Rattle.std.proofs.Common.{◌∷◌, []}
use Rattle.std.proofs.lemmas.Result.{IfErr-weaker}
use Rattle.handlers.proofs.RefusalLemmas.{first_carries, told_ok, told_carries}
use Rattle.bound_reports.proofs.tight.read_edge.Goals as goal
use Rattle.sources.specs.File.{file_of}

pub returns-clause-report : goal.returns-clause-report
returns-clause-report c =
    told_ok c.in_ok-said.said c.source_edge-text.result c.with_source.result c.with_source.ensures _ c.source_edge-text.ensures.report

pub returns-clause-carries : goal.returns-clause-carries
returns-clause-carries c =
    let said = c.in_ok-said.said in
    told_carries said c.source_edge-text.result c.with_source.result c.with_source.ensures (file_of c.args.asked.source) (c.args.asked.statement.now ∷ []) c.args.profile.now c.in_ok-said.ensures.is
    (IfErr-weaker c.source_edge-text.result _ _ (first_carries said c.args.asked.statement.now c.args.profile.now (file_of c.args.asked.source) []) c.source_edge-text.ensures.carries)
