use Rattle.std.proofs.Common.{◌∷◌, []}
use Rattle.std.proofs.lemmas.Result.{IfErr-weaker}
use Rattle.handlers.proofs.RefusalLemmas.{first_carries, told_ok, told_carries}
use Rattle.explain_reports.proofs.explain.read_explanation.Goals as goal
use Rattle.sources.specs.File.{file_of}

pub returns-clause-explains : goal.returns-clause-explains
returns-clause-explains c =
    let said = c.in_ok-said.said in
    told_ok said c.source_explanation-found.result c.with_source.result c.with_source.ensures _
    (c.source_explanation-found.ensures.explains (file_of c.args.explained.source) c.in_ok-said.ensures.is)

pub returns-clause-carries : goal.returns-clause-carries
returns-clause-carries c =
    let said = c.in_ok-said.said in
    told_carries said c.source_explanation-found.result c.with_source.result c.with_source.ensures (file_of c.args.explained.source) (c.args.explained.statement.now ∷ []) c.args.profile.now c.in_ok-said.ensures.is
    (IfErr-weaker c.source_explanation-found.result _ _ (first_carries said c.args.explained.statement.now c.args.profile.now (file_of c.args.explained.source) []) c.source_explanation-found.ensures.carries)
