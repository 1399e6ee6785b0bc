use Rattle.std.proofs.Common.{◌∷◌, []}
use Rattle.std.proofs.lemmas.Result.{IfErr-weaker}
use Rattle.handlers.proofs.RefusalLemmas.{first_carries, told_ok, told_carries}
use Rattle.explain_reports.proofs.graph.read_drawing.Goals as goal
use Rattle.sources.specs.File.{file_of}

pub returns-clause-draws : goal.returns-clause-draws
returns-clause-draws c =
    let said = c.in_ok-said.said in
    told_ok said c.source_drawing-text.result c.with_source.result c.with_source.ensures _
    (c.source_drawing-text.ensures.draws (file_of c.args.drawn.source) c.in_ok-said.ensures.is)

pub returns-clause-carries : goal.returns-clause-carries
returns-clause-carries c =
    let said = c.in_ok-said.said in
    told_carries said c.source_drawing-text.result c.with_source.result c.with_source.ensures (file_of c.args.drawn.source) (c.args.drawn.statement.now ∷ []) c.args.profile.now c.in_ok-said.ensures.is
    (IfErr-weaker c.source_drawing-text.result _ _ (first_carries said c.args.drawn.statement.now c.args.profile.now (file_of c.args.drawn.source) []) c.source_drawing-text.ensures.carries)
