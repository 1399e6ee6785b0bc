use Rattle.std.proofs.Common.{◌∷◌, []}
use Rattle.std.proofs.lemmas.Result.{IfErr-weaker}
use Rattle.handlers.proofs.RefusalLemmas.{first_carries, told_ok, told_carries}
use Rattle.explain_reports.proofs.html.read_page.Goals as goal
use Rattle.sources.specs.File.{file_of}

pub returns-clause-shows : goal.returns-clause-shows
returns-clause-shows c =
    let said = c.in_ok-said.said in
    told_ok said c.source_page-text.result c.with_source.result c.with_source.ensures _
    (c.source_page-text.ensures.shows (file_of c.args.drawn.source) c.in_ok-said.ensures.is)

pub returns-clause-carries : goal.returns-clause-carries
returns-clause-carries c =
    let said = c.in_ok-said.said in
    told_carries said c.source_page-text.result c.with_source.result c.with_source.ensures (file_of c.args.drawn.source) (c.args.drawn.statement.now ∷ []) c.args.profile.now c.in_ok-said.ensures.is
    (IfErr-weaker c.source_page-text.result _ _ (first_carries said c.args.drawn.statement.now c.args.profile.now (file_of c.args.drawn.source) []) c.source_page-text.ensures.carries)
