use Rattle.std.proofs.Common.{◌∷◌, []}
use Rattle.std.proofs.lemmas.Result.{IfErr-weaker}
use Rattle.handlers.proofs.RefusalLemmas.{first_carries, told_ok, told_carries}
use Rattle.justify_reports.proofs.justify.read_justified.Goals as goal
use Rattle.sources.specs.File.{file_of}

pub returns-clause-shows : goal.returns-clause-shows
returns-clause-shows c =
    told_ok c.in_ok-said.said c.source_justified-found.result c.with_source.result c.with_source.ensures _ c.source_justified-found.ensures.shows

pub returns-clause-carries : goal.returns-clause-carries
returns-clause-carries c =
    let said = c.in_ok-said.said in
    told_carries said c.source_justified-found.result c.with_source.result c.with_source.ensures (file_of c.args.justified.source) (c.args.justified.statement.now ∷ []) c.args.profile.now c.in_ok-said.ensures.is
    (IfErr-weaker c.source_justified-found.result _ _ (first_carries said c.args.justified.statement.now c.args.profile.now (file_of c.args.justified.source) []) c.source_justified-found.ensures.carries)
