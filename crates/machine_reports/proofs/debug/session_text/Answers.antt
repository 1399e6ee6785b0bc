use Rattle.std.proofs.lemmas.Result.{IfErr-weaker}
use Rattle.handlers.proofs.PlacingLemmas.{runnable_memory}
use Rattle.machine_reports.proofs.debug.session_text.Goals as goal
use Rattle.sources.specs.File.{file_of}

pub returns : goal.returns
returns c =
    let i = c.args.inputs in
    let said = c.in_ok-said.ensures.is.said in
    record {
      session = c.converse_on.ensures.session said;
      fault = c.converse_on.ensures.fault said;
      only = λ able. IfErr-weaker c.converse_on.result _ _
          (λ e h. runnable_memory (file_of i.source) i.machine.now c.args.profile e h able)
          (c.converse_on.ensures.fault said);
    }
