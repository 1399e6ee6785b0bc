use Rattle.std.proofs.Common.{Option, option_map, subst, sym}
use Rattle.sources.specs.File.{file_of}
use Rattle.sources.specs.declared.file.SourceFile.{SourceFile}
use Rattle.handlers.specs.FiqHandler.{fiq_bytes}
use Rattle.response_reports.specs.RespondWork.{IsFiqBoundOf}
use Rattle.response_reports.proofs.visits.visitor_bound.Goals as goal

pub returns-in_ok-fiq_bound-in-None-clause-bound : goal.returns-in_ok-fiq_bound-in-None-clause-bound
returns-in_ok-fiq_bound-in-None-clause-bound c = λ source is.
    let bound = c.in_ok-fiq_bound-in-None.field-0 in
    subst (λ (o : Option SourceFile). IsFiqBoundOf (fiq_bytes source (option_map file_of o)) c.args.asked.statement.now c.args.profile.now bound) (sym c.in-None.is)
    (c.in_ok-fiq_bound-in-None.ensures.bound source is)
