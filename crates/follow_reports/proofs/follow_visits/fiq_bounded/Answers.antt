use Rattle.std.proofs.Common.{◌∙◌, refl}
use Rattle.image.specs.Labels.{address_of}
use Rattle.handlers.proofs.FiqLemmas.{enters_there, fiq_refusal}
use Rattle.handlers.proofs.RefusalLemmas.{stop_carries, stop_err}
use Rattle.handlers.specs.FiqHandler.{IsFiqRefused}
use Rattle.handlers.specs.Report.{BeforeOutput}
use Rattle.handlers.proofs.HandlerLemmas.{same_words}
use Rattle.follow_reports.proofs.follow_visits.fiq_bounded.Goals as goal

pub returns-clause-is : goal.returns-clause-is
returns-clause-is c = λ source is. record {
  loops = c.in_ok-handler.ensures.is.loops source is;
  image =
      let said = c.args.said.now in
      let h = c.in_ok-handler.handler in
      c.in_ok-handler.ensures.is.image
      ∙ same_words source c.args.statement.now c.args.profile.now said.image (address_of said.labels) h.statement h.graph is (c.in_ok-handler.ensures.is.loops source is);
  tree = c.in_ok-handler.ensures.is.tree;
  longest = c.in_ok-longest.longest;
  longest_is = c.in_ok-longest.ensures.longest;
  allowed = c.in_ok-longest.ensures.allowed;
  bound_is = refl;
}

pub returns-in_err-longest-clause-fault : goal.returns-in_err-longest-clause-fault
returns-in_err-longest-clause-fault c = λ source is.
    let h = c.in_ok-handler.handler in
    let statement = c.args.statement.now in
    let profile = c.args.profile.now in
    let loops = c.in_ok-handler.ensures.is.loops source is in
    let g = loops.graph in
    let e = c.in_err-longest.field-0.0 in
    stop_err c.from_residual-in_err-longest.result e (BeforeOutput (IsFiqRefused source statement profile)) c.from_residual-in_err-longest.ensures.1
    (fiq_refusal source statement profile e
    (enters_there source statement profile g.words g.names g.source_is h.statement g.statement_is c.in_ok-handler.ensures.entry)
    (c.in_err-longest.ensures.fault source statement profile loops))

pub returns-in_err-longest-clause-carries : goal.returns-in_err-longest-clause-carries
returns-in_err-longest-clause-carries c =
    stop_carries c.args.said.now c.args.statement.now c.args.profile.now c.from_residual-in_err-longest.result c.in_err-longest.field-0.0 c.from_residual-in_err-longest.ensures.1 c.in_err-longest.ensures.alone
