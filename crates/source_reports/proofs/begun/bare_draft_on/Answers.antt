use Rattle.std.proofs.Common.{inl, Some}
use Rattle.source_reports.proofs.ProvedLaws.{bare}
use Rattle.source_reports.proofs.begun.bare_draft_on.Goals as goal

pub returns-clause-draft : goal.returns-clause-draft
returns-clause-draft c = record {
  claims = c.none.result;
  parts = c.claim.new.self;
  is_draft = record { found = c.in_ok-claim.ensures.kept (Some c.args.statement.now) c.args.statement.now.entry c.requires; graded = c.in_ok-claim.ensures.graded; written = c.in_ok-text.ensures };
  proved = inl (bare c.args.read.now.image c.none.result c.none.ensures.classes c.none.ensures.loops c.claim.new.self c.in_ok-claim.ensures.graded);
}
