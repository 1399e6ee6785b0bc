use Rattle.std.proofs.Common.{inl, None}
use Rattle.source_reports.proofs.ProvedLaws.{bare}
use Rattle.source_reports.proofs.draft.bare_draft.Goals as goal

pub returns-clause-draft : goal.returns-clause-draft
returns-clause-draft c = record {
  claims = c.none.result;
  parts = c.claim.new.self;
  is_draft = record { found = c.in_ok-claim.ensures.kept None c.args.address c.requires; graded = c.in_ok-claim.ensures.graded; written = c.in_ok-text.ensures };
  proved = inl (bare c.args.read.now.image c.none.result c.none.ensures.classes c.none.ensures.loops c.claim.new.self c.in_ok-claim.ensures.graded);
}
