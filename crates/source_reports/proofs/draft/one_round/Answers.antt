use Rattle.std.proofs.Common.{None, subst}
use Rattle.source_reports.specs.Proved.{IsProved}
use Rattle.source_reports.proofs.draft.one_round.Goals as goal

pub returns-in_default-clause-draft : goal.returns-in_default-clause-draft
returns-in_default-clause-draft c =
    let claims = c.args.rounds.now.claims in
    record {
      claims = claims;
      parts = c.claim.new.self;
      is_draft = record { found = c.in_ok-claim.ensures.kept None c.args.address c.requires.found; graded = c.in_ok-claim.ensures.graded; written = c.in_ok-text.ensures };
      proved = subst (λ t. IsProved c.args.read.now t c.claim.new.self) c.deref.ensures.value (c.in_ok-left.ensures.proved c.in_default.is);
    }
