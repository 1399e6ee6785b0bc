use Rattle.std.proofs.Common.{sym}
use Rattle.std.proofs.lemmas.Result.{IfOk-weaker}
use Rattle.source_reports.proofs.draft.source_draft.Goals as goal
use Rattle.sources.specs.File.{file_of}

pub returns-clause-draft : goal.returns-clause-draft
returns-clause-draft c =
    IfOk-weaker c.proved_draft.result _ _
    (λ text drafted. record {
      read = c.in_ok-read.read;
      is_read = c.in_ok-read.ensures.is;
      at = c.in-Some.address;
      entry_is = sym c.in-Some.ensures;
      claims = drafted.claims;
      parts = drafted.parts;
      is_draft = drafted.is_draft;
      proved = drafted.proved;
    })
    c.proved_draft.ensures.draft

pub proved_draft-requires : goal.proved_draft-requires
proved_draft-requires c = (file_of c.args.source, c.in_ok-read.ensures.is.said)
