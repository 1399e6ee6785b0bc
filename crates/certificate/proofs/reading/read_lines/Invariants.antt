use Rattle.std.proofs.Common.{◌≡◌, ◌≢◌, ◌++◌, ◌+◌, ◌≤◌, Some, length}
use Rattle.std.specs.List.{AllByRecursion}
use Rattle.certificate.specs.declared.draft.Stage.TheVariants as s
use Rattle.certificate.specs.Drafts.{IsDraft, lines_of, reached_of}
use Rattle.certificate.specs.Follows.{reached_by}
use Rattle.certificate.specs.Words.{LineFits, text_of}
use Rattle.certificate.proofs.reading.read_lines.Given as goal

abbrev pub invariant-loop-step : goal.invariant-loop-step
invariant-loop-step l = record {
  draft : IsDraft l.draft;
  text_is : l.text ≡ text_of (lines_of l.draft) ++ l.rest;
  fit : AllByRecursion LineFits (lines_of l.draft);
  reached : reached_by (lines_of l.draft) ≡ Some (reached_of l.draft);
  going : l.draft.stage ≢ s.Done;
  counted : l.number ≡ length (lines_of l.draft) + 1;
  few : l.number + length l.rest ≤ length l.text + 1;
}

abbrev pub decreases-loop-step : goal.decreases-loop-step
decreases-loop-step l = length l.rest
