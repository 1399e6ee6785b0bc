use Rattle.std.proofs.Common.{◌+◌, ◌-◌, ◌≤◌, length}
use Rattle.handlers.proofs.MeetingLemmas.{AreAhead}
use Rattle.handlers.proofs.meeting.first_shared.Given as goal

abbrev pub invariant-loop-address : goal.invariant-loop-address
invariant-loop-address l =
    AreAhead l.image l.other l.here l.there × (l.here ≤ length l.image) × (l.there ≤ length l.other)

abbrev pub decreases-loop-address : goal.decreases-loop-address
decreases-loop-address l = (length l.image - l.here) + (length l.other - l.there)
