-- Where the work on an interrupted handler and FIQ's stops.
use Rattle.std.specs.Prelude.{Result, Ok, Err}
use Rattle.sources.specs.declared.read.Source.{Source}
use Rattle.handlers.specs.declared.refusal.Refusal.{Refusal}
use Rattle.handlers.specs.declared.refusal.Refusal.TheVariants as refusal
use Rattle.handlers.specs.declared.apart.VisitStop.{VisitStop}
use Rattle.handlers.specs.declared.apart.VisitStop.TheVariants.{OnOwn, OnRead}

-- the refusal, with the source that was read first where the work on it stopped
abbrev pub refusal_on : Source → VisitStop → Refusal
refusal_on said (OnRead stop) = refusal.OnSource said stop
refusal_on said (OnOwn refused) = refused

-- the same of an answer
abbrev pub refused_on : {T : Type 0} → Source → Result T VisitStop → Result T Refusal
refused_on said (Ok found) = Ok found
refused_on said (Err stop) = Err (refusal_on said stop)
