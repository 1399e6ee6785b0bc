-- What reading a source reports.
use Rattle.std.proofs.Common.{◌≡◌, ℕ, List, Result}
use Rattle.std.specs.Prelude.{IfErr}
use Rattle.std.specs.Result.{IsErrAnd}
use Rattle.handlers.specs.Faults.{of_source}
use Rattle.handlers.specs.Source.{IsSourceFault}
use Rattle.handlers.specs.declared.fault.ReportFault.{ReportFault}
use Rattle.handlers.proofs.HandlerLemmas.{refused_as}
use Rattle.sources.specs.Source as source
use Rattle.sources.specs.declared.fault.SourceFault.{SourceFault}
use Rattle.sources.specs.declared.fault.SourceFault.TheVariants as source_fault
use Rattle.sources.specs.File.{File}

reported : (bytes : File) (f : SourceFault) → source.IsFaultOf bytes f → IsSourceFault bytes (of_source f)
reported bytes source_fault.Memory h = tt
reported bytes (source_fault.Text f) h = h
reported bytes (source_fault.Image f) h = h
reported bytes (source_fault.Dialect f) h = h

-- the fault of a source, as a `?` answers it
pub source_refused : {T : Type 0} (bytes : File) (f : SourceFault) (r : Result T ReportFault)
    → IsErrAnd r (λ e. e ≡ of_source f) → source.IsFaultOf bytes f → IfErr r (IsSourceFault bytes)
source_refused bytes f r answered is =
    refused_as r (of_source f) (IsSourceFault bytes) answered (reported bytes f is)
