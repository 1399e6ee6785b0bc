use Rattle.handlers.proofs.SourceLemmas.{source_refused}
use Rattle.handlers.proofs.handler.read_source.Goals as goal
use Rattle.sources.specs.File.{file_of}

pub returns-in_err-read-clause-fault : goal.returns-in_err-read-clause-fault
returns-in_err-read-clause-fault c =
    source_refused (file_of c.args.source) c.in_err-read.field-0.0 c.from_residual.result c.from_residual.ensures.1
    c.in_err-read.ensures.fault
