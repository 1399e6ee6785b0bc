use Rattle.sources.specs.File.{file_of}
use Rattle.sources.proofs.SourceLaws.{dialect_refused}
use Rattle.sources.proofs.read.read_text.Goals as goal

pub returns-in_err-plain-clause-fault : goal.returns-in_err-plain-clause-fault
returns-in_err-plain-clause-fault c =
    dialect_refused (file_of c.args.file) c.in_err-plain.field-0.0 c.from_residual.result c.from_residual.ensures.1 c.requires c.in_err-plain.ensures.fault
