use Rattle.assembler.proofs.AssembleLaws.{assembly_built, assembly_is}
use Rattle.assembler.proofs.law.sources_are_assembled.Goals as goal

pub returns-clause-is_one : goal.returns-clause-is_one
returns-clause-is_one c = assembly_is c.lines_are_spelled.ensures.read

pub returns-clause-given : goal.returns-clause-given
returns-clause-given c = assembly_built c.lines_are_spelled.ensures.read c.lines_are_spelled.ensures.spelled
