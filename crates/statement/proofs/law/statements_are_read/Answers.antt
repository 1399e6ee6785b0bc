use Rattle.statement.proofs.DocumentLemmas.{refused_as_read, stated_as_read}
use Rattle.statement.proofs.law.statements_are_read.Goals as goal

pub returns-clause-stated : goal.returns-clause-stated
returns-clause-stated c = stated_as_read

pub returns-clause-refused : goal.returns-clause-refused
returns-clause-refused c = refused_as_read
