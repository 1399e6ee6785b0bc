-- A text has one answer.
use Rattle.std.proofs.Common.{◌≡◌, ℕ, List}
use Rattle.toml_reading.proofs.Unique.{one_answer}
use Rattle.statement.specs.Stated.{Stated}
use Rattle.image.specs.Labels.{Names}
use Rattle.statement.specs.Statement.{IsStatement, Read, statement_of}
use Rattle.statement.specs.declared.faults.StatementFault.TheVariants.{NotToml}

pub one_statement : (text : List ℕ) (names : Names) (answer other : Read Stated) → IsStatement text names answer → IsStatement text names other → answer ≡ other
one_statement text names answer other h k = one_answer NotToml (statement_of names) text answer other h k
