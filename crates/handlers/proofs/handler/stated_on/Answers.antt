use Rattle.std.proofs.Common.{rules, ◌≢◌}
use Rattle.statement.specs.declared.faults.StatementFault.TheVariants as statement_fault
use Rattle.handlers.proofs.StatementLemmas.{carries_text}
use Rattle.handlers.proofs.handler.stated_on.Goals as goal

pub returns-in-Err : goal.returns-in-Err
returns-in-Err c =
    let other : c.in-Err.fault ≢ statement_fault.Memory = search rules in
    record {
      is = tt;
      stops = carries_text c.args.source.now c.args.text.now c.read_statement.result c.in-Err.fault
          c.read_statement.ensures c.in-Err.is other;
    }
