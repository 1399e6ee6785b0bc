use Rattle.std.proofs.Common.{sym}
use Rattle.debugger.proofs.NameLaws.{no_line}
use Rattle.debugger.proofs.reading.line_named.Goals as goal

pub returns-in-Err : goal.returns-in-Err
returns-in-Err c = sym (no_line c.args.name.now c.in-Err.ensures.cases.0)
