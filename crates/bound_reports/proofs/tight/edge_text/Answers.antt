use Rattle.std.proofs.Common.{rules}
use Rattle.bound_reports.proofs.tight.edge_text.Goals as goal

pub returns-clause-text : goal.returns-clause-text
returns-clause-text c = record {
  edge = c.in-Some.edge.now;
  is_free =
      record {
        at = search rules;
        free = c.fault_of.ensures.free (search rules);
        fitted = c.fault_of.ensures.fitted (search rules);
      };
  own = c.fault_of.ensures.own;
  file = c.in_ok-file.file;
  made = c.in_ok-file.ensures.file;
  text_is = c.in_ok-text.ensures;
}
