use Rattle.std.proofs.Common.{◌∙◌, Err, ap}
use Rattle.bound_reports.proofs.tight.tight_file.Goals as goal

pub unreachable-requires : goal.unreachable-requires
unreachable-requires c =
    let stepped = c.in-Err-NotFree.is ∙ ap Err c.in-Err-NotFree.field-0-is in
    (c.tight_state.ensures.not_free c.args.edge.now c.requires.edge.is).0 stepped c.requires.free

pub returns-in-Ok-clause-file : goal.returns-in-Ok-clause-file
returns-in-Ok-clause-file c =
    let t = c.in-Ok.ensures.tight c.args.edge.now c.requires.edge.is in
    record { tight = t.file; start = t.made.start; begun = t.made.begun }
