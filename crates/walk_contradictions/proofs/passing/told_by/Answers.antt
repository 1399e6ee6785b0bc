use Rattle.walk_contradictions.proofs.TellLemmas.{tells_instr, tells_unallocated}
use Rattle.walk_contradictions.proofs.passing.told_by.Goals as goal

pub returns-in-Ok : goal.returns-in-Ok
returns-in-Ok c = tells_instr c.args.word c.args.done c.may_set_flags.result c.in-Ok.instr c.in-Ok.ensures.found c.may_set_flags.ensures

pub returns-in-Err : goal.returns-in-Err
returns-in-Err c = tells_unallocated c.args.word c.args.done c.in-Err.unallocated c.in-Err.ensures.unallocated
