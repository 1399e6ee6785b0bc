use Rattle.std.proofs.Common.{inl}
use Rattle.kept_runs.proofs.reading.read_word.Goals as goal

pub returns-in-Ok-clause-reading : goal.returns-in-Ok-clause-reading
returns-in-Ok-clause-reading c =
    rw (← c.registers-registers.ensures) (inl (c.in-Ok.instr, c.in-Ok.ensures.found, c.read_instr.ensures.reading))
