use Rattle.kept_runs.proofs.KeptOnce.{kept_once}
use Rattle.kept_runs.proofs.law.one_kept_answer.Goals as goal

pub returns-clause-kept : goal.returns-clause-kept
returns-clause-kept c words st flow tree s inputs steps ticks by_place after at strayed why last kept strays = strays.none steps kept.keeps

pub returns-clause-once : goal.returns-clause-once
returns-clause-once c = kept_once

pub returns-clause-both : goal.returns-clause-both
returns-clause-both c irq fiq s inputs steps ticks visits after at strayed why last kept strays = strays.none steps kept.main kept.inputs_are kept.keeps
