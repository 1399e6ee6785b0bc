use Rattle.text_draft.proofs.accesses.shown_by_pc.Goals as goal

pub returns-clause-some : goal.returns-clause-some
returns-clause-some c = record { transfer = c.in-SingleImmediate.x; single = cc; by_pc = cc; class_is = cc }
