use Rattle.memc.proofs.pages.Pages.shift.Goals as goal

pub returns-clause-bounds : goal.returns-clause-bounds
returns-clause-bounds c = (c.self.invariant.shift_least, c.self.invariant.shift_most)
