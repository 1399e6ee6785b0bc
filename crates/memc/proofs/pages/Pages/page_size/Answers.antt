use Rattle.memc.proofs.Places.{whole}
use Rattle.memc.proofs.Runs.{size_bounds}
use Rattle.memc.proofs.pages.Pages.page_size.Goals as goal

pub returns-clause-bounds : goal.returns-clause-bounds
returns-clause-bounds c = size_bounds c.self.inside.shift c.self.invariant.shift_least c.self.invariant.shift_most

pub returns-clause-whole : goal.returns-clause-whole
returns-clause-whole c = rw (← c.self.view_is) (whole c.self.inside.shift c.self.inside.words.items c.self.inside.table.items c.self.inside.held.items c.self.invariant)
