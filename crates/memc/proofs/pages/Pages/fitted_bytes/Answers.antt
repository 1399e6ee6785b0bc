use Rattle.memc.proofs.Places.{limit_is, whole}
use Rattle.memc.proofs.pages.Pages.fitted_bytes.Goals as goal

pub returns-clause-bytes : goal.returns-clause-bytes
returns-clause-bytes c = rw (← c.self.view_is) (limit_is c.self.inside.shift c.self.invariant.shift_most)

pub returns-clause-whole : goal.returns-clause-whole
returns-clause-whole c = rw (← c.self.view_is) (whole c.self.inside.shift c.self.inside.words.items c.self.inside.table.items c.self.inside.held.items c.self.invariant)
