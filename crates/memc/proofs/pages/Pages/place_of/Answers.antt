use Rattle.memc.proofs.Places.{place_is, place_fits}
use Rattle.memc.proofs.pages.Pages.place_of.Goals as goal

pub returns-clause-place : goal.returns-clause-place
returns-clause-place c = rw (← c.self.view_is) (place_is c.self.inside.shift c.args.physical c.args.address c.self.invariant.shift_most c.requires)

pub returns-clause-fitted : goal.returns-clause-fitted
returns-clause-fitted c = rw (← c.self.view_is, place_is c.self.inside.shift c.args.physical c.args.address c.self.invariant.shift_most c.requires) (place_fits c.self.inside.shift c.args.physical c.args.address c.requires)
