use Rattle.std.proofs.Common.{◌≡◌, map, take}
use Rattle.toml.specs.View.{view}
use Rattle.given_facts.specs.GivenPlaces.{number_in}
use Rattle.given_facts.proofs.places.numbers_of.Given as goal

abbrev pub invariant-loop-entry : goal.invariant-loop-entry
invariant-loop-entry l = l.numbers.items ≡ map (λ e. number_in (view e)) (take l.entry-index l.entries)
