-- What was found, by its addresses.
use Rattle.std.specs.Prelude.{ℕ, List, map}
use Rattle.text_draft.specs.declared.pc_writers.FoundTarget.{FoundTarget}

abbrev pub addresses_of : List FoundTarget → List ℕ
addresses_of targets = map (λ t. t.at) targets
