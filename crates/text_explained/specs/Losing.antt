-- What the search for places where R14 is lost does at each step. No part of what is reported: it is here
-- since clauses of private functions cite it.
use Rattle.std.specs.Prelude.{◌≡◌, List, Contains}
use Rattle.control_flow.specs.declared.edges.Edge.{Edge}
use Rattle.control_flow.specs.declared.places.Place.{Place}
use Rattle.image.specs.Image.{Words}
use Rattle.statement.specs.Stated.{Stated}
use Rattle.text_explained.specs.Links.{Does}
use Rattle.text_explained.specs.declared.links.LinkStep.{LinkStep}

-- there is room for every place
abbrev pub HasRoom : List Place → Type 0
HasRoom order = Unit {0}

-- the edge does that to R14, and leads to the place
abbrev pub LeadsTo : Words → Stated → LinkStep → Edge → Place → Type 0
LeadsTo image st step e p = Does image st step e.from e.to × (e.to ≡ p)

-- one of the edges does
abbrev pub ByEdge : Words → Stated → LinkStep → List Edge → Place → Type 0
ByEdge image st step edges p = (e : Edge) × Contains edges e × LeadsTo image st step e p
