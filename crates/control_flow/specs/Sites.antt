-- The edges of a word at a place, and why it is refused, by the record of both: what the clauses of private
-- functions cite.
use Rattle.std.specs.Prelude.{◌≡◌, ◌⊎◌, List, Option, Some}
use Rattle.statement.specs.Stated.{target_of}
use Rattle.control_flow.specs.declared.edges.Edge.{Edge}
use Rattle.control_flow.specs.declared.faults.BuildFault.{BuildFault}
use Rattle.control_flow.specs.declared.faults.BuildFault.TheVariants.{Memory}
use Rattle.control_flow.specs.declared.places.Place.{Place}
use Rattle.control_flow.specs.declared.sites.Site.{Site}
use Rattle.control_flow.specs.Edges.{do_edge, landing_edges, word_edges, writer_landings}
use Rattle.control_flow.specs.Search.{action_fault, kind_fault, writer_fault}

module _ (site : Site) where
  -- the do edge to a place
  abbrev pub edge_to : Place → Edge
  edge_to to =
      do_edge site.inputs.statement.now site.inputs.profile.now site.calls site.address site.action to

  -- where the word leads, if it writes R15, and why it is refused as such a word
  abbrev pub writer_places : List Place
  writer_places = writer_landings site.calls site.address (target_of site.inputs.statement.now site.address)

  abbrev pub site_writer_fault : Option BuildFault
  site_writer_fault =
      writer_fault
      site.inputs.statement.now.returns
      site.calls
      site.address
      (target_of site.inputs.statement.now site.address)

  -- the do edges of the word, and why it is refused where its condition holds
  abbrev pub done_edges : List Edge
  done_edges =
      landing_edges site.inputs.statement.now site.inputs.profile.now site.calls site.address site.action

  abbrev pub done_fault : Option BuildFault
  done_fault = kind_fault site.inputs.statement.now site.calls site.address site.action.kind

  -- all edges of the word, and why it is refused
  abbrev pub all_edges : List Edge
  all_edges = word_edges site.inputs.statement.now site.inputs.profile.now site.calls site.address site.action

  abbrev pub site_fault : Option BuildFault
  site_fault = action_fault site.inputs.statement.now site.calls site.address site.action

-- an allocation failed, or it is this fault
abbrev pub IsMemoryOr : Option BuildFault → BuildFault → Type 0
IsMemoryOr other fault = (fault ≡ Memory) ⊎ (other ≡ Some fault)
