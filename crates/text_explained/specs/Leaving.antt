-- The addresses that edges of one kind leave.
use Rattle.std.specs.Prelude.{ℕ, Bool, true, false, ◌&&◌, List}
use Rattle.std.specs.List.{list_any}
use Rattle.control_flow.specs.declared.edges.Edge.{Edge}
use Rattle.control_flow.specs.declared.edges.Label.{Label}
use Rattle.control_flow.specs.declared.edges.Label.TheVariants.{Do, Skip}
use Rattle.longest_walk.specs.Rows.{is_exit}
use Rattle.text_explained.specs.Taken.{is_at}
use Rattle.text_explained.specs.declared.leaving.EdgeKind.{EdgeKind}
use Rattle.text_explained.specs.declared.leaving.EdgeKind.TheVariants.{CarriesOut, LeadsOut}

-- a word is carried out, or passed over
abbrev pub is_done : Label → Bool
is_done Do = true
is_done Skip = false

-- an edge on which its word is carried out, or one that leads out of the handler
abbrev pub is_of : EdgeKind → Edge → Bool
is_of CarriesOut e = is_done e.label
is_of LeadsOut e = is_exit e.to

-- the edge is of the kind and leaves the address
abbrev pub leaves_on : EdgeKind → ℕ → Edge → Bool
leaves_on kind a e = is_of kind e && is_at a e.from

-- one of the edges does
abbrev pub is_left_on : EdgeKind → List Edge → ℕ → Bool
is_left_on kind edges a = list_any (leaves_on kind a) edges

-- one of the edges carries out the word at the address
abbrev pub is_carried_out : List Edge → ℕ → Bool
is_carried_out = is_left_on CarriesOut
