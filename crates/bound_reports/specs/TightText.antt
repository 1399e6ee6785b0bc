-- The text of an edge's report: what the clauses of private functions cite.
use Rattle.std.specs.Prelude.{◌≡◌, ◌++◌, ℕ, List, Ok}
use Rattle.bus_ticks.specs.declared.profile.Profile.{Profile}
use Rattle.arm2_exec.specs.State.{State}
use Rattle.image.specs.Image.{Words, AreOf}
use Rattle.statement.specs.Stated.{Stated}
use Rattle.machine_file.specs.MachineFile.{IsMachineFile}
use Rattle.machine_file.specs.Stated as file
use Rattle.machine_file.specs.Started.{IsStarted}
use Rattle.control_flow.specs.Flow.{Flow}
use Rattle.flow_graph.specs.TightFile.{IsTightFile}
use Rattle.control_flow.specs.declared.edges.Edge.{Edge}
use Rattle.bound_reports.specs.TightReport.{IsFreeEdge, edge_line}

-- a machine file that takes the edge, and a machine that it states
pub record HasTightFile (words : Words) (st : Stated) (profile : Profile) (edge : Edge)
    (f : file.Stated) : Type 0 where
  pub tight : IsTightFile words st profile edge f
  pub start : State
  pub begun : IsStarted f profile start

-- the edge's line, and a text after it, which both together state the file
pub record IsEdgeFile (edge : Edge) (f : file.Stated) (text : List ℕ) : Type 0 where
  pub document : List ℕ
  pub spelled : text ≡ edge_line edge ++ document
  pub states : IsMachineFile text (Ok f)

-- the text for the graph's edge of a number
pub record IsEdgeText (words : Words) (st : Stated) (flow : Flow) (n : ℕ) (text : List ℕ) : Type 0 where
  pub edge : Edge
  pub is_free : IsFreeEdge words flow n edge
  pub own : AreOf words words
  pub file : file.Stated
  pub made : HasTightFile words st flow.profile edge file
  pub text_is : IsEdgeFile edge file text
