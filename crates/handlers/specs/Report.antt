-- Reports of a handler's greatest run time, which sources and statements have one, and why the others have
-- none.
use Rattle.std.specs.Prelude.{◌≡◌, ◌≢◌, ℕ, List, Ok, Err}
use Rattle.bus_ticks.specs.declared.profile.Profile.{Profile}
use Rattle.image.specs.Image.{Words}
use Rattle.control_flow.specs.declared.edges.Edge.{Edge}
use Rattle.control_flow.specs.Flow.{Flow, edge_shape}
use Rattle.control_flow.specs.Graph.{IsBuildFault, IsFlowGraph}
use Rattle.statement.specs.Stated.{Stated, StatedLoops}
use Rattle.image.specs.Labels.{Names}
use Rattle.statement.specs.Statement.{IsStatement}
use Rattle.control_flow.specs.declared.faults.BuildFault.{BuildFault}
use Rattle.control_flow.specs.declared.faults.BuildFault.TheVariants as build_fault
use Rattle.statement.specs.declared.faults.StatementFault.{StatementFault}
use Rattle.statement.specs.declared.faults.StatementFault.TheVariants as statement_fault
use Rattle.walks.specs.Walk.{cost_of}
use Rattle.loop_bounds.specs.Bounds.{IsCompleteWalk, IsGreatestCost, IsTooLarge, KeepsTheBounds}
use Rattle.loop_bounds.specs.Handler.{HasItsTree, IsTreeOf}
use Rattle.loop_bounds.specs.Nest.{Applies, IsNestFault}
use Rattle.loop_bounds.specs.Tree.{Tree}
use Rattle.loop_bounds.specs.declared.fault.NestFault.{NestFault}
use Rattle.loop_bounds.specs.declared.fault.NestFault.TheVariants as nest_fault
use Rattle.loop_bounds.specs.declared.handler.Handler.{Handler}
use Rattle.longest_walk.specs.Folded.{unfolded}
use Rattle.longest_walk.specs.Longest.{IsLongest}
use Rattle.longest_walk.specs.declared.folded.Item.{Item}
use Rattle.longest_walk.specs.declared.folded.Longest.{Longest}
use Rattle.numbered_walks.specs.declared.fault.WalkFault.{WalkFault}
use Rattle.numbered_walks.specs.declared.fault.WalkFault.TheVariants as walk_fault
use Rattle.certificate.specs.Lines.{CanSpell, cert_text, said_by, said_of}
use Rattle.certificate.specs.declared.cert.Cert.{Cert}
use Rattle.cert_check.specs.Verdict.{IsVerdict}
use Rattle.cert_check.specs.declared.verdict.Verdict.TheVariants.{Yes}
use Rattle.handlers.specs.Keeping.{BoundsRuns}
use Rattle.handlers.specs.Source.{IsSourceFault}
use Rattle.handlers.specs.declared.fault.ReportFault.{ReportFault}
use Rattle.handlers.specs.declared.fault.ReportFault.TheVariants as report_fault
use Rattle.sources.specs.Source.{Says, source_of}
use Rattle.sources.specs.declared.read.Source.{Source}
use Rattle.sources.specs.File.{File}

-- the bound is the greatest cost, and the items unfold to a complete walk of that cost that keeps the bounds
pub record IsGreatestWalk (flow : Flow) (loops : StatedLoops) (bound : ℕ) (items : List Item) : Type 0 where
  pub greatest : IsGreatestCost flow loops bound
  pub complete : IsCompleteWalk flow (unfolded items)
  pub kept : KeepsTheBounds flow loops (unfolded items)
  pub costs : cost_of edge_shape (unfolded items) ≡ bound

-- no walk leads to Exit; or one does, and some walk that keeps the bounds, wherever it ends, costs 2^63 ticks
-- or more
abbrev pub IsWalkRefusal : Flow → StatedLoops → WalkFault → Type 0
IsWalkRefusal flow loops walk_fault.Memory = Unit {0}
IsWalkRefusal flow loops walk_fault.NoCompleteWalk = (walk : List Edge) → IsCompleteWalk flow walk → ⊥
IsWalkRefusal flow loops walk_fault.BoundTooLarge =
    ((walk : List Edge) × IsCompleteWalk flow walk) × IsTooLarge flow loops

-- the source has an image, the statement a value by the source's labels, no refusal of a graph holds, and
-- this is the graph
pub record HasGraph (source : File) (statement : List ℕ) (profile : Profile) (stated : Stated)
    (flow : Flow) : Type 0 where
  pub words : Words
  pub names : Names
  pub source_is : source_of source ≡ Ok (words, names)
  pub statement_is : IsStatement statement names (Ok stated)
  pub no_fault : (f : BuildFault) → f ≢ build_fault.Memory → IsBuildFault words stated profile f → ⊥
  pub graph_is : IsFlowGraph words stated profile flow

-- and no refusal of the loops holds
pub record HasLoops (source : File) (statement : List ℕ) (profile : Profile) (stated : Stated)
    (flow : Flow) : Type 0 where
  pub graph : HasGraph source statement profile stated flow
  pub no_fault : (f : NestFault) → f ≢ nest_fault.Memory → Applies flow stated.loops f → ⊥

-- it holds of each source, statement and profile that have this handler
abbrev pub OfHandler : Handler → (File → List ℕ → Profile → Type 0) → Type 0
OfHandler handler Holds =
    (source : File) (statement : List ℕ) (profile : Profile)
    → HasLoops source statement profile handler.statement handler.graph → Holds source statement profile

-- it is the handler of each source that says this, and of the statement
pub record IsHandlerOf (said : Source) (statement : List ℕ) (profile : Profile)
    (handler : Handler) : Type 0 where
  pub image : handler.image.now ≡ said.image
  pub loops : (source : File) → Says source said
      → HasLoops source statement profile handler.statement handler.graph
  pub tree : HasItsTree handler

-- and none of the walk
pub record IsAccepted (source : File) (statement : List ℕ) (profile : Profile) : Type 0 where
  pub stated : Stated
  pub flow : Flow
  pub loops : HasLoops source statement profile stated flow
  pub no_fault : (f : WalkFault) → f ≢ walk_fault.Memory → IsWalkRefusal flow stated.loops f → ⊥

-- an accepted source and statement, with a tree of its loops and a greatest walk by it
pub record IsBounded (source : File) (statement : List ℕ) (profile : Profile) : Type 0 where
  pub accepted : IsAccepted source statement profile
  pub tree : Tree
  pub longest : Longest
  pub tree_of : IsTreeOf accepted.flow accepted.stated.loops tree
  pub longest_is : IsLongest accepted.flow tree longest
  pub walk : IsGreatestWalk accepted.flow accepted.stated.loops longest.bound longest.walk

-- A report, the certificate of a greatest walk: each certificate that says the same is judged Yes by each
-- tree of the loops, and every machine run that keeps the statement takes at most the bound.
pub record IsReport (source : File) (statement : List ℕ) (profile : Profile) (text : List ℕ) : Type 0 where
  pub bounded : IsBounded source statement profile
  pub judged : (other : Tree) → IsTreeOf bounded.accepted.flow bounded.accepted.stated.loops other
      → (cert : Cert) → said_by cert ≡ said_of bounded.longest
      → IsVerdict bounded.accepted.flow other cert Yes
  pub runs : BoundsRuns bounded.accepted.loops.graph.words bounded.accepted.stated profile
      bounded.accepted.flow bounded.longest.bound
  pub can_spell : CanSpell (said_of bounded.longest)
  pub spelled : text ≡ cert_text (said_of bounded.longest)

-- a report of this statement and with this bound, in ticks
pub record IsBoundReport (source : File) (statement : List ℕ) (profile : Profile) (stated : Stated)
    (bound : ℕ) (text : List ℕ) : Type 0 where
  pub report : IsReport source statement profile text
  pub stated_is : report.bounded.accepted.stated ≡ stated
  pub bound_is : report.bounded.longest.bound ≡ bound

-- a fault of the statement, of a source that has an image
pub record IsStatementRefused (source : File) (statement : List ℕ) (fault : StatementFault) : Type 0 where
  pub words : Words
  pub names : Names
  pub source_is : source_of source ≡ Ok (words, names)
  pub not_memory : fault ≢ statement_fault.Memory
  pub statement_is : IsStatement statement names (Err fault)

-- a fault of the graph, of a source and a statement that can be read
pub record IsGraphRefused (source : File) (statement : List ℕ) (profile : Profile)
    (fault : BuildFault) : Type 0 where
  pub words : Words
  pub names : Names
  pub stated : Stated
  pub source_is : source_of source ≡ Ok (words, names)
  pub statement_is : IsStatement statement names (Ok stated)
  pub not_memory : fault ≢ build_fault.Memory
  pub holds : IsBuildFault words stated profile fault

-- a fault of the loops, of a graph
pub record AreLoopsRefused (source : File) (statement : List ℕ) (profile : Profile)
    (fault : NestFault) : Type 0 where
  pub stated : Stated
  pub flow : Flow
  pub graph : HasGraph source statement profile stated flow
  pub not_memory : fault ≢ nest_fault.Memory
  pub holds : IsNestFault flow stated.loops fault

-- a fault of the walk, of a graph and its loops
pub record IsWalkRefused (source : File) (statement : List ℕ) (profile : Profile)
    (fault : WalkFault) : Type 0 where
  pub stated : Stated
  pub flow : Flow
  pub loops : HasLoops source statement profile stated flow
  pub not_memory : fault ≢ walk_fault.Memory
  pub holds : IsWalkRefusal flow stated.loops fault

-- when each refusal of a source and a statement is answered, up to the loops: the first in the order of the
-- work
abbrev pub IsHandlerRefused : File → List ℕ → Profile → ReportFault → Type 0
IsHandlerRefused source statement profile (report_fault.Statement fault) =
    IsStatementRefused source statement fault
IsHandlerRefused source statement profile (report_fault.Graph fault) =
    IsGraphRefused source statement profile fault
IsHandlerRefused source statement profile (report_fault.Loops fault) =
    AreLoopsRefused source statement profile fault
IsHandlerRefused source statement profile fault = IsSourceFault source fault

-- when each refusal of a report is answered; an output fails whatever the source and the statement
abbrev pub IsRefused : File → List ℕ → Profile → ReportFault → Type 0
IsRefused source statement profile (report_fault.Walk fault) = IsWalkRefused source statement profile fault
IsRefused source statement profile report_fault.Device = Unit {0}
IsRefused source statement profile fault = IsHandlerRefused source statement profile fault

-- a fault that is answered before anything is written, so not the output's
abbrev pub BeforeOutput : (ReportFault → Type 0) → ReportFault → Type 0
BeforeOutput IsFault fault = (fault ≢ report_fault.Device) × IsFault fault
