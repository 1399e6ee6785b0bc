-- The drawing of a handler's flow graph, with what its greatest run time takes.
use Rattle.std.specs.Prelude.{◌≡◌, ℕ, List, Option, Result}
use Rattle.bus_ticks.specs.declared.profile.Profile.{Profile}
use Rattle.sources.specs.Source.{IsSource}
use Rattle.sources.specs.declared.read.Source.{Source}
use Rattle.text_graph.specs.Nodes.{HoldEachOnce, LeadToNodes, all_ticks}
use Rattle.text_graph.specs.Text.{IsDrawing}
use Rattle.text_graph.specs.declared.extent.Extent.{Extent}
use Rattle.handlers.specs.Answers.{Answers}
use Rattle.handlers.specs.Report.{IsAccepted, IsBounded, IsRefused}
use Rattle.handlers.specs.declared.fault.ReportFault.{ReportFault}
use Rattle.sources.specs.File.{File}

-- of an accepted source and statement: the drawing of their graph with a greatest walk, or of this alone. The
-- nodes of all of it hold each place once, with the line or the word of the source that it is, its edges lead
-- to nodes, and the ticks of all nodes are the bound.
pub record IsGraphReport (source : File) (statement : List ℕ) (extent : Extent) (profile : Profile)
    (text : List ℕ) : Type 0 where
  pub bounded : IsBounded source statement profile
  pub read : Source
  pub is_read : IsSource source read
  pub drawn : IsDrawing read bounded.accepted.flow bounded.tree bounded.longest extent text
  pub once : HoldEachOnce bounded.accepted.flow bounded.tree
  pub leads : LeadToNodes bounded.accepted.flow bounded.tree
  pub total : all_ticks bounded.accepted.flow bounded.tree drawn.counts ≡ bounded.longest.bound

-- the answer to a source and a statement: the drawing of their graph
abbrev pub Draws : {O T : Type 0} → (O → Option (List ℕ)) → (O → ℕ) → File → List ℕ → Extent → Profile → O
    → O → Result T ReportFault → Type 0
Draws taken failures source statement extent profile old new result =
    Answers taken failures (λ _ text. IsGraphReport source statement extent profile text)
    (IsAccepted source statement profile) (IsRefused source statement profile) old new result
