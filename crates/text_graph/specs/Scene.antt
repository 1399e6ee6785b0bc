-- What is drawn.
use Rattle.std.specs.Prelude.{ℕ, List, Vec, Option, Bool, true, nat_lt}
use Rattle.std.specs.Global.{Global}
use Rattle.control_flow.specs.Flow.{Flow}
use Rattle.loop_bounds.specs.Tree.{Tree}
use Rattle.text_rows.specs.WordLines.{Numbered}
use Rattle.text_graph.specs.declared.extent.Extent.{Extent}
use Rattle.text_graph.specs.declared.extent.Extent.TheVariants.{Path, Whole}

-- a graph and its tree, how often a walk takes each edge, a label for each place, the lines of the source,
-- the bound, and how much is drawn
pub record Scene : Type 0 where
  pub flow : Flow
  pub tree : Tree
  pub counts : List ℕ
  pub labels : List (Vec ℕ Global)
  pub line : ℕ → Option Numbered
  pub bound : ℕ
  pub extent : Extent

-- what the walk takes so often is drawn
abbrev pub is_drawn : Extent → (count : ℕ) → Bool
is_drawn Whole count = true
is_drawn Path count = nat_lt 0 count
