-- The tree of a handler's loops.
use Rattle.std.specs.Prelude.{◌≡◌, ◌↔◌, List, Contains}
use Rattle.control_flow.specs.Flow.{Flow}
use Rattle.statement.specs.Stated.{StatedLoops}
use Rattle.loop_bounds.specs.Instance.{Instance, IsInstance}
use Rattle.loop_bounds.specs.Tree.{IsTree, Tree}
use Rattle.loop_bounds.specs.declared.handler.Handler.{Handler}

-- the tree has exactly the instances of the stated loops, and what is apart from these
pub record IsTreeOf (flow : Flow) (loops : StatedLoops) (tree : Tree) : Type 0 where
  pub tree_is : IsTree flow tree
  pub instances : (i : Instance) → Contains tree.instances i ↔ IsInstance flow loops i
  pub apart : tree.apart ≡ loops.apart

-- its tree is of its graph and the loops of its statement
abbrev pub HasItsTree : Handler → Type 0
HasItsTree handler = IsTreeOf handler.graph handler.statement.loops handler.tree
