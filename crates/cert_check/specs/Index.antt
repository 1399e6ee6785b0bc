-- The checker's own index: which instances hold each number, and which begins there.
use Rattle.std.specs.Prelude.{◌≡◌, ℕ, ◌+◌, List, length}
use Rattle.numbered_walks.specs.declared.span.Span.{Span}
use Rattle.numbered_walks.specs.Index.{AreHeaders, AreHolders}
use Rattle.loop_bounds.specs.Tree.{IsTree}
use Rattle.cert_check.specs.declared.index.Index.{Index}
use Rattle.cert_check.specs.declared.indexed_tree.IndexedTree.{IndexedTree}

-- an entry for each number up to that of Exit
pub record IsIndex (exit : ℕ) (spans : List Span) (index : Index) : Type 0 where
  pub holders : AreHolders spans index.holders.items
  pub headers : AreHeaders spans index.headers.items
  pub all_held : length index.holders.items ≡ exit + 1
  pub all_headers : length index.headers.items ≡ exit + 1

-- the tree is that of the graph, and the index that of the tree
pub record IsIndexed (x : IndexedTree) : Type 0 where
  pub tree : IsTree x.graph.now x.tree.now
  pub index : IsIndex (length x.graph.now.places) x.tree.now.spans x.index.now
