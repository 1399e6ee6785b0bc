use Rattle.std.proofs.Common.{get_or, arith}
use Rattle.std.proofs.lemmas.List.Elements.{Contains-get_or}
use Rattle.numbered_walks.proofs.index.Index.of.Goals as goal

pub holders-requires : goal.holders-requires
holders-requires c = record { known = λ k d inside. let shape = c.requires.ordered.shape (get_or c.args.spans.now k d) (Contains-get_or c.args.spans.now k d inside) in (shape.0, omega (arith, shape.1)) }

pub grouped-requires : goal.grouped-requires
grouped-requires c = record { known = λ k d inside. omega (arith, (c.requires.ordered.places (get_or c.args.edges.now k d) (Contains-get_or c.args.edges.now k d inside)).1) }

pub grouped-requires-2 : goal.grouped-requires-2
grouped-requires-2 c = record { known = λ k d inside. omega (arith, (c.requires.ordered.places (get_or c.args.edges.now k d) (Contains-get_or c.args.edges.now k d inside)).1) }

pub headers-requires : goal.headers-requires
headers-requires c = record { known = λ k d inside. let shape = c.requires.ordered.shape (get_or c.args.spans.now k d) (Contains-get_or c.args.spans.now k d inside) in omega (arith, shape.0, shape.1) }
