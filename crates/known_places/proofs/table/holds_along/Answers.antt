use Rattle.std.proofs.Common.{◌∙◌, ◌<◌, ℕ, ap, length, subst}
use Rattle.known_places.specs.Table.{KeepsAlong}
use Rattle.known_places.proofs.table.holds_along.Goals as goal

pub returns : goal.returns
returns c =
    let h = c.args.handler.now in
    record {
      whole = c.if-table-places.false ∙ ap length c.places.ensures.value;
      begins = c.begins_known.ensures c.if-not-begins_known.false h.tree.spans c.in_ok-around.around.items;
      keeps =
          subst
          (λ around. (k : ℕ) → k < length h.graph.edges → KeepsAlong h.image.now h.graph h.tree around c.args.table.now k)
          c.deref.ensures.value (c.keeps_along_all.ensures c.if-not-keeps_along_all.false);
    }
