use Rattle.std.proofs.Common.{List, subst}
use Rattle.numbered_walks.specs.Index.{span_at}
use Rattle.numbered_walks.specs.declared.span.Span.{Span}
use Rattle.known_places.specs.Endless.{IsClosed}
use Rattle.known_places.proofs.endless.put_closed.Goals as goal

pub returns : goal.returns
returns c =
    let h = c.args.handler.now in
    let table = c.args.table.now in (
      c.is_closed-closed.result,
      c.in_ok-push.ensures.items,
      λ seen. subst
          (λ (spans : List Span). IsClosed h.image.now h.graph h.tree table.around.now table.known.now (span_at spans c.args.number))
          c.spans.ensures (c.is_closed-closed.ensures seen),
    )
