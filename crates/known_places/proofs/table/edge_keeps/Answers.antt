use Rattle.std.proofs.Common.{subst}
use Rattle.known_places.specs.Around.{TurnsAlong, around_at}
use Rattle.known_places.proofs.table.edge_keeps.Goals as goal

pub returns : goal.returns
returns c = λ seen low.
    let around = c.args.table.now.around.now in
    let edge = c.args.numbered in (
      c.in-Some.turns,
      subst (λ spans. TurnsAlong spans edge (around_at around edge.from) (around_at around edge.to) c.in-Some.turns)
          c.spans-spans.ensures c.in-Some.ensures,
      λ calls address word from has entry old new regs port bus m action long at is labelled obeys plain turned holds.
          c.before-next.ensures entry old new m.regs turned
          (c.word_carries.ensures seen calls address word from has entry old regs port bus m action long at is labelled
          obeys plain holds),
    )
