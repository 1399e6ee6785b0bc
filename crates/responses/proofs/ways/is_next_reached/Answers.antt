use Rattle.std.proofs.Common.{◌≡◌, ◌∙◌, ℕ, ◌<◌, true, length, get_or, Vec, ⊎_elim, inr, ap, arith}
use Rattle.std.specs.Global.{Global}
use Rattle.numbered_walks.proofs.Grouping.{group_known}
use Rattle.responses.proofs.WayLemmas.{came_by, entering_of}
use Rattle.responses.proofs.ways.is_next_reached.Goals as goal

pub is_entered-requires : goal.is_entered-requires
is_entered-requires c =
    group_known c.args.graph.edges.now true c.args.graph.index.now.entering.items
    (length c.args.ways.now) c.index.result.now
    (omega (arith, c.requires.graph.indexed.all_entering, c.requires.known))
    c.requires.graph.indexed.entering
    c.deref.result.now (c.deref.ensures.value ∙ ap (λ (v : Vec ℕ Global). v.items) c.index.ensures)

pub returns : goal.returns
returns c =
    let edges = c.args.graph.edges.now in
    let groups = c.args.graph.index.now.entering.items in
    let ways = c.args.ways.now in
    let number = length ways in
    let group = c.deref.result.now in
    let small : number < length groups =
    omega (arith, c.requires.graph.indexed.all_entering, c.requires.known) in
    let is_group : group ≡ (get_or groups number c.index.result.now).items = c.deref.ensures.value
    ∙ ap (λ (v : Vec ℕ Global). v.items) c.index.ensures in (
      λ holds. inr (came_by edges groups ways number c.index.result.now small
          c.requires.graph.indexed.entering group is_group (c.is_entered.ensures.0 holds)),
      λ either. ⊎_elim
          (λ (none : number ≡ 0). absurd (omega (arith, c.if-number-eq0.false)))
          (λ by. c.is_entered.ensures.1
          (entering_of edges groups ways number c.index.result.now small c.requires.graph.indexed.entering
          group is_group by))
          either,
    )
