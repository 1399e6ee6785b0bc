use Rattle.std.proofs.Common.{◌≡◌, ◌∙◌, ◌-◌, [], ◌∷◌, length, length-append, get_or, inl, inr, refl, ap, arith}
use Rattle.std.proofs.lemmas.List.{length-take-le}
use Rattle.numbered_walks.proofs.Members.{no_numbered_edge}
use Rattle.loop_bounds.proofs.Stack.{top_in_next, stacked_pop, stacked_skip, stacked_push, stacked_cycle, end_colour, k_in}
use Rattle.loop_bounds.specs.declared.order.Colour.TheVariants.{Grey, Black}
use Rattle.loop_bounds.proofs.Steps.{black_met, followed, grey_met, hand_in_colours, hand_in_next, hand_inside, met_before}
use Rattle.loop_bounds.proofs.order.Search.step.Goals as goal

pub at_hand-node-requires-clause-inside : goal.at_hand-node-requires-clause-inside
at_hand-node-requires-clause-inside c = top_in_next c.args.firsts.now c.args.edges.now _ _ _ _ c.requires.searching c.requires.some

pub returns-then-k-firsts-clause-searching : goal.returns-then-k-firsts-clause-searching
returns-then-k-firsts-clause-searching c =
    let len : c.len.result ≡ length c.args.self.now.path.items = omega arith in
    rw (c.in_ok-push.ensures.items, c.truncate.ensures.items, len) (stacked_pop _ _ c.requires.grouped _ _ _ _ c.requires.searching _ _ _ c.at_hand-node.ensures c.if-k-firsts.true)

pub offset_bounds-edges-k : goal.offset_bounds-edges-k
offset_bounds-edges-k c = let lt = k_in _ _ c.requires.grouped _ _ _ _ c.requires.searching _ _ _ c.at_hand-node.ensures c.if-k-firsts.false in omega arith

pub bounds-edges-k : goal.bounds-edges-k
bounds-edges-k c = k_in _ _ c.requires.grouped _ _ _ _ c.requires.searching _ _ _ c.at_hand-node.ensures c.if-k-firsts.false

pub returns-in-Black-clause-searching : goal.returns-in-Black-clause-searching
returns-in-Black-clause-searching c =
    let colour = end_colour _ _ c.requires.grouped _ _ _ _ c.requires.searching _ _ _ c.at_hand-node.ensures c.if-k-firsts.false no_numbered_edge _ _ c.index.ensures c.in-Black.is in
    stacked_skip _ _ c.requires.grouped _ _ _ _ c.requires.searching _ _ _ c.at_hand-node.ensures c.if-k-firsts.false no_numbered_edge colour

pub returns-in-Grey-clause-fault : goal.returns-in-Grey-clause-fault
returns-in-Grey-clause-fault c =
    let colour = end_colour _ _ c.requires.grouped _ _ _ _ c.requires.searching _ _ _ c.at_hand-node.ensures c.if-k-firsts.false no_numbered_edge _ _ c.index.ensures c.in-Grey.is in
    stacked_cycle _ _ c.requires.grouped _ _ _ _ c.requires.searching _ _ _ c.at_hand-node.ensures c.if-k-firsts.false no_numbered_edge colour

pub returns-in_ok-push-in-White-clause-searching : goal.returns-in_ok-push-in-White-clause-searching
returns-in_ok-push-in-White-clause-searching c =
    let colour = end_colour _ _ c.requires.grouped _ _ _ _ c.requires.searching _ _ _ c.at_hand-node.ensures c.if-k-firsts.false no_numbered_edge _ _ c.index.ensures c.in-White.is in
    rw c.in_ok-push-in-White.ensures.items (stacked_push _ _ c.requires.grouped _ _ _ _ c.requires.searching _ _ _ c.at_hand-node.ensures c.if-k-firsts.false no_numbered_edge colour)

pub returns-then-k-firsts-clause-step : goal.returns-then-k-firsts-clause-step
returns-then-k-firsts-clause-step c =
    let old = c.args.self.now in
    let node = c.at_hand-node.result.0 in
    let len : c.len.result ≡ length old.path.items = omega arith in
    let cut = ap length c.truncate.ensures.items ∙ length-take-le (c.len.result - 1) old.path.items (omega arith) in
    record {
      nearer = inr (refl, omega (arith, cut, len, c.requires.some));
      met = met_before old.colours.items node Black
          (hand_in_colours _ _ c.requires.grouped old c.requires.searching _ node _ c.at_hand-node.ensures) black_met;
    }

pub returns-in-Black-clause-step : goal.returns-in-Black-clause-step
returns-in-Black-clause-step c =
    let old = c.args.self.now in
    let node = c.at_hand-node.result.0 in
    let inside = hand_in_next _ _ c.requires.grouped old c.requires.searching _ node _ c.at_hand-node.ensures in
    record {
      nearer = inl (followed old.next.items node c.at_hand-node.result.1 inside c.at_hand-node.ensures.k_is, omega arith);
      met = λ v white. white;
    }

pub returns-in_ok-push-in-White-clause-step : goal.returns-in_ok-push-in-White-clause-step
returns-in_ok-push-in-White-clause-step c =
    let old = c.args.self.now in
    let node = c.at_hand-node.result.0 in
    let to = (get_or c.args.edges.now c.at_hand-node.result.1 no_numbered_edge).to in
    let inside = hand_in_next _ _ c.requires.grouped old c.requires.searching _ node _ c.at_hand-node.ensures in
    let edge = k_in _ _ c.requires.grouped _ _ _ _ c.requires.searching _ _ _ c.at_hand-node.ensures c.if-k-firsts.false in
    let longer = ap length c.in_ok-push-in-White.ensures.items ∙ length-append old.path.items (to ∷ []) in
    record {
      nearer = inl (followed old.next.items node c.at_hand-node.result.1 inside c.at_hand-node.ensures.k_is, omega (arith, longer));
      met = met_before old.colours.items to Grey
          (omega (arith, c.requires.searching.whole, c.requires.grouped.some, c.requires.grouped.arrives c.at_hand-node.result.1 no_numbered_edge edge)) grey_met;
    }

pub index_mut-requires : goal.index_mut-requires
index_mut-requires c =
    omega (arith, hand_in_colours _ _ c.requires.grouped c.args.self.now c.requires.searching _ c.at_hand-node.result.0 _ c.at_hand-node.ensures)

pub index_mut-requires-2 : goal.index_mut-requires-2
index_mut-requires-2 c =
    omega (arith, hand_in_next _ _ c.requires.grouped c.args.self.now c.requires.searching _ c.at_hand-node.result.0 _ c.at_hand-node.ensures)

pub index-requires : goal.index-requires
index-requires c =
    let edge = k_in _ _ c.requires.grouped _ _ _ _ c.requires.searching _ _ _ c.at_hand-node.ensures c.if-k-firsts.false in
    omega (arith, c.requires.searching.whole, c.requires.grouped.some, c.requires.grouped.arrives c.at_hand-node.result.1 no_numbered_edge edge)

pub index_mut-requires-in-White : goal.index_mut-requires-in-White
index_mut-requires-in-White c =
    let edge = k_in _ _ c.requires.grouped _ _ _ _ c.requires.searching _ _ _ c.at_hand-node.ensures c.if-k-firsts.false in
    omega (arith, c.requires.searching.whole, c.requires.grouped.some, c.requires.grouped.arrives c.at_hand-node.result.1 no_numbered_edge edge)

pub bounds-firsts-node : goal.bounds-firsts-node
bounds-firsts-node c =
    omega (arith, c.requires.grouped.some, hand_inside _ _ c.requires.grouped c.args.self.now c.requires.searching _ c.at_hand-node.result.0 _ c.at_hand-node.ensures)
