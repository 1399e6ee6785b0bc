use Rattle.std.proofs.Common.{◌≡◌, ◌∙◌, ℕ, ◌+◌, ◌<◌, Bool, true, List, [], ◌∷◌, ◌++◌, length, get_or, Vec, sym, ap, subst, arith}
use Rattle.std.specs.Prelude.{◌↔◌}
use Rattle.std.specs.Global.{Global}
use Rattle.numbered_walks.proofs.Grouping.{group_known}
use Rattle.text_masked.specs.Held.{AreHeld, IsCarriedUp}
use Rattle.text_masked.proofs.HeldLemmas.{as_many, carried_by, carried_of, one_more}
use Rattle.text_masked.proofs.held.find_held.Goals as goal

pub is_carried-is-requires : goal.is_carried-is-requires
is_carried-is-requires c = λ k d lt.
    let g = c.args.graph in
    let known = group_known g.edges.now true g.index.now.entering.items c.loop-number.number c.index.result.now (omega (arith, c.requires.graph.indexed.all_entering, c.loop-number-test.true)) c.requires.graph.indexed.entering
    c.deref.result.now (c.deref.ensures.value ∙ ap (λ (v : Vec ℕ Global). v.items) c.index.ensures) k d lt in
    omega (arith, known, as_many c.args.marked.now g.edges.now c.requires.marked)

pub loop-number-preserved : goal.loop-number-preserved
loop-number-preserved c =
    let g = c.args.graph in
    let marked = c.args.marked.now in
    let held = c.loop-number.held.items in
    let i = c.loop-number.number in
    let slice = c.deref-in-loop-number.result.now in
    let is = c.is_carried-is.result in
    let group = c.deref.result.now in
    let small : i < length g.index.now.entering.items = omega (arith, c.requires.graph.indexed.all_entering, c.loop-number-test.true) in
    let is_group : group ≡ (get_or g.index.now.entering.items i c.index.result.now).items = c.deref.ensures.value ∙ ap (λ (v : Vec ℕ Global). v.items) c.index.ensures in
    let slice_is : slice ≡ held = c.deref-in-loop-number.ensures.value in
    let whole : length held ≡ i = c.loop-number.invariant.whole in
    let iff : (is ≡ true) ↔ IsCarriedUp marked slice i = (
      λ on. carried_by marked g.edges.now c.requires.marked g.index.now.entering.items slice i c.index.result.now small c.requires.graph.indexed.entering group is_group (c.is_carried-is.ensures.0 on),
      λ by. c.is_carried-is.ensures.1 (carried_of marked g.edges.now c.requires.marked g.index.now.entering.items slice i c.index.result.now small c.requires.graph.indexed.entering group is_group by),
    ) in
    let at_held : (is ≡ true) ↔ IsCarriedUp marked held (length held) =
    subst (λ (n : ℕ). (is ≡ true) ↔ IsCarriedUp marked held n) (sym whole) (subst (λ (v : List Bool). (is ≡ true) ↔ IsCarriedUp marked v i) slice_is iff) in
    let known : AreHeld marked (length held) held = subst (λ (n : ℕ). AreHeld marked n held) (sym whole) c.loop-number.invariant in
    let more : AreHeld marked (length held + 1) (held ++ is ∷ []) = one_more marked held known is at_held in
    subst (λ (v : List Bool). AreHeld marked (i + 1) v) (sym c.in_ok-push.ensures.items) (subst (λ (n : ℕ). AreHeld marked (n + 1) (held ++ is ∷ [])) whole more)
