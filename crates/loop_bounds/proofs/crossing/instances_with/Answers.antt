use Rattle.std.proofs.Common.{◌≡◌, List, get_or, map, subst, sym, ◌∙◌}
use Rattle.std.specs.Prelude.{Contains}
use Rattle.std.proofs.lemmas.List.{take_all}
use Rattle.control_flow.specs.declared.places.Place.TheVariants.{At}
use Rattle.statement.specs.declared.apart.ApartStretch.{ApartStretch}
use Rattle.statement.specs.declared.stated.Loop.{Loop}
use Rattle.loop_bounds.specs.Instance.{Instance}
use Rattle.loop_bounds.specs.Extents.{IsFoundAmong, found_instance}
use Rattle.loop_bounds.proofs.FindLemmas.{no_loop, with_none, with_one, with_same}
use Rattle.loop_bounds.proofs.Positions.{known}
use Rattle.loop_bounds.proofs.crossing.instances_with.Goals.{then-is_ok+in_ok-push, else-is_ok}
use Rattle.loop_bounds.proofs.crossing.instances_with.Goals as goal

pub loop-stated-init : goal.loop-stated-init
loop-stated-init c = with_none c.args.loops.now.apart c.args.places.now c.list-stated-items.result.now c.args.list c.new-found.result.items c.new-found.ensures.items

pub loop-stated-preserved : goal.loop-stated-preserved
loop-stated-preserved c =
    let l : Loop = get_or c.list-stated-items.result.now c.loop-stated.stated-index no_loop in
    let search = known c.args.places.now (At c.args.list l.header) c.binary_search.result c.requires c.binary_search.ensures.bound c.binary_search.ensures.position in
    elim c.if-is_ok.branch [
      | then-is_ok+in_ok-push w ↦ rw (w.found-is, w.in_ok-push.ensures.items) (with_one c.args.loops.now.apart c.args.places.now c.list-stated-items.result.now c.args.list c.loop-stated.found.items c.loop-stated.stated-index c.loop-stated.invariant c.loop-stated-test.true (search.0 (sym c.is_ok.ensures.value ∙ w.if-is_ok.true)))
      | else-is_ok w ↦ rw w.found-is (with_same c.args.loops.now.apart c.args.places.now c.list-stated-items.result.now c.args.list c.loop-stated.found.items c.loop-stated.stated-index c.loop-stated.invariant c.loop-stated-test.true (search.1 (sym c.is_ok.ensures.value ∙ w.if-is_ok.false)))
    ]

pub returns : goal.returns
returns c =
    let apart : List ApartStretch = c.args.loops.now.apart in
    subst (λ (xs : List Loop). (i : Instance) → (Contains (map (found_instance apart) c.loop-stated.found.items) i → IsFoundAmong apart c.args.places.now xs i × (i.list ≡ c.args.list)) × (IsFoundAmong apart c.args.places.now xs i × (i.list ≡ c.args.list) → Contains (map (found_instance apart) c.loop-stated.found.items) i)) (take_all c.loop-stated.stated-index c.list-stated-items.result.now c.loop-stated-test.false ∙ c.list-stated-items.ensures.value) c.loop-stated.invariant.exact
