use Rattle.std.proofs.Common.{◌≡◌, ℕ, length, sym, subst, rules}
use Rattle.std.specs.BTreeMap.{get}
use Rattle.std.specs.Ordering.{nat_cmp}
use Rattle.std.specs.Iterator.Adapters.{zip_first, zip_second}
use Rattle.std.specs.Slice.Iter.{iter_rest}
use Rattle.std.proofs.lemmas.List.{length_push}
use Rattle.std.proofs.lemmas.Slice.Zip.{zip_end, zip_turn}
use Rattle.text_explained.proofs.StartLaws.{AreLatestSoFar, all_latest, one_more}
use Rattle.text_explained.proofs.starts.latest_starts.Goals as goal

pub loop-place-preserved : goal.loop-place-preserved
loop-place-preserved c =
    let places = c.args.graph.now.places in
    let starts = c.args.starts.now in
    let done = length c.loop-place.yielded in
    let first : iter_rest (zip_first c.into_iter-place-iterator.result) ≡ places = search rules in
    let second : iter_rest (zip_second c.into_iter-place-iterator.result) ≡ starts = search rules in
    let turn = zip_turn places starts c.loop-place.yielded c.into_iter-place-iterator.result c.loop-place.place-iterator c.next.new.self c.next.result first second c.loop-place.yielded_by
    (c.in-Some.place, c.in-Some.start) c.in-Some.is c.next.ensures.steps in
    subst (λ (k : ℕ). AreLatestSoFar places starts k (get nat_cmp c.put_start.new.latest)) (sym (length_push c.loop-place.yielded (c.in-Some.place, c.in-Some.start)))
    (one_more places starts done c.in-Some.place.now c.in-Some.start.now turn.0 turn.1 (turn.2 c.in-Some.place.now) (turn.3 c.in-Some.start.now)
    (get nat_cmp c.loop-place.latest) (get nat_cmp c.put_start.new.latest) c.loop-place.invariant c.in_ok-put_start.ensures)

pub returns : goal.returns
returns c =
    let places = c.args.graph.now.places in
    let starts = c.args.starts.now in
    let first : iter_rest (zip_first c.into_iter-place-iterator.result) ≡ places = search rules in
    let second : iter_rest (zip_second c.into_iter-place-iterator.result) ≡ starts = search rules in
    all_latest places starts (length c.loop-place.yielded) (get nat_cmp c.loop-place.latest)
    (zip_end places starts c.loop-place.yielded c.into_iter-place-iterator.result c.loop-place.place-iterator c.next.new.self c.next.result first second c.loop-place.yielded_by c.in-None.is c.next.ensures.steps)
    c.loop-place.invariant
