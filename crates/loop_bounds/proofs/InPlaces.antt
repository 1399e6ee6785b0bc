-- What is found of a handler's loops, in places.
use Rattle.std.proofs.Common.{◌≡◌, ◌≢◌, ℕ, zero, suc, ◌<◌, ◌≤◌, List, [], ◌∷◌, length, map, get_or, sym, refl, ap, ◌∙◌, subst, arith}
use Rattle.std.specs.Prelude.{Contains, All, AllPairs, ◌↔◌}
use Rattle.std.specs.List.Sorted.{IsPermutation}
use Rattle.std.proofs.lemmas.List.{get_or-map, length-map}
use Rattle.std.proofs.lemmas.List.Sorted.{IsPermutation-map, Contains-permutation, IsPermutation-sym}
use Rattle.control_flow.specs.declared.places.Place.{Place}
use Rattle.control_flow.specs.declared.places.Place.TheVariants.{At, Exit}
use Rattle.statement.specs.declared.stated.Loop.{Loop}
use Rattle.control_flow.specs.Flow.{Flow, IsWellFormed}
use Rattle.statement.specs.Stated.{IsLoop, LiesWithin, StatedLoops, is_apart}
use Rattle.statement.specs.declared.apart.ApartStretch.{ApartStretch}
use Rattle.loop_bounds.specs.declared.loop_instances.LoopInstance.{LoopInstance}
use Rattle.loop_bounds.specs.Instance.{Instance, IsInstance}
use Rattle.loop_bounds.specs.Keys.{AreByKey, IsListed}
use Rattle.loop_bounds.specs.Extents.{HeadersDiffer, IsFoundAmong, found_instance, header_place}
use Rattle.loop_bounds.specs.Nest.{HasSharedHeader}
use Rattle.loop_bounds.proofs.Moved.{IsOnce, once_moved}
use Rattle.loop_bounds.proofs.Positions.{listed_has, places_once}

-- ## Headers

header_at : (loops : List Loop) (k d : ℕ) (e : Loop) → k < length loops → get_or (map (λ (l : Loop). l.header) loops) k d ≡ (get_or loops k e).header
header_at [] k d e lt = absurd (omega arith)
header_at (l ∷ loops) zero d e lt = refl
header_at (l ∷ loops) (suc k) d e lt = header_at loops k d e (omega arith)

headers_once : (loops : List Loop) → (HasSharedHeader loops → ⊥) → IsOnce (map (λ (l : Loop). l.header) loops)
headers_once loops none i j d ilt jlt same =
    let len = length-map loops (λ (l : Loop). l.header) in
    let i_in : i < length loops = omega arith in
    let j_in : j < length loops = omega arith in
    let alike : (e : Loop) → (get_or loops i e).header ≡ (get_or loops j e).header = λ e. sym (header_at loops i d e i_in) ∙ same ∙ header_at loops j d e j_in in
    let not_below : i < j → ⊥ = λ less. none (record { one = i; other = j; differ = less; inside = j_in; same = alike }) in
    let not_above : j < i → ⊥ = λ less. none (record { one = j; other = i; differ = less; inside = i_in; same = λ e. sym (alike e) }) in
    omega arith

pub headers_differ : (loops sorted : List Loop) → IsPermutation loops sorted → (HasSharedHeader loops → ⊥) → HeadersDiffer sorted
headers_differ loops sorted moved none j k d less lt same =
    let len = length-map sorted (λ (l : Loop). l.header) in
    let once = once_moved (map (λ (l : Loop). l.header) loops) (map (λ (l : Loop). l.header) sorted) (IsPermutation-map (λ (l : Loop). l.header) loops sorted moved) (headers_once loops none) in
    let one : j ≡ k = once j k 0 (omega arith) (omega arith) (header_at sorted j 0 d (omega arith) ∙ same ∙ sym (header_at sorted k 0 d lt)) in
    omega arith

pub places_differ : (flow : Flow) → IsWellFormed flow → AllPairs (λ (p : Place) (q : Place). p ≢ q) flow.places
places_differ flow well_formed j k d less lt same =
    let one : j ≡ k = places_once flow.places well_formed.ordered j k d (omega arith) lt same in
    omega arith

-- ## Instances

pub instances_are : (flow : Flow) (loops : StatedLoops) (sorted : List Loop) → IsPermutation loops.list sorted → (i : Instance) → IsFoundAmong loops.apart flow.places sorted i ↔ IsInstance flow loops i
instances_are flow loops sorted moved i = (
  (λ f. record { stated_loop = f.stated_loop; stated = Contains-permutation sorted loops.list f.stated_loop (IsPermutation-sym loops.list sorted moved) f.stated; reached = f.reached; parts = f.parts }),
  (λ f. record { stated_loop = f.stated_loop; stated = Contains-permutation loops.list sorted f.stated_loop moved f.stated; reached = f.reached; parts = f.parts }),
)

pub found_has : (apart : List ApartStretch) (found : List LoopInstance) (k : ℕ) (d : LoopInstance) → k < length found → Contains (map (found_instance apart) found) (found_instance apart (get_or found k d))
found_has apart found k d lt = (k, omega (arith, length-map found (found_instance apart)), get_or-map (found_instance apart) found k d (found_instance apart (get_or found k d)) lt)

pub found_reached : (apart : List ApartStretch) (flow : Flow) (sorted : List Loop) (listed : List Place) (found : List LoopInstance) → IsPermutation flow.places listed → ((i : Instance) → Contains (map (found_instance apart) found) i → IsFoundAmong apart flow.places sorted i) → All (λ f. Contains listed (At f.list f.stated.header)) found
found_reached apart flow sorted listed found l are k d lt = listed_has flow.places listed l (header_place (get_or found k d)) (are (found_instance apart (get_or found k d)) (found_has apart found k d lt)).reached

pub found_stated : (flow : Flow) (loops : StatedLoops) (sorted : List Loop) (found : List LoopInstance) → IsPermutation loops.list sorted → All (IsLoop loops.apart) loops.list → ((i : Instance) → Contains (map (found_instance loops.apart) found) i → IsFoundAmong loops.apart flow.places sorted i) → All (λ f. IsLoop loops.apart f.stated) found
found_stated flow loops sorted found moved all are k d lt =
    let f = are (found_instance loops.apart (get_or found k d)) (found_has loops.apart found k d lt) in
    let has = Contains-permutation sorted loops.list f.stated_loop (IsPermutation-sym loops.list sorted moved) f.stated in
    let is : IsLoop loops.apart f.stated_loop = subst (IsLoop loops.apart) has.2 (all has.0 f.stated_loop has.1) in
    let first_is : (get_or found k d).stated.first ≡ f.stated_loop.first = ap (λ (i : Instance). i.first) f.parts in
    let header_is : (get_or found k d).stated.header ≡ f.stated_loop.header = ap (λ (i : Instance). i.header) f.parts in
    let last_is : (get_or found k d).stated.last ≡ f.stated_loop.last = ap (λ (i : Instance). i.last) f.parts in
    let bound_is : (get_or found k d).stated.bound ≡ f.stated_loop.bound = ap (λ (i : Instance). i.bound) f.parts in
    record {
      within =
          subst (λ (a : ℕ). LiesWithin loops.apart a (get_or found k d).stated.header (get_or found k d).stated.last) (sym first_is)
          (subst (λ (a : ℕ). LiesWithin loops.apart f.stated_loop.first a (get_or found k d).stated.last) (sym header_is)
          (subst (λ (a : ℕ). LiesWithin loops.apart f.stated_loop.first f.stated_loop.header a) (sym last_is) is.within));
      ends = ap (is_apart loops.apart) first_is ∙ is.ends ∙ ap (is_apart loops.apart) (sym last_is);
      last_small = omega (arith, is.last_small);
      bound_small = omega (arith, is.bound_small);
    }

pub by_key_once : (apart : List ApartStretch) (flow : Flow) (listed : List Place) → IsWellFormed flow → IsListed apart flow.places listed → AreByKey apart listed
by_key_once apart flow listed well_formed l = record {
  ascending = l.ascending;
  once = λ m n mlt nlt same. once_moved flow.places listed l.moved (places_once flow.places well_formed.ordered) m n Exit mlt nlt same;
}
