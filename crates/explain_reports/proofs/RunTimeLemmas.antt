-- The times of an explanation bound machine runs.
use Rattle.std.proofs.Common.{◌≡◌, ◌∙◌, ℕ, ◌+◌, ◌-◌, ◌*◌, ◌<◌, ◌≤◌, suc, List, [], ◌∷◌, length, take, All, Option, Some, None, refl, ap, sym, subst, arith}
use Rattle.std.proofs.Math.Nat.{mul_comm, mul-suc, mul-zero, suc-mul}
use Rattle.std.proofs.lemmas.Nat.{mul-le}
use Rattle.std.proofs.lemmas.List.Sums.{sum_by-cons}
use Rattle.std.proofs.lemmas.List.Elements.{All-head, All-tail}
use Rattle.bus_ticks.specs.declared.profile.Profile.{Profile}
use Rattle.image.specs.Image.{Words}
use Rattle.statement.specs.Stated.{Stated}
use Rattle.walks.specs.Walk.{Leads, cost_of}
use Rattle.control_flow.specs.Flow.{Flow, HasEdge, IsWellFormed, edge_shape}
use Rattle.control_flow.specs.Graph.{IsFlowGraph, start_of}
use Rattle.flow_graph.specs.StepLaw.{RunLaw, bursts_of}
use Rattle.loop_bounds.specs.Bounds.{IsGreatestCost, KeepsTheBounds}
use Rattle.control_flow.specs.declared.edges.Edge.{Edge}
use Rattle.control_flow.specs.declared.places.Place.{Place}
use Rattle.control_flow.specs.declared.places.Place.TheVariants.{Exit}
use Rattle.loop_bounds.specs.Tree.{Tree}
use Rattle.longest_walk.specs.Folded.{unfolded}
use Rattle.longest_walk.specs.Longest.{IsLongest, KeepsTree}
use Rattle.longest_walk.specs.declared.folded.Longest.{Longest}
use Rattle.text_explained.specs.Bursts.{AreEnough, with_bursts}
use Rattle.text_explained.specs.Starts.{IsLatestStart, ReachesAt}
use Rattle.explain_reports.specs.RunTimes.{AreApart, AreApartAfter, BeginsWithin, EndsWithin, FirstBeginsWithin}
use Rattle.handlers.proofs.FewestLemmas.{not_enough}
use Rattle.responses.specs.Response.{IsWorstArrival}
use Rattle.handlers.proofs.ReportLemmas.{bounds_runs}

-- ## When a word begins

pub begins_within : (words : Words) (st : Stated) (flow : Flow) (tree : Tree) → RunLaw → (a : ℕ) (latest : Option ℕ)
    → IsLatestStart flow tree a latest → BeginsWithin words st flow tree a latest
begins_within words st flow tree law a None none s inputs steps place now run at =
    absurd (none (cost_of edge_shape run.walk) (record { place = place; there = at; walk = run.walk; leads = run.leads; kept = run.kept; costs = refl }))
begins_within words st flow tree law a (Some ticks) is s inputs steps place now run at =
    let reaches : ReachesAt flow tree a (cost_of edge_shape run.walk) =
    record { place = place; there = at; walk = run.walk; leads = run.leads; kept = run.kept; costs = refl } in
    let most = is.1 (cost_of edge_shape run.walk) reaches in
    let within = law words st flow.profile s (take steps inputs) run.walk run.ran now run.runs run.follows in
    record { ticks = omega (arith, within.ticks, most); elapsed = omega (arith, within.elapsed, most) }

pub first_within : (words : Words) (st : Stated) (flow : Flow) (tree : Tree) → RunLaw → ((walk : List Edge) → KeepsTree tree walk → KeepsTheBounds flow st.loops walk) → (a : ℕ) (first : Option ℕ)
    → IsWorstArrival flow st.loops a first → FirstBeginsWithin words st flow tree a first
first_within words st flow tree law bounds a None none s inputs steps place now run at before =
    absurd (none run.walk place (record { leads = run.leads; kept = bounds run.walk run.kept; before = before; there = at }))
first_within words st flow tree law bounds a (Some ticks) is s inputs steps place now run at before =
    let most = is.1 run.walk place (record { leads = run.leads; kept = bounds run.walk run.kept; before = before; there = at }) in
    let within = law words st flow.profile s (take steps inputs) run.walk run.ran now run.runs run.follows in
    record { ticks = omega (arith, within.ticks, most); elapsed = omega (arith, within.elapsed, most) }

-- ## When a run ends

-- the last of the times is so many stretches after the first
last_after : (every price end t : ℕ) (times : List ℕ) → AreApartAfter every t times → All (λ u. u + price < end) (t ∷ times)
    → t + length times * every + price < end
last_after every price end t [] apart inside = let here = All-head (λ u. u + price < end) t [] inside in omega (arith, here)
last_after every price end t (u ∷ times) apart inside =
    let rest = last_after every price end u times apart.1 (All-tail (λ u. u + price < end) t (u ∷ times) inside) in
    omega (arith, rest, apart.0, suc-mul (length times) every)

ends_by : (price bound every fewest end n : ℕ) (times : List ℕ) → 1 ≤ bound → AreEnough price bound every fewest
    → AreApart every times → All (λ t. t + price < end) times → length times ≡ n → end ≤ bound + price * n
    → end ≤ with_bursts price bound fewest
ends_by price bound every fewest end n [] some enough apart inside is most =
    let free : price * n ≡ 0 = ap (λ k. price * k) (sym is) ∙ mul-zero price in
    omega (arith, most, free)
ends_by price bound every fewest end n (t ∷ times) some enough apart inside is most =
    let last = last_after every price end t times apart inside in
    let within : end ≤ bound + price * suc (length times) = subst (λ k. end ≤ bound + price * k) (sym is) most in
    let turned : price * suc (length times) ≡ length times * price + price = mul-suc price (length times) ∙ ap (λ k. k + price) (mul_comm price (length times)) in
    let few = not_enough price bound every fewest (length times) some enough (omega (arith, last, within, turned)) in
    let dear : suc (length times) * price ≤ fewest * price = mul-le (suc (length times)) price fewest price few (omega arith) in
    let same : price * suc (length times) ≡ suc (length times) * price = mul_comm price (suc (length times)) in
    omega (arith, within, dear, same)

pub ends_within : (words : Words) (st : Stated) (profile : Profile) (flow : Flow) (bound : ℕ) → RunLaw
    → IsGreatestCost flow st.loops bound → 1 ≤ bound → EndsWithin words st profile flow bound
ends_within words st profile flow bound law greatest some every fewest s inputs ran after fewest_is keeps runs come =
    let most = bounds_runs words profile st flow bound law greatest s inputs ran after keeps runs in
    ends_by profile.burst bound every fewest ran.elapsed (bursts_of inputs) come.times some fewest_is.0 come.apart come.inside come.each most.elapsed

-- a walk that leaves costs something
some_cost : (flow : Flow) → IsWellFormed flow → (p : Place) (walk : List Edge) → Leads edge_shape (HasEdge flow) p walk Exit
    → (p ≡ Exit → ⊥) → 1 ≤ cost_of edge_shape walk
some_cost flow well p [] leads inside = absurd (inside leads)
some_cost flow well p (e ∷ walk) leads inside =
    let some = well.costs_some e leads.0 in
    omega (arith, some, sum_by-cons edge_shape.cost e walk)

pub some_bound : (words : Words) (st : Stated) (profile : Profile) (flow : Flow) (tree : Tree) (l : Longest) → IsWellFormed flow
    → IsFlowGraph words st profile flow → IsLongest flow tree l → 1 ≤ l.bound
some_bound words st profile flow tree l well graph is =
    let inside : flow.entry ≡ Exit → ⊥ = λ e. let both : start_of st ≡ Exit = sym graph.entry_is ∙ e in cc in
    let some = some_cost flow well flow.entry (unfolded l.walk) is.walk_is.complete inside in
    omega (arith, some, is.walk_is.costs)
