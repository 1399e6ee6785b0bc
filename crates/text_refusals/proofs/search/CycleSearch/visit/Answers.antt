use Rattle.std.proofs.Common.{◌≡◌, ◌∙◌, ◌<◌, List, ap, get_or, length, sym, subst, vec_len, ⊎_elim, arith}
use Rattle.std.specs.Prelude.{MatchBool}
use Rattle.std.proofs.lemmas.Bool.{eqb-false}
use Rattle.std.proofs.lemmas.List.{get_or_default}
use Rattle.control_flow.specs.declared.edges.Edge.{Edge}
use Rattle.control_flow.specs.declared.places.Place.{Place}
use Rattle.control_flow.specs.declared.places.Place.TheVariants.{Exit}
use Rattle.control_flow.specs.Places.{place_at}
use Rattle.text_refusals.specs.Cycles.{IsClosed, IsEnded, IsOnceRound, IsSearching}
use Rattle.text_refusals.proofs.search.CycleSearch.visit.Goals as goal

pub returns-clause-cycle : goal.returns-clause-cycle
returns-clause-cycle c =
    let flow = c.args.graph.now in
    let loops = c.args.loops.now in
    let s = c.loop-goes_on.self in
    let ended : IsEnded flow loops s = subst (λ b. MatchBool b (IsSearching flow loops s) (IsEnded flow loops s)) c.loop-goes_on-test.false c.loop-goes_on.invariant.state in
    ⊎_elim
    (λ (closed : (s.at < length flow.places) × IsClosed flow loops s.path.items (place_at flow.places s.at)).
    let here = subst (λ (ps : List Place). c.index-places-self.result ≡ get_or ps s.at c.index-places-self.result) c.places.ensures.value c.index-places-self.is in
    let end : place_at flow.places s.at ≡ c.index-places-self.result = sym (here ∙ get_or_default flow.places s.at c.index-places-self.result Exit closed.0) in
    (c.in_ok-cycle.ensures {u = tt}).cycle flow loops
    (subst (λ (es : List Edge). IsClosed flow loops es c.index-places-self.result) (sym c.deref.ensures.value) (subst (IsClosed flow loops s.path.items) end closed.1)))
    (λ idle.
    let long : length s.path.items ≡ 0 = ap length (idle.0).empty in
    let size : vec_len s.path ≡ 0 = omega (arith, long, s.path.ok) in
    absurd (eqb-false (vec_len s.path) 0 (sym c.is_empty.ensures ∙ c.if-is_empty.false) size))
    ended

pub returns-clause-once : goal.returns-clause-once
returns-clause-once c =
    let flow = c.args.graph.now in
    let loops = c.args.loops.now in
    let s = c.loop-goes_on.self in
    let ended : IsEnded flow loops s = subst (λ b. MatchBool b (IsSearching flow loops s) (IsEnded flow loops s)) c.loop-goes_on-test.false c.loop-goes_on.invariant.state in
    ⊎_elim
    (λ (closed : (s.at < length flow.places) × IsClosed flow loops s.path.items (place_at flow.places s.at)).
    (c.in_ok-cycle.ensures {u = tt}).once (subst IsOnceRound (sym c.deref.ensures.value) (closed.1).once))
    (λ idle.
    let long : length s.path.items ≡ 0 = ap length (idle.0).empty in
    let size : vec_len s.path ≡ 0 = omega (arith, long, s.path.ok) in
    absurd (eqb-false (vec_len s.path) 0 (sym c.is_empty.ensures ∙ c.if-is_empty.false) size))
    ended
