-- Why extents are not nested, each reason with the absence of those before it.
use Rattle.std.proofs.Common.{◌≡◌, ℕ, ◌<◌, ◌≤◌, List, [], ◌∷◌, Option, Some, Vec, Global, slice_index, ap, subst, arith}
use Rattle.std.specs.Prelude.{Contains, MatchOption}
use Rattle.walks.specs.Walk.{Leads}
use Rattle.loop_bounds.specs.declared.extents.Extent.{Extent}
use Rattle.loop_bounds.specs.declared.fault.NestFault.{NestFault}
use Rattle.loop_bounds.specs.declared.fault.NestFault.TheVariants.{Memory, LoopsCross, SharedHeader, EntersMidLoop, UnboundedCycle, NestedTooDeep}
use Rattle.numbered_walks.specs.declared.span.NumberedEdge.{NumberedEdge}
use Rattle.numbered_walks.specs.Ordered.{number_shape}
use Rattle.loop_bounds.specs.Extents.{AreNested, HaveCrossing}
use Rattle.loop_bounds.specs.InPositions.{EnterRight, HasPlainCycle, IsNestingFault}
use Rattle.loop_bounds.specs.Layout.{AreRanks, IsBack, IsChainFault, IsRankFault}

-- ranks rise along edges that are no back edges
climbs : (exit : ℕ) (edges : List NumberedEdge) (extents : List Extent) (ranks : List ℕ) → AreRanks exit edges extents ranks → (p : ℕ) (walk : List NumberedEdge) (q : ℕ) → Leads number_shape (λ e. Contains edges e × (IsBack extents e → ⊥)) p walk q → slice_index ranks p ≤ slice_index ranks q
climbs exit edges extents ranks r p [] q h = let e : slice_index ranks p ≡ slice_index ranks q = ap (slice_index ranks) h in omega arith
climbs exit edges extents ranks r p (e ∷ walk) q h =
    let here : slice_index ranks e.from ≡ slice_index ranks p = ap (slice_index ranks) h.1 in
    let up : slice_index ranks e.from < slice_index ranks e.to = r.up e h.0.0 h.0.1 in
    let rest : slice_index ranks e.to ≤ slice_index ranks q = climbs exit edges extents ranks r e.to walk q h.2 in
    omega arith

pub no_plain_cycle : (exit : ℕ) (edges : List NumberedEdge) (extents : List Extent) (ranks : List ℕ) → AreRanks exit edges extents ranks → HasPlainCycle edges extents → ⊥
no_plain_cycle exit edges extents ranks r c =
    let up : slice_index ranks (c.first).from < slice_index ranks (c.first).to = r.up c.first c.returns.0.0 c.returns.0.1 in
    let here : slice_index ranks (c.first).from ≡ slice_index ranks c.place = ap (slice_index ranks) c.returns.1 in
    let rest : slice_index ranks (c.first).to ≤ slice_index ranks c.place = climbs exit edges extents ranks r (c.first).to c.rest c.place c.returns.2 in
    omega arith

pub of_ranks : (exit : ℕ) (edges : List NumberedEdge) (entry : ℕ) (extents : List Extent) → (HaveCrossing extents → ⊥) → EnterRight exit edges entry extents → (fault : NestFault) → IsRankFault edges extents fault → IsNestingFault exit edges entry extents fault
of_ranks exit edges entry extents apart right Memory h = tt
of_ranks exit edges entry extents apart right LoopsCross h = absurd h
of_ranks exit edges entry extents apart right SharedHeader h = h
of_ranks exit edges entry extents apart right EntersMidLoop h = absurd h
of_ranks exit edges entry extents apart right UnboundedCycle h = (apart, right, h)
of_ranks exit edges entry extents apart right NestedTooDeep h = absurd h

pub of_chains : (exit : ℕ) (edges : List NumberedEdge) (entry : ℕ) (extents : List Extent) → (HaveCrossing extents → ⊥) → EnterRight exit edges entry extents → (HasPlainCycle edges extents → ⊥) → (fault : NestFault) → IsChainFault extents fault → IsNestingFault exit edges entry extents fault
of_chains exit edges entry extents apart right none Memory h = tt
of_chains exit edges entry extents apart right none LoopsCross h = absurd h
of_chains exit edges entry extents apart right none SharedHeader h = h
of_chains exit edges entry extents apart right none EntersMidLoop h = absurd h
of_chains exit edges entry extents apart right none UnboundedCycle h = absurd h
of_chains exit edges entry extents apart right none NestedTooDeep h = (apart, right, none, h)

pub known : (extents : List Extent) (found : Option (Vec (Option ℕ) Global)) (parents : Vec (Option ℕ) Global) → found ≡ Some parents → MatchOption found (HaveCrossing extents) (λ p. AreNested extents p.items) → AreNested extents parents.items
known extents found parents is h = subst (λ (o : Option (Vec (Option ℕ) Global)). MatchOption o (HaveCrossing extents) (λ p. AreNested extents p.items)) is h
