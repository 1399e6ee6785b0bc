-- A line that shows an edge of the flow graph names that edge where the walk is.
use Rattle.std.proofs.Common.{◌≡◌, ◌∙◌, true, Some, refl, sym, ap, subst}
use Rattle.std.specs.Prelude.{Contains, ◌&&◌, ◌==◌}
use Rattle.std.proofs.lemmas.Bool.{and_parts, eq-eqb, eqb-true}
use Rattle.bus_ticks.specs.declared.profile.Profile.{Profile}
use Rattle.image.specs.Image.{Words}
use Rattle.statement.specs.Stated.{Stated}
use Rattle.walks.proofs.RowLemmas.{find_some}
use Rattle.control_flow.specs.declared.places.Place.{Place}
use Rattle.control_flow.specs.declared.places.Place.TheVariants.{At, Exit}
use Rattle.control_flow.specs.declared.edges.Edge.{Edge}
use Rattle.control_flow.specs.Flow.{Flow, HasEdge, IsWellFormed}
use Rattle.control_flow.specs.Graph.{IsFlowGraph}
use Rattle.control_flow.specs.Places.{place_address}
use Rattle.control_flow.proofs.NameLemmas.{AreAlike, named_once}
use Rattle.longest_walk.specs.Rows.{is_at}
use Rattle.longest_walk.proofs.CarryFind.{at_itself, at_place, find_known}
use Rattle.certificate.specs.Walk.{step_of, to_of}
use Rattle.walk_counts.specs.Counts.{is_same_label}
use Rattle.walk_counts.proofs.NumberLemmas.{one_label, own_label}
use Rattle.cert_check.specs.Followed.{edge_named, is_named, leads_to}

alike : (p q : Place) → leads_to p (to_of q) ≡ true → AreAlike p q
alike (At calls a) (At others b) e = eqb-true a b e
alike (At calls a) Exit e = absurd (cc e)
alike Exit (At others b) e = absurd (cc e)
alike Exit Exit e = tt

own_to : (p : Place) → leads_to p (to_of p) ≡ true
own_to (At calls a) = eq-eqb a a refl
own_to Exit = refl

-- what passes the test of a line leaves the place, by the line's label, to a place like that of the line's edge
record IsLike (p : Place) (e f : Edge) : Type 0 where
  from : p ≡ f.from
  label : f.label ≡ e.label
  to : AreAlike f.to e.to

like : (p : Place) (e f : Edge) → is_named p (step_of e) f ≡ true → IsLike p e f
like (At calls a) e f h =
    let fourth = and_parts (is_at calls a f.from && (a == place_address e.from) && is_same_label f.label e.label && leads_to f.to (to_of e.to)) (f.cost == e.cost) h in
    let third = and_parts (is_at calls a f.from && (a == place_address e.from) && is_same_label f.label e.label) (leads_to f.to (to_of e.to)) fourth.0 in
    let second = and_parts (is_at calls a f.from && (a == place_address e.from)) (is_same_label f.label e.label) third.0 in
    let first = and_parts (is_at calls a f.from) (a == place_address e.from) second.0 in
    record { from = at_place calls a f.from first.0; label = one_label f.label e.label second.1; to = alike f.to e.to third.1 }
like Exit e f h = absurd (cc h)

named_itself : (p : Place) (e : Edge) → e.from ≡ p → (p ≡ Exit → ⊥) → is_named p (step_of e) e ≡ true
named_itself (At calls a) e from place =
    let here : is_at calls a e.from ≡ true = subst (λ x. is_at calls a x ≡ true) (sym from) (at_itself calls a) in
    let address : (a == place_address e.from) ≡ true = eq-eqb a (place_address e.from) (sym (ap place_address from)) in
    rw (here, address, own_label e.label, own_to e.to) (eq-eqb e.cost e.cost refl)
named_itself Exit e from place = absurd (place refl)

module _ (words : Words) (st : Stated) (profile : Profile) (flow : Flow) (g : IsFlowGraph words st profile flow) (formed : IsWellFormed flow) where
  pub edge_found : (e : Edge) → HasEdge flow e → edge_named flow e.from (step_of e) ≡ Some e
  edge_found e h =
      let place : e.from ≡ Exit → ⊥ = λ is. formed.no_exit (subst (Contains flow.places) is (formed.starts e h)) in
      let found = find_known (is_named e.from (step_of e)) flow.edges e h (named_itself e.from e refl place) in
      let is = find_some (is_named e.from (step_of e)) flow.edges found.0 found.1 in
      let l = like e.from e found.0 is.1 in
      found.1 ∙ ap (λ x. Some x) (named_once words st profile flow g found.0 e is.0 h (sym l.from) l.label l.to)
