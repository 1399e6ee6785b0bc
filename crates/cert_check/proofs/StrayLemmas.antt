-- Where a certificate's walk fails, from what following its lines showed.
use Rattle.std.proofs.Common.{◌≡◌, ◌≢◌, ◌∙◌, ℕ, ◌+◌, ◌<◌, ◌≤◌, ◌^◌, List, length, take, Some, None, inl, inr, refl, sym, ap, subst, arith}
use Rattle.std.proofs.lemmas.Bool.{eq-eqb}
use Rattle.walks.specs.Walk.{Leads}
use Rattle.walks.specs.Greatest as G
use Rattle.walks.specs.Stretch.{Keeps}
use Rattle.walks.proofs.Joins.{most_from_keeps}
use Rattle.control_flow.specs.declared.places.Place.{Place}
use Rattle.control_flow.specs.declared.places.Place.TheVariants.{Exit}
use Rattle.control_flow.specs.declared.edges.Edge.{Edge}
use Rattle.control_flow.specs.Flow.{Flow, HasEdge, IsWellFormed, edge_shape}
use Rattle.numbered_walks.specs.declared.span.Span.{Span}
use Rattle.numbered_walks.specs.Index.{edge_at, edges_of}
use Rattle.numbered_walks.specs.Ordered as O
use Rattle.numbered_walks.specs.Reach.{most_in}
use Rattle.numbered_walks.proofs.Members.{member_from}
use Rattle.loop_bounds.specs.Instance.{place_loops}
use Rattle.loop_bounds.specs.Tree.{IsTree, Tree, place_in}
use Rattle.loop_bounds.proofs.ExtentOf.{header_place}
use Rattle.longest_walk.specs.Built.{step_at}
use Rattle.longest_walk.proofs.CarryKeeps.{keeps_there}
use Rattle.longest_walk.proofs.CarryWalks.{agree_all, exit_is, instance_of}
use Rattle.certificate.specs.declared.cert.Cert.{Cert}
use Rattle.certificate.specs.declared.walk.CertItem.{CertItem}
use Rattle.cert_check.specs.declared.failing.FailingRow.TheVariants as f
use Rattle.cert_check.specs.declared.index.Index.{Index}
use Rattle.cert_check.specs.declared.verdict.Objection.TheVariants as o
use Rattle.cert_check.specs.declared.verdict.Verdict.TheVariants.{Yes, No}
use Rattle.cert_check.specs.declared.walker.Walker.{Walker}
use Rattle.cert_check.specs.Failing.{BreaksAt, BreaksBound, CostsOther, IsBegun, IsFirstFailing}
use Rattle.cert_check.specs.Followed.{followed}
use Rattle.cert_check.specs.Index.{IsIndex}
use Rattle.cert_check.specs.Straying.{StraysAt}
use Rattle.cert_check.specs.Verdict.{IsFollowed, walk_objections}
use Rattle.cert_check.specs.Walking.{IsFresh, IsRefused, IsTaken, graph_span}
use Rattle.cert_check.proofs.FailingLemmas.{failing_refutes}
use Rattle.cert_check.proofs.WalkFollowing.{leads_of}
use Rattle.cert_check.proofs.WalkVerdict.{after_walk, at_entry, cost_after_walk, cost_left, finished, same_cost}

module _ (flow : Flow) (tree : Tree) (index : Index) (well : IsWellFormed flow) (t : IsTree flow tree) (indexed : IsIndex (length flow.places) tree.spans index) (x : Walker) (fresh : IsFresh (length flow.places) x) (cert : Cert) where
  abbrev place : ℕ → Place
  place = place_in flow tree

  entry_is : place_in flow tree x.number ≡ flow.entry
  entry_is = at_entry flow tree index well t indexed x fresh

  -- lines that were followed begin a walk, ..
  begun : (items : List CertItem) (least : ℕ) (y : Walker) → IsTaken flow tree index (graph_span flow) 16 least (followed flow items) x y → IsBegun flow tree items (place_in flow tree y.number)
  begun items least y a = record {
    walk = a.walk;
    followed_is = ap (followed flow items) (sym entry_is) ∙ a.walk_is;
    leads = subst (λ (p : Place). Leads edge_shape (HasEdge flow) p a.walk.opened.walk (place y.number)) entry_is (leads_of flow tree index well (graph_span flow) 16 least (followed flow items) x y t a);
    repeats = a.repeats;
  }

  -- .. and lines that were refused begin none
  none_begun : (items : List CertItem) → IsRefused flow tree (graph_span flow) 16 (followed flow items) x.number → (p : Place) → IsBegun flow tree items p → ⊥
  none_begun items refused p b =
      refused b.walk p (ap (followed flow items) entry_is ∙ b.followed_is) (subst (λ (q : Place). Leads edge_shape (HasEdge flow) q b.walk.opened.walk p) (sym entry_is) b.leads)
      (λ k d lt n le to. member_from (graph_span flow) n (omega arith) le) b.repeats

  breaks_at : (i : ℕ) → StraysAt flow tree index (graph_span flow) 16 cert.walk x i → BreaksAt flow tree cert.walk i
  breaks_at i s = record {
    inside = s.inside;
    place = place s.here.number;
    before = begun (take i cert.walk) (length (take i cert.walk)) s.here s.taken;
    fails = none_begun (take (i + 1) cert.walk) s.refused;
  }

  pub broken_walk : (i : ℕ) → StraysAt flow tree index (graph_span flow) 16 cert.walk x i → IsFirstFailing flow tree cert walk_objections (Some (f.BrokenWalk i))
  broken_walk i s = record { verdict_is = inl (refl, failing_refutes flow tree cert (f.BrokenWalk i) (breaks_at i s)); fails = breaks_at i s }

  module _ (y : Walker) (a : IsTaken flow tree index (graph_span flow) 16 (length cert.walk) (followed flow cert.walk) x y) where
    pub open_walk : y.number ≢ length flow.places → IsFirstFailing flow tree cert walk_objections (Some (f.OpenWalk (place_in flow tree y.number)))
    open_walk other =
        let inside : place_in flow tree y.number ≢ Exit = λ is. other (exit_is flow tree well t y.number a.ready.known is) in
        let open_at : IsBegun flow tree cert.walk (place_in flow tree y.number) × (place_in flow tree y.number ≢ Exit) = (begun cert.walk (length cert.walk) y a, inside) in
        record { verdict_is = inl (refl, failing_refutes flow tree cert (f.OpenWalk (place_in flow tree y.number)) open_at); fails = open_at }

    module _ (done : y.number ≡ length flow.places) where
      is_walk : IsFollowed flow tree cert.walk a.walk
      is_walk = finished flow tree index well t indexed x fresh cert y a done

      breaks_bound : (s : Span) → y.over ≡ Some s → BreaksBound flow tree cert (place_in flow tree s.header) s.bound
      breaks_bound s over =
          let more = (after_walk flow tree index well t indexed x fresh cert y a done).broken s over in
          let i = instance_of flow tree well t s more.0 in
          let shape = t.ordered.shape s more.0 in
          record {
            walk = a.walk;
            is_walk = is_walk;
            instance = i.instance;
            in_tree = i.in_tree;
            header_is = sym (header_place i.instance (place_in flow tree s.header) (i.span_is.headers s.header (omega (arith, shape.0, shape.1)) ∙ eq-eqb s.header s.header refl));
            bound_is = sym i.span_is.bound;
            breaks = λ keeps.
                let there : Keeps (O.is_inside s) (O.ends_at_header s) s.bound (edges_of tree.edges a.numbers) =
                keeps_there (step_at flow.edges) (edge_at tree.edges) (G.is_inside edge_shape place_loops i.instance) (G.ends_at_header edge_shape place_loops i.instance) (O.is_inside s) (O.ends_at_header s) i.instance.bound s.bound (sym i.span_is.bound) a.numbers (agree_all flow tree well t i.instance s i.span_is a.numbers a.inside)
                (subst (λ (w : List Edge). G.KeepsBound edge_shape place_loops i.instance w) a.edges_are keeps) in
                let few : most_in s (edges_of tree.edges a.numbers) ≤ s.bound = most_from_keeps (O.is_inside s) (O.ends_at_header s) s.bound (edges_of tree.edges a.numbers) there in
                omega (arith, few, more.1);
          }

      pub over_walk : (s : Span) → y.over ≡ Some s → IsFirstFailing flow tree cert walk_objections (Some (f.WalkOverBound (place_in flow tree s.header) s.bound))
      over_walk s over = record {
        verdict_is = inr ((a.walk, is_walk), inl (refl, failing_refutes flow tree cert (f.WalkOverBound (place_in flow tree s.header) s.bound) (breaks_bound s over)));
        fails = breaks_bound s over;
      }

      costs_other : cert.bound < 2 ^ 64 → y.cost ≢ cert.bound → CostsOther flow tree cert y.cost
      costs_other fits other =
          let cost = cost_after_walk flow tree index well t indexed x fresh cert y a done in
          record { walk = a.walk; is_walk = is_walk; cost_is = cost; other = λ is. other (omega (arith, cost, is, fits)) }

      pub cost_walk : y.over ≡ None → cert.bound < 2 ^ 64 → y.cost ≢ cert.bound → IsFirstFailing flow tree cert walk_objections (Some (f.WalkCost y.cost))
      cost_walk fine fits other = record {
        verdict_is = cost_left flow tree index well t indexed x fresh cert y a done (No o.WalkCost) fine (inl (refl, failing_refutes flow tree cert (f.WalkCost y.cost) (costs_other fits other)));
        fails = costs_other fits other;
      }

      pub walk_passes : y.over ≡ None → cert.bound < 2 ^ 64 → y.cost ≡ cert.bound → IsFirstFailing flow tree cert walk_objections None
      walk_passes fine fits same = record {
        verdict_is = cost_left flow tree index well t indexed x fresh cert y a done Yes fine (inr (same_cost flow tree index well t indexed x fresh cert y a done fits same, refl));
        fails = tt;
      }
