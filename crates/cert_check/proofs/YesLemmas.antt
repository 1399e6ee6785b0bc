-- The verdict Yes means that the bound is the greatest.
use Rattle.std.proofs.Common.{◌≡◌, ◌∙◌, ◌≤◌, Bool, true, false, List, [], ◌∷◌, length, Contains, inl, inr, refl, sym, subst, arith}
use Rattle.std.specs.List.{AllByRecursion}
use Rattle.std.proofs.lemmas.Bool.{eq-eqb}
use Rattle.walks.specs.Greatest.{IsGreatest}
use Rattle.walks.specs.Walk.{cost_of}
use Rattle.loop_bounds.specs.Bounds.{IsCompleteWalk}
use Rattle.walks.proofs.RowLemmas.{walk_to_exit-le}
use Rattle.control_flow.specs.declared.places.Place.{Place}
use Rattle.control_flow.specs.declared.places.Place.TheVariants.{At, Exit}
use Rattle.control_flow.specs.declared.edges.Edge.{Edge}
use Rattle.control_flow.specs.Flow.{Flow, HasEdge, IsWellFormed, edge_shape}
use Rattle.loop_bounds.specs.Instance.{Instance, is_header, is_member, place_loops}
use Rattle.loop_bounds.specs.Tree.{IsTree, Tree, place_in}
use Rattle.loop_bounds.proofs.ExtentOf.{header_place}
use Rattle.numbered_walks.specs.declared.span.Span.{Span}
use Rattle.numbered_walks.proofs.Members.{member_from}
use Rattle.longest_walk.proofs.CarryWalks.{span_of}
use Rattle.longest_walk.specs.Longest.{KeepsTree}
use Rattle.longest_walk.specs.Rows.{RowsHold, is_exit}
use Rattle.longest_walk.proofs.CarryPotentials.{exit_inside}
use Rattle.certificate.specs.declared.cert.Cert.{Cert}
use Rattle.cert_check.specs.declared.verdict.Objection.{Objection}
use Rattle.cert_check.specs.declared.verdict.Verdict.TheVariants.{Yes}
use Rattle.cert_check.specs.Verdict.{EdgesHold, IsFirstOf, IsVerdict, LeavesHold, Passes, RoundsHold, RowHolds, goes_back, goes_out, objections, potentials}

-- the three kinds of rows are all rows
pub all_rows : (flow : Flow) (tree : Tree) (cert : Cert) → EdgesHold flow tree cert → RoundsHold flow tree cert → LeavesHold flow tree cert → RowsHold flow tree (potentials cert)
all_rows flow tree cert edges rounds leaves e in_graph = by (goes_back tree e) (goes_out tree e) refl refl
  where
    by : (back out : Bool) → goes_back tree e ≡ back → goes_out tree e ≡ out → RowHolds tree cert e
    by true out is_back is_out = rounds e in_graph is_back
    by false true is_back is_out = leaves e in_graph is_back is_out
    by false false is_back is_out = edges e in_graph is_back is_out

module _ (flow : Flow) (tree : Tree) (well : IsWellFormed flow) (t : IsTree flow tree) where
  -- the header of an instance is a member of it
  header_in : (i : Instance) → Contains tree.instances i → (p : Place) → is_header i p ≡ true → is_member i p ≡ true
  header_in i has p is =
      let h = span_of flow tree well t i has in
      let s : Span = h.span in
      let shape = t.ordered.shape s h.in_tree in
      let inside : s.header ≤ length flow.places = omega (arith, shape.0, shape.1) in
      let q : Place = place_in flow tree s.header in
      let at_header : is_header i q ≡ true = h.span_is.headers s.header inside ∙ eq-eqb s.header s.header refl in
      let there : q ≡ p = header_place i q at_header ∙ sym (header_place i p is) in
      let member : is_member i q ≡ true = h.span_is.members s.header inside ∙ member_from s s.header (omega arith) shape.0 in
      subst (λ (x : Place). is_member i x ≡ true) there member

  exit_outside : (i : Instance) → Contains tree.instances i → (p : Place) → is_exit p ≡ true → is_member i p ≡ false
  exit_outside i has (At calls a) is = cc
  exit_outside i has Exit is = refl

  module _ (cert : Cert) (rows : RowsHold flow tree (potentials cert)) where
    pub upper : (walk : List Edge) → IsCompleteWalk flow walk → KeepsTree tree walk → cost_of edge_shape walk ≤ cert.bound
    upper walk complete kept = walk_to_exit-le edge_shape place_loops is_exit (HasEdge flow) tree.instances (potentials cert) header_in exit_outside (λ e has. exit_inside flow tree well t e.from (well.starts e has)) rows flow.entry Exit refl walk complete kept

-- what gets Yes has passed each test
pub all_passed : (flow : Flow) (tree : Tree) (cert : Cert) (xs : List Objection) → IsFirstOf flow tree cert xs Yes → AllByRecursion (Passes flow tree cert) xs
all_passed flow tree cert [] v = tt
all_passed flow tree cert (x ∷ xs) (inl failed) = absurd (cc failed.0)
all_passed flow tree cert (x ∷ xs) (inr both) = (both.0, all_passed flow tree cert xs both.1)

pub yes_is_greatest : (flow : Flow) (tree : Tree) (cert : Cert) → IsWellFormed flow → IsTree flow tree → IsVerdict flow tree cert Yes → IsGreatest edge_shape (HasEdge flow) (KeepsTree tree) flow.entry Exit cert.bound
yes_is_greatest flow tree cert well t v =
    let (profile, (missing, (extra, (large, (edges, (rounds, (leaves, (walk, (kept, (costs, end)))))))))) = all_passed flow tree cert objections v in
    record {
      walk = (walk.0).opened.walk;
      complete = (walk.1).complete;
      kept = kept walk.0 walk.1;
      costs = costs walk.0 walk.1;
      upper = upper flow tree well t cert (all_rows flow tree cert edges rounds leaves);
    }
