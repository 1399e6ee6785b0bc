-- What fails in a certificate, and the tests that it is found by.
use Rattle.std.proofs.Common.{◌≡◌, ◌∙◌, ℕ, ◌<◌, List, length, get_or, map, All, Contains, Option, Some, None, inl, inr, refl, sym, subst}
use Rattle.std.specs.Prelude.{MatchOption}
use Rattle.std.proofs.lemmas.Option.{same_Some}
use Rattle.walks.specs.Walk.{Leads}
use Rattle.control_flow.specs.declared.places.Place.{Place}
use Rattle.control_flow.specs.declared.places.Place.TheVariants.{Exit}
use Rattle.control_flow.specs.declared.edges.Edge.{Edge}
use Rattle.control_flow.specs.Flow.{Flow, HasEdge, edge_shape}
use Rattle.loop_bounds.specs.Tree.{Tree}
use Rattle.longest_walk.specs.Rows.{header_of, header_of_row, place_of_row}
use Rattle.certificate.specs.declared.cert.Cert.{Cert}
use Rattle.cert_check.specs.declared.failing.FailingRow.{FailingRow}
use Rattle.cert_check.specs.declared.failing.FailingRow.TheVariants as f
use Rattle.cert_check.specs.Failing.{IsFailing, IsFirstFailing, IsFirstWithout, LeaveHolds, PlainHolds, RoundHolds, objection_of}
use Rattle.cert_check.specs.Followed.{Followed}
use Rattle.cert_check.specs.Presence.{Lists}
use Rattle.cert_check.specs.Verdict.{HasAll, Passes, presence_objections, row_objections}
use Rattle.cert_check.specs.Weighing.{RowFits}
use Rattle.cert_check.proofs.FrontLemmas.{breaks_none}
use Rattle.cert_check.proofs.WalkParts.{ends_same}

-- ## The first of a list

module _ {A : Type 0} (P : A → Type 0) (xs : List A) (x : A) where
  pub first_in : IsFirstWithout P xs x → Contains xs x
  first_in first = (first.index, first.inside, first.there)

  pub first_fails : IsFirstWithout P xs x → All P xs → ⊥
  first_fails first all = first.fails (subst P first.there (all first.index x first.inside))

  pub first_at : (k : ℕ) → k < length xs → get_or xs k x ≡ x → ((j : ℕ) (d : A) → j < k → P (get_or xs j d)) → (P x → ⊥) → IsFirstWithout P xs x
  first_at k lt at passed fails = record { index = k; inside = lt; there = at; passed = λ j below. passed j x below; fails = fails }

-- what was found among some places by others is found by equal ones, ..
pub found_over : (o : Option Place) (wanted given ws gs : List Place) → wanted ≡ ws → given ≡ gs → MatchOption o (HasAll wanted given) (IsFirstWithout (Contains given) wanted) → MatchOption o (HasAll ws gs) (IsFirstWithout (Contains gs) ws)
found_over o wanted given ws gs one other found =
    subst (λ (xs : List Place). MatchOption o (HasAll xs gs) (IsFirstWithout (Contains gs) xs)) one
    (subst (λ (ys : List Place). MatchOption o (HasAll wanted ys) (IsFirstWithout (Contains ys) wanted)) other found)

-- .. and by the same in another order
pub found_listed : (o : Option Place) (wanted given listed : List Place) → Lists given listed → MatchOption o (HasAll wanted listed) (IsFirstWithout (Contains listed) wanted) → MatchOption o (HasAll wanted given) (IsFirstWithout (Contains given) wanted)
found_listed None wanted given listed l all = λ k d lt. (l.same (get_or wanted k d)).1 (all k d lt)
found_listed (Some x) wanted given listed l first = record {
  index = first.index;
  inside = first.inside;
  there = first.there;
  passed = λ k lt. (l.same (get_or wanted k x)).1 (first.passed k lt);
  fails = λ has. first.fails ((l.same x).0 has);
}

-- ## What fails is not passed

module _ (flow : Flow) (tree : Tree) (cert : Cert) where
  pub failing_refutes : (row : FailingRow) → IsFailing flow tree cert row → Passes flow tree cert (objection_of row) → ⊥
  failing_refutes f.WrongProfile other same = other same
  failing_refutes (f.MissingPlace p) first full = first_fails (Contains (map place_of_row cert.places)) flow.places p first full.places
  failing_refutes (f.MissingInstance p) first full = first_fails (Contains (map header_of_row cert.instances)) (map header_of tree.instances) p first full.instances
  failing_refutes (f.ExtraPlace p) first no_more = first_fails (Contains flow.places) (map place_of_row cert.places) p first no_more.places
  failing_refutes (f.ExtraInstance p) first no_more = first_fails (Contains (map header_of tree.instances)) (map header_of_row cert.instances) p first no_more.instances
  failing_refutes (f.NumberTooLarge e) first fit = first.fails (fit e (first_in (RowFits tree cert) flow.edges e first))
  failing_refutes (f.EdgeTooHeavy h) (first, heavy) hold = first.fails (hold h.edge (first_in (PlainHolds tree cert) flow.edges h.edge first))
  failing_refutes (f.RoundTooHeavy h) (first, heavy) hold = first.fails (hold h.edge (first_in (RoundHolds tree cert) flow.edges h.edge first))
  failing_refutes (f.LeaveTooHeavy h) (first, heavy) hold = first.fails (hold h.edge (first_in (LeaveHolds tree cert) flow.edges h.edge first))
  failing_refutes (f.BrokenWalk index) breaks followed = breaks_none flow tree cert.walk index breaks followed
  failing_refutes (f.OpenWalk p) (begun, inside) (w, is) =
      let same = same_Some begun.walk w (sym begun.followed_is ∙ is.followed_is) in
      inside (ends_same edge_shape (HasEdge flow) flow.entry p Exit w.opened.walk
      (subst (λ (g : Followed). Leads edge_shape (HasEdge flow) flow.entry g.opened.walk p) same begun.leads) is.complete)
  failing_refutes (f.WalkOverBound header bound) b keeps = b.breaks (keeps b.walk b.is_walk b.instance b.in_tree)
  failing_refutes (f.WalkCost cost) c costs = c.other (costs c.walk c.is_walk)

  -- ## The rows that there are

  abbrev Present : Option FailingRow → Type 0
  Present row = IsFirstFailing flow tree cert presence_objections row

  module _ (priced : cert.profile ≡ flow.profile) where
    pub missing_place : (p : Place) → IsFirstWithout (Contains (map place_of_row cert.places)) flow.places p → Present (Some (f.MissingPlace p))
    missing_place p first = record { verdict_is = inr (priced, inl (refl, failing_refutes (f.MissingPlace p) first)); fails = first }

    pub missing_instance : (p : Place) → IsFirstWithout (Contains (map header_of_row cert.instances)) (map header_of tree.instances) p → Present (Some (f.MissingInstance p))
    missing_instance p first = record { verdict_is = inr (priced, inl (refl, failing_refutes (f.MissingInstance p) first)); fails = first }

    module _ (places : HasAll flow.places (map place_of_row cert.places)) (instances : HasAll (map header_of tree.instances) (map header_of_row cert.instances)) where
      pub extra_place : (p : Place) → IsFirstWithout (Contains flow.places) (map place_of_row cert.places) p → Present (Some (f.ExtraPlace p))
      extra_place p first = record { verdict_is = inr (priced, inr (record { places = places; instances = instances }, inl (refl, failing_refutes (f.ExtraPlace p) first))); fails = first }

      pub extra_instance : (p : Place) → IsFirstWithout (Contains (map header_of tree.instances)) (map header_of_row cert.instances) p → Present (Some (f.ExtraInstance p))
      extra_instance p first = record { verdict_is = inr (priced, inr (record { places = places; instances = instances }, inl (refl, failing_refutes (f.ExtraInstance p) first))); fails = first }

  -- ## Rows of edges

  abbrev Rowed : Option FailingRow → Type 0
  Rowed row = IsFirstFailing flow tree cert row_objections row

  pub too_large : (e : Edge) → IsFirstWithout (RowFits tree cert) flow.edges e → Rowed (Some (f.NumberTooLarge e))
  too_large e first = record { verdict_is = inl (refl, failing_refutes (f.NumberTooLarge e) first); fails = first }
