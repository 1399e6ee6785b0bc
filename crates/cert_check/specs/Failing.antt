-- What fails in a certificate that gets an objection.
use Rattle.std.specs.Prelude.{◌≡◌, ◌≢◌, ℕ, ◌+◌, ◌<◌, false, true, List, length, map, slice_index_or}
use Rattle.std.specs.Prelude.{take, Contains, Option, Some, None, IfSome}
use Rattle.walks.specs.Walk.{Leads, cost_of}
use Rattle.walks.specs.Greatest.{KeepsBound}
use Rattle.walks.specs.Rows as rows
use Rattle.control_flow.specs.declared.places.Place.{Place}
use Rattle.control_flow.specs.declared.places.Place.TheVariants.{Exit}
use Rattle.control_flow.specs.declared.edges.Edge.{Edge}
use Rattle.control_flow.specs.Flow.{Flow, HasEdge, edge_shape}
use Rattle.loop_bounds.specs.Instance.{Instance, place_loops}
use Rattle.loop_bounds.specs.Tree.{Tree}
use Rattle.longest_walk.specs.Folded.{most_nested}
use Rattle.longest_walk.specs.Longest.{AreRepeats}
use Rattle.longest_walk.specs.Rows.{header_of, header_of_row, is_exit, place_of_row}
use Rattle.certificate.specs.declared.cert.Cert.{Cert}
use Rattle.certificate.specs.declared.walk.CertItem.{CertItem}
use Rattle.cert_check.specs.declared.failing.FailingRow.{FailingRow}
use Rattle.cert_check.specs.declared.failing.FailingRow.TheVariants as f
use Rattle.cert_check.specs.declared.failing.HeavyRow.{HeavyRow}
use Rattle.cert_check.specs.declared.verdict.Objection.{Objection}
use Rattle.cert_check.specs.declared.verdict.Objection.TheVariants as o
use Rattle.cert_check.specs.declared.verdict.Verdict.{Verdict}
use Rattle.cert_check.specs.declared.verdict.Verdict.TheVariants.{Yes, No}
use Rattle.cert_check.specs.Followed.{Followed, followed}
use Rattle.cert_check.specs.Verdict.{IsFirstOf, IsFollowed, RowHolds, goes_back, goes_out, potentials}
use Rattle.cert_check.specs.Walking.{capped_cost}
use Rattle.cert_check.specs.Weighing.{RowFits}

-- ## The first of a list

-- the first of the list that does not have the property
pub record IsFirstWithout {A : Type 0} (P : A → Type 0) (xs : List A) (x : A) : Type 0 where
  pub index : ℕ
  pub inside : index < length xs
  pub there : slice_index_or xs index x ≡ x
  pub passed : (k : ℕ) → k < index → P (slice_index_or xs k x)
  pub fails : P x → ⊥

-- ## Rows

-- the row of the edge asks for more than the number that it is about
pub record IsHeavy (tree : Tree) (cert : Cert) (h : HeavyRow) : Type 0 where
  pub needed_is : h.needed ≡ rows.needed edge_shape place_loops tree.instances (potentials cert) h.edge
  pub stated_is : rows.limit_of edge_shape place_loops tree.instances (potentials cert) is_exit h.edge
      ≡ Some h.stated
  pub less : h.stated < h.needed

-- the row holds, if the edge neither goes back nor leaves an instance
abbrev pub PlainHolds : Tree → Cert → Edge → Type 0
PlainHolds tree cert e = goes_back tree e ≡ false → goes_out tree e ≡ false → RowHolds tree cert e

-- the row holds, if the edge goes back
abbrev pub RoundHolds : Tree → Cert → Edge → Type 0
RoundHolds tree cert e = goes_back tree e ≡ true → RowHolds tree cert e

-- the row holds, if the edge leaves an instance and does not go back
abbrev pub LeaveHolds : Tree → Cert → Edge → Type 0
LeaveHolds tree cert e = goes_back tree e ≡ false → goes_out tree e ≡ true → RowHolds tree cert e

-- ## The walk

-- the items stand for a walk from the entry to this place, whose repeats are as a certificate asks
pub record IsBegun (flow : Flow) (tree : Tree) (items : List CertItem) (p : Place) : Type 0 where
  pub walk : Followed
  pub followed_is : followed flow items flow.entry ≡ Some walk
  pub leads : Leads edge_shape (HasEdge flow) flow.entry walk.opened.walk p
  pub repeats : AreRepeats flow tree most_nested walk.opened

-- the items before this one stand for such a walk, and with this one for none
pub record BreaksAt (flow : Flow) (tree : Tree) (items : List CertItem) (index : ℕ) : Type 0 where
  pub inside : index < length items
  pub place : Place
  pub before : IsBegun flow tree (take index items) place
  pub fails : (p : Place) → IsBegun flow tree (take (index + 1) items) p → ⊥

-- the certificate's walk takes more back edges in a stay in an instance with this header than this, its bound
pub record BreaksBound (flow : Flow) (tree : Tree) (cert : Cert) (header : Place) (bound : ℕ) : Type 0 where
  pub walk : Followed
  pub is_walk : IsFollowed flow tree cert.walk walk
  pub instance : Instance
  pub in_tree : Contains tree.instances instance
  pub header_is : header_of instance ≡ header
  pub bound_is : instance.bound ≡ bound
  pub breaks : KeepsBound edge_shape place_loops instance walk.opened.walk → ⊥

-- the certificate's walk costs this, capped at 2^64, and not the bound
pub record CostsOther (flow : Flow) (tree : Tree) (cert : Cert) (cost : ℕ) : Type 0 where
  pub walk : Followed
  pub is_walk : IsFollowed flow tree cert.walk walk
  pub cost_is : cost ≡ capped_cost (cost_of edge_shape walk.opened.walk)
  pub other : cost_of edge_shape walk.opened.walk ≢ cert.bound

-- ## What fails

abbrev pub IsFailing : Flow → Tree → Cert → FailingRow → Type 0
IsFailing flow tree cert f.WrongProfile = cert.profile ≢ flow.profile
IsFailing flow tree cert (f.MissingPlace p) =
    IsFirstWithout (Contains (map place_of_row cert.places)) flow.places p
IsFailing flow tree cert (f.MissingInstance p) =
    IsFirstWithout (Contains (map header_of_row cert.instances)) (map header_of tree.instances) p
IsFailing flow tree cert (f.ExtraPlace p) =
    IsFirstWithout (Contains flow.places) (map place_of_row cert.places) p
IsFailing flow tree cert (f.ExtraInstance p) =
    IsFirstWithout (Contains (map header_of tree.instances)) (map header_of_row cert.instances) p
IsFailing flow tree cert (f.NumberTooLarge e) = IsFirstWithout (RowFits tree cert) flow.edges e
IsFailing flow tree cert (f.EdgeTooHeavy h) =
    IsFirstWithout (PlainHolds tree cert) flow.edges h.edge × IsHeavy tree cert h
IsFailing flow tree cert (f.RoundTooHeavy h) =
    IsFirstWithout (RoundHolds tree cert) flow.edges h.edge × IsHeavy tree cert h
IsFailing flow tree cert (f.LeaveTooHeavy h) =
    IsFirstWithout (LeaveHolds tree cert) flow.edges h.edge × IsHeavy tree cert h
IsFailing flow tree cert (f.BrokenWalk index) = BreaksAt flow tree cert.walk index
IsFailing flow tree cert (f.OpenWalk p) = IsBegun flow tree cert.walk p × (p ≢ Exit)
IsFailing flow tree cert (f.WalkOverBound header bound) = BreaksBound flow tree cert header bound
IsFailing flow tree cert (f.WalkCost cost) = CostsOther flow tree cert cost

abbrev pub objection_of : FailingRow → Objection
objection_of f.WrongProfile = o.WrongProfile
objection_of (f.MissingPlace p) = o.MissingPlace
objection_of (f.MissingInstance p) = o.MissingPlace
objection_of (f.ExtraPlace p) = o.ExtraPlace
objection_of (f.ExtraInstance p) = o.ExtraPlace
objection_of (f.NumberTooLarge e) = o.NumberTooLarge
objection_of (f.EdgeTooHeavy h) = o.EdgeTooHeavy
objection_of (f.RoundTooHeavy h) = o.RoundTooHeavy
objection_of (f.LeaveTooHeavy h) = o.LeaveTooHeavy
objection_of (f.BrokenWalk index) = o.BrokenWalk
objection_of (f.OpenWalk p) = o.BrokenWalk
objection_of (f.WalkOverBound header bound) = o.WalkOverBound
objection_of (f.WalkCost cost) = o.WalkCost

-- ## With the verdict

abbrev pub verdict_of : Option FailingRow → Verdict
verdict_of None = Yes
verdict_of (Some row) = No (objection_of row)

-- of these objections the verdict's is the row's, which fails; and none where all are passed
pub record IsFirstFailing (flow : Flow) (tree : Tree) (cert : Cert) (tests : List Objection)
    (row : Option FailingRow) : Type 0 where
  pub verdict_is : IsFirstOf flow tree cert tests (verdict_of row)
  pub fails : IfSome row (IsFailing flow tree cert)
