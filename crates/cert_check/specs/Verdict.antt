-- What the check of a certificate answers.
use Rattle.std.specs.Prelude.{◌≡◌, ◌⊎◌, Bool, true, false, List, [], ◌∷◌, map, All, Contains, Some}
use Rattle.std.specs.List.{list_any}
use Rattle.walks.specs.Walk.{cost_of}
use Rattle.walks.specs.Greatest.{is_back_edge}
use Rattle.walks.specs.Rows as rows
use Rattle.control_flow.specs.declared.places.Place.{Place}
use Rattle.control_flow.specs.declared.edges.Edge.{Edge}
use Rattle.control_flow.specs.Flow.{Flow, HasEdge, edge_shape}
use Rattle.loop_bounds.specs.Bounds.{IsCompleteWalk}
use Rattle.loop_bounds.specs.Instance.{Instance, place_loops}
use Rattle.loop_bounds.specs.Tree.{Tree}
use Rattle.longest_walk.specs.Folded.{most_nested}
use Rattle.longest_walk.specs.Longest.{AreRepeats, KeepsTree}
use Rattle.longest_walk.specs.Rows.{RowsFit, header_of, header_of_row, is_exit, place_of_row, potentials_of}
use Rattle.certificate.specs.declared.cert.Cert.{Cert}
use Rattle.certificate.specs.declared.walk.CertItem.{CertItem}
use Rattle.cert_check.specs.declared.verdict.Objection.{Objection}
use Rattle.cert_check.specs.declared.verdict.Objection.TheVariants as o
use Rattle.cert_check.specs.declared.verdict.Verdict.{Verdict}
use Rattle.cert_check.specs.declared.verdict.Verdict.TheVariants.{Yes, No}
use Rattle.cert_check.specs.Followed.{Followed, followed}

-- ## Which rows there are

abbrev pub HasAll : List Place → List Place → Type 0
HasAll wanted given = All (λ p. Contains given p) wanted

-- each place and each instance has a row
pub record IsFull (flow : Flow) (tree : Tree) (cert : Cert) : Type 0 where
  pub places : HasAll flow.places (map place_of_row cert.places)
  pub instances : HasAll (map header_of tree.instances) (map header_of_row cert.instances)

-- each row is about a place or an instance
pub record HasNoMore (flow : Flow) (tree : Tree) (cert : Cert) : Type 0 where
  pub places : HasAll (map place_of_row cert.places) flow.places
  pub instances : HasAll (map header_of_row cert.instances) (map header_of tree.instances)

-- ## What the rows ask

abbrev pub potentials : Cert → rows.Potentials Place Instance
potentials cert = potentials_of cert.bound cert.places cert.instances

-- a back edge of an instance
abbrev pub goes_back : Tree → Edge → Bool
goes_back tree e = list_any (λ i. is_back_edge edge_shape place_loops i e) tree.instances

-- the edge leaves an instance
abbrev pub goes_out : Tree → Edge → Bool
goes_out tree e = list_any (rows.is_left edge_shape place_loops e) tree.instances

abbrev pub RowHolds : Tree → Cert → Edge → Type 0
RowHolds tree cert e = rows.RowHolds edge_shape place_loops tree.instances (potentials cert) is_exit e

-- the rows of back edges hold, ..
abbrev pub RoundsHold : Flow → Tree → Cert → Type 0
RoundsHold flow tree cert = (e : Edge) → HasEdge flow e → goes_back tree e ≡ true → RowHolds tree cert e

-- .. those of other edges that leave an instance, ..
abbrev pub LeavesHold : Flow → Tree → Cert → Type 0
LeavesHold flow tree cert =
    (e : Edge) → HasEdge flow e → goes_back tree e ≡ false → goes_out tree e ≡ true → RowHolds tree cert e

-- .. and those of all others
abbrev pub EdgesHold : Flow → Tree → Cert → Type 0
EdgesHold flow tree cert =
    (e : Edge) → HasEdge flow e → goes_back tree e ≡ false → goes_out tree e ≡ false → RowHolds tree cert e

-- ## The walk

-- what the walk's lines stand for from the entry is a complete walk, whose repeats are as a certificate asks
pub record IsFollowed (flow : Flow) (tree : Tree) (items : List CertItem) (walk : Followed) : Type 0 where
  pub followed_is : followed flow items flow.entry ≡ Some walk
  pub complete : IsCompleteWalk flow walk.opened.walk
  pub repeats : AreRepeats flow tree most_nested walk.opened

abbrev pub KeepsAll : Flow → Tree → Cert → Type 0
KeepsAll flow tree cert =
    (walk : Followed) → IsFollowed flow tree cert.walk walk → KeepsTree tree walk.opened.walk

abbrev pub CostsBound : Flow → Tree → Cert → Type 0
CostsBound flow tree cert =
    (walk : Followed) → IsFollowed flow tree cert.walk walk → cost_of edge_shape walk.opened.walk ≡ cert.bound

-- ## The verdict

-- what a certificate has to pass so as not to get the objection
abbrev pub Passes : Flow → Tree → Cert → Objection → Type 0
Passes flow tree cert o.WrongProfile = cert.profile ≡ flow.profile
Passes flow tree cert o.MissingPlace = IsFull flow tree cert
Passes flow tree cert o.ExtraPlace = HasNoMore flow tree cert
Passes flow tree cert o.NumberTooLarge = RowsFit flow tree (potentials cert)
Passes flow tree cert o.EdgeTooHeavy = EdgesHold flow tree cert
Passes flow tree cert o.RoundTooHeavy = RoundsHold flow tree cert
Passes flow tree cert o.LeaveTooHeavy = LeavesHold flow tree cert
Passes flow tree cert o.BrokenWalk = (walk : Followed) × IsFollowed flow tree cert.walk walk
Passes flow tree cert o.WalkOverBound = KeepsAll flow tree cert
Passes flow tree cert o.WalkCost = CostsBound flow tree cert

-- the order of the tests
abbrev pub objections : List Objection
objections =
    o.WrongProfile ∷ o.MissingPlace ∷ o.ExtraPlace ∷ o.NumberTooLarge ∷ o.EdgeTooHeavy ∷ o.RoundTooHeavy
    ∷ o.LeaveTooHeavy ∷ o.BrokenWalk ∷ o.WalkOverBound ∷ o.WalkCost ∷ []

-- those that the prices and the list of rows can meet
abbrev pub presence_objections : List Objection
presence_objections = o.WrongProfile ∷ o.MissingPlace ∷ o.ExtraPlace ∷ []

-- those that the rows can meet
abbrev pub row_objections : List Objection
row_objections = o.NumberTooLarge ∷ o.EdgeTooHeavy ∷ o.RoundTooHeavy ∷ o.LeaveTooHeavy ∷ []

-- those that the walk can meet
abbrev pub walk_objections : List Objection
walk_objections = o.BrokenWalk ∷ o.WalkOverBound ∷ o.WalkCost ∷ []

-- No with the first of these that is not passed, and Yes where all are
abbrev pub IsFirstOf : Flow → Tree → Cert → List Objection → Verdict → Type 0
IsFirstOf flow tree cert [] v = v ≡ Yes
IsFirstOf flow tree cert (x ∷ rest) v =
    ((v ≡ No x) × (Passes flow tree cert x → ⊥)) ⊎ (Passes flow tree cert x × IsFirstOf flow tree cert rest v)

abbrev pub IsVerdict : Flow → Tree → Cert → Verdict → Type 0
IsVerdict flow tree cert v = IsFirstOf flow tree cert objections v
