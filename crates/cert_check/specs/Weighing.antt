-- The rows by the numbers of a tree's order.
use Rattle.std.specs.Prelude.{◌≡◌, ◌≢◌, ℕ, ◌<◌, Bool, true, false, not, List, Option, length, AllPairs}
use Rattle.std.specs.List.{list_any}
use Rattle.walks.specs.Rows as rows
use Rattle.control_flow.specs.declared.edges.Edge.{Edge}
use Rattle.control_flow.specs.Flow.{edge_shape}
use Rattle.loop_bounds.specs.Instance.{place_loops}
use Rattle.loop_bounds.specs.Tree.{Tree}
use Rattle.longest_walk.specs.Rows.{is_exit}
use Rattle.numbered_walks.specs.declared.span.NumberedEdge.{NumberedEdge}
use Rattle.numbered_walks.specs.declared.span.Span.{Span}
use Rattle.numbered_walks.specs.declared.tables.Tables.{Tables}
use Rattle.numbered_walks.specs.Index.{AreHeaders, AreHolders, is_up}
use Rattle.numbered_walks.specs.Ordered.{number_shape, span_loops}
use Rattle.numbered_walks.specs.Tables as T
use Rattle.certificate.specs.declared.cert.Cert.{Cert}
use Rattle.cert_check.specs.declared.index.Index.{Index}
use Rattle.cert_check.specs.declared.weighing.RowTest.{RowTest}
use Rattle.cert_check.specs.declared.weighing.RowTest.TheVariants as t
use Rattle.cert_check.specs.declared.weighing.Weighing.{Weighing}
use Rattle.cert_check.specs.Verdict.{RowHolds, goes_back, goes_out, potentials}

-- what a test asks of an edge's row, by whether the edge goes back and whether it leaves an instance
abbrev pub Asks : RowTest → Type 0 → Type 0 → Bool → Bool → Type 0
Asks t.Fits fits holds back out = fits
Asks t.Plain fits holds back out = back ≡ false → out ≡ false → holds
Asks t.Round fits holds back out = back ≡ true → holds
Asks t.Leave fits holds back out = back ≡ false → out ≡ true → holds

-- ## By place

abbrev pub RowFits : Tree → Cert → Edge → Type 0
RowFits tree cert e = rows.RowFits edge_shape place_loops tree.instances (potentials cert) is_exit e

abbrev pub EdgePasses : Tree → Cert → RowTest → Edge → Type 0
EdgePasses tree cert test e =
    Asks test (RowFits tree cert e) (RowHolds tree cert e) (goes_back tree e) (goes_out tree e)

-- ## By number

abbrev pub NumberHolds : ℕ → List Span → Tables → NumberedEdge → Type 0
NumberHolds exit spans c e =
    rows.RowHolds number_shape span_loops spans (T.potentials_of c) (T.is_exit exit) e

abbrev pub NumberFits : ℕ → List Span → Tables → NumberedEdge → Type 0
NumberFits exit spans c e = rows.RowFits number_shape span_loops spans (T.potentials_of c) (T.is_exit exit) e

abbrev pub leaves : List Span → NumberedEdge → Bool
leaves spans e = list_any (rows.is_left number_shape span_loops e) spans

abbrev pub NumberPasses : ℕ → List Span → Tables → RowTest → NumberedEdge → Type 0
NumberPasses exit spans c test e =
    Asks test (NumberFits exit spans c e) (NumberHolds exit spans c e) (not (is_up e)) (leaves spans e)

-- the index knows the ends of the edge
pub record CanWeigh (spans : List Span) (index : Index) (e : NumberedEdge) : Type 0 where
  pub held : AreHolders spans index.holders.items
  pub headers : AreHeaders spans index.headers.items
  pub differ : AllPairs (λ s t. s.header ≢ t.header) spans
  pub from_in : e.from < length index.holders.items
  pub to_in : e.to < length index.headers.items

-- ## By what rows are weighed by

module _ (weighing : Weighing) where
  -- the number that the row of an edge is about: none for a back edge of bound 0
  abbrev pub limit_by : NumberedEdge → Option ℕ
  limit_by e =
      rows.limit_of
      number_shape
      span_loops
      weighing.spans.now
      (T.potentials_of weighing.tables.now)
      (T.is_exit weighing.exit)
      e

  -- what the row asks for, in ticks
  abbrev pub needed_by : NumberedEdge → ℕ
  needed_by e = T.needed weighing.spans.now weighing.tables.now e

  abbrev pub FitsBy : NumberedEdge → Type 0
  FitsBy e = NumberFits weighing.exit weighing.spans.now weighing.tables.now e

  abbrev pub HoldsBy : NumberedEdge → Type 0
  HoldsBy e = NumberHolds weighing.exit weighing.spans.now weighing.tables.now e

  abbrev pub PassesBy : RowTest → NumberedEdge → Type 0
  PassesBy test e = NumberPasses weighing.exit weighing.spans.now weighing.tables.now test e

  abbrev pub CanWeighBy : NumberedEdge → Type 0
  CanWeighBy e = CanWeigh weighing.spans.now weighing.index.now e
