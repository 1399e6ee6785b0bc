-- The tests of a row by place and by number.
use Rattle.std.proofs.Common.{◌≡◌, ◌∙◌, ℕ, ◌+◌, ◌<◌, ◌≤◌, Bool, true, not, eqb, ltb, ◌&&◌, List, length, get_or, Contains, ⊎_elim, refl, sym, ap, subst, arith}
use Rattle.std.specs.List.{list_any}
use Rattle.std.proofs.lemmas.Bool.{and_from, and_parts, cases_Bool, cases_lt, eq-eqb, eqb-true, leb-true, le-ltb, lt-ltb}
use Rattle.std.proofs.lemmas.List.Elements.{Contains-get_or}
use Rattle.std.proofs.lemmas.List.{get_or_default}
use Rattle.walks.specs.Greatest.{is_back_edge}
use Rattle.walks.specs.Rows as rows
use Rattle.control_flow.specs.declared.edges.Edge.{Edge}
use Rattle.control_flow.specs.Flow.{Flow, IsWellFormed, edge_shape}
use Rattle.control_flow.proofs.Firsts.{no_edge}
use Rattle.numbered_walks.specs.declared.span.NumberedEdge.{NumberedEdge}
use Rattle.numbered_walks.specs.declared.span.Span.{Span}
use Rattle.numbered_walks.specs.declared.tables.Tables.{Tables}
use Rattle.numbered_walks.specs.Index.{edge_at, is_up}
use Rattle.numbered_walks.specs.Ordered.{GoesUpOrBack, is_in, number_shape, span_loops}
use Rattle.numbered_walks.specs.Tables as T
use Rattle.loop_bounds.specs.Instance.{Instance, place_loops}
use Rattle.loop_bounds.specs.Tree.{IsTree, Tree, place_in}
use Rattle.loop_bounds.proofs.ExtentOf.{header_place}
use Rattle.longest_walk.specs.Built.{step_at}
use Rattle.longest_walk.specs.Rows.{header_of, is_exit}
use Rattle.longest_walk.proofs.CarryPotentials.{AreSame, same_row}
use Rattle.longest_walk.proofs.CarryRows.{SameRow, fit_back, row_back, row_there}
use Rattle.longest_walk.proofs.CarryWalks.{edge_same}
use Rattle.certificate.specs.declared.cert.Cert.{Cert}
use Rattle.cert_check.specs.declared.index.Index.{Index}
use Rattle.cert_check.specs.declared.weighing.RowTest.{RowTest}
use Rattle.cert_check.specs.declared.weighing.RowTest.TheVariants as t
use Rattle.cert_check.specs.Columns.{AreTablesOf, arrival_in, round_in}
use Rattle.cert_check.specs.Index.{IsIndex}
use Rattle.cert_check.specs.Verdict.{RowHolds, goes_back, goes_out, potentials}
use Rattle.cert_check.specs.Weighing.{Asks, CanWeigh, EdgePasses, NumberFits, NumberHolds, NumberPasses, RowFits, leaves}
use Rattle.cert_check.proofs.AnyLemmas.{any_none, any_same, any_some}

-- a test asks the same of rows that are alike
asks_same : (test : RowTest) (F G H K : Type 0) (b c o u : Bool) → (F → G) → (H → K) → b ≡ c → o ≡ u → Asks test F H b o → Asks test G K c u
asks_same t.Fits F G H K b c o u fits holds back out asks = fits asks
asks_same t.Plain F G H K b c o u fits holds back out asks = λ one other. holds (asks (back ∙ one) (out ∙ other))
asks_same t.Round F G H K b c o u fits holds back out asks = λ one. holds (asks (back ∙ one))
asks_same t.Leave F G H K b c o u fits holds back out asks = λ one other. holds (asks (back ∙ one) (out ∙ other))

-- an edge goes back exactly where it does not lead up
back_is_down : (spans : List Span) (e : NumberedEdge) → GoesUpOrBack spans e → list_any (λ s. is_in s e.from && eqb e.to s.header) spans ≡ not (ltb e.from e.to)
back_is_down spans e way = ⊎_elim
    (λ (up : e.from < e.to).
    any_none (λ (s : Span). is_in s e.from && eqb e.to s.header) spans (λ s has. ⊎_elim
    (λ (both : (is_in s e.from && eqb e.to s.header) ≡ true).
    let parts = and_parts (is_in s e.from) (eqb e.to s.header) both in
    let low : s.header ≤ e.from = leb-true s.header e.from (and_parts _ _ parts.0).0 in
    let same : e.to ≡ s.header = eqb-true e.to s.header parts.1 in
    absurd (omega (arith, low, same, up)))
    (λ fails. fails)
    (cases_Bool (is_in s e.from && eqb e.to s.header)))
    ∙ sym (ap not (lt-ltb e.from e.to up)))
    (λ (down : e.to ≤ e.from).
    ⊎_elim
    (λ (up : e.from < e.to). absurd (omega (arith, up, down)))
    (λ back. any_some (λ (s : Span). is_in s e.from && eqb e.to s.header) spans back.0 back.1 (and_from (is_in back.0 e.from) (eqb e.to (back.0).header) back.2 (eq-eqb e.to (back.0).header back.3)))
    way
    ∙ sym (ap not (le-ltb e.from e.to down)))
    (cases_lt e.from e.to)

module _ (flow : Flow) (tree : Tree) (well : IsWellFormed flow) (t : IsTree flow tree) (cert : Cert) (c : Tables) (are : AreTablesOf flow tree cert c) where
  abbrev exit : ℕ
  exit = length flow.places

  -- the number of an instance's header
  header_number : (k : ℕ) (i : Instance) (s : Span) → k < length tree.instances → ((get_or tree.spans k s).header < exit) × (place_in flow tree (get_or tree.spans k s).header ≡ header_of (get_or tree.instances k i))
  header_number k i s lt =
      let span : Span = get_or tree.spans k s in
      let span_is = t.spans_are.each k i s lt in
      let shape = t.ordered.shape span (Contains-get_or tree.spans k s (omega (arith, lt, t.spans_are.same))) in
      let inside : span.header < exit = omega (arith, shape.0, shape.1) in
      (inside, header_place (get_or tree.instances k i) (place_in flow tree span.header) (span_is.headers span.header (omega (arith, inside)) ∙ eq-eqb span.header span.header refl))

  pub same : AreSame flow tree well t (potentials cert) (T.potentials_of c)
  same = record {
    bound_is = sym are.bound;
    distances = λ n lt. sym (are.distances.each n lt);
    arrivals = λ k i s lt.
        let h = header_number k i s lt in
        ap (arrival_in cert.instances) (sym h.1) ∙ sym (are.arrivals.each (get_or tree.spans k s).header h.0);
    rounds = λ k i s lt.
        let h = header_number k i s lt in
        ap (round_in cert.instances) (sym h.1) ∙ sym (are.rounds.each (get_or tree.spans k s).header h.0);
  }

  module _ (k : ℕ) (lt : k < length flow.edges) where
    abbrev edge : Edge
    edge = step_at flow.edges k

    abbrev number : NumberedEdge
    number = edge_at tree.edges k

    abbrev pub alike : SameRow edge_shape place_loops is_exit (potentials cert) number_shape span_loops (T.is_exit exit) (T.potentials_of c) tree.instances tree.spans edge number
    alike = same_row flow tree well t (potentials cert) (T.potentials_of c) same k lt

    -- the same the other way round
    turned : SameRow number_shape span_loops (T.is_exit exit) (T.potentials_of c) edge_shape place_loops is_exit (potentials cert) tree.spans tree.instances number edge
    turned =
        let s = alike in
        record {
          from_is = sym s.from_is;
          place_is = sym s.place_is;
          cost_is = sym s.cost_is;
          instances_are = record {
            same = sym s.instances_are.same;
            each = λ n x y below.
                let e = s.instances_are.each n y x (omega (arith, below, s.instances_are.same)) in
                record { from_is = sym e.from_is; to_is = sym e.to_is; header_is = sym e.header_is; bound_is = sym e.bound_is; arrival_is = sym e.arrival_is; round_is = sym e.round_is };
          };
        }

    pub holds_up : NumberHolds exit tree.spans c number → RowHolds tree cert edge
    holds_up = row_back edge_shape place_loops is_exit (potentials cert) number_shape span_loops (T.is_exit exit) (T.potentials_of c) tree.instances tree.spans edge number alike

    holds_down : RowHolds tree cert edge → NumberHolds exit tree.spans c number
    holds_down = row_there edge_shape place_loops is_exit (potentials cert) number_shape span_loops (T.is_exit exit) (T.potentials_of c) tree.instances tree.spans edge number alike

    fits_up : NumberFits exit tree.spans c number → RowFits tree cert edge
    fits_up = fit_back edge_shape place_loops is_exit (potentials cert) number_shape span_loops (T.is_exit exit) (T.potentials_of c) tree.instances tree.spans edge number alike

    pub fits_down : RowFits tree cert edge → NumberFits exit tree.spans c number
    fits_down = fit_back number_shape span_loops (T.is_exit exit) (T.potentials_of c) edge_shape place_loops is_exit (potentials cert) tree.spans tree.instances number edge turned

    out_same : goes_out tree edge ≡ leaves tree.spans number
    out_same = any_same (rows.is_left edge_shape place_loops edge) (rows.is_left number_shape span_loops number) tree.instances tree.spans (sym t.spans_are.same)
        (λ n i s below. let e = alike.instances_are.each n i s below in (λ j. e.from_is j && not (e.to_is j)))

    back_same : goes_back tree edge ≡ not (is_up number)
    back_same =
        any_same (λ (i : Instance). is_back_edge edge_shape place_loops i edge) (λ (s : Span). is_in s number.from && eqb number.to s.header) tree.instances tree.spans (sym t.spans_are.same)
        (λ n i s below. let e = alike.instances_are.each n i s below in (λ j. e.from_is j && e.header_is j))
        ∙ back_is_down tree.spans number (t.ordered.goes_up number (Contains-get_or tree.edges k _ (omega (arith, lt, t.numbered.same))))

    pub passes_up : (test : RowTest) → NumberPasses exit tree.spans c test number → EdgePasses tree cert test edge
    passes_up test = asks_same test (NumberFits exit tree.spans c number) (RowFits tree cert edge) (NumberHolds exit tree.spans c number) (RowHolds tree cert edge) (not (is_up number)) (goes_back tree edge) (leaves tree.spans number) (goes_out tree edge) fits_up holds_up (sym back_same) (sym out_same)

    pub passes_down : (test : RowTest) → EdgePasses tree cert test edge → NumberPasses exit tree.spans c test number
    passes_down test = asks_same test (RowFits tree cert edge) (NumberFits exit tree.spans c number) (RowHolds tree cert edge) (NumberHolds exit tree.spans c number) (goes_back tree edge) (not (is_up number)) (goes_out tree edge) (leaves tree.spans number) fits_down holds_down back_same out_same

    pub can_weigh : (index : Index) → IsIndex exit tree.spans index → CanWeigh tree.spans index number
    can_weigh index all =
        let here = edge_same flow tree well t k lt in
        let from_in : number.from < exit = here.from_in in
        let to_in : number.to ≤ exit = here.to_in in
        record { held = all.holders; headers = all.headers; differ = t.ordered.headers_differ; from_in = omega (arith, from_in, all.all_held); to_in = omega (arith, to_in, all.all_headers) }

-- ## All edges

pub moved : (m n : ℕ) (ss spans : List Span) (es edges : List NumberedEdge) (c : Tables) (test : RowTest) (k : ℕ) → m ≡ n → ss ≡ spans → es ≡ edges → NumberPasses m ss c test (edge_at es k) → NumberPasses n spans c test (edge_at edges k)
moved m n ss spans es edges c test k is_exit are_spans are_edges pass =
    subst (λ (x : ℕ). NumberPasses x spans c test (edge_at edges k)) is_exit
    (subst (λ (xs : List Span). NumberPasses m xs c test (edge_at edges k)) are_spans
    (subst (λ (xs : List NumberedEdge). NumberPasses m ss c test (edge_at xs k)) are_edges pass))

pub one_more : (P : ℕ → Type 0) (n : ℕ) → ((k : ℕ) → k < n → P k) → P n → (k : ℕ) → k < n + 1 → P k
one_more P n all here k lt = ⊎_elim
    (λ (less : k < n). all k less)
    (λ (high : n ≤ k). let same : n ≡ k = omega (arith, lt, high) in subst P same here)
    (cases_lt k n)

pub every_edge : (edges : List Edge) (P : Edge → Type 0) (n : ℕ) → length edges ≤ n → ((k : ℕ) → k < n → P (step_at edges k)) → (e : Edge) → Contains edges e → P e
every_edge edges P n le all e (k, lt, at) = subst P (get_or_default edges k no_edge e lt ∙ at) (all k (omega (arith, lt, le)))

-- what holds of three values holds of values that are equal to them
pub carried : {X Y Z : Type 0} (P : X → Y → Z → Type 0) (m n : X) (ss ts : Y) (es fs : Z) → m ≡ n → ss ≡ ts → es ≡ fs → P m ss es → P n ts fs
carried {X} {Y} {Z} P m n ss ts es fs one two three p = subst (λ (x : X). P x ts fs) one (subst (λ (y : Y). P m y fs) two (subst (λ (z : Z). P m ss z) three p))
