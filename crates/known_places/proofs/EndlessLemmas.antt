-- Loops that no run leaves while it keeps the bounds of all loops.
use Rattle.std.proofs.Common.{◌≡◌, ◌∙◌, ℕ, ◌+◌, ◌<◌, ◌≤◌, true, false, not, ⊎_elim, List, [], length, Some, sym, ap, subst, arith}
use Rattle.std.proofs.lemmas.Bool.{and_parts, cases_lt, not-true}
use Rattle.std.proofs.lemmas.List.{get_or_default}
use Rattle.std.proofs.lemmas.List.Elements.{All-nil}
use Rattle.std.specs.Prelude.{slice_index_or}
use Rattle.walks.specs.Walk.{Leads}
use Rattle.walks.proofs.Joins.{most_from_keeps}
use Rattle.image.specs.Image.{Words, word_of}
use Rattle.statement.specs.Stated.{Stated}
use Rattle.arm2_exec.specs.Step.{address_in}
use Rattle.control_flow.specs.Flow.{Flow, HasEdge, IsEdgeRange, IsWellFormed, edge_shape}
use Rattle.control_flow.specs.Places.{place_address}
use Rattle.control_flow.specs.declared.edges.Edge.{Edge}
use Rattle.control_flow.specs.declared.places.Place.{Place}
use Rattle.control_flow.specs.declared.places.Place.TheVariants.{At}
use Rattle.control_flow.proofs.Firsts.{no_edge, whole_range}
use Rattle.loop_bounds.specs.Handler.{IsTreeOf}
use Rattle.loop_bounds.specs.Instance.{Instance, is_member}
use Rattle.loop_bounds.specs.Tree.{IsSpanOf, IsTree, Tree, place_in}
use Rattle.longest_walk.specs.Built.{step_at}
use Rattle.longest_walk.specs.Longest.{KeepsTree}
use Rattle.longest_walk.proofs.CarryWalks.{edge_same, keeps_down, member_same, number_is}
use Rattle.numbered_walks.specs.Index.{edge_at, edges_of, span_at}
use Rattle.numbered_walks.specs.Ordered as O
use Rattle.numbered_walks.specs.Ordered.{is_in}
use Rattle.numbered_walks.specs.declared.span.NumberedEdge.{NumberedEdge}
use Rattle.numbered_walks.specs.declared.span.Span.{Span}
use Rattle.numbered_walks.proofs.Members.{member_header, member_last, no_numbered_edge, no_span}
use Rattle.known_words.specs.Knowledge.{Holds}
use Rattle.known_words.specs.declared.given.Given.{Given}
use Rattle.known_words.specs.declared.knowledge.Knowledge.{Knowledge}
use Rattle.known_places.specs.Around.{around_at, known_at, turns_in}
use Rattle.known_places.specs.Endless.{EdgeNeverTaken, IsClosed, IsEndless, NeverGoesWithin, StaysInSpan}
use Rattle.known_places.specs.Limits.{KeepsSpans}
use Rattle.known_places.specs.Table.{HoldsAlong}
use Rattle.known_places.specs.declared.around.Around.{Around}
use Rattle.known_places.proofs.ArriveLemmas.{ends_there}
use Rattle.known_places.proofs.TableLemmas.{one_word}

-- ## Edges

-- by the one word of the place
pub edge_closed : (words : Words) (spans : List Span) (around : List Around) (known : List Knowledge) (edge : Edge) (numbered : NumberedEdge) (calls : List ℕ) (address word : ℕ)
    → edge.from ≡ At calls address → word_of words address ≡ Some word
    → NeverGoesWithin spans (around_at around numbered.from) word edge.label (known_at known numbered.from)
    → EdgeNeverTaken words spans around known edge numbered
edge_closed words spans around known edge numbered calls address word place has never others a w is also =
    let at : address ≡ a = ap place_address (sym place ∙ is) in
    subst (λ v. NeverGoesWithin spans (around_at around numbered.from) v edge.label (known_at known numbered.from))
    (one_word words address a word w at has also) never

module _ (words : Words) (flow : Flow) (tree : Tree) (around : List Around) (known : List Knowledge) (s : Span) where
  -- by an edge that is that of the graph, and a list that is that of the tree
  pub stays_by : (k : ℕ) (edge : Edge) (numbered : List NumberedEdge) → edge ≡ step_at flow.edges k → numbered ≡ tree.edges
      → EdgeNeverTaken words tree.spans around known edge (edge_at numbered k) → StaysInSpan words flow tree around known s k
  stays_by k edge numbered e n never out =
      subst (λ (d : Edge). EdgeNeverTaken words tree.spans around known d (edge_at tree.edges k)) e
      (subst (λ ns. EdgeNeverTaken words tree.spans around known edge (edge_at ns k)) n never)

  module _ (t : IsTree flow tree) where
    -- the edges of a place's range are those that leave its number
    pub all_of_range : (number first end : ℕ) → IsEdgeRange flow (place_in flow tree number) first end
        → ((k : ℕ) → k < end → first ≤ k → StaysInSpan words flow tree around known s k)
        → (k : ℕ) → k < length flow.edges → (edge_at tree.edges k).from ≡ number → StaysInSpan words flow tree around known s k
    all_of_range number first end range stay k lt is =
        let from : (step_at flow.edges k).from ≡ place_in flow tree number =
        sym (t.numbered.each k no_edge no_numbered_edge lt).from_is ∙ ap (place_in flow tree) is in
        let at = whole_range flow (place_in flow tree number) first end range k no_edge lt from in
        stay k at.1 at.0

    -- from a number of the span
    pub closed_up_to : (limit : ℕ) → ((k : ℕ) → k < length flow.edges → s.header ≤ (edge_at tree.edges k).from → (edge_at tree.edges k).from < limit
        → StaysInSpan words flow tree around known s k)
        → ((k : ℕ) → k < length flow.edges → is_in s (edge_at tree.edges k).from ≡ true → (edge_at tree.edges k).from < limit)
        → IsClosed words flow tree around known s
    closed_up_to limit stay below k lt inner =
        stay k lt (member_header s (edge_at tree.edges k).from inner) (below k lt inner)

    pub below_last : (limit : ℕ) → s.last < limit → (k : ℕ) → k < length flow.edges → is_in s (edge_at tree.edges k).from ≡ true
        → (edge_at tree.edges k).from < limit
    below_last limit past k lt inner = let at = member_last s (edge_at tree.edges k).from inner in omega (arith, at, past)

    pub below_all : (limit : ℕ) → length flow.places ≤ limit → (k : ℕ) → k < length flow.edges → is_in s (edge_at tree.edges k).from ≡ true
        → (edge_at tree.edges k).from < limit
    below_all limit past k lt inner =
        let n = t.numbered.each k no_edge no_numbered_edge lt in
        let low : (edge_at tree.edges k).from < length flow.places = n.from_in in
        omega (arith, low, past)

    -- one number more
    pub one_more_number : (number : ℕ) → ((k : ℕ) → k < length flow.edges → s.header ≤ (edge_at tree.edges k).from → (edge_at tree.edges k).from < number
        → StaysInSpan words flow tree around known s k)
        → ((k : ℕ) → k < length flow.edges → (edge_at tree.edges k).from ≡ number → StaysInSpan words flow tree around known s k)
        → (k : ℕ) → k < length flow.edges → s.header ≤ (edge_at tree.edges k).from → (edge_at tree.edges k).from < number + 1
        → StaysInSpan words flow tree around known s k
    one_more_number number stay there k lt low high = ⊎_elim
        (λ (less : (edge_at tree.edges k).from < number). stay k lt low less)
        (λ (more : number ≤ (edge_at tree.edges k).from). there k lt (omega (arith, high, more)))
        (cases_lt (edge_at tree.edges k).from number)

-- ## Runs

pub closed_is_endless : (words : Words) (st : Stated) (flow : Flow) (tree : Tree) → IsWellFormed flow → IsTreeOf flow st.loops tree → (given : List Given) (around : List Around)
    (table : List Knowledge) → HoldsAlong words flow tree given around table → (number : ℕ) (instance : Instance) → number < length tree.instances
    → IsClosed words flow tree around table (span_at tree.spans number) → IsEndless words st flow given (slice_index_or tree.instances number instance)
closed_is_endless words st flow tree well its given around table p number instance low closed s now after inputs walk i stepped e fit are leads keeps comes has along left =
    let t : IsTree flow tree = its.tree_is in
    let span : Span = span_at tree.spans number in
    let its_span : IsSpanOf flow tree (slice_index_or tree.instances number instance) span = t.spans_are.each number instance no_span low in
    let r = ends_there words st flow tree well t given around table p [] s.regs inputs walk s now 0 e.from [] (omega arith) (All-nil (λ j. j < length flow.edges))
    (λ inside. p.begins s.regs fit are) (subst (λ (v : Place). Leads edge_shape (HasEdge flow) v walk e.from) (sym t.entry_first) leads) comes in
    let w = edges_of tree.edges r.edges in
    let k : ℕ = has.0 in
    let same : step_at flow.edges k ≡ e = get_or_default flow.edges k no_edge e has.1 ∙ has.2 in
    let n = edge_same flow tree well t k has.1 in
    let from_is : place_in flow tree (edge_at tree.edges k).from ≡ e.from = n.from_is ∙ ap (λ (d : Edge). d.from) same in
    let to_is : place_in flow tree (edge_at tree.edges k).to ≡ e.to = n.to_is ∙ ap (λ (d : Edge). d.to) same in
    let from_in : (edge_at tree.edges k).from < length flow.places = n.from_in in
    let from_to : (edge_at tree.edges k).from ≤ length flow.places = omega (arith, from_in) in
    let number_of : r.number ≡ (edge_at tree.edges k).from = number_is flow tree well t r.number (edge_at tree.edges k).from r.within from_to (r.place ∙ sym from_is) in
    let known : Holds s.regs (turns_in tree.spans (around_at around (edge_at tree.edges k).from) w) (known_at table (edge_at tree.edges k).from) now.regs =
    subst (λ m. Holds s.regs (turns_in tree.spans (around_at around m) w) (known_at table m) now.regs) number_of (r.there (omega (arith, number_of, from_in))) in
    let kept : KeepsSpans tree.spans w = λ y has_y.
    most_from_keeps (O.is_inside y) (O.ends_at_header y) y.bound w
    (keeps_down flow tree well t r.edges r.inside (subst (KeepsTree tree) (sym r.steps) (λ j in_tree. keeps j ((its.instances j).0 in_tree))) y has_y) in
    let parts = and_parts (is_member (slice_index_or tree.instances number instance) e.from) (not (is_member (slice_index_or tree.instances number instance) e.to)) left in
    let inner : is_in span (edge_at tree.edges k).from ≡ true =
    sym (member_same flow tree well t (slice_index_or tree.instances number instance) span its_span e.from (edge_at tree.edges k).from from_to from_is) ∙ parts.0 in
    let out : is_in span (edge_at tree.edges k).to ≡ false =
    sym (member_same flow tree well t (slice_index_or tree.instances number instance) span its_span e.to (edge_at tree.edges k).to n.to_in to_is)
    ∙ not-true (is_member (slice_index_or tree.instances number instance) e.to) parts.1 in
    let x = along.executes in
    closed k has.1 inner out along.calls (address_in now.regs) x.has.word (ap (λ (d : Edge). d.from) same ∙ along.taken.from) x.has.word_is
    s.regs now.regs w along.action kept x.has.is (sym along.taken.label ∙ sym (ap (λ (d : Edge). d.label) same)) known
