-- What counting an edge, items and rounds does, and when the counts are exact.
use Rattle.std.proofs.Common.{◌≡◌, ◌∙◌, ℕ, ◌+◌, ◌-◌, ◌*◌, ◌^◌, ◌<◌, ◌≤◌, cond, eqb, List, [], ◌∷◌, ◌++◌, append-nil, length, get_or, drop, take, map, flat_map, replicate, refl, sym, ap, subst, Vec, arith}
use Rattle.std.specs.Prelude.{All, sum_by}
use Rattle.std.proofs.Math.Seq.{take-append_seam}
use Rattle.std.proofs.lemmas.List.{get_or-replicate, length-replicate, map-append, take_more, take_all}
use Rattle.std.proofs.lemmas.List.Concat.{flat_map-append}
use Rattle.std.proofs.lemmas.List.Elements.{All-head, All-tail, All-weaker, All-nil, All-cons}
use Rattle.std.proofs.lemmas.List.Sums.{count_by-le-length, sum_by-append, sum_by-cons}
use Rattle.std.specs.List.{repeat}
use Rattle.walks.specs.Walk.{Leads, cost_of}
use Rattle.control_flow.specs.declared.edges.Edge.{Edge}
use Rattle.control_flow.specs.declared.places.Place.{Place}
use Rattle.control_flow.specs.declared.places.Place.TheVariants.{Exit}
use Rattle.control_flow.specs.Flow.{Flow, HasEdge, IsWellFormed, edge_shape}
use Rattle.loop_bounds.specs.Tree.{Tree}
use Rattle.longest_walk.specs.Built.{step_at}
use Rattle.longest_walk.specs.Folded.{Opened, open_item, unfolded}
use Rattle.longest_walk.specs.Longest.{IsWalkOf}
use Rattle.longest_walk.specs.declared.folded.Item.{Item}
use Rattle.longest_walk.specs.declared.folded.Item.TheVariants.{Step, Repeat}
use Rattle.longest_walk.proofs.Opening.{open-repeat, open-step}
use Rattle.std.specs.Global.{Global}
use Rattle.std.specs.declared.rc.Rc.{Rc}
use Rattle.walk_counts.specs.Counts.{AreCounts, AreExact, Counts, capped, counted_cost, number_of, occurrences}
use Rattle.walk_counts.proofs.NumberLemmas.{known_edge}
use Rattle.walk_counts.proofs.SumLemmas.{capped_more, capped_times, count-repeated, same_sums, sums_by_number}

-- the counts are numbers of 64 bits
abbrev pub AreSmall : List ℕ → Type 0
AreSmall counts = (k : ℕ) → get_or counts k 0 < 2 ^ 64

-- ## Counting

module _ (edges : List Edge) (times : ℕ) where
  pub counts_none : (old : List ℕ) → AreSmall old → Counts edges [] times old old
  counts_none old small = record { whole = refl; each = λ k lt. (let s : get_or old k 0 < 2 ^ 64 = small k in omega arith) }

  pub counts_both : (xs ys : List Edge) (old mid new : List ℕ) → Counts edges xs times old mid → Counts edges ys times mid new → Counts edges (xs ++ ys) times old new
  counts_both xs ys old mid new one two = record {
    whole = two.whole ∙ one.whole;
    each = λ k lt.
        let x = occurrences edges xs k in
        let y = occurrences edges ys k in
        let joins : times * x + times * y ≡ times * occurrences edges (xs ++ ys) k =
        omega arith ∙ ap (λ n. times * n) (sym (sum_by-append (λ e. cond (eqb (number_of edges e) k) 1 0) xs ys)) in
        two.each k lt ∙ ap (λ n. capped (n + times * y)) (one.each k lt)
        ∙ capped_more (2 ^ 64 - 1) (get_or old k 0) (times * x) (times * y)
        ∙ ap (λ n. capped (get_or old k 0 + n)) joins;
  }

  pub counts_rounds : (n : ℕ) (walk : List Edge) (old new : List ℕ) → Counts edges walk (capped (times * n)) old new → Counts edges (repeat n walk) times old new
  counts_rounds n walk old new h = record {
    whole = h.whole;
    each = λ k lt.
        let x = occurrences edges walk k in
        let all : times * n * x ≡ times * occurrences edges (repeat n walk) k =
        omega arith ∙ ap (λ m. times * m) (sym (count-repeated (λ e. eqb (number_of edges e) k) n walk)) in
        h.each k lt ∙ capped_times (2 ^ 64 - 1) (get_or old k 0) (times * n) x ∙ ap (λ m. capped (get_or old k 0 + m)) all;
  }

-- ## Items

pub of_step : (edges : List Edge) (times : ℕ) (item : Item) (e : Edge) (old new : List ℕ) → item ≡ Step e → Counts edges (e ∷ []) times old new → Counts edges (open_item item).walk times old new
of_step edges times item e old new is h =
    subst (λ (w : List Edge). Counts edges w times old new) (sym (ap (λ (x : Item). (open_item x).walk) is ∙ ap (λ (o : Opened). o.walk) (open-step e))) h

pub of_rounds : (edges : List Edge) (times : ℕ) (item : Item) (k : ℕ) (body : Rc (Vec Item Global) Global) (items : List Item) (inner : ℕ) (old new : List ℕ)
    → item ≡ Repeat k body → items ≡ body.value.items → inner ≡ capped (times * k) → Counts edges (unfolded items) inner old new → Counts edges (open_item item).walk times old new
of_rounds edges times item k body items inner old new is items_are times_are h =
    let all : Counts edges (unfolded body.value.items) (capped (times * k)) old new =
    subst (λ (xs : List Item). Counts edges (unfolded xs) (capped (times * k)) old new) items_are
    (subst (λ n. Counts edges (unfolded items) n old new) times_are h) in
    subst (λ (w : List Edge). Counts edges w times old new) (sym (ap (λ (x : Item). (open_item x).walk) is ∙ ap (λ (o : Opened). o.walk) (open-repeat k body)))
    (counts_rounds edges times k (unfolded body.value.items) old new all)

pub one_more : (items : List Item) (i : ℕ) (d : Item) → i < length items → unfolded (take (i + 1) items) ≡ unfolded (take i items) ++ (open_item (get_or items i d)).walk
one_more items i d lt =
    let walk_of = λ (o : Opened). o.walk in
    let item = get_or items i d in
    ap unfolded (take_more items i d lt)
    ∙ ap (λ (os : List Opened). flat_map walk_of os) (map-append open_item (take i items) (item ∷ []))
    ∙ flat_map-append walk_of (map open_item (take i items)) (open_item item ∷ [])
    ∙ ap (λ (w : List Edge). unfolded (take i items) ++ w) (append-nil (open_item item).walk)

pub counts_item : (edges : List Edge) (times : ℕ) (items : List Item) (i : ℕ) (item : Item) (old mid new : List ℕ) → i < length items → item ≡ get_or items i item
    → Counts edges (unfolded (take i items)) times old mid → Counts edges (open_item item).walk times mid new → Counts edges (unfolded (take (i + 1) items)) times old new
counts_item edges times items i item old mid new lt at before here =
    subst (λ (w : List Edge). Counts edges w times old new) (sym (one_more items i item lt))
    (counts_both edges times (unfolded (take i items)) (open_item (get_or items i item)).walk old mid new before
    (subst (λ (x : Item). Counts edges (open_item x).walk times mid new) at here))

pub counts_items : (edges : List Edge) (times : ℕ) (items : List Item) (i : ℕ) (old new : List ℕ) → length items ≤ i → Counts edges (unfolded (take i items)) times old new → Counts edges (unfolded items) times old new
counts_items edges times items i old new le h = subst (λ (xs : List Item). Counts edges (unfolded xs) times old new) (take_all i items le) h

-- ## The whole

-- what was lent as a slice comes back with the slice's new numbers; there were none before
pub first_counts : (edges walk : List Edge) (n len : ℕ) (items lent new : List ℕ) → n ≡ length edges → len ≡ n → items ≡ replicate n 0 → lent ≡ items → Counts edges walk 1 lent new
    → AreCounts edges walk (take len (new ++ drop (length new) items))
first_counts edges walk n len items lent new size len_is zeros same h =
    subst (AreCounts edges walk) (sym back) (record {
      whole = whole;
      each = λ k lt.
          let zero_at : get_or lent k 0 ≡ 0 = ap (λ xs. get_or xs k 0) (same ∙ zeros) ∙ get_or-replicate n k 0 0 (omega arith) in
          let once : capped (0 + 1 * occurrences edges walk k) ≡ capped (occurrences edges walk k) = ap capped (omega arith) in
          h.each k lt ∙ ap (λ m. capped (m + 1 * occurrences edges walk k)) zero_at ∙ once;
    })
  where
    whole : length new ≡ length edges
    whole = h.whole ∙ ap length (same ∙ zeros) ∙ length-replicate n 0 ∙ size

    back : take len (new ++ drop (length new) items) ≡ new
    back = ap (λ m. take m (new ++ drop (length new) items)) (len_is ∙ size ∙ sym whole) ∙ take-append_seam new (drop (length new) items)

-- ## Exact counts

shorter : (walk : List Edge) → All (λ e. 0 < e.cost) walk → length walk ≤ sum_by (λ e. e.cost) walk
shorter [] some = omega arith
shorter (e ∷ walk) some =
    let here : 0 < e.cost = All-head (λ x. 0 < x.cost) e walk some in
    omega (arith, sum_by-cons (λ x. x.cost) e walk, shorter walk (All-tail (λ x. 0 < x.cost) e walk some))

pub exact : (flow : Flow) (walk : List Edge) (counts : List ℕ) → IsWellFormed flow → AreCounts flow.edges walk counts → All (HasEdge flow) walk → cost_of edge_shape walk < 2 ^ 64 → AreExact flow.edges walk counts
exact flow walk counts well are along fits = record {
  each = each;
  sums = λ number.
      same_sums (λ k. get_or counts k 0 * number (step_at edges k)) (λ k. occurrences edges walk k * number (step_at edges k)) (length edges) 0
      (λ k low high. ap (λ c. c * number (step_at edges k)) (each k (omega arith)))
      ∙ sums_by_number (number_of edges) number (λ k. number (step_at edges k)) (length edges) walk
      (All-weaker (HasEdge flow) (λ e. (number_of edges e < length edges) × (number (step_at edges (number_of edges e)) ≡ number e))
      (λ e has. let k = known_edge edges e has in (k.0, ap number k.1)) walk along);
}
  where
    edges : List Edge
    edges = flow.edges

    short : length walk < 2 ^ 64
    short = let s = shorter walk (All-weaker (HasEdge flow) (λ e. 0 < e.cost) well.costs_some walk along) in omega arith

    each : (k : ℕ) → k < length edges → get_or counts k 0 ≡ occurrences edges walk k
    each k lt =
        let few : occurrences edges walk k ≤ length walk = count_by-le-length (λ e. eqb (number_of edges e) k) walk in
        let s = short in
        let fit : capped (occurrences edges walk k) ≡ occurrences edges walk k = omega arith in
        are.each k lt ∙ fit

pub along : (flow : Flow) (p q : Place) (walk : List Edge) → Leads edge_shape (HasEdge flow) p walk q → All (HasEdge flow) walk
along flow p q [] leads = All-nil (HasEdge flow)
along flow p q (e ∷ walk) leads = All-cons (HasEdge flow) e walk leads.0 (along flow e.to q walk leads.2)

pub total : (flow : Flow) (items : List Item) (counts : List ℕ) (tree : Tree) (cost : ℕ) → IsWellFormed flow → AreCounts flow.edges (unfolded items) counts → IsWalkOf flow tree cost items → cost < 2 ^ 64 → counted_cost flow.edges counts ≡ cost
total flow items counts tree cost well are walk fits =
    (exact flow (unfolded items) counts well are (along flow flow.entry Exit (unfolded items) walk.complete) (subst (λ n. n < 2 ^ 64) (sym walk.costs) fits)).sums (λ e. e.cost)
    ∙ walk.costs
