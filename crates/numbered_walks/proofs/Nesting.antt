-- What the proofs of walks use of nesting, from what nesting establishes.
use Rattle.std.proofs.Common.{◌≡◌, ◌≢◌, ℕ, zero, suc, ◌+◌, ◌<◌, ◌≤◌, Bool, true, false, cond, not, eqb, List, [], ◌∷◌, ◌⊎◌, ⊎_elim, inl, inr, Option, Some, None, All, AllPairs, Contains, length, get_or, sum_by, refl, sym, ap, ◌∙◌, subst, arith}
use Rattle.std.proofs.lemmas.Bool.{true≢false, cases_Bool, both_ways, cases_order, eq-eqb, ne_eqb, and_from, and_parts, and_right}
use Rattle.std.proofs.lemmas.List.{get_or_default}
use Rattle.std.proofs.lemmas.List.Sums.{sum_by-cons}
use Rattle.std.proofs.lemmas.List.Elements.{Contains-get_or}
use Rattle.numbered_walks.specs.declared.span.NumberedEdge.{NumberedEdge}
use Rattle.numbered_walks.specs.declared.span.Span.{Span}
use Rattle.numbered_walks.specs.Ordered.{IsOrdered, HoldsAll, Leads, is_in}
use Rattle.numbered_walks.proofs.Members.{IsReachable, header_in, header_reached}
use Rattle.numbered_walks.proofs.Reaching.{sum_zero, Structure, below, turns_in}
use Rattle.numbered_walks.specs.Reach.{InTree, holds_in}
use Rattle.walks.proofs.SumLe.{sum_by-same_all, sum_by-le_contains}

pub AllPairs-tail : {X : Type 0} (R : X → X → Type 0) (x : X) (xs : List X) → AllPairs R (x ∷ xs) → AllPairs R xs
AllPairs-tail R x xs pairs a b d lt inside = pairs (suc a) (suc b) d (omega arith) (omega arith)

abbrev Differ : List Span → Type 0
Differ tree = AllPairs (λ i j. i.header ≢ j.header) tree

pub same_header : (tree : List Span) → Differ tree → (i j : Span) → Contains tree i → Contains tree j → i.header ≡ j.header → i ≡ j
same_header tree pairs i j (k, bk, at_k) (l, bl, at_l) same =
    let j_there : get_or tree l i ≡ j = get_or_default tree l i j bl ∙ at_l in
    let i_there : get_or tree k j ≡ i = get_or_default tree k j i bk ∙ at_k in
    ⊎_elim (λ equal. sym at_k ∙ ap (λ n. get_or tree n i) equal ∙ j_there)
    (λ differ. ⊎_elim
    (λ lt. absurd (pairs k l i lt bl (ap (λ x. x.header) at_k ∙ same ∙ sym (ap (λ x. x.header) j_there))))
    (λ gt. absurd (pairs l k j gt bk (ap (λ x. x.header) at_l ∙ sym same ∙ sym (ap (λ x. x.header) i_there))))
    differ)
    (cases_order k l)

own_term : (f : Span → ℕ) (i j : Span) → j.header ≢ i.header → cond {A = ℕ} (eqb j.header i.header) (f j) 0 ≡ 0
own_term f i j ne = rw (ne_eqb j.header i.header ne) refl

only_once : (f : Span → ℕ) (tree : List Span) → Differ tree → (i : Span) (k : ℕ) → k < length tree → get_or tree k i ≡ i → sum_by (λ j. cond (eqb j.header i.header) (f j) 0) tree ≡ f i
only_once f [] pairs i k inside at_k = absurd (omega arith)
only_once f (x ∷ xs) pairs i zero inside at_k =
    let first : cond {A = ℕ} (eqb x.header i.header) (f x) 0 ≡ f i = rw (eq-eqb x.header i.header (ap (λ y. y.header) at_k)) (ap f at_k) in
    let rest : sum_by (λ j. cond (eqb j.header i.header) (f j) 0) xs ≡ 0 =
    sum_by-same_all (λ j. cond (eqb j.header i.header) (f j) 0) (λ j. 0) xs
    (λ j at. own_term f i j (λ same. pairs 0 (suc at.0) j (omega arith) (omega (arith, at.1)) (ap (λ y. y.header) at_k ∙ sym same ∙ sym (ap (λ y. y.header) at.2)))) ∙ sum_zero xs in
    omega (arith, sum_by-cons (λ j. cond (eqb j.header i.header) (f j) 0) x xs)
only_once f (x ∷ xs) pairs i (suc k) inside at_k =
    let first : cond {A = ℕ} (eqb x.header i.header) (f x) 0 ≡ 0 = own_term f i x (λ same. pairs 0 (suc k) i (omega arith) inside (same ∙ sym (ap (λ y. y.header) at_k))) in
    let rest : sum_by (λ j. cond (eqb j.header i.header) (f j) 0) xs ≡ f i = only_once f xs (AllPairs-tail (λ a b. a.header ≢ b.header) x xs pairs) i k (omega arith) at_k in
    omega (arith, sum_by-cons (λ j. cond (eqb j.header i.header) (f j) 0) x xs)

header_differs : (j k : Span) → not (eqb j.header k.header) ≡ true → j.header ≢ k.header
header_differs j k differ same = true≢false (sym differ ∙ rw (eq-eqb j.header k.header same) refl)

-- a test that implies another counts no more than it
pub cond_le : (a b : Bool) → (a ≡ true → b ≡ true) → cond {A = ℕ} a 1 0 ≤ cond {A = ℕ} b 1 0
cond_le true b up = rw (up refl) (omega arith)
cond_le false true up = omega arith
cond_le false false up = omega arith

module _ (exit : ℕ) (edges : List NumberedEdge) (tree : List Span) (n : IsOrdered exit edges tree) (taken : Span → ℕ) (dist : ℕ → ℕ) (arr rnd : Span → ℕ) where
  record Crossing (j : Span) : Type 0 where
    edge : NumberedEdge
    in_graph : Contains edges edge
    out : is_in j edge.from ≡ false
    goes_in : is_in j edge.to ≡ true

  first_in : (j : Span) (p q : ℕ) (w : List NumberedEdge) → is_in j q ≡ true → Leads edges p w q → (is_in j p ≡ true) ⊎ Crossing j
  first_in j p q [] ends is = inl (subst (λ (x : ℕ). is_in j x ≡ true) (sym is) ends)
  first_in j p q (e ∷ w) ends (in_graph, starts, leads) =
      ⊎_elim (λ inside. ⊎_elim
      (λ from_in. inl (subst (λ (x : ℕ). is_in j x ≡ true) starts from_in))
      (λ from_out. inr (record { edge = e; in_graph = in_graph; out = from_out; goes_in = inside }))
      (cases_Bool (is_in j e.from)))
      (λ later. inr later)
      (first_in j e.to q w ends leads)

  -- the header of the larger of two instances is no member of the smaller
  big_header : (i k : Span) → Contains tree i → Contains tree k → HoldsAll k i → is_in i k.header ≡ true → i.header ≡ k.header
  big_header i k i_in k_in within holds =
      let reached : IsReachable edges k.header = header_reached exit edges tree n k k_in in
      ⊎_elim
      (λ entry_in.
      let is : 0 ≡ k.header = n.entry_at_header k k_in entry_in in
      sym (n.entry_at_header i i_in (subst (λ (x : ℕ). is_in i x ≡ true) (sym is) holds)) ∙ is)
      (λ x.
      let is : x.edge.to ≡ k.header = n.entered x.edge x.in_graph k k_in x.out x.goes_in in
      let out_i : is_in i x.edge.from ≡ false = ⊎_elim (λ yes. absurd (both_ways (is_in k x.edge.from) x.out (within x.edge.from yes))) (λ no_member. no_member) (cases_Bool (is_in i x.edge.from)) in
      sym (n.entered x.edge x.in_graph i i_in out_i (subst (λ (y : ℕ). is_in i y ≡ true) (sym is) holds)) ∙ is)
      (first_in k 0 k.header reached.0 (header_in exit edges tree n k k_in) reached.1)

  abbrev below_in : Option Span → Span → Bool
  below_in c j = below edges tree taken dist arr rnd c j

  is_within : (k j : Span) → Contains tree k → Contains tree j → below_in (Some k) j ≡ true → HoldsAll k j
  is_within k j k_in j_in is_below =
      let parts : (is_in k j.header ≡ true) × (not (eqb j.header k.header) ≡ true) = and_parts (is_in k j.header) (not (eqb j.header k.header)) is_below in
      ⊎_elim (λ yes. yes)
      (λ other. absurd (header_differs j k parts.1 (sym (big_header k j k_in j_in other parts.0))))
      (n.nested j k j_in k_in j.header (header_in exit edges tree n j j_in) parts.0)

  is_apart : (k j : Span) → Contains tree k → Contains tree j → below_in (Some k) j ≡ true → is_in j k.header ≡ false
  is_apart k j k_in j_in is_below =
      let parts : (is_in k j.header ≡ true) × (not (eqb j.header k.header) ≡ true) = and_parts (is_in k j.header) (not (eqb j.header k.header)) is_below in
      ⊎_elim (λ holds. absurd (header_differs j k parts.1 (big_header j k j_in k_in (is_within k j k_in j_in is_below) holds)))
      (λ out. out) (cases_Bool (is_in j k.header))

  left_is_below : (c : Option Span) → InTree tree c → (e : NumberedEdge) → (j : Span) → Contains tree j → holds_in c e.from ≡ true → holds_in c e.to ≡ true → is_in j e.from ≡ true → is_in j e.to ≡ false → below_in c j ≡ true
  left_is_below None here e j j_in from_in to_in holds leaves = refl
  left_is_below (Some k) here e j j_in from_in to_in holds leaves =
      ⊎_elim (λ yes.
      and_from (is_in k j.header) (not (eqb j.header k.header)) (yes j.header (header_in exit edges tree n j j_in))
      (rw (ne_eqb j.header k.header (λ same.
      let is : j ≡ k = same_header tree n.headers_differ j k j_in here same in
      both_ways (is_in k e.to) (subst (λ (x : Span). is_in x e.to ≡ false) is leaves) to_in)) refl))
      (λ other. absurd (both_ways (is_in j e.to) leaves (other e.to to_in)))
      (n.nested j k j_in here e.from holds from_in)

  is_inside_below : (c : Option Span) → InTree tree c → (i : Span) → Contains tree i → below_in c i ≡ true → (p : ℕ) → is_in i p ≡ true → holds_in c p ≡ true
  is_inside_below None here i i_in is_below p holds = refl
  is_inside_below (Some k) here i i_in is_below p holds = is_within k i here i_in is_below p holds

  has_no_start : (c : Option Span) → InTree tree c → (i : Span) → Contains tree i → below_in c i ≡ true → (e : NumberedEdge) → is_in i e.to ≡ true → turns_in edges tree taken dist arr rnd c e ≡ false
  has_no_start None here i i_in is_below e holds = refl
  has_no_start (Some k) here i i_in is_below e holds =
      ne_eqb e.to k.header (λ same. both_ways (is_in i k.header) (is_apart k i here i_in is_below) (subst (λ (x : ℕ). is_in i x ≡ true) same holds))

  pub structure : Structure edges tree taken dist arr rnd
  structure = record {
    one_header = λ i j i_in j_in same. same_header tree n.headers_differ i j i_in j_in same;
    enters = λ e in_graph j j_in out goes_in. n.entered e in_graph j j_in out goes_in;
    left_below = λ c here e in_graph j j_in from_in to_in holds leaves. left_is_below c here e j j_in from_in to_in holds leaves;
    header_in = header_in exit edges tree n;
    inside_below = is_inside_below;
    no_start = has_no_start;
    apart = λ i j i_in j_in is_below. is_apart i j i_in j_in is_below;
    entry_out = n.entry_at_header;
    once = λ f i at. only_once f tree n.headers_differ i at.0 at.1 at.2;
  }

  -- how many instances lie below the context
  abbrev pub level : Option Span → ℕ
  level c = sum_by (λ j. cond (below_in c j) 1 0) tree

  below_trans : (c : Option Span) → InTree tree c → (i j : Span) → Contains tree i → Contains tree j → below_in c i ≡ true → below_in (Some i) j ≡ true → below_in c j ≡ true
  below_trans None here i j i_in j_in one two = refl
  below_trans (Some k) here i j i_in j_in one two =
      let parts : (is_in i j.header ≡ true) × (not (eqb j.header i.header) ≡ true) = and_parts (is_in i j.header) (not (eqb j.header i.header)) two in
      and_from (is_in k j.header) (not (eqb j.header k.header)) (is_within k i here i_in one j.header parts.0)
      (rw (ne_eqb j.header k.header (λ same. both_ways (is_in i k.header) (is_apart k i here i_in one) (subst (λ (x : ℕ). is_in i x ≡ true) same parts.0))) refl)

  not_below_itself : (i : Span) → below_in (Some i) i ≡ false
  not_below_itself i = rw (eq-eqb i.header i.header refl) (and_right (is_in i i.header) false refl)

  pub level_lower : (c : Option Span) (i : Span) → InTree tree c → Contains tree i → below_in c i ≡ true → level (Some i) < level c
  level_lower c i here i_in is_below =
      let up : All (λ j. cond {A = ℕ} (below_in (Some i) j) 1 0 ≤ cond {A = ℕ} (below_in c j) 1 0) tree =
      λ k d inside. cond_le (below_in (Some i) (get_or tree k d)) (below_in c (get_or tree k d)) (λ yes. below_trans c here i (get_or tree k d) i_in (Contains-get_or tree k d inside) is_below yes) in
      let here_more : cond {A = ℕ} (below_in (Some i) i) 1 0 + 1 ≤ cond {A = ℕ} (below_in c i) 1 0 = rw (not_below_itself i, is_below) (omega arith) in
      let more : level (Some i) + 1 ≤ level c = sum_by-le_contains (λ j. cond (below_in (Some i) j) 1 0) (λ j. cond (below_in c j) 1 0) 1 tree i i_in up here_more in
      omega arith
