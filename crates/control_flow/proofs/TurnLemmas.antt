-- The edges of the places, put one after another.
use Rattle.std.proofs.Common.{◌≡◌, ℕ, zero, suc, ◌+◌, ◌-◌, ◌<◌, ◌≤◌, List, [], ◌∷◌, ◌++◌, length, get_or, take, flat_map, ⊎_elim, refl, sym, ap, ◌∙◌, subst, arith, length-append, add-zero, zero-add, append-nil}
use Rattle.std.specs.Prelude.{Contains}
use Rattle.std.specs.List.{AllZip}
use Rattle.std.proofs.lemmas.List.{get_or_append_left, get_or-append_right, flat_map_more, take_more}
use Rattle.std.proofs.lemmas.List.Elements.{Contains-append_left, Contains-append_right, Contains-append_cases, Contains-get_or}
use Rattle.std.proofs.lemmas.Slice.Zip.{all_zipped_more}
use Rattle.bus_ticks.specs.declared.profile.Profile.{Profile}
use Rattle.image.specs.Image.{Words}
use Rattle.control_flow.specs.Edges.{AreEdgesOf}
use Rattle.control_flow.specs.Graph.{starts_from}
use Rattle.control_flow.specs.Search.{AddsEdges, AreInTurn}
use Rattle.statement.specs.Stated.{Stated}
use Rattle.control_flow.specs.declared.edges.Edge.{Edge}
use Rattle.control_flow.specs.declared.places.Place.{Place}
use Rattle.control_flow.proofs.SortedLemmas.{no_member}

abbrev pub joined : List (List Edge) → List Edge
joined parts = flat_map (λ part. part) parts

-- ## Places and their parts side by side

module _ {A B : Type 0} (R : A → B → Type 0) where
  pub zip_at : (xs : List A) (ys : List B) (k : ℕ) (d : A) (e : B) → AllZip R xs ys → k < length xs → R (get_or xs k d) (get_or ys k e)
  zip_at [] ys k d e h lt = absurd (omega arith)
  zip_at (a ∷ xs) [] k d e h lt = absurd h
  zip_at (a ∷ xs) (b ∷ ys) zero d e h lt = h.0
  zip_at (a ∷ xs) (b ∷ ys) (suc k) d e h lt = zip_at xs ys k d e h.1 (omega arith)

-- ## One more place

sums : (n a b : ℕ) (q rest : List Edge) → a ≡ n + length q + length rest + b → a ≡ n + length (q ++ rest) + b
sums n a b q rest e = omega (arith, e, length-append q rest)

starts_more : (n : ℕ) (parts : List (List Edge)) (part : List Edge) → starts_from n (parts ++ part ∷ []) ≡ starts_from n parts ++ (n + length (joined parts) + length part) ∷ []
starts_more n [] part = let e : n + length part ≡ n + 0 + length part = omega arith in ap (λ (m : ℕ). n ∷ m ∷ []) e
starts_more n (q ∷ parts) part =
    let e : n + length q + length (joined parts) + length part ≡ n + length (q ++ joined parts) + length part = sums n (n + length q + length (joined parts) + length part) (length part) q (joined parts) refl in
    ap (λ xs. n ∷ xs) (starts_more (n + length q) parts part) ∙ ap (λ (m : ℕ). n ∷ (starts_from (n + length q) parts ++ m ∷ [])) e

module _ (words : Words) (st : Stated) (profile : Profile) where
  pub turn_more : (places : List Place) (k : ℕ) (place : Place) (edges new : List Edge) (firsts : List ℕ) → k < length places → place ≡ get_or places k place → AreInTurn words st profile (take k places) edges firsts → AddsEdges words st profile place edges new → AreInTurn words st profile (take (k + 1) places) new (firsts ++ length new ∷ [])
  turn_more places k place edges new firsts lt is turn adds =
      let longer : length new ≡ length edges + length adds.edges = ap length adds.is ∙ length-append edges adds.edges in
      let so_far : length edges ≡ length (joined turn.parts) = ap length turn.edges_are in
      let ends : 0 + length (joined turn.parts) + length adds.edges ≡ length new = omega arith in
      record {
        parts = turn.parts ++ adds.edges ∷ [];
        parts_are = rw (take_more places k place lt ∙ ap (λ x. take k places ++ x ∷ []) (sym is)) (all_zipped_more (AreEdgesOf words st profile) (take k places) turn.parts place adds.edges turn.parts_are adds.are);
        edges_are = adds.is ∙ ap (λ xs. xs ++ adds.edges) turn.edges_are ∙ flat_map_more (λ (part : List Edge). part) [] turn.parts adds.edges;
        firsts_are = ap (λ xs. xs ++ length new ∷ []) turn.firsts_are ∙ sym (starts_more 0 turn.parts adds.edges ∙ ap (λ (m : ℕ). starts_from 0 turn.parts ++ m ∷ []) ends);
      }

-- ## Where the parts lie

abbrev pub before : List (List Edge) → ℕ → ℕ
before parts v = length (joined (take v parts))

pub length_starts : (n : ℕ) (parts : List (List Edge)) → length (starts_from n parts) ≡ length parts + 1
length_starts n [] = refl
length_starts n (part ∷ parts) = let e : length (starts_from (n + length part) parts) ≡ length parts + 1 = length_starts (n + length part) parts in omega arith

pub starts_at : (n : ℕ) (parts : List (List Edge)) (v d : ℕ) → v ≤ length parts → get_or (starts_from n parts) v d ≡ n + before parts v
starts_at n [] zero d h = sym (add-zero n)
starts_at n [] (suc v) d h = absurd (omega arith)
starts_at n (part ∷ parts) zero d h = sym (add-zero n)
starts_at n (part ∷ parts) (suc v) d h =
    let e : get_or (starts_from (n + length part) parts) v d ≡ n + length part + before parts v = starts_at (n + length part) parts v d (omega arith) in
    e ∙ omega (arith, length-append part (joined (take v parts)))

pub before_more : (parts : List (List Edge)) (v : ℕ) (d : List Edge) → v < length parts → before parts (suc v) ≡ before parts v + length (get_or parts v d)
before_more [] v d h = absurd (omega arith)
before_more (part ∷ parts) zero d h = ap length (append-nil part) ∙ sym (zero-add (length part))
before_more (part ∷ parts) (suc v) d h =
    let e : before parts (suc v) ≡ before parts v + length (get_or parts v d) = before_more parts v d (omega arith) in
    let l : length (part ++ joined (take (suc v) parts)) ≡ length part + before parts (suc v) = length-append part (joined (take (suc v) parts)) in
    let m : length (part ++ joined (take v parts)) ≡ length part + before parts v = length-append part (joined (take v parts)) in
    omega arith

pub before_all : (parts : List (List Edge)) → before parts (length parts) ≡ length (joined parts)
before_all [] = refl
before_all (part ∷ parts) =
    let e : before parts (length parts) ≡ length (joined parts) = before_all parts in
    let l : length (part ++ joined (take (length parts) parts)) ≡ length part + before parts (length parts) = length-append part (joined (take (length parts) parts)) in
    let m : length (part ++ joined parts) ≡ length part + length (joined parts) = length-append part (joined parts) in
    omega arith

-- an edge that lies where a part lies is of that part
pub in_part : (parts : List (List Edge)) (v k : ℕ) (d : Edge) (p : List Edge) → v < length parts → before parts v ≤ k → k < before parts (suc v) → Contains (get_or parts v p) (get_or (joined parts) k d)
in_part [] v k d p h low high = absurd (omega arith)
in_part (part ∷ parts) zero k d p h low high =
    let lt : k < length part = omega (arith, high, ap length (append-nil part)) in
    subst (Contains part) (sym (get_or_append_left part (joined parts) d k lt)) (Contains-get_or part k d lt)
in_part (part ∷ parts) (suc v) k d p h low high =
    let l : length (part ++ joined (take v parts)) ≡ length part + before parts v = length-append part (joined (take v parts)) in
    let m : length (part ++ joined (take (suc v) parts)) ≡ length part + before parts (suc v) = length-append part (joined (take (suc v) parts)) in
    let past : length part ≤ k = omega arith in
    let there : Contains (get_or parts v p) (get_or (joined parts) (k - length part) d) = in_part parts v (k - length part) d p (omega arith) (omega arith) (omega arith) in
    subst (Contains (get_or parts v p)) (sym (get_or-append_right part (joined parts) (length part) k d refl past)) there

-- each edge is of some part
pub some_part : (parts : List (List Edge)) (e : Edge) → Contains (joined parts) e → (v : ℕ) × (v < length parts) × Contains (get_or parts v []) e
some_part [] e h = absurd (no_member e h)
some_part (part ∷ parts) e h =
    ⊎_elim
    (λ w. (0, omega arith, w))
    (λ w. let r = some_part parts e w in let lt : r.0 < length parts = r.1 in (suc r.0, omega arith, r.2))
    (Contains-append_cases part (joined parts) e h)

pub part_joined : (parts : List (List Edge)) (v : ℕ) (e : Edge) → v < length parts → Contains (get_or parts v []) e → Contains (joined parts) e
part_joined [] v e h has = absurd (omega arith)
part_joined (part ∷ parts) zero e h has = Contains-append_left part (joined parts) e has
part_joined (part ∷ parts) (suc v) e h has = Contains-append_right part (joined parts) e (part_joined parts v e (omega arith) has)
