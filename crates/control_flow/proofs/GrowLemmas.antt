-- The list of places grows by the ends of edges.
use Rattle.std.proofs.Common.{◌≡◌, ℕ, ◌+◌, ◌<◌, List, [], ◌∷◌, ◌++◌, length, take, get_or, inl, inr, ⊎_elim, sym, ap, ◌∙◌, subst, arith, append_assoc}
use Rattle.std.specs.Prelude.{Contains}
use Rattle.std.specs.BTreeSet.{BTreeSet}
use Rattle.std.specs.declared.cmp.Reverse.{Reverse}
use Rattle.std.proofs.lemmas.List.{take_more, length-take, get_or-take}
use Rattle.std.proofs.lemmas.List.Elements.{Contains-push, Contains-push_cases, Contains-append_left, Contains-get_or}
use Rattle.control_flow.specs.declared.edges.Edge.{Edge}
use Rattle.control_flow.specs.declared.places.Place.{Place}
use Rattle.control_flow.specs.Search.{IsFound, Adds, IsCrowded, Grows, IsCrowdedBy, IsIn, EndsOne}

pub wider : (order more : List Place) (q : Place) → IsIn order q → IsIn (order ++ more) q
wider order more q h = ⊎_elim (λ e. inl e) (λ w. inr (Contains-append_left order more q w)) h

pub later : (done more : List Edge) (q : Place) → EndsOne done q → EndsOne (done ++ more) q
later done more q h = (h.0, Contains-append_left done more h.0 h.1, h.2)

kept : (old mid : List Place) (done : List Edge) (e : Edge) → Grows old done mid → IsIn mid e.to → Grows old (done ++ e ∷ []) mid
kept old mid done e g known = record {
  more = g.more;
  from = λ q h. ⊎_elim (λ w. inl w) (λ w. inr (later done (e ∷ []) q w)) (g.from q h);
  to = λ x h. ⊎_elim (λ w. g.to x w) (λ is. subst (λ (y : Edge). IsIn mid y.to) is known) (Contains-push_cases done e x h);
}

pushed : (old mid : List Place) (done : List Edge) (e : Edge) → Grows old done mid → Grows old (done ++ e ∷ []) (mid ++ e.to ∷ [])
pushed old mid done e g = record {
  more = (g.more.0 ++ e.to ∷ [], ap (λ xs. xs ++ e.to ∷ []) g.more.1 ∙ append_assoc old g.more.0 (e.to ∷ []));
  from = λ q h. ⊎_elim (λ v. ⊎_elim (λ w. inl w) (λ w. inr (later done (e ∷ []) q w)) (g.from q v)) (λ is. inr (e, Contains-push done e, is)) (Contains-push_cases mid e.to q h);
  to = λ x h. ⊎_elim (λ w. wider mid (e.to ∷ []) x.to (g.to x w)) (λ is. subst (λ (y : Edge). IsIn (mid ++ e.to ∷ []) y.to) is (inr (Contains-push mid e.to))) (Contains-push_cases done e x h);
}

pub grows_more : (old mid new : List Place) (done : List Edge) (e : Edge) → Grows old done mid → Adds mid e.to new → Grows old (done ++ e ∷ []) new
grows_more old mid new done e g adds =
    ⊎_elim
    (λ s. subst (Grows old (done ++ e ∷ [])) (sym s.0) (kept old mid done e g s.1))
    (λ s. subst (Grows old (done ++ e ∷ [])) (sym s) (pushed old mid done e g))
    adds

pub take_item : (xs : List Edge) (i : ℕ) (e : Edge) → i < length xs → e ≡ get_or xs i e → take (i + 1) xs ≡ take i xs ++ e ∷ []
take_item xs i e h is = take_more xs i e h ∙ ap (λ x. take i xs ++ x ∷ []) (sym is)

pub has_item : (xs : List Edge) (i : ℕ) (e : Edge) → i < length xs → e ≡ get_or xs i e → Contains xs e
has_item xs i e h is = subst (Contains xs) (sym is) (Contains-get_or xs i e h)

Contains-take : (xs : List Edge) (i : ℕ) (x : Edge) → Contains (take i xs) x → Contains xs x
Contains-take xs i x h =
    let lt : h.0 < length (take i xs) = h.1 in
    let k : h.0 < length xs = omega (arith, length-take i xs) in
    let j : h.0 < i = omega (arith, length-take i xs) in
    (h.0, k, sym (get_or-take i xs h.0 x j) ∙ h.2)

pub crowded_by : (seen : BTreeSet (Reverse Place)) (old mid : List Place) (edges : List Edge) (i : ℕ) (e : Edge) → IsFound seen mid → Grows old (take i edges) mid → Contains edges e → IsCrowded mid e.to → IsCrowdedBy old edges
crowded_by seen old mid edges i e found g has crowd = record {
  places = crowd.places;
  ordered = crowd.ordered;
  many = crowd.many;
  among = λ q h. ⊎_elim
      (λ w. ⊎_elim (λ v. inl v) (λ v. inr (v.0, Contains-take edges i v.0 v.1, v.2)) (g.from q w))
      (λ is. inr (e, has, is))
      (crowd.among q h);
  no_exit = λ h. ⊎_elim (λ w. found.no_exit w) (λ is. crowd.inside is) (crowd.among _ h);
}
