-- Edges that turn back nowhere, and cycles of them.
use Rattle.std.proofs.Common.{◌≡◌, ℕ, ◌<◌, zero, suc, Bool, true, false, eqb, List, [], ◌∷◌, length, get_or, drop, refl, sym, ap, ◌∙◌, subst, ⊎_elim, arith}
use Rattle.std.specs.Prelude.{Contains, ◌&&◌}
use Rattle.std.specs.List.{list_any}
use Rattle.std.specs.Cmp.Lexicographic.{pointwise}
use Rattle.std.proofs.Math.Bool.{and-false}
use Rattle.std.proofs.lemmas.Bool.{and_parts, cases_Bool, eqb-true, false≢true}
use Rattle.std.proofs.lemmas.List.{length-drop}
use Rattle.std.proofs.lemmas.List.Folds.{Any-from_list_any, list_any_at}
use Rattle.walks.specs.Greatest.{is_back_edge}
use Rattle.control_flow.specs.declared.places.Place.{Place}
use Rattle.control_flow.specs.declared.places.Place.TheVariants.{At, Exit}
use Rattle.control_flow.specs.declared.edges.Edge.{Edge}
use Rattle.control_flow.specs.Flow.{Flow, HasEdge, IsWellFormed, edge_shape}
use Rattle.statement.specs.Stated.{StatedLoops}
use Rattle.statement.specs.declared.apart.ApartStretch.{ApartStretch}
use Rattle.statement.specs.declared.stated.Loop.{Loop}
use Rattle.loop_bounds.specs.Instance.{Instance, IsInstance, instance_of, is_header, is_member, place_loops, is_back_edge_of, is_back_edge_to}
use Rattle.loop_bounds.specs.Nest.{IsPlainEdge}
use Rattle.loop_bounds.proofs.ExtentOf.{same_list}
use Rattle.text_refusals.specs.Cycles.{IsClosed, IsCycleOf, IsPath, turns_back}

-- ## Edges that turn back

-- a test that no element passes
none_passes : {X : Type 0} (p : X → Bool) (xs : List X) (x : X) → list_any p xs ≡ false → Contains xs x → p x ≡ false
none_passes p xs x none has = ⊎_elim
    (λ (t : p x ≡ true). absurd (false≢true (sym none ∙ list_any_at p xs has.0 x has.1 (ap p has.2 ∙ t))))
    (λ (f : p x ≡ false). f)
    (cases_Bool (p x))

-- no back edge of an instance whose loop it does not turn in
no_back : (apart : List ApartStretch) (e : Edge) (to : Place) (l : Loop) (list : List ℕ) → to ≡ e.to → is_back_edge_to apart l e to ≡ false
    → is_back_edge edge_shape place_loops (instance_of apart l list) e ≡ false
no_back apart e Exit l list ends none =
    ap (λ (p : Place). is_member (instance_of apart l list) e.from && is_header (instance_of apart l list) p) (sym ends)
    ∙ and-false (is_member (instance_of apart l list) e.from)
no_back apart e (At calls a) l list ends none = ⊎_elim
    (λ (t : pointwise eqb calls list ≡ true).
    ap (λ (x : List ℕ). is_back_edge edge_shape place_loops (instance_of apart l x) e) (sym (same_list calls list t)) ∙ none)
    (λ (f : pointwise eqb calls list ≡ false).
    ap (λ (p : Place). is_member (instance_of apart l list) e.from && is_header (instance_of apart l list) p) (sym ends)
    ∙ ap (λ (b : Bool). is_member (instance_of apart l list) e.from && (b && eqb a l.header)) f
    ∙ and-false (is_member (instance_of apart l list) e.from))
    (cases_Bool (pointwise eqb calls list))

-- an instance that the edge turns back to
pub record TurnsTo (flow : Flow) (loops : StatedLoops) (e : Edge) : Type 0 where
  pub instance : Instance
  pub is : IsInstance flow loops instance
  pub back : is_back_edge edge_shape place_loops instance e ≡ true

turned_to : (flow : Flow) (loops : StatedLoops) (e : Edge) (to : Place) (l : Loop) → Contains loops.list l → to ≡ e.to
    → Contains flow.places to → is_back_edge_to loops.apart l e to ≡ true → TurnsTo flow loops e
turned_to flow loops e Exit l stated ends has back = absurd (false≢true back)
turned_to flow loops e (At calls a) l stated ends has back =
    let ends_at = and_parts (is_member (instance_of loops.apart l calls) e.from) (is_header (instance_of loops.apart l calls) e.to) back in
    let header : (pointwise eqb calls calls && eqb a l.header) ≡ true =
    ap (λ (p : Place). is_header (instance_of loops.apart l calls) p) ends ∙ ends_at.1 in
    let at : a ≡ l.header = eqb-true a l.header (and_parts (pointwise eqb calls calls) (eqb a l.header) header).1 in
    record {
      instance = instance_of loops.apart l calls;
      is = record { stated_loop = l; stated = stated; reached = subst (λ (h : ℕ). Contains flow.places (At calls h)) at has; parts = refl };
      back = back;
    }

module _ (flow : Flow) (loops : StatedLoops) where
  pub plain : (e : Edge) → HasEdge flow e → turns_back loops e ≡ false → IsPlainEdge flow loops e
  plain e has none = record {
    has = has;
    plain = λ i is.
        let l = is.stated_loop in
        ap (λ (x : Instance). is_back_edge edge_shape place_loops x e) is.parts
        ∙ no_back loops.apart e e.to l i.list refl (none_passes (λ x. is_back_edge_of loops.apart x e) loops.list l none is.stated);
  }

  -- an edge that turns back is not plain
  pub turned : IsWellFormed flow → (e : Edge) → turns_back loops e ≡ true → IsPlainEdge flow loops e → ⊥
  turned well_formed e back plain_e =
      let any = Any-from_list_any (λ x. is_back_edge_of loops.apart x e) loops.list back in
      let l = any.1 in
      let goes : TurnsTo flow loops e = ⊎_elim
      (λ (out : e.to ≡ Exit). absurd (false≢true (ap (λ (p : Place). is_back_edge_to loops.apart l e p) (sym out) ∙ any.4)))
      (λ (there : Contains flow.places e.to). turned_to flow loops e e.to l (any.0, any.2, any.3) refl there any.4)
      (well_formed.ends e plain_e.has) in
      false≢true (sym (plain_e.plain goes.instance goes.is) ∙ goes.back)

  -- ## Cycles

  pub closed : (start p : Place) (walk : List Edge) → 0 < length walk → IsPath flow loops start walk p → p ≡ start → IsCycleOf flow loops walk
  closed start p [] some leads back = absurd (omega (arith, some))
  closed start p (e ∷ walk) some leads back = record {
    cycle = record {
      place = start;
      first = e;
      rest = walk;
      returns = (leads.0, leads.1, subst (IsPath flow loops e.to walk) back leads.2);
    };
    edges_are = refl;
  }

  -- a path from where one of its edges begins
  later : (start end : Place) (path : List Edge) (k : ℕ) (d : Edge) → IsPath flow loops start path end → k < length path → IsPath flow loops (get_or path k d).from (drop k path) end
  later start end [] k d leads lt = absurd (omega (arith, lt))
  later start end (e ∷ path) zero d leads lt = (leads.0, refl, leads.2)
  later start end (e ∷ path) (suc k) d leads lt = later e.to end path k d leads.2 (omega (arith, lt))

  pub closed_at : (path : List Edge) (end : Place) (k : ℕ) (e : Edge) → IsClosed flow loops path end → k < length path → e ≡ get_or path k e → e.from ≡ end → IsCycleOf flow loops (drop k path)
  closed_at path end k e is lt at from =
      let walk : IsPath flow loops e.from (drop k path) end = subst (λ (x : Edge). IsPath flow loops x.from (drop k path) end) (sym at) (later is.start end path k e is.leads lt) in
      closed e.from end (drop k path) (omega (arith, length-drop k path, lt)) walk (sym from)
