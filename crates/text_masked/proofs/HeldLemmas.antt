-- The numbers at which a mask is set, found one after another, and those to which edges lead back meanwhile.
use Rattle.std.proofs.Common.{◌≡◌, ◌∙◌, ℕ, ◌+◌, ◌<◌, Bool, true, false, List, [], ◌∷◌, ◌++◌, length, get_or, map, Contains, ⊎_elim, Vec, sym, ap, subst, arith}
use Rattle.std.specs.Prelude.{◌↔◌}
use Rattle.std.specs.Global.{Global}
use Rattle.std.proofs.lemmas.Bool.{cases_lt, lt-ltb, ltb-true}
use Rattle.std.proofs.lemmas.List.{get_or_append_left, get_or_default, get_or_push, get_or-map, length-map, length_push}
use Rattle.std.proofs.lemmas.List.Elements.{Contains-get_or}
use Rattle.numbered_walks.specs.declared.span.NumberedEdge.{NumberedEdge}
use Rattle.numbered_walks.specs.Index.{AreGrouped, edge_at}
use Rattle.numbered_walks.proofs.Members.{no_numbered_edge}
use Rattle.text_masked.specs.declared.marked.MarkedEdge.{MarkedEdge}
use Rattle.text_masked.specs.declared.shown.Shown.TheVariants.{Nothing}
use Rattle.text_masked.specs.Held.{AreHeld, IsCarriedUp, carries, flag_at, is_set_after, marked_at}

abbrev pub no_marked : MarkedEdge
no_marked = record { edge = no_numbered_edge; shown = Nothing }

-- ## Edges up to a number

module _ (marked : List MarkedEdge) (edges : List NumberedEdge) (same : map (λ (m : MarkedEdge). m.edge) marked ≡ edges) where
  pub as_many : length marked ≡ length edges
  as_many = sym (length-map marked (λ (m : MarkedEdge). m.edge)) ∙ ap (λ (es : List NumberedEdge). length es) same

  pub edge_is : (k : ℕ) → k < length marked → edge_at edges k ≡ (marked_at marked k).edge
  edge_is k lt = ap (λ (es : List NumberedEdge). edge_at es k) (sym same) ∙ get_or-map (λ (m : MarkedEdge). m.edge) marked k no_marked no_numbered_edge lt

  module _ (groups : List (Vec ℕ Global)) (held : List Bool) (p : ℕ) (d : Vec ℕ Global) (small : p < length groups) (all : AreGrouped edges (length edges) true groups) where
    -- the mask is set after one of the group
    abbrev pub HasCarried : List ℕ → Type 0
    HasCarried group = (k : ℕ) × Contains group k × (carries held (marked_at marked k) ≡ true)

    pub carried_by : (group : List ℕ) → group ≡ (get_or groups p d).items → HasCarried group → IsCarriedUp marked held p
    carried_by group is (k, has, on) =
        let known = (all p d small k).0 (subst (λ (l : List ℕ). Contains l k) is has) in
        let lt : k < length marked = omega (arith, known.0, as_many) in
        let e_is : edge_at edges k ≡ (marked_at marked k).edge = edge_is k lt in
        let to_is : (edge_at edges k).to ≡ (marked_at marked k).edge.to = ap (λ (e : NumberedEdge). e.to) e_is in
        let from_is : (edge_at edges k).from ≡ (marked_at marked k).edge.from = ap (λ (e : NumberedEdge). e.from) e_is in
        (marked_at marked k, Contains-get_or marked k no_marked lt, sym to_is ∙ known.1, omega (arith, to_is, from_is, known.1, ltb-true (edge_at edges k).from (edge_at edges k).to known.2), on)

    pub carried_of : (group : List ℕ) → group ≡ (get_or groups p d).items → IsCarriedUp marked held p → HasCarried group
    carried_of group is (m, (k, inside, here), ends, up, on) =
        let at : marked_at marked k ≡ m = get_or_default marked k no_marked m inside ∙ here in
        let e_is : edge_at edges k ≡ m.edge = edge_is k inside ∙ ap (λ (x : MarkedEdge). x.edge) at in
        let to_is : (edge_at edges k).to ≡ p = ap (λ (e : NumberedEdge). e.to) e_is ∙ ends in
        let from_is : (edge_at edges k).from ≡ m.edge.from = ap (λ (e : NumberedEdge). e.from) e_is in (
          k,
          subst (λ (l : List ℕ). Contains l k) (sym is) ((all p d small k).1 (omega (arith, inside, as_many), to_is, lt-ltb (edge_at edges k).from (edge_at edges k).to (omega (arith, to_is, from_is, up)))),
          ap (carries held) at ∙ on,
        )

-- ## One more number

module _ (marked : List MarkedEdge) (held : List Bool) (known : AreHeld marked (length held) held) where
  old : (v : Bool) (p : ℕ) → p < length held → flag_at (held ++ v ∷ []) p ≡ flag_at held p
  old v p lt = get_or_append_left held (v ∷ []) false p lt

  new : (v : Bool) (p : ℕ) → p ≡ length held → flag_at (held ++ v ∷ []) p ≡ v
  new v p is = get_or_push held v false p (sym is)

  same_carried : (v : Bool) (m : MarkedEdge) → m.edge.from < length held → carries (held ++ v ∷ []) m ≡ carries held m
  same_carried v m lt = ap (λ (b : Bool). is_set_after b m.shown) (old v m.edge.from lt)

  up_forth : (v : Bool) (n : ℕ) → n < length held + 1 → IsCarriedUp marked held n → IsCarriedUp marked (held ++ v ∷ []) n
  up_forth v n lt (m, has, ends, up, on) = (m, has, ends, up, same_carried v m (omega arith) ∙ on)

  up_back : (v : Bool) (n : ℕ) → n < length held + 1 → IsCarriedUp marked (held ++ v ∷ []) n → IsCarriedUp marked held n
  up_back v n lt (m, has, ends, up, on) = (m, has, ends, up, sym (same_carried v m (omega arith)) ∙ on)

  pub one_more : (v : Bool) → ((v ≡ true) ↔ IsCarriedUp marked held (length held)) → AreHeld marked (length held + 1) (held ++ v ∷ [])
  one_more v iff = record {
    whole = length_push held v;
    reached = λ n lt on. up_forth v n lt (⊎_elim
        (λ (low : n < length held). known.reached n low (sym (old v n low) ∙ on))
        (λ high.
        let is : n ≡ length held = omega arith in
        subst (λ (k : ℕ). IsCarriedUp marked held k) (sym is) (iff.0 (sym (new v n is) ∙ on)))
        (cases_lt n (length held)));
    all = λ n lt by.
        let before : IsCarriedUp marked held n = up_back v n lt by in
        ⊎_elim
        (λ (low : n < length held). old v n low ∙ known.all n low before)
        (λ high.
        let is : n ≡ length held = omega arith in
        new v n is ∙ iff.1 (subst (λ (k : ℕ). IsCarriedUp marked held k) is before))
        (cases_lt n (length held));
  }

pub none_held : (marked : List MarkedEdge) (held : List Bool) → held ≡ [] → AreHeld marked 0 held
none_held marked held none = record {
  whole = ap (λ (v : List Bool). length v) none;
  reached = λ n lt on. absurd (omega arith);
  all = λ n lt by. absurd (omega arith);
}
