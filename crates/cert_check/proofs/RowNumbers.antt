-- What the row of an edge asks for, and the number that it is about, by place and by number.
use Rattle.std.proofs.Common.{◌≡◌, ◌∙◌, ℕ, suc, ◌+◌, ◌*◌, ◌<◌, Bool, true, false, cond, not, eqb, ◌&&◌, List, [], ◌∷◌, length, get_or, sum_by, Option, Some, None, refl, sym, ap, arith}
use Rattle.std.specs.List.{find}
use Rattle.std.proofs.lemmas.Bool.{false≢true, true≢false}
use Rattle.std.proofs.lemmas.List.Sums.{sum_by-cons}
use Rattle.walks.specs.Walk.{Shape}
use Rattle.walks.specs.Greatest.{Loops}
use Rattle.walks.specs.Rows.{Potentials, is_left, limit_at, limit_of, needed, stay_of}
use Rattle.control_flow.specs.declared.edges.Edge.{Edge}
use Rattle.control_flow.specs.Flow.{Flow, IsWellFormed, edge_shape}
use Rattle.numbered_walks.specs.declared.span.NumberedEdge.{NumberedEdge}
use Rattle.numbered_walks.specs.declared.span.Span.{Span}
use Rattle.numbered_walks.specs.declared.tables.Tables.{Tables}
use Rattle.numbered_walks.specs.Index.{edge_at}
use Rattle.numbered_walks.specs.Ordered.{number_shape, span_loops}
use Rattle.numbered_walks.specs.Tables as T
use Rattle.loop_bounds.specs.Instance.{place_loops}
use Rattle.loop_bounds.specs.Tree.{IsTree, Tree}
use Rattle.longest_walk.specs.Built.{step_at}
use Rattle.longest_walk.specs.Rows.{is_exit}
use Rattle.longest_walk.proofs.CarryRows.{SameRow}
use Rattle.certificate.specs.declared.cert.Cert.{Cert}
use Rattle.cert_check.specs.declared.failing.HeavyRow.{HeavyRow}
use Rattle.cert_check.specs.Columns.{AreTablesOf}
use Rattle.cert_check.specs.Failing.{IsHeavy}
use Rattle.cert_check.specs.Verdict.{potentials}
use Rattle.cert_check.proofs.PassLemmas.{alike}

-- ## Lists that are alike

sums_alike : {X Y : Type 0} (f : X → ℕ) (g : Y → ℕ) (xs : List X) (ys : List Y) → length xs ≡ length ys → ((k : ℕ) (x : X) (y : Y) → k < length xs → f (get_or xs k x) ≡ g (get_or ys k y)) → sum_by f xs ≡ sum_by g ys
sums_alike f g [] [] same each = refl
sums_alike f g [] (y ∷ ys) same each = absurd (omega (arith, same))
sums_alike f g (x ∷ xs) [] same each = absurd (omega (arith, same))
sums_alike f g (x ∷ xs) (y ∷ ys) same each =
    let here : f x ≡ g y = each 0 x y (omega arith) in
    let rest : sum_by f xs ≡ sum_by g ys = sums_alike f g xs ys (omega (arith, same)) (λ k u v lt. each (suc k) u v (omega (arith, lt))) in
    omega (arith, sum_by-cons f x xs, sum_by-cons g y ys)

pick_alike : {X Y Z : Type 0} (to : Option X → Z) (from : Option Y → Z) (a b : Bool) (x : X) (y : Y) (xs : Option X) (ys : Option Y) → a ≡ b → to (Some x) ≡ from (Some y) → to xs ≡ from ys → to (cond a (Some x) xs) ≡ from (cond b (Some y) ys)
pick_alike to from true true x y xs ys is one other = one
pick_alike to from false false x y xs ys is one other = other
pick_alike to from true false x y xs ys is one other = absurd (true≢false is)
pick_alike to from false true x y xs ys is one other = absurd (false≢true is)

finds_alike : {X Y Z : Type 0} (f : X → Bool) (g : Y → Bool) (to : Option X → Z) (from : Option Y → Z) (xs : List X) (ys : List Y) → length xs ≡ length ys → to None ≡ from None
    → ((k : ℕ) (x : X) (y : Y) → k < length xs → (f (get_or xs k x) ≡ g (get_or ys k y)) × (to (Some (get_or xs k x)) ≡ from (Some (get_or ys k y)))) → to (find f xs) ≡ from (find g ys)
finds_alike f g to from [] [] same none each = none
finds_alike f g to from [] (y ∷ ys) same none each = absurd (omega (arith, same))
finds_alike f g to from (x ∷ xs) [] same none each = absurd (omega (arith, same))
finds_alike f g to from (x ∷ xs) (y ∷ ys) same none each =
    let here = each 0 x y (omega arith) in
    pick_alike to from (f x) (g y) x y (find f xs) (find g ys) here.0 here.1 (finds_alike f g to from xs ys (omega (arith, same)) none (λ k u v lt. each (suc k) u v (omega (arith, lt))))

-- ## Rows that are alike

module _ {P E I Q F J : Type 0} (shape : Shape P E) (loops : Loops P I) (is_exit : P → Bool) (c : Potentials P I) (shape' : Shape Q F) (loops' : Loops Q J) (is_exit' : Q → Bool) (d : Potentials Q J)
    (tree : List I) (tree' : List J) (e : E) (f : F) (s : SameRow shape loops is_exit c shape' loops' is_exit' d tree tree' e f) where
  pub needed_alike : needed shape loops tree c e ≡ needed shape' loops' tree' d f
  needed_alike =
      let sums : sum_by (λ i. cond (is_left shape loops e i) (stay_of shape loops tree c i) 0) tree ≡ sum_by (λ j. cond (is_left shape' loops' f j) (stay_of shape' loops' tree' d j) 0) tree' =
      sums_alike (λ i. cond (is_left shape loops e i) (stay_of shape loops tree c i) 0) (λ j. cond (is_left shape' loops' f j) (stay_of shape' loops' tree' d j) 0) tree tree' s.instances_are.same
      (λ k x y lt. let a = s.instances_are.each k x y lt in (λ n. cond {A = ℕ} (a.from_is n && not (a.to_is n)) (a.arrival_is n + a.bound_is n * a.round_is n) 0)) in
      (λ n. s.from_is n + sums n + s.cost_is n)

  pub limit_alike : limit_of shape loops tree c is_exit e ≡ limit_of shape' loops' tree' d is_exit' f
  limit_alike =
      finds_alike (λ i. loops.is_header i (shape.to e)) (λ j. loops'.is_header j (shape'.to f)) (limit_at shape loops tree c is_exit e) (limit_at shape' loops' tree' d is_exit' f) tree tree' s.instances_are.same (ap (λ (n : ℕ). Some n) s.place_is)
      (λ k x y lt.
      let a = s.instances_are.each k x y lt in
      (a.header_is, (λ n. cond {A = Option ℕ} (a.from_is n) (cond {A = Option ℕ} (eqb (a.bound_is n) 0) None (Some (a.round_is n))) (Some (a.arrival_is n)))))

-- ## A row that does not hold

pub is_heavy : (flow : Flow) (tree : Tree) (well : IsWellFormed flow) (t : IsTree flow tree) (cert : Cert) (c : Tables) (are : AreTablesOf flow tree cert c) (k : ℕ) (lt : k < length flow.edges) (h : HeavyRow) (m : ℕ) (ss : List Span) (es : List NumberedEdge)
    → h.edge ≡ step_at flow.edges k → m ≡ length flow.places → ss ≡ tree.spans → es ≡ tree.edges
    → h.needed ≡ T.needed ss c (edge_at es k) → limit_of number_shape span_loops ss (T.potentials_of c) (T.is_exit m) (edge_at es k) ≡ Some h.stated → h.stated < h.needed → IsHeavy tree cert h
is_heavy flow tree well t cert c are k lt h m ss es edge_is exit_is spans_are edges_are needed_is stated_is less =
    let same = alike flow tree well t cert c are k lt in
    record {
      needed_is = needed_is ∙ (λ i. T.needed (spans_are i) c (edge_at (edges_are i) k))
          ∙ sym (needed_alike edge_shape place_loops is_exit (potentials cert) number_shape span_loops (T.is_exit (length flow.places)) (T.potentials_of c) tree.instances tree.spans (step_at flow.edges k) (edge_at tree.edges k) same)
          ∙ ap (λ (e : Edge). needed edge_shape place_loops tree.instances (potentials cert) e) (sym edge_is);
      stated_is = ap (λ (e : Edge). limit_of edge_shape place_loops tree.instances (potentials cert) is_exit e) edge_is
          ∙ limit_alike edge_shape place_loops is_exit (potentials cert) number_shape span_loops (T.is_exit (length flow.places)) (T.potentials_of c) tree.instances tree.spans (step_at flow.edges k) (edge_at tree.edges k) same
          ∙ sym (λ i. limit_of number_shape span_loops (spans_are i) (T.potentials_of c) (T.is_exit (exit_is i)) (edge_at (edges_are i) k)) ∙ stated_is;
      less = less;
    }
