use Rattle.std.proofs.Common.{◌≡◌, ◌∙◌, ◌&&◌, ap, eqb, false, length, sym, true}
use Rattle.std.specs.Prelude.{◌==◌}
use Rattle.std.specs.Cmp.Lexicographic.{pointwise}
use Rattle.std.specs.List.{list_all}
use Rattle.std.proofs.lemmas.Bool.{and_left, eq-eqb, ne_eqb}
use Rattle.numbered_walks.specs.Ordered.{is_in}
use Rattle.text_graph.specs.Stretches.{calls_in, loops_of}
use Rattle.text_graph.proofs.TogetherLaws.{together_by}
use Rattle.text_graph.proofs.stretches.are_together.Goals as goal

pub returns-then-not-as_many : goal.returns-then-not-as_many
returns-then-not-as_many c =
    let flow = c.args.drawn.graph.now in
    let tree = c.args.drawn.tree.now in
    let m = c.args.left in
    let n = c.args.right in
    let calls = pointwise ◌==◌ (calls_in flow tree m) (calls_in flow tree n) in
    let same : calls ≡ true = (λ i. pointwise ◌==◌ (sym c.calls_in.ensures i) (sym c.calls_in-2.ensures i)) ∙ sym c.eq-same_calls.ensures ∙ c.if-not-same_calls.false in
    let differ : length (loops_of flow tree m) ≡ length (loops_of flow tree n) → ⊥ =
    λ is. c.if-not-as_many.true (ap length c.loops_of-loops.ensures ∙ is ∙ sym (ap length c.loops_of.ensures)) in
    together_by (λ s. is_in s m) (λ s. is_in s n) calls false tree.spans same
    (sym (and_left (eqb (length (loops_of flow tree m)) (length (loops_of flow tree n))) (list_all (λ s. is_in s n) (loops_of flow tree m)) (ne_eqb (length (loops_of flow tree m)) (length (loops_of flow tree n)) differ)))

pub returns : goal.returns
returns c =
    let flow = c.args.drawn.graph.now in
    let tree = c.args.drawn.tree.now in
    let m = c.args.left in
    let n = c.args.right in
    let loops = loops_of flow tree m in
    let next = loops_of flow tree n in
    let calls = pointwise ◌==◌ (calls_in flow tree m) (calls_in flow tree n) in
    let all = list_all (λ s. is_in s n) loops in
    let same : calls ≡ true = (λ i. pointwise ◌==◌ (sym c.calls_in.ensures i) (sym c.calls_in-2.ensures i)) ∙ sym c.eq-same_calls.ensures ∙ c.if-not-same_calls.false in
    let many : length loops ≡ length next = ap length (sym c.loops_of-loops.ensures) ∙ c.if-not-as_many.false ∙ ap length c.loops_of.ensures in
    let hold : c.all_hold.result ≡ all = c.all_hold.ensures ∙ ap (list_all (λ s. is_in s n)) c.loops_of-loops.ensures in
    together_by (λ s. is_in s m) (λ s. is_in s n) calls c.all_hold.result tree.spans same (hold ∙ sym (ap (λ b. b && all) (eq-eqb (length loops) (length next) many)))
