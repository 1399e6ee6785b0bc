use Rattle.std.proofs.Common.{◌≡◌, ◌<◌, ℕ, length, subst, ap, ◌∙◌, rules, arith}
use Rattle.std.proofs.lemmas.List.Sorted.{answers_always}
use Rattle.std.proofs.lemmas.List.{get_or_default}
use Rattle.loop_bounds.specs.declared.loop_instances.LoopInstance.{LoopInstance}
use Rattle.numbered_walks.specs.declared.span.Span.{Span}
use Rattle.loop_bounds.specs.Extents.{extent_at}
use Rattle.loop_bounds.specs.Layout.{AreSpans, IsShown}
use Rattle.loop_bounds.proofs.LayoutLemmas.{spans_more}
use Rattle.loop_bounds.proofs.layout.spans.Goals as goal

pub loop-extent-init : goal.loop-extent-init
loop-extent-init c = record { same = ap length c.in_ok-spans.ensures.items; named = λ k s x lt. absurd (omega arith); shown = λ k s d x lt. absurd (omega arith) }

pub loop-extent-preserved : goal.loop-extent-preserved
loop-extent-preserved c =
    let extents = c.args.extents.now in
    let i : ℕ = c.loop-extent.extent-index in
    let named : (extent_at extents i).instance < length c.args.found.now = c.requires.named i (record { first = 0; end = 0; header = 0; instance = 0 }) c.loop-extent-test.true in
    rw c.in_ok-push.ensures.items
    (spans_more c.args.numbers.now c.args.found.now extents c.loop-extent.spans.items i c.span_of.result c.loop-extent.invariant c.loop-extent-test.true
    (λ d. subst (λ (f : LoopInstance). IsShown c.args.numbers.now (extent_at extents i) f.stated.bound c.span_of.result)
    (c.index-found-instance.is ∙ get_or_default c.args.found.now (extent_at extents i).instance c.index-found-instance.result d named) c.span_of.ensures))

pub returns : goal.returns
returns c =
    let ended : c.loop-extent.extent-index ≡ length c.args.extents.now = omega arith in
    record {
      turn = c.loop-extent.spans.items;
      turn_is = subst (AreSpans c.args.numbers.now c.args.found.now c.args.extents.now c.loop-extent.spans.items) ended c.loop-extent.invariant;
      moved = c.sort_unstable_by_key.ensures.permutation;
      sorted = c.sort_unstable_by_key.ensures.sorted (λ (x : Span × ℕ). (x.0.last, record { 0 = x.0.header })) (answers_always _ _ _ (λ f a r g called. search rules));
    }
