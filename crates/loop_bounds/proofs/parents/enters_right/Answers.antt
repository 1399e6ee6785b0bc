use Rattle.std.proofs.Common.{ℕ, ◌<◌, length, Option, subst, sym, refl, arith}
use Rattle.std.proofs.lemmas.Bool.{false≢true}
use Rattle.loop_bounds.specs.Extents.{parent_at, IsLeft, height}
use Rattle.loop_bounds.proofs.EnterLemmas.{left_at_first, left_step, left_lower, right_here, right_at_end, wrong_here}
use Rattle.loop_bounds.proofs.parents.enters_right.Goals as goal

pub loop-inner-init : goal.loop-inner-init
loop-inner-init c = left_at_first c.args.extents.now c.args.to c.innermost-inner.result c.innermost-inner.ensures

pub bounds-extents-k : goal.bounds-extents-k
bounds-extents-k c = let h = subst (λ (o : Option ℕ). IsLeft c.args.extents.now c.args.to o) c.in-Some.is c.loop-inner.invariant in
    h.0

pub returns-then-holds : goal.returns-then-holds
returns-then-holds c = let h = subst (λ (o : Option ℕ). IsLeft c.args.extents.now c.args.to o) c.in-Some.is c.loop-inner.invariant in
    let at = c.if-holds.ensures in
    right_here c.args.extents.now c.args.from c.args.to c.in-Some.k c.requires.extents_are h (at.0 refl).0 (at.0 refl).1

pub returns-then-extent-to : goal.returns-then-extent-to
returns-then-extent-to c = let h = subst (λ (o : Option ℕ). IsLeft c.args.extents.now c.args.to o) c.in-Some.is c.loop-inner.invariant in
    let out = c.if-holds.ensures in
    wrong_here c.args.extents.now c.args.from c.args.to c.in-Some.k h (λ inside. false≢true (out.1 inside)) c.if-extent-to.true

pub bounds-parents-k : goal.bounds-parents-k
bounds-parents-k c = let h = subst (λ (o : Option ℕ). IsLeft c.args.extents.now c.args.to o) c.in-Some.is c.loop-inner.invariant in
    let k : c.in-Some.k < length c.args.extents.now = h.0 in omega arith

pub loop-inner-smaller : goal.loop-inner-smaller
loop-inner-smaller c = let h = subst (λ (o : Option ℕ). IsLeft c.args.extents.now c.args.to o) c.in-Some.is c.loop-inner.invariant in
    subst (λ (o : Option ℕ). height (parent_at c.args.parents.now c.in-Some.k) < height o) (sym c.in-Some.is) (left_lower c.args.extents.now c.args.parents.now c.args.to c.in-Some.k c.requires.parents_are h)

pub loop-inner-preserved : goal.loop-inner-preserved
loop-inner-preserved c = let h = subst (λ (o : Option ℕ). IsLeft c.args.extents.now c.args.to o) c.in-Some.is c.loop-inner.invariant in
    left_step c.args.extents.now c.args.parents.now c.args.to c.in-Some.k c.requires.extents_are c.requires.parents_are h (sym c.if-extent-to.false)

pub returns : goal.returns
returns c = let h = subst (λ (o : Option ℕ). IsLeft c.args.extents.now c.args.to o) c.in_default.is c.loop-inner.invariant in
    right_at_end c.args.extents.now c.args.from c.args.to h
