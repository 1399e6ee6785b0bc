use Rattle.std.proofs.Common.{◌≡◌, ℕ, length, Option, List, [], ◌∷◌, subst, sym, ◌∙◌, ap, inl, inr, arith}
use Rattle.std.proofs.lemmas.List.{length-append}
use Rattle.loop_bounds.specs.Extents.{AreParents, IsParent, Holds}
use Rattle.loop_bounds.proofs.ExtentLemmas.{is_parent, open_before, parents_more, crossing_of, parent_inside}
use Rattle.loop_bounds.proofs.parents.parents.Goals.{then-k-eq0, else-k-eq0}
use Rattle.loop_bounds.proofs.parents.parents.Goals as goal

pub loop-k-init : goal.loop-k-init
loop-k-init c = let e = c.in_ok-parents.ensures.items in (ap length e, omega arith, λ k lt. absurd (omega arith))

pub climb-parent-requires-clause-known : goal.climb-parent-requires-clause-known
climb-parent-requires-clause-known c = let e = ap length c.deref.ensures.value in let i = c.loop-k.invariant.0 in omega arith

pub climb-parent-requires-clause-parents : goal.climb-parent-requires-clause-parents
climb-parent-requires-clause-parents c = subst (λ (xs : List (Option ℕ)). AreParents c.args.extents.now xs c.loop-k.k) (sym c.deref.ensures.value) c.loop-k.invariant.2

pub climb-parent-requires-clause-opened : goal.climb-parent-requires-clause-opened
climb-parent-requires-clause-opened c = open_before c.args.extents.now c.loop-k.parents.items c.loop-k.k c.if-k-eq0.previous c.requires.extents c.loop-k.invariant.2 c.loop-k-test.true
    (elim c.if-k-eq0.branch [ then-k-eq0 w ↦ inl (w.if-k-eq0.true, w.previous-is) | else-k-eq0 w ↦ inr (omega (arith, w.if-k-eq0.false), w.previous-is) ])

pub ends_within-requires-clause-parent : goal.ends_within-requires-clause-parent
ends_within-requires-clause-parent c = parent_inside c.args.extents.now c.loop-k.k _ c.climb-parent.result c.loop-k-test.true c.climb-parent.ensures.opened

pub loop-k-preserved : goal.loop-k-preserved
loop-k-preserved c =
    let held : Holds c.args.extents.now c.loop-k.k c.climb-parent.result = c.if-not-ends_within.ensures in
    let here : IsParent c.args.extents.now c.loop-k.k c.climb-parent.result = is_parent c.args.extents.now c.loop-k.k c.climb-parent.result c.climb-parent.ensures.opened held in
    let len = ap length c.in_ok-push.ensures.items ∙ length-append c.loop-k.parents.items (c.climb-parent.result ∷ []) in
    (omega (arith, len, c.loop-k.invariant.0), omega (arith, c.loop-k-test.true), parents_more c.args.extents.now c.loop-k.parents.items c.push.new.self.items c.climb-parent.result c.loop-k.k c.loop-k.invariant.0 c.in_ok-push.ensures.items c.loop-k.invariant.2 here)

pub returns : goal.returns
returns c =
    let e : c.loop-k.k ≡ length c.args.extents.now = omega arith in
    record { nested = record { extents_are = c.requires.extents; same = c.loop-k.invariant.0 ∙ e; parents_are = subst (λ (k : ℕ). AreParents c.args.extents.now c.loop-k.parents.items k) e c.loop-k.invariant.2 } }

pub returns-then-not-ends_within : goal.returns-then-not-ends_within
returns-then-not-ends_within c = record { nested = crossing_of c.args.extents.now c.loop-k.k c.climb-parent.result c.requires.extents c.loop-k-test.true c.climb-parent.ensures.opened c.climb-parent.ensures.ends c.if-not-ends_within.ensures }
