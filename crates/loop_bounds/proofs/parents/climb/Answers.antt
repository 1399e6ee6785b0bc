use Rattle.std.proofs.Common.{ℕ, ◌<◌, Option, subst, sym, arith}
use Rattle.loop_bounds.specs.Extents.{IsOpen, parent_at, height}
use Rattle.loop_bounds.proofs.ExtentLemmas.{climb_step, climb_lower}
use Rattle.loop_bounds.proofs.parents.climb.Goals as goal

-- src/parents.rt:19:5
pub loop-current-init : goal.loop-current-init
loop-current-init c = c.requires.opened

-- src/parents.rt:20:23
pub bounds-extents-k : goal.bounds-extents-k
bounds-extents-k c = let h = subst (λ (o : Option ℕ). IsOpen c.args.extents.now c.args.limit c.args.position o) c.in-Some.is c.loop-current.invariant in let k : c.in-Some.k < c.args.limit = h.0 in omega arith

-- src/parents.rt:21:13
pub returns-then-position-extents-clause-opened : goal.returns-then-position-extents-clause-opened
returns-then-position-extents-clause-opened c = subst (λ (o : Option ℕ). IsOpen c.args.extents.now c.args.limit c.args.position o) c.in-Some.is c.loop-current.invariant

-- src/parents.rt:23:19
pub bounds-parents-k : goal.bounds-parents-k
bounds-parents-k c = let h = subst (λ (o : Option ℕ). IsOpen c.args.extents.now c.args.limit c.args.position o) c.in-Some.is c.loop-current.invariant in let k : c.in-Some.k < c.args.limit = h.0 in omega arith

-- src/parents.rt:19:5
pub loop-current-smaller : goal.loop-current-smaller
loop-current-smaller c = let h = subst (λ (o : Option ℕ). IsOpen c.args.extents.now c.args.limit c.args.position o) c.in-Some.is c.loop-current.invariant in
    subst (λ (o : Option ℕ). height (parent_at c.args.parents.now c.in-Some.k) < height o) (sym c.in-Some.is) (climb_lower c.args.extents.now c.args.parents.now c.args.limit c.args.position c.in-Some.k c.requires.parents h)

-- src/parents.rt:19:5
pub loop-current-preserved : goal.loop-current-preserved
loop-current-preserved c = let h = subst (λ (o : Option ℕ). IsOpen c.args.extents.now c.args.limit c.args.position o) c.in-Some.is c.loop-current.invariant in
    climb_step c.args.extents.now c.args.parents.now c.args.limit c.args.position c.in-Some.k c.requires.parents c.requires.begun h c.if-position-extents.false

-- src/parents.rt:8:1
pub returns-clause-opened : goal.returns-clause-opened
returns-clause-opened c = subst (λ (o : Option ℕ). IsOpen c.args.extents.now c.args.limit c.args.position o) c.in_default.is c.loop-current.invariant
