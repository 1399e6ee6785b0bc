use Rattle.std.proofs.Common.{◌≡◌, length, rules, subst, arith}
use Rattle.std.proofs.lemmas.List.Sorted.{answers_always}
use Rattle.loop_bounds.specs.declared.extents.Extent.{Extent}
use Rattle.loop_bounds.specs.Extents.{AreExtentsUpto}
use Rattle.loop_bounds.proofs.ExtentOf.{extents_more, extents_of, extents_ordered}
use Rattle.loop_bounds.proofs.extents.extents.Goals as goal

pub extent_of-requires-clause-reached : goal.extent_of-requires-clause-reached
extent_of-requires-clause-reached c = rw c.index-found-instance.is (c.requires.reached c.loop-instance.instance c.index-found-instance.result c.loop-instance-test.true)

pub loop-instance-preserved : goal.loop-instance-preserved
loop-instance-preserved c = rw c.in_ok-push.ensures.items (extents_more c.args.apart.now c.args.listed.now c.args.found.now c.loop-instance.extents.items c.loop-instance.instance c.index-found-instance.result c.extent_of.result c.loop-instance.invariant c.loop-instance-test.true c.index-found-instance.is c.extent_of.ensures.is c.extent_of.ensures.named c.extent_of.ensures.some)

pub returns-clause-of : goal.returns-clause-of
returns-clause-of c =
    let ended : c.loop-instance.instance ≡ length c.args.found.now = omega arith in
    extents_of c.args.apart.now c.args.listed.now c.args.found.now c.loop-instance.extents.items c.sort_unstable_by_key.new.self.items (subst (AreExtentsUpto c.args.apart.now c.args.listed.now c.args.found.now c.loop-instance.extents.items) ended c.loop-instance.invariant) c.sort_unstable_by_key.ensures.permutation

pub returns-clause-ordered : goal.returns-clause-ordered
returns-clause-ordered c =
    let ended : c.loop-instance.instance ≡ length c.args.found.now = omega arith in
    extents_ordered c.args.apart.now c.args.listed.now c.args.found.now c.loop-instance.extents.items c.sort_unstable_by_key.new.self.items (subst (AreExtentsUpto c.args.apart.now c.args.listed.now c.args.found.now c.loop-instance.extents.items) ended c.loop-instance.invariant) c.sort_unstable_by_key.ensures.permutation
    (c.sort_unstable_by_key.ensures.sorted (λ (s : Extent). (s.first, record { 0 = s.end })) (answers_always _ _ _ (λ f a r g called. search rules)))
