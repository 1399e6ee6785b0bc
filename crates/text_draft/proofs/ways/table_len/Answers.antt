use Rattle.std.proofs.Common.{arith, sym, subst}
use Rattle.text_draft.specs.Reach.{IsBranchAt}
use Rattle.text_draft.proofs.WayLaws.{branches_more, branches_none, places_all, places_full}
use Rattle.text_draft.proofs.ways.table_len.Goals as goal

pub loop-n-init : goal.loop-n-init
loop-n-init c = branches_none _ _

pub loop-n-preserved : goal.loop-n-preserved
loop-n-preserved c =
    branches_more c.args.image.now c.args.at c.loop-n.n c.branch_target.result c.loop-n.invariant c.branch_target.ensures.sum
    (c.is_branch.ensures.yes c.if-not-is_branch.false)

pub returns-then-not-is_branch : goal.returns-then-not-is_branch
returns-then-not-is_branch c =
    places_all c.args.image.now c.args.at c.loop-n.n c.loop-n.invariant
    (c.is_table_jump_at.ensures.0 c.if-not-is_table_jump_at.false) c.loop-n.auto.n-end
    (λ place.
    let here = subst (IsBranchAt c.args.image.now) (sym c.branch_target.ensures.sum) (place.branches c.loop-n.n (omega arith)) in
    cc (c.is_branch.ensures.no here, c.if-not-is_branch.true))

pub returns : goal.returns
returns c =
    places_full c.args.image.now c.args.at c.loop-n.n c.loop-n.invariant
    (c.is_table_jump_at.ensures.0 c.if-not-is_table_jump_at.false) c.loop-n-test.false
