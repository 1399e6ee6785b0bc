use Rattle.std.proofs.Common.{◌≡◌, ◌∙◌, ◌++◌, ◌∷◌, [], ap, get_or, rules}
use Rattle.std.specs.Prelude.{map}
use Rattle.text_draft.specs.Grounds.{with_claim}
use Rattle.text_draft.proofs.Mapped.{mapped_all, mapped_more, mapped_none}
use Rattle.text_draft.proofs.grounds.all_with_claim.Goals as goal

pub loop-one-init : goal.loop-one-init
loop-one-init c = mapped_none (with_claim c.args.claims.now) c.args.loops.now c.new-found.result.items c.new-found.ensures.items

pub loop-one-preserved : goal.loop-one-preserved
loop-one-preserved c =
    mapped_more (with_claim c.args.claims.now) c.args.loops.now c.loop-one.one-index c.one-item.result c.one-item.result c.loop-one.found.items _ _ c.loop-one.invariant c.loop-one-test.true
    (let it : get_or c.args.loops.now c.loop-one.one-index c.one-item.result ≡ c.one-item.result = search rules in it)
    (c.in_ok-push.ensures.items ∙ ap (λ x. c.loop-one.found.items ++ x ∷ []) c.with_claim.ensures)

pub returns : goal.returns
returns c = mapped_all (with_claim c.args.claims.now) c.args.loops.now c.loop-one.one-index c.loop-one.found.items _ c.loop-one.invariant c.loop-one-test.false
