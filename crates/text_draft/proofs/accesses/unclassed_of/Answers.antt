use Rattle.std.proofs.Common.{◌≡◌, false, refl}
use Rattle.text_draft.specs.Begun.{has_class}
use Rattle.text_draft.specs.declared.accesses.FoundAccess.{FoundAccess}
use Rattle.text_draft.proofs.Picked.{so_far_all, so_far_kept, so_far_none}
use Rattle.text_draft.proofs.accesses.unclassed_of.Goals as goal

pub loop-found-init : goal.loop-found-init
loop-found-init c =
    so_far_none (λ (e : FoundAccess). has_class c.args.begun.now e ≡ false) c.args.transfers.now c.new-unclassed.result.items c.new-unclassed.ensures.items

pub loop-found-preserved : goal.loop-found-preserved
loop-found-preserved c =
    so_far_kept (λ (e : FoundAccess). has_class c.args.begun.now e ≡ false) c.args.transfers.now c.loop-found.found-index _ _ c.loop-found.unclassed.items
    c.keep_unclassed.new.unclassed.items c.loop-found.invariant c.loop-found-test.true refl c.in_ok-keep_unclassed.ensures

pub returns : goal.returns
returns c =
    so_far_all (λ (e : FoundAccess). has_class c.args.begun.now e ≡ false) c.args.transfers.now c.loop-found.found-index c.loop-found.unclassed.items
    c.loop-found.invariant c.loop-found-test.false
