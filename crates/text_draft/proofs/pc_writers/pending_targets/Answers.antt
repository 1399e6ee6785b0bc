use Rattle.std.proofs.Common.{◌≡◌, false, refl}
use Rattle.text_draft.specs.Begun.{has_target}
use Rattle.text_draft.specs.declared.pc_writers.FoundTarget.{FoundTarget}
use Rattle.text_draft.proofs.Picked.{so_far_all, so_far_kept, so_far_none}
use Rattle.text_draft.proofs.pc_writers.pending_targets.Goals as goal

pub loop-found-init : goal.loop-found-init
loop-found-init c =
    so_far_none (λ (e : FoundTarget). has_target c.args.begun.now e ≡ false) c.args.writers.now c.new-pending.result.items c.new-pending.ensures.items

pub loop-found-preserved : goal.loop-found-preserved
loop-found-preserved c =
    so_far_kept (λ (e : FoundTarget). has_target c.args.begun.now e ≡ false) c.args.writers.now c.loop-found.found-index _ _ c.loop-found.pending.items
    c.keep_pending.new.pending.items c.loop-found.invariant c.loop-found-test.true refl c.in_ok-keep_pending.ensures

pub returns : goal.returns
returns c =
    so_far_all (λ (e : FoundTarget). has_target c.args.begun.now e ≡ false) c.args.writers.now c.loop-found.found-index c.loop-found.pending.items
    c.loop-found.invariant c.loop-found-test.false
