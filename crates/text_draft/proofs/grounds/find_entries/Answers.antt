use Rattle.std.proofs.Common.{◌≡◌, false, refl}
use Rattle.text_draft.specs.Grounds.{is_covered}
use Rattle.text_draft.specs.declared.accesses.FoundAccess.{FoundAccess}
use Rattle.text_draft.proofs.Picked.{so_far_all, so_far_kept}
use Rattle.text_draft.proofs.grounds.find_entries.Goals as goal

pub loop-access-preserved : goal.loop-access-preserved
loop-access-preserved c =
    so_far_kept (λ (e : FoundAccess). is_covered c.args.rules.now e ≡ false) c.args.accesses.now c.loop-access.access-index _ _ c.loop-access.entries.items
    c.keep_entry.new.entries.items c.loop-access.invariant c.loop-access-test.true refl c.in_ok-keep_entry.ensures

pub returns : goal.returns
returns c =
    so_far_all (λ (e : FoundAccess). is_covered c.args.rules.now e ≡ false) c.args.accesses.now c.loop-access.access-index c.loop-access.entries.items
    c.loop-access.invariant c.loop-access-test.false
