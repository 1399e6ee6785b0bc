use Rattle.std.proofs.Common.{◌^◌, ◌<◌, length, refl, rules}
use Rattle.text_draft.proofs.TallyLaws.{no_tallies, one_tally, room}
use Rattle.text_draft.proofs.tallies.tallies.Goals as goal

pub loop-access-init : goal.loop-access-init
loop-access-init c = no_tallies _ c.in_ok-table.table.items refl (search rules)

pub count-requires-clause-room : goal.count-requires-clause-room
count-requires-clause-room c =
    room c.args.accesses.now c.loop-access.access-index _ _ c.loop-access.table.items c.loop-access-test.true
    (let few : length c.args.accesses.now < 2 ^ 64 = search rules in few) c.loop-access.invariant

pub loop-access-preserved : goal.loop-access-preserved
loop-access-preserved c =
    one_tally c.args.accesses.now c.loop-access.access-index _ _ c.loop-access.table.items c.count.new.table.items c.loop-access-test.true refl
    c.count.ensures.set c.count.ensures.within c.loop-access.invariant
