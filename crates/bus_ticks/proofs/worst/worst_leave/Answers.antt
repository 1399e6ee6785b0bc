use Rattle.bus_ticks.proofs.LeaveLemmas.{worst_leave_greatest}
use Rattle.bus_ticks.proofs.worst.worst_leave.Goals as goal

pub returns-clause-greatest : goal.returns-clause-greatest
returns-clause-greatest c =
    worst_leave_greatest c.args.profile.now c.args.class c.worst_leave_number.result c.worst_leave_number.ensures
