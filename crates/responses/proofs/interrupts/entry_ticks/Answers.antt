use Rattle.std.proofs.Common.{subst, sym}
use Rattle.bus_ticks.specs.Worst.{IsGreatest, IsTargetOf}
use Rattle.bus_ticks.specs.declared.profile.Class.TheVariants.{Any}
use Rattle.responses.specs.Entry.{entry_price}
use Rattle.responses.proofs.EntryLemmas.{entry_greatest}
use Rattle.responses.proofs.interrupts.entry_ticks.Goals as goal

pub returns-clause-greatest : goal.returns-clause-greatest
returns-clause-greatest c =
    subst (IsGreatest (IsTargetOf Any) (entry_price c.args.profile.now c.args.interrupt))
    (sym c.entry_ticks_number.ensures.number)
    (entry_greatest c.args.profile.now c.args.interrupt)
