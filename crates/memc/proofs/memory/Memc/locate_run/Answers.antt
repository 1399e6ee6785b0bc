use Rattle.std.proofs.Common.{ap, sym, ◌∙◌, Ok}
use Rattle.memc.specs.Memory.{IsOnOnePage}
use Rattle.memc.specs.declared.spots.Spot.{Spot}
use Rattle.memc.proofs.Runs.{run_at}
use Rattle.memc.proofs.memory.Memc.locate_run.Goals as goal

pub returns-in-Ok-Ram-clause-run : goal.returns-in-Ok-Ram-clause-run
returns-in-Ok-Ram-clause-run c =
    let one : IsOnOnePage c.args.self.now.shift c.args.address c.args.words = rw c.page_size-size.ensures.bytes at c.if-address-size.false in
    run_at c.args.self.now c.args.address c.args.words c.args.user c.args.store c.in-Ok-Ram.place c.page_size-size.ensures.whole c.if-address-ge-PHYSICAL_START.false one (sym c.logical_at.ensures.located ∙ c.in-Ok-Ram.is ∙ ap (λ (spot : Spot). Ok spot) c.in-Ok-Ram.field-0-is)
