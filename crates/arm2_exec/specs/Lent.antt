-- A part of the machine that is lent: the machine ends with the part as it was last written.
use Rattle.std.specs.Borrow.{Lends, MutBor, Fml}
use Rattle.memc.specs.Memory.{Memory}
use Rattle.memc.specs.contracts.memory.Memc.{the_row as memc_row}
use Rattle.ioc.specs.Interrupts.{Controller}
use Rattle.ioc.specs.contracts.Ioc.{the_row as ioc_row}
use Rattle.vidc.specs.Video.{Video}
use Rattle.vidc.specs.contracts.Vidc.{the_row as vidc_row}
use Rattle.arm2_exec.specs.contracts.machine.Machine.{the_row}
use Rattle.arm2_exec.specs.State.{State}

abbrev pub LendsMemc : MutBor State → MutBor Memory → Fml
LendsMemc machine result =
    Lends the_row memc_row machine result
    (λ m. record machine.now { bus = record machine.now.bus { memc = m } })

abbrev pub LendsIoc : MutBor State → MutBor Controller → Fml
LendsIoc machine result =
    Lends the_row ioc_row machine result
    (λ c. record machine.now { bus = record machine.now.bus { ioc = c } })

abbrev pub LendsVidc : MutBor State → MutBor Video → Fml
LendsVidc machine result =
    Lends the_row vidc_row machine result
    (λ v. record machine.now { bus = record machine.now.bus { vidc = v } })
