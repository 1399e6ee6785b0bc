use Rattle.std.proofs.Common.{◌∙◌}
use Rattle.toml_reading.specs.Readings.{pair}
use Rattle.machine_file.specs.ProfileFaults.{profile_faults}
use Rattle.machine_file.proofs.profiles.parts_in.Goals as goal

pub returns : goal.returns
returns c =
    c.pair-2.ensures
    ∙ (λ i. pair profile_faults (c.pair.ensures i) c.other_prices_in.result)
    ∙ (λ i. pair profile_faults (pair profile_faults c.ram_prices_in.result (c.pair-lists.ensures i)) c.other_prices_in.result)
    ∙ (λ i. pair profile_faults (pair profile_faults (c.ram_prices_in.ensures i) (pair profile_faults (c.four_in.ensures i) (c.four_in-2.ensures i))) (c.other_prices_in.ensures i))
