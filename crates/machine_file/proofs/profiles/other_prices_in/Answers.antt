use Rattle.std.proofs.Common.{◌∙◌}
use Rattle.toml_reading.specs.Readings.{pair}
use Rattle.machine_file.specs.ProfileFaults.{profile_faults}
use Rattle.machine_file.proofs.profiles.other_prices_in.Goals as goal

pub returns : goal.returns
returns c =
    c.pair-3.ensures
    ∙ (λ i. pair profile_faults (c.pair.ensures i) (c.pair-2.ensures i))
    ∙ (λ i. pair profile_faults (pair profile_faults (c.word_in.ensures i) (c.word_in-2.ensures i)) (pair profile_faults (c.word_in-3.ensures i) (c.word_in-4.ensures i)))
