use Rattle.std.proofs.Common.{◌≡◌, ◌≢◌, length, map, ap, sym, ◌∙◌, arith}
use Rattle.std.proofs.lemmas.List.{length-map}
use Rattle.toml.specs.View.{view}
use Rattle.toml_reading.specs.Readings.{pair}
use Rattle.machine_file.specs.ProfileFaults.{profile_faults}
use Rattle.machine_file.specs.ProfileFile.{four_of}
use Rattle.machine_file.proofs.ProfileLemmas.{has_four, not_four}
use Rattle.machine_file.proofs.profiles.four_of.Goals as goal

pub returns-in-len4 : goal.returns-in-len4
returns-in-len4 c =
    c.pair-in-len4-2.ensures
    ∙ (λ i. pair profile_faults (c.pair.ensures i) (c.pair-in-len4.ensures i))
    ∙ (λ i. pair profile_faults (pair profile_faults (c.number_at.ensures i) (c.number_at-in-len4.ensures i)) (pair profile_faults (c.number_at-in-len4-2.ensures i) (c.number_at-in-len4-3.ensures i)))
    ∙ sym (ap (λ vs. four_of (map view vs)) (has_four c.args.values.now c.a-item.result c.b-item.result c.c-item.result c.d-item.result c.in-len4.len_at_least c.in-len4.len_below c.a-item.is c.b-item.is c.c-item.is c.d-item.is))

pub returns-in_default : goal.returns-in_default
returns-in_default c =
    let same : length (map view c.args.values.now) ≡ length c.args.values.now = length-map c.args.values.now view in
    let other : length (map view c.args.values.now) ≢ 4 = omega (arith, c.in_default.len_below) in
    sym (not_four (map view c.args.values.now) other)

pub returns-in_default-2 : goal.returns-in_default-2
returns-in_default-2 c =
    let same : length (map view c.args.values.now) ≡ length c.args.values.now = length-map c.args.values.now view in
    let other : length (map view c.args.values.now) ≢ 4 = omega (arith, c.in_default.len_at_least) in
    sym (not_four (map view c.args.values.now) other)
