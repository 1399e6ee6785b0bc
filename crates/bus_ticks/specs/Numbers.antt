-- A profile as its fifteen numbers, in order.
use Rattle.std.specs.Prelude.{ℕ, List, [], ◌∷◌}
use Rattle.bus_ticks.specs.declared.profile.Profile.{Profile}

abbrev pub numbers_of : Profile → List ℕ
numbers_of p =
    p.n ∷ p.s ∷ p.quad ∷ p.rom_0 ∷ p.rom_1 ∷ p.rom_2 ∷ p.rom_3 ∷ p.slow ∷ p.medium ∷ p.fast ∷ p.synchronous
    ∷ p.control ∷ p.unfitted ∷ p.internal ∷ p.burst ∷ []

-- the first profile, shaped on the cycle counts of the processor's data sheet
abbrev pub profile_one : List ℕ
profile_one = 2 ∷ 1 ∷ 2 ∷ 4 ∷ 3 ∷ 2 ∷ 2 ∷ 8 ∷ 6 ∷ 5 ∷ 10 ∷ 2 ∷ 2 ∷ 1 ∷ 6 ∷ []
