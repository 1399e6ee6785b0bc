-- Bounds on the price of taking FIQ, and interrupted addresses that have them.
use Rattle.std.proofs.Common.{ℕ, ◌+◌, ◌%◌, ◌≤◌, ◌<◌, ◌≡◌, inl, inr, arith, eqb, max}
use Rattle.std.proofs.lemmas.Bool.{cases_lt}
use Rattle.bus_ticks.specs.declared.profile.Profile.{Profile}
use Rattle.bus_ticks.specs.declared.profile.RomTimes.{RomTimes}
use Rattle.bus_ticks.specs.declared.profile.Class.TheVariants.{Ram, Rom, Io, Any}
use Rattle.bus_ticks.specs.Prices.{fetch_s}
use Rattle.bus_ticks.specs.Worst.{AtTimes, IsGreatest, IsTargetOf, fiq_entry, fiq_entry_price, worst_rom}
use Rattle.bus_ticks.proofs.LeaveLemmas.{class_cases, s_at, s_ram_le}
use Rattle.bus_ticks.proofs.WorstLemmas.{dearest_times, rom_le}

-- the greatest price of a fetch that follows the one before it
abbrev dearest : Profile → ℕ
dearest p = max p.quad (max (worst_rom p) p.unfitted)

following_le : (p : Profile) (rom : RomTimes) (x : ℕ) → fetch_s p x rom ≤ dearest p
following_le p rom x =
    elim (class_cases x) [
      | inl r ↦ omega (arith, s_at p rom x Ram r.0, s_ram_le p (eqb (x % 16) 0))
      | inr (inl r) ↦ omega (arith, s_at p rom x Io r.0)
      | inr (inr r) ↦ omega (arith, s_at p rom x Rom r.0, rom_le p rom x)
    ]

-- some interrupted address has this price
abbrev Reaches : Profile → ℕ → Type 0
Reaches p top = (t : AtTimes) × IsTargetOf Any t × (fiq_entry_price p t ≡ top)

at : (p : Profile) (t : AtTimes) (top : ℕ) → t.address < 0x4000000 → fiq_entry_price p t ≡ top → Reaches p top
at p t top below e = (t, record { below = below; is_of = tt }, e)

reached : (p : Profile) → Reaches p (fiq_entry p)
reached p =
    let best = dearest_times p in
    elim (cases_lt p.quad (max (worst_rom p) p.unfitted)) [
      | inl dear ↦ elim (cases_lt (worst_rom p) p.unfitted) [
        | inl h ↦ at p (record { address = 0x2FFFFF8; rom = best.0 }) _ (omega arith) (omega arith)
        | inr h ↦
            at p (record { address = 0x33FFFF8; rom = best.0 }) _ (omega arith)
            (omega (arith, best.1 0x3400000))
      ]
      | inr cheap ↦ at p (record { address = 8; rom = best.0 }) _ (omega arith) (omega arith)
    ]

pub fiq_entry_greatest : (p : Profile) (top : ℕ) → top ≡ fiq_entry p
    → IsGreatest (IsTargetOf Any) (fiq_entry_price p) top
fiq_entry_greatest p top e =
    rw e (record {
      none_above = λ t h. omega (arith, following_le p t.rom ((t.address + 8) % 0x4000000));
      reached = reached p;
    })
