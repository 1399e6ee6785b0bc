-- A fetch with Rom at its dearest field is the dearest one.
use Rattle.std.proofs.Common.{ℕ, ◌%◌, ◌≤◌, ◌≡◌, ap, arith, eqb, cond}
use Rattle.bus_ticks.specs.declared.profile.Profile.{Profile}
use Rattle.bus_ticks.specs.declared.profile.Class.{Class}
use Rattle.bus_ticks.specs.declared.profile.Class.TheVariants.{Ram, Rom, Io, Any}
use Rattle.bus_ticks.specs.declared.profile.Class.TheVariants.{Slow, Medium, Fast, Synchronous}
use Rattle.bus_ticks.specs.Prices.{class_of, by_class, rom_price, fetch_n, fetch_s}
use Rattle.bus_ticks.specs.Worst.{IsAnyTimes, IsGreatest, worst_rom, worst_fetch_n, worst_fetch_s}
use Rattle.bus_ticks.proofs.WorstLemmas.{dearest_times, rom_le}

by_class_rises : (c : Class) (ram rom top io : ℕ) → rom ≤ top → by_class c ram rom io ≤ by_class c ram top io
by_class_rises Ram ram rom top io h = omega arith
by_class_rises Rom ram rom top io h = h
by_class_rises Io ram rom top io h = omega arith
by_class_rises Any ram rom top io h = omega arith
by_class_rises Slow ram rom top io h = omega arith
by_class_rises Medium ram rom top io h = omega arith
by_class_rises Fast ram rom top io h = omega arith
by_class_rises Synchronous ram rom top io h = omega arith

-- a price that differs in Rom alone
dearest : (p : Profile) (x ram io top : ℕ) → top ≡ by_class (class_of x) ram (worst_rom p) io
    → IsGreatest IsAnyTimes (λ rom. by_class (class_of x) ram (rom_price p x rom) io) top
dearest p x ram io top e =
    let best = dearest_times p in
    rw e (record {
      none_above =
          λ rom any. by_class_rises (class_of x) ram (rom_price p x rom) (worst_rom p) io (rom_le p rom x);
      reached = (best.0, tt, ap (λ r. by_class (class_of x) ram r io) (best.1 x));
    })

pub n_greatest : (p : Profile) (x top : ℕ) → top ≡ worst_fetch_n p x
    → IsGreatest IsAnyTimes (λ rom. fetch_n p x rom) top
n_greatest p x top e = dearest p x p.n p.unfitted top e

pub s_greatest : (p : Profile) (x top : ℕ) → top ≡ worst_fetch_s p x
    → IsGreatest IsAnyTimes (λ rom. fetch_s p x rom) top
s_greatest p x top e = dearest p x (cond (eqb (x % 16) 0) p.quad p.s) p.unfitted top e
