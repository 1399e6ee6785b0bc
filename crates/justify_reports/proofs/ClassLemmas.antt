-- Whether an address is of a class.
use Rattle.std.proofs.Common.{◌≡◌, ◌∙◌, ℕ, ◌==◌, Bool, true, false, cond, nat_lt, refl, sym, ap}
use Rattle.std.specs.Prelude.{◌↔◌, IsTrue}
use Rattle.std.proofs.lemmas.Bool.{eq-eqb, eqb-true, false≢true}
use Rattle.bus_ticks.specs.Prices.{by_class, class_of, speed_of}
use Rattle.bus_ticks.specs.Worst.{IsDevice, IsOf}
use Rattle.bus_ticks.specs.declared.profile.Class.{Class}
use Rattle.bus_ticks.specs.declared.profile.Class.TheVariants.{Any, Fast, Io, Medium, Ram, Rom, Slow, Synchronous}
use Rattle.bus_ticks.specs.declared.space.TheConstants.{IO_START, ROM_START}
use Rattle.justify_reports.specs.Returns.{is_of}

-- by the two tests that tell Ram, Io and Rom apart
module _ (below_io below_rom : Bool) where
  abbrev there : Class
  there = cond below_io Ram (cond below_rom Io Rom)

in_ram : (b c : Bool) → by_class (there b c) true false false ≡ true → there b c ≡ Ram
in_ram true c is = refl
in_ram false true is = absurd (false≢true is)
in_ram false false is = absurd (false≢true is)

in_rom : (b c : Bool) → by_class (there b c) false true false ≡ true → there b c ≡ Rom
in_rom true c is = absurd (false≢true is)
in_rom false true is = absurd (false≢true is)
in_rom false false is = refl

in_io : (b c fits : Bool) → by_class (there b c) false false fits ≡ true → (there b c ≡ Io) × (fits ≡ true)
in_io true c fits is = absurd (false≢true is)
in_io false true fits is = (refl, is)
in_io false false fits is = absurd (false≢true is)

module _ (a : ℕ) where
  abbrev b : Bool
  b = nat_lt a IO_START

  abbrev c : Bool
  c = nat_lt a ROM_START

  device : (speed : ℕ) → by_class (class_of a) false false (speed_of a == speed) ≡ true → IsDevice speed a
  device speed is = let h = in_io b c (speed_of a == speed) is in (h.0, eqb-true (speed_of a) speed h.1)

  fits_device : (speed : ℕ) → IsDevice speed a → by_class (class_of a) false false (speed_of a == speed) ≡ true
  fits_device speed (io, at) = ap (λ (k : Class). by_class k false false (speed_of a == speed)) io ∙ eq-eqb (speed_of a) speed at

  of_class : (class : Class) → is_of class a ≡ true → IsOf class a
  of_class Any is = tt
  of_class Ram is = in_ram b c is
  of_class Rom is = in_rom b c is
  of_class Io is = (in_io b c true is).0
  of_class Slow is = device 0 is
  of_class Medium is = device 1 is
  of_class Fast is = device 2 is
  of_class Synchronous is = device 3 is

  is_of_class : (class : Class) → IsOf class a → is_of class a ≡ true
  is_of_class Any h = refl
  is_of_class Ram h = ap (λ (k : Class). by_class k true false false) h
  is_of_class Rom h = ap (λ (k : Class). by_class k false true false) h
  is_of_class Io h = ap (λ (k : Class). by_class k false false true) h
  is_of_class Slow h = fits_device 0 h
  is_of_class Medium h = fits_device 1 h
  is_of_class Fast h = fits_device 2 h
  is_of_class Synchronous h = fits_device 3 h

same_bool : (x y : Bool) → (x ≡ true → y ≡ true) → (y ≡ true → x ≡ true) → x ≡ y
same_bool true true h k = refl
same_bool true false h k = sym (h refl)
same_bool false true h k = k refl
same_bool false false h k = refl

pub decides : (class : Class) (a : ℕ) (b : Bool) → IsTrue b ↔ IsOf class a → b ≡ is_of class a
decides class a b iff = same_bool b (is_of class a) (λ yes. is_of_class a class (iff.0 yes)) (λ yes. iff.1 (of_class a class yes))
