-- Where the dearest transfers start, and what a machine has for each operation.
use Rattle.std.proofs.Common.{◌≡◌, ℕ, ◌+◌, ◌*◌, ◌-◌, ◌/◌, ◌%◌, ◌^◌, ◌<◌, ◌≤◌, ◌⊎◌, inl, inr, Bool, true, false, cond, not, nat_lt, Ok, refl, sym, subst, ◌∙◌, arith}
use Rattle.std.proofs.lemmas.Bool.{le-ltb, lt-ltb, lt-leb, ne_eqb, false≢true}
use Rattle.bus_ticks.specs.declared.profile.Class.{Class}
use Rattle.bus_ticks.specs.declared.profile.Class.TheVariants.{Any, Ram, Rom, Io}
use Rattle.bus_ticks.specs.declared.profile.Class.TheVariants.{Slow, Medium, Fast, Synchronous}
use Rattle.bus_ticks.specs.declared.profile.RomTimes.{RomTimes}
use Rattle.bus_ticks.specs.Dearest.{AreDearest, IsDearestBlock}
use Rattle.bus_ticks.specs.Prices.{word_address}
use Rattle.bus_ticks.specs.Worst.{IsBlockOf}
use Rattle.bus_ticks.proofs.WorstLemmas.{class_rom, rom_load, rom_store}
use Rattle.memc.specs.Memory.{Memory, located}
use Rattle.memc.specs.declared.spots.Spot.TheVariants as spot
use Rattle.ioc.specs.Registers.{is_register}
use Rattle.flow_graph.specs.Setting.{IsDataOf, IsSource, MayStart}
use Rattle.flow_graph.specs.declared.tight_setting.Aim.{Aim}

-- the classes whose dearest addresses are among the devices
abbrev pub AreDevices : Class → Type 0
AreDevices Ram = ⊥
AreDevices Rom = ⊥
AreDevices Io = Unit {0}
AreDevices Any = Unit {0}
AreDevices Slow = Unit {0}
AreDevices Medium = Unit {0}
AreDevices Fast = Unit {0}
AreDevices Synchronous = Unit {0}

-- ## Where accesses of a privileged mode go

past : {A : Type 0} (a limit : ℕ) (x y : A) → limit ≤ a → cond (nat_lt a limit) x y ≡ y
past a limit x y h = rw (le-ltb a limit h) refl

before : {A : Type 0} (a limit : ℕ) (x y : A) → a < limit → cond (nat_lt a limit) x y ≡ x
before a limit x y h = rw (lt-ltb a limit h) refl

-- in physical RAM
pub located_physical : (m : Memory) (a : ℕ) (store : Bool) → m.shift ≡ 15 → 0x2000000 ≤ a → a < 0x2400000 → located m a false store ≡ Ok (spot.Ram ((a - 0x2000000) / 4 * 4))
located_physical m a store e low high =
    past a 0x2000000 _ _ low ∙ before a 0x3000000 _ _ (omega arith)
    ∙ rw e (rw (lt-leb 0x400000 (a - 0x2000000) (omega (arith, high, low))) refl)

-- among the devices
pub located_io : (m : Memory) (a : ℕ) (store : Bool) → 0x3000000 ≤ a → a < 0x3400000 → located m a false store ≡ Ok (spot.Io a)
located_io m a store low high =
    past a 0x2000000 _ _ (omega arith) ∙ past a 0x3000000 _ _ low ∙ before a 0x3400000 _ _ high

-- in ROM, of loads
pub located_rom : (m : Memory) (a : ℕ) → 0x3400000 ≤ a → located m a false false ≡ Ok (spot.Rom a)
located_rom m a low =
    past a 0x2000000 _ _ (omega arith) ∙ past a 0x3000000 _ _ (omega arith) ∙ past a 0x3400000 _ _ low

-- in VIDC, of stores
pub located_vidc : (m : Memory) (a : ℕ) → 0x3400000 ≤ a → a < 0x3600000 → located m a false true ≡ Ok (spot.Vidc a)
located_vidc m a low high =
    past a 0x2000000 _ _ (omega arith) ∙ past a 0x3000000 _ _ (omega arith) ∙ past a 0x3400000 _ _ low
    ∙ before a 0x3600000 _ _ high

-- no register of IOC is below 3200000
no_register : (a : ℕ) → a < 0x3200000 → is_register a ≡ false
no_register a h = ne_eqb (a / 0x80) 0x64000 (λ e. omega (arith, e, h))

-- ## Where transfers start

-- the words of a transfer lie one after another
pub next_word : (lowest i : ℕ) → lowest % 4 ≡ 0 → lowest + 4 * i < 2 ^ 26 → word_address lowest i ≡ lowest + 4 * i
next_word lowest i whole below = omega (arith, whole, below)

module _ (aim : Aim) (load : Bool) (words : ℕ) (some : 1 ≤ words) (few : words ≤ 16) where
  abbrev Dearest : Class → ℕ → Type 0
  Dearest class lowest = (rom : RomTimes) → AreDearest aim.profile rom → IsDearestBlock aim.profile class words (not load) (record { address = lowest; rom = rom })

  pub starts_in_ram : (first : ℕ) → aim.class ≡ Ram → aim.spare < 128 → first % 4 ≡ 0 → first < 16 → Dearest Ram (0x2000000 + aim.spare * 0x8000 + first)
      → MayStart aim load words (0x2000000 + aim.spare * 0x8000 + first)
  starts_in_ram first class spare whole below dearest =
      let lowest : ℕ = 0x2000000 + aim.spare * 0x8000 + first in
      let is_whole : lowest % 4 ≡ 0 = omega (arith, whole) in
      let at : (i : ℕ) → i < words → word_address lowest i ≡ lowest + 4 * i = λ i h. next_word lowest i is_whole (omega (arith, h, spare, few, below)) in
      record {
        whole = is_whole;
        below = omega (arith, spare, below);
        block = subst (λ c. (rom : RomTimes) → AreDearest aim.profile rom → IsDearestBlock aim.profile c words (not load) (record { address = lowest; rom = rom })) (sym class) dearest;
        spots = λ i. spot.Ram ((word_address lowest i - 0x2000000) / 4 * 4);
        located_at = λ m shift i h. located_physical m (word_address lowest i) (not load) shift (omega (arith, at i h)) (omega (arith, at i h, h, few, spare, below));
        sources = λ l i h. rw class tt;
        data_at = λ l i h. rw class (omega (arith, at i h), inl (omega (arith, at i h, h, few, below)));
      }

  pub starts_at_device : (lowest : ℕ) (class : Class) → aim.class ≡ class → AreDevices class → lowest % 4 ≡ 0 → 0x3000000 ≤ lowest → lowest + 64 ≤ 0x3200000 → Dearest class lowest → MayStart aim load words lowest
  starts_at_device lowest class is device whole from to dearest =
      let at : (i : ℕ) → i < words → word_address lowest i ≡ lowest + 4 * i = λ i h. next_word lowest i whole (omega (arith, h, to, few)) in
      record {
        whole = whole;
        below = omega (arith, to);
        block = subst (λ c. (rom : RomTimes) → AreDearest aim.profile rom → IsDearestBlock aim.profile c words (not load) (record { address = lowest; rom = rom })) (sym is) dearest;
        spots = λ i. spot.Io (word_address lowest i);
        located_at = λ m shift i h. located_io m (word_address lowest i) (not load) (omega (arith, at i h, from)) (omega (arith, at i h, h, few, to));
        sources = λ l i h. source class device is (word_address lowest i) (no_register (word_address lowest i) (omega (arith, at i h, h, few, to)));
        data_at = λ l i h. nothing class device is (word_address lowest i);
      }
    where
      source : (c : Class) → AreDevices c → aim.class ≡ c → (a : ℕ) → is_register a ≡ false → IsSource aim.class (spot.Io a)
      source Ram d e a h = absurd d
      source Rom d e a h = absurd d
      source Io d e a h = rw e h
      source Any d e a h = rw e h
      source Slow d e a h = rw e h
      source Medium d e a h = rw e h
      source Fast d e a h = rw e h
      source Synchronous d e a h = rw e h

      nothing : (c : Class) → AreDevices c → aim.class ≡ c → (a : ℕ) → IsDataOf aim.class aim.spare aim.address a
      nothing Ram d e a = absurd d
      nothing Rom d e a = absurd d
      nothing Io d e a = rw e tt
      nothing Any d e a = rw e tt
      nothing Slow d e a = rw e tt
      nothing Medium d e a = rw e tt
      nothing Fast d e a = rw e tt
      nothing Synchronous d e a = rw e tt

  rom_words : (lowest : ℕ) → lowest % 4 ≡ 0 → 0x3400000 ≤ lowest → lowest + 64 ≤ 2 ^ 26 → (rom : RomTimes) → IsBlockOf Rom words (record { address = lowest; rom = rom })
  rom_words lowest whole from to rom = record {
    below = omega (arith, to);
    each = λ i h. class_rom (word_address lowest i) (let at : word_address lowest i ≡ lowest + 4 * i = next_word lowest i whole (omega (arith, h, to, few)) in omega (arith, at, from));
  }

  pub stores_in_rom : load ≡ false → aim.class ≡ Rom → MayStart aim load words 0x3400000
  stores_in_rom stores class =
      let at : (i : ℕ) → i < words → word_address 0x3400000 i ≡ 0x3400000 + 4 * i = λ i h. next_word 0x3400000 i refl (omega (arith, h, few)) in
      record {
        whole = refl;
        below = omega arith;
        block = λ rom dear. rw (class, stores) (rom_store aim.profile words (record { address = 0x3400000; rom = rom }) (rom_words 0x3400000 refl (omega arith) (omega arith) rom));
        spots = λ i. spot.Vidc (word_address 0x3400000 i);
        located_at = λ m shift i h. rw stores (located_vidc m (word_address 0x3400000 i) (omega (arith, at i h)) (omega (arith, at i h, h, few)));
        sources = λ l i h. absurd (false≢true (sym stores ∙ l));
        data_at = λ l i h. absurd (false≢true (sym stores ∙ l));
      }

  pub loads_in_rom : (lowest : ℕ) → load ≡ true → aim.class ≡ Rom → lowest % 4 ≡ 0 → 0x3400000 ≤ lowest → lowest + 64 ≤ 2 ^ 26 → (lowest + 64 ≤ aim.address) ⊎ (aim.address < lowest) → MayStart aim load words lowest
  loads_in_rom lowest loads class whole from to apart =
      let at : (i : ℕ) → i < words → word_address lowest i ≡ lowest + 4 * i = λ i h. next_word lowest i whole (omega (arith, h, to, few)) in
      record {
        whole = whole;
        below = omega (arith, to);
        block = λ rom dear. rw (class, loads) (rom_load aim.profile words (record { address = lowest; rom = rom }) dear (rom_words lowest whole from to rom));
        spots = λ i. spot.Rom (word_address lowest i);
        located_at = λ m shift i h. rw loads (located_rom m (word_address lowest i) (omega (arith, at i h, from)));
        sources = λ l i h. rw class tt;
        data_at = λ l i h. rw class (omega (arith, at i h, whole), inr (omega (arith, at i h, from), omega (arith, at i h, h, few, to), λ e. elim apart [ inl past ↦ absurd (omega (arith, at i h, e, h, few, past)) | inr front ↦ absurd (omega (arith, at i h, e, front)) ]));
      }
