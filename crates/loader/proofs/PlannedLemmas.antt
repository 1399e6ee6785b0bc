-- What loads return where an image's words are put into memory whose pages lie as a plan says.
use Rattle.std.proofs.Common.{◌∷◌, [], ◌↔◌, ◌≡◌, ◌≢◌, ◌∙◌, ℕ, ◌+◌, ◌-◌, ◌*◌, ◌/◌, ◌%◌, ◌^◌, ◌<◌, ◌≤◌, ◌⊎◌, inl, inr, Bool, true, false, cond, List, map, get_or, Option, Some, None, Result, Ok, Err, refl, sym, ap, subst, arith}
use Rattle.std.specs.Prelude.{IsSome, is_err, is_some, nat_le, All}
use Rattle.std.specs.List.{AllByRecursion, Contains}
use Rattle.std.proofs.lemmas.Bool.{cases_lt, le-ltb, lt-ltb, or_parts}
use Rattle.std.proofs.lemmas.Bool.Decides.{nat_tests}
use Rattle.std.proofs.lemmas.List.Elements.{All-contains, All-from_recursion, All-map, recursion_from_All}
use Rattle.std.proofs.lemmas.Option.{same_Some}
use Rattle.image.specs.Image.{Words, word_of, AreOf, IsFitted}
use Rattle.image.specs.Inside.{AreWhole}
use Rattle.loader.specs.Loading.{HasWord, lacks_page, loaded, spot_of}
use Rattle.image.specs.Pages.{page_of}
use Rattle.loader.specs.PagePlan.{IsFree, IsPagePlan, physical_page}
use Rattle.loader.specs.Planned.{IsBeside, IsMapped}
use Rattle.loader.specs.declared.plan.PlacedPage.{PlacedPage}
use Rattle.memc.specs.declared.pages.TheConstants.{PHYSICAL_PAGES}
use Rattle.loader.proofs.MemoryLemmas.{AreSame, last_kept, last_there, ram_entries, ram_gives, ram_number, rom_entries, rom_gives, rom_number, same_whole}
use Rattle.image.proofs.FittedLemmas.{before_or_past, not_past}
use Rattle.image.proofs.PlaceLemmas.{may_parts}
use Rattle.image.proofs.WordLemmas.{held}
use Rattle.memc.specs.Memory.{Memory, last_word, on_page, physical_at, rom_word, word_at}
use Rattle.memc.specs.Paged.{IsWhole, fitted_bytes, page_at, place_of}
use Rattle.memc.specs.declared.pages.Entry.{Entry}
use Rattle.memc.specs.declared.spots.Refused.{Refused}
use Rattle.memc.specs.declared.spots.Refused.TheVariants.{NoPage}
use Rattle.memc.specs.declared.spots.Spot.{Spot}
use Rattle.memc.specs.declared.spots.Spot.TheVariants.{Ram, Rom, Io}

-- ## Where an address leads, with pages of 32 KB

abbrev ram_at : ℕ → Result Spot Refused
ram_at place = Ok (Ram place)

spot_page : (m : Memory) (a : ℕ) (o : Option Entry) → m.shift ≡ 15 → a < 0x2000000 → page_at m.paged (a / 2 ^ 15) ≡ o → spot_of m a ≡ on_page m a false false o
spot_page m a o size low on =
    rw (lt-ltb a 0x2000000 low) (ap (λ (s : ℕ). on_page m a false false (page_at m.paged (a / 2 ^ s))) size ∙ ap (λ (p : Option Entry). on_page m a false false p) on)

spot_mapped : (m : Memory) (a : ℕ) (e : Entry) → m.shift ≡ 15 → a < 0x2000000 → page_at m.paged (a / 2 ^ 15) ≡ Some e → spot_of m a ≡ Ok (Ram (place_of 15 e.physical a))
spot_mapped m a e size low on = spot_page m a (Some e) size low on ∙ ap (λ (s : ℕ). ram_at (place_of s e.physical a)) size

fitted : (b : Bool) (place : ℕ) → b ≡ false → cond b (let r : Result Spot Refused = Err NoPage in r) (ram_at place) ≡ Ok (Ram place)
fitted true place is = absurd (cc)
fitted false place is = refl

unfitted : (b : Bool) (place : ℕ) → b ≡ true → cond b (let r : Result Spot Refused = Err NoPage in r) (ram_at place) ≡ Err NoPage
unfitted true place is = refl
unfitted false place is = absurd (cc)

spot_physical : (m : Memory) (a : ℕ) → m.shift ≡ 15 → 0x2000000 ≤ a → a < 0x3000000 → spot_of m a ≡ physical_at 0x400000 (a - 0x2000000) false
spot_physical m a size high low = rw (le-ltb a 0x2000000 high, lt-ltb a 0x3000000 low) (ap (λ (s : ℕ). physical_at (fitted_bytes s) (a - 0x2000000) false) size)

spot_fitted : (m : Memory) (a : ℕ) → m.shift ≡ 15 → 0x2000000 ≤ a → a < 0x2400000 → spot_of m a ≡ Ok (Ram ((a - 0x2000000) / 4 * 4))
spot_fitted m a size high low =
    let within : nat_le 0x400000 (a - 0x2000000) ≡ false = grind (arith, nat_tests, high, low) in
    spot_physical m a size high (omega (arith, low)) ∙ fitted (nat_le 0x400000 (a - 0x2000000)) ((a - 0x2000000) / 4 * 4) within

spot_unfitted : (m : Memory) (a : ℕ) → m.shift ≡ 15 → 0x2400000 ≤ a → a < 0x3000000 → spot_of m a ≡ Err NoPage
spot_unfitted m a size high low =
    let past : nat_le 0x400000 (a - 0x2000000) ≡ true = grind (arith, nat_tests, high, low) in
    spot_physical m a size (omega (arith, high)) low ∙ unfitted (nat_le 0x400000 (a - 0x2000000)) ((a - 0x2000000) / 4 * 4) past

spot_io : (m : Memory) (a : ℕ) → 0x3000000 ≤ a → a < 0x3400000 → spot_of m a ≡ Ok (Io a)
spot_io m a high low = rw (le-ltb a 0x2000000 (omega (arith, high)), le-ltb a 0x3000000 high, lt-ltb a 0x3400000 low) refl

spot_rom : (m : Memory) (a : ℕ) → 0x3400000 ≤ a → spot_of m a ≡ Ok (Rom a)
spot_rom m a high = rw (le-ltb a 0x2000000 (omega (arith, high)), le-ltb a 0x3000000 (omega (arith, high)), le-ltb a 0x3400000 high) refl

-- ## Which addresses lead to a word of RAM or ROM

record IsLow (m : Memory) (a k : ℕ) : Type 0 where
  low : a < 0x2000000
  entry : Entry
  on : page_at m.paged (a / 2 ^ 15) ≡ Some entry
  is : k ≡ entry.physical * 8192 + a % 32768 / 4

record IsHigh (a k : ℕ) : Type 0 where
  high : 0x2000000 ≤ a
  below : a < 0x2400000
  is : k ≡ (a - 0x2000000) / 4

abbrev Where : Memory → ℕ → ℕ → Type 0
Where m a k = IsLow m a k ⊎ IsHigh a k

nowhere : {A : Type 0} (k : ℕ) → (let o : Option ℕ = None in o) ≡ Some k → A
nowhere k h = absurd (cc)

low_where : (m : Memory) (a k : ℕ) (o : Option Entry) → m.shift ≡ 15 → a < 0x2000000 → page_at m.paged (a / 2 ^ 15) ≡ o → ram_number (spot_of m a) ≡ Some k → Where m a k
low_where m a k None size low on at = nowhere k (sym (ap ram_number (spot_page m a None size low on)) ∙ at)
low_where m a k (Some e) size low on at =
    let same : place_of 15 e.physical a / 4 ≡ k = same_Some _ k (sym (ap ram_number (spot_mapped m a e size low on)) ∙ at) in
    inl (record { low = low; entry = e; on = on; is = omega (arith, same) })

ram_where : (m : Memory) (a k : ℕ) → m.shift ≡ 15 → ram_number (spot_of m a) ≡ Some k → Where m a k
ram_where m a k size at = elim (cases_lt a 0x2000000) [
  | inl low ↦ low_where m a k (page_at m.paged (a / 2 ^ 15)) size low refl at
  | inr high ↦ elim (cases_lt a 0x2400000) [
    | inl below ↦
        let same : (a - 0x2000000) / 4 * 4 / 4 ≡ k = same_Some _ k (sym (ap ram_number (spot_fitted m a size high below)) ∙ at) in
        inr (record { high = high; below = below; is = omega (arith, same) })
    | inr past ↦ elim (cases_lt a 0x3000000) [
      | inl below ↦ nowhere k (sym (ap ram_number (spot_unfitted m a size past below)) ∙ at)
      | inr io ↦ elim (cases_lt a 0x3400000) [
        | inl below ↦ nowhere k (sym (ap ram_number (spot_io m a io below)) ∙ at)
        | inr rom ↦ nowhere k (sym (ap ram_number (spot_rom m a rom)) ∙ at)
      ]
    ]
  ]
]

no_rom_page : (m : Memory) (a k : ℕ) (o : Option Entry) → rom_number (on_page m a false false o) ≡ Some k → a ≡ k
no_rom_page m a k None at = nowhere k at
no_rom_page m a k (Some e) at = nowhere k at

rom_where : (m : Memory) (a k : ℕ) → m.shift ≡ 15 → rom_number (spot_of m a) ≡ Some k → a ≡ k
rom_where m a k size at = elim (cases_lt a 0x2000000) [
  | inl low ↦ (let o = page_at m.paged (a / 2 ^ 15) in no_rom_page m a k o (sym (ap rom_number (spot_page m a o size low refl)) ∙ at))
  | inr high ↦ elim (cases_lt a 0x2400000) [
    | inl below ↦ nowhere k (sym (ap rom_number (spot_fitted m a size high below)) ∙ at)
    | inr past ↦ elim (cases_lt a 0x3000000) [
      | inl below ↦ nowhere k (sym (ap rom_number (spot_unfitted m a size past below)) ∙ at)
      | inr io ↦ elim (cases_lt a 0x3400000) [
        | inl below ↦ nowhere k (sym (ap rom_number (spot_io m a io below)) ∙ at)
        | inr rom ↦ same_Some a k (sym (ap rom_number (spot_rom m a rom)) ∙ at)
      ]
    ]
  ]
]

pub mapped_stays : (pages : List PlacedPage) (m : Memory) (words : Words) → IsMapped pages m → IsMapped pages (loaded words m)
mapped_stays pages m words h = record { size = h.size; whole = same_whole 15 words m h.whole; placed = h.placed }

-- ## Words of the image, each at a place of its own

pub record IsPlanned (image : Words) (pages : List PlacedPage) (spare : ℕ) (m : Memory) : Type 0 where
  pub whole : AreWhole image
  pub plan : IsPagePlan image pages spare
  pub mapped : IsMapped pages m

-- a logical page of the plan
record IsOnPlan (image : Words) (m : Memory) (spare logical : ℕ) : Type 0 where
  physical : ℕ
  free : IsFree image physical
  apart : physical ≢ spare
  on : page_at m.paged logical ≡ Some (record { physical = physical; level = 0 })

each_on_plan : (image : Words) (pages : List PlacedPage) (spare : ℕ) (m : Memory) → IsPlanned image pages spare m → All (λ (p : PlacedPage). IsOnPlan image m spare p.logical) pages
each_on_plan image pages spare m h = λ i d lt. record { physical = (get_or pages i d).physical; free = h.plan.free i d lt; apart = (let below = h.plan.spare_above i d lt in λ same. omega (arith, below, same)); on = h.mapped.placed i d lt }

on_plan : (image : Words) (pages : List PlacedPage) (spare : ℕ) (m : Memory) → IsPlanned image pages spare m → (a : ℕ) → IsSome (word_of image a) → a < 0x2000000 → IsOnPlan image m spare (a / 2 ^ 15)
on_plan image pages spare m h a some low =
    All-contains (IsOnPlan image m spare) (map (λ p. p.logical) pages) (a / 2 ^ 15) (All-map (IsOnPlan image m spare) (λ (p : PlacedPage). p.logical) pages (each_on_plan image pages spare m h))
    ((h.plan.logical (a / 2 ^ 15)).1 (omega (arith, low), (a, some, refl)))

pub parts : (image : Words) (a : ℕ) → AreWhole image → IsSome (word_of image a) → (a % 4 ≡ 0) × (a < 0x4000000) × ((a < 0x3000000) ⊎ (0x3400000 ≤ a))
parts image a whole some = may_parts a (held image a whole.allowed some)

planned_physical : (image : Words) (pages : List PlacedPage) (spare : ℕ) (m : Memory) (h : IsPlanned image pages spare m) (a k : ℕ) (some : IsSome (word_of image a)) (x : IsLow m a k)
    → x.entry.physical ≡ (on_plan image pages spare m h a some x.low).physical
planned_physical image pages spare m h a k some x =
    let p = on_plan image pages spare m h a some x.low in
    ap (λ (e : Entry). e.physical) (same_Some x.entry (record { physical = p.physical; level = 0 }) (sym x.on ∙ p.on))

apart_high : (image : Words) (pages : List PlacedPage) (spare : ℕ) (m : Memory) → IsPlanned image pages spare m → (a b k : ℕ) → IsSome (word_of image a) → IsSome (word_of image b) → IsLow m a k → IsHigh b k → ⊥
apart_high image pages spare m h a b k sa sb x y =
    let p = on_plan image pages spare m h a sa x.low in
    let same : x.entry.physical ≡ p.physical = planned_physical image pages spare m h a k sa x in
    let low = x.is in
    let up = y.is in
    let high = y.high in
    p.free.unnamed (b, sb, omega (arith, same, low, up, high))

same_place : (image : Words) (pages : List PlacedPage) (spare : ℕ) (m : Memory) → IsPlanned image pages spare m → (a b k : ℕ) → IsSome (word_of image a) → IsSome (word_of image b) → Where m a k → Where m b k → a ≡ b
same_place image pages spare m h a b k sa sb (inl x) (inl y) =
    let a4 = (parts image a h.whole sa).0 in
    let b4 = (parts image b h.whole sb).0 in
    let ka = x.is in
    let kb = y.is in
    let physical : x.entry.physical ≡ y.entry.physical = omega (arith, ka, kb) in
    let page : a / 2 ^ 15 ≡ b / 2 ^ 15 = h.mapped.whole.alone (a / 2 ^ 15) (b / 2 ^ 15) x.entry y.entry x.on y.on physical in
    omega (arith, a4, b4, ka, kb, physical, page)
same_place image pages spare m h a b k sa sb (inl x) (inr y) = absurd (apart_high image pages spare m h a b k sa sb x y)
same_place image pages spare m h a b k sa sb (inr x) (inl y) = absurd (apart_high image pages spare m h b a k sb sa y x)
same_place image pages spare m h a b k sa sb (inr x) (inr y) =
    let a4 = (parts image a h.whole sa).0 in
    let b4 = (parts image b h.whole sb).0 in
    let ka = x.is in
    let kb = y.is in
    let ha = x.high in
    let hb = y.high in
    omega (arith, a4, b4, ka, kb, ha, hb)

-- none of them lies on the spare page
off_spare : (image : Words) (pages : List PlacedPage) (spare : ℕ) (m : Memory) → IsPlanned image pages spare m → (a b k : ℕ) → IsSome (word_of image a) → Where m a k → IsHigh b k
    → page_of b ≡ physical_page spare → ⊥
off_spare image pages spare m h a b k sa (inl x) y is =
    let p = on_plan image pages spare m h a sa x.low in
    let same : x.entry.physical ≡ p.physical = planned_physical image pages spare m h a k sa x in
    let low = x.is in
    let up = y.is in
    p.apart (omega (arith, same, low, up, is))
off_spare image pages spare m h a b k sa (inr x) y is =
    let ka = x.is in
    let kb = y.is in
    let ha = x.high in
    let a4 = (parts image a h.whole sa).0 in
    h.plan.spare_free.unnamed (a, sa, omega (arith, ka, kb, ha, a4, is))

-- ## One word

abbrev ram_of : Memory → ℕ → Option ℕ
ram_of m a = ram_number (spot_of m a)

abbrev rom_of : Memory → ℕ → Option ℕ
rom_of m a = rom_number (spot_of m a)

give_ram : (words : Words) (m : Memory) (a w place : ℕ) → IsWhole 15 m.paged → place < 2 ^ 22 → spot_of m a ≡ Ok (Ram place) → AreSame (ram_of m) (place / 4) w words → Contains words (a, w) → HasWord (loaded words m) a w
give_ram words m a w place whole lt at same c =
    let before = word_at m (Ram place) in
    ram_gives words m a w place whole.words lt at
    (ap (λ (es : List (ℕ × ℕ)). last_word es (place / 4) before) (ram_entries m words) ∙ last_there (ram_of m) words c.0 (place / 4) a w before same c.1 c.2 (ap ram_number at))

keep_ram : (words : Words) (m : Memory) (a w place : ℕ) → IsWhole 15 m.paged → place < 2 ^ 22 → spot_of m a ≡ Ok (Ram place) → AreSame (ram_of m) (place / 4) w words → word_at m (Ram place) ≡ w → HasWord (loaded words m) a w
keep_ram words m a w place whole lt at same is =
    let before = word_at m (Ram place) in
    ram_gives words m a w place whole.words lt at (ap (λ (es : List (ℕ × ℕ)). last_word es (place / 4) before) (ram_entries m words) ∙ last_kept (ram_of m) words (place / 4) w before same is)

give_rom : (words : Words) (m : Memory) (a w : ℕ) → a % 4 ≡ 0 → spot_of m a ≡ Ok (Rom a) → AreSame (rom_of m) a w words → Contains words (a, w) → HasWord (loaded words m) a w
give_rom words m a w four at same c =
    let before = rom_word m.rom a in
    rom_gives words m a w four at (ap (λ (es : List (ℕ × ℕ)). last_word es a before) (rom_entries m words) ∙ last_there (rom_of m) words c.0 a a w before same c.1 c.2 (ap rom_number at))

keep_rom : (words : Words) (m : Memory) (a w : ℕ) → a % 4 ≡ 0 → spot_of m a ≡ Ok (Rom a) → AreSame (rom_of m) a w words → rom_word m.rom a ≡ w → HasWord (loaded words m) a w
keep_rom words m a w four at same is =
    let before = rom_word m.rom a in
    rom_gives words m a w four at (ap (λ (es : List (ℕ × ℕ)). last_word es a before) (rom_entries m words) ∙ last_kept (rom_of m) words a w before same is)

-- ## Words of the image are loaded

same_ram : (image words : Words) (pages : List PlacedPage) (spare : ℕ) (m : Memory) (a w k : ℕ) → IsPlanned image pages spare m → AreOf image words → word_of image a ≡ Some w → Where m a k → AreSame (ram_of m) k w words
same_ram image words pages spare m a w k h of is here = recursion_from_All (λ (e : ℕ × ℕ). ram_of m e.0 ≡ Some k → e.1 ≡ w) words (λ i d lt at.
    let e = get_or words i d in
    let own : word_of image e.0 ≡ Some e.1 = of i d lt in
    let same = same_place image pages spare m h e.0 a k (ap is_some own) (ap is_some is) (ram_where m e.0 k h.mapped.size at) here in
    same_Some e.1 w (sym own ∙ ap (word_of image) same ∙ is))

same_rom : (image words : Words) (m : Memory) (a w : ℕ) → m.shift ≡ 15 → AreOf image words → word_of image a ≡ Some w → AreSame (rom_of m) a w words
same_rom image words m a w size of is = recursion_from_All (λ (e : ℕ × ℕ). rom_of m e.0 ≡ Some a → e.1 ≡ w) words (λ i d lt at.
    let e = get_or words i d in
    let own : word_of image e.0 ≡ Some e.1 = of i d lt in
    same_Some e.1 w (sym own ∙ ap (word_of image) (rom_where m e.0 a size at) ∙ is))

-- where a word of the image is found, by the kind of its address
pub record InRam (m : Memory) (a : ℕ) : Type 0 where
  pub place : ℕ
  below : place < 2 ^ 22
  pub at : spot_of m a ≡ Ok (Ram place)
  here : Where m a (place / 4)

pub record InRom (m : Memory) (a : ℕ) : Type 0 where
  four : a % 4 ≡ 0
  pub at : spot_of m a ≡ Ok (Rom a)

in_low : (image : Words) (pages : List PlacedPage) (spare : ℕ) (m : Memory) (a : ℕ) → IsPlanned image pages spare m → IsSome (word_of image a) → a < 0x2000000 → InRam m a
in_low image pages spare m a h some low =
    let p = on_plan image pages spare m h a some low in
    let e : Entry = record { physical = p.physical; level = 0 } in
    let below = p.free.below in
    record {
      place = place_of 15 p.physical a;
      below = omega (arith, below);
      at = spot_mapped m a e h.mapped.size low p.on;
      here = inl (record { low = low; entry = e; on = p.on; is = omega arith });
    }

in_high : (m : Memory) (a : ℕ) → m.shift ≡ 15 → 0x2000000 ≤ a → a < 0x2400000 → InRam m a
in_high m a size high below = record {
  place = (a - 0x2000000) / 4 * 4;
  below = omega (arith, below);
  at = spot_fitted m a size high below;
  here = inr (record { high = high; below = below; is = omega arith });
}

-- a word of the image that a load finds at all
pub found : (image : Words) (pages : List PlacedPage) (spare : ℕ) (m : Memory) (a : ℕ) → IsPlanned image pages spare m → IsSome (word_of image a) → IsFitted a → InRam m a ⊎ InRom m a
found image pages spare m a h some fits = elim (cases_lt a 0x2000000) [
  | inl low ↦ inl (in_low image pages spare m a h some low)
  | inr high ↦ elim (before_or_past a fits) [
    | inl below ↦ inl (in_high m a h.mapped.size high below)
    | inr past ↦
        let all = parts image a h.whole some in
        elim all.2 [ inl io ↦ absurd (omega (arith, past, io)) | inr rom ↦ inr (record { four = all.0; at = spot_rom m a rom }) ]
  ]
]

given_by : (image words : Words) (pages : List PlacedPage) (spare : ℕ) (m : Memory) (a w : ℕ) → IsPlanned image pages spare m → AreOf image words → word_of image a ≡ Some w → Contains words (a, w) → InRam m a ⊎ InRom m a
    → HasWord (loaded words m) a w
given_by image words pages spare m a w h of is c (inl r) = give_ram words m a w r.place h.mapped.whole r.below r.at (same_ram image words pages spare m a w (r.place / 4) h of is r.here) c
given_by image words pages spare m a w h of is c (inr r) = give_rom words m a w r.four r.at (same_rom image words m a w h.mapped.size of is) c

pub image_given : (image words : Words) (pages : List PlacedPage) (spare : ℕ) (m : Memory) (a w : ℕ) → AreWhole image → IsPagePlan image pages spare → IsMapped pages m → AreOf image words → Contains words (a, w) → IsFitted a
    → HasWord (loaded words m) a w
image_given image words pages spare m a w whole plan mapped of c fits =
    let h : IsPlanned image pages spare m = record { whole = whole; plan = plan; mapped = mapped } in
    let is : word_of image a ≡ Some w = All-contains (λ (e : ℕ × ℕ). word_of image e.0 ≡ Some e.1) words (a, w) of c in
    given_by image words pages spare m a w h of is c (found image pages spare m a h (ap is_some is) fits)

-- ## Words beside the image

same_ok : (s t : Spot) → (let r : Result Spot Refused = Ok s in r) ≡ Ok t → s ≡ t
same_ok s t e = cc

no_ok : (s : Spot) (r : Refused) → (let o : Result Spot Refused = Err r in o) ≡ Ok s → ⊥
no_ok s r e = cc

pub gives_at : (m : Memory) (a w : ℕ) (spot : Spot) → HasWord m a w → spot_of m a ≡ Ok spot → word_at m spot ≡ w
gives_at m a w spot g at = subst (λ (s : Spot). word_at m s ≡ w) (same_ok g.spot spot (sym g.leads ∙ at)) g.has

-- an address that yields a word leads somewhere
given_fits : (m : Memory) (a w : ℕ) → m.shift ≡ 15 → HasWord m a w → IsFitted a
given_fits m a w size g = not_past a (elim (cases_lt a 0x2400000) [
  | inl below ↦ inl below
  | inr past ↦ elim (cases_lt a 0x3000000) [ inl io ↦ absurd (no_ok g.spot NoPage (sym (spot_unfitted m a size past io) ∙ g.leads)) | inr high ↦ inr high ]
])

-- a word of RAM beside the image is on the spare page
beside_high : (m : Memory) (spare b k : ℕ) → IsBeside spare b → Where m b k → IsHigh b k × (page_of b ≡ physical_page spare)
beside_high m spare b k beside at = high_by beside.1 at
  where
    high_by : (page_of b ≡ physical_page spare) ⊎ ((0x3400000 ≤ b) × (b < 0x4000000)) → Where m b k
        → IsHigh b k × (page_of b ≡ physical_page spare)
    high_by (inl s) (inl x) = (let low = x.low in absurd (omega (arith, s, low)))
    high_by (inl s) (inr y) = (y, s)
    high_by (inr r) (inl x) = (let rom = r.0 in let low = x.low in absurd (omega (arith, rom, low)))
    high_by (inr r) (inr y) = (let rom = r.0 in let below = y.below in absurd (omega (arith, rom, below)))

apart_ram : (image beside : Words) (pages : List PlacedPage) (spare : ℕ) (m : Memory) (a w k : ℕ) → IsPlanned image pages spare m → IsSome (word_of image a) → Where m a k → All (λ e. IsBeside spare e.0 × (e.0 ≢ a)) beside
    → AreSame (ram_of m) k w beside
apart_ram image beside pages spare m a w k h some here all = recursion_from_All (λ (e : ℕ × ℕ). ram_of m e.0 ≡ Some k → e.1 ≡ w) beside (λ i d lt at.
    let e = get_or beside i d in
    let p = beside_high m spare e.0 k (all i d lt).0 (ram_where m e.0 k h.mapped.size at) in
    absurd (off_spare image pages spare m h a e.0 k some here p.0 p.1))

apart_rom : (beside : Words) (spare : ℕ) (m : Memory) (a w : ℕ) → m.shift ≡ 15 → All (λ e. IsBeside spare e.0 × (e.0 ≢ a)) beside → AreSame (rom_of m) a w beside
apart_rom beside spare m a w size all = recursion_from_All (λ (e : ℕ × ℕ). rom_of m e.0 ≡ Some a → e.1 ≡ w) beside (λ i d lt at. absurd ((all i d lt).1 (rom_where m (get_or beside i d).0 a size at)))

stays_by : (image beside : Words) (pages : List PlacedPage) (spare : ℕ) (m : Memory) (a w : ℕ) → IsPlanned image pages spare m → IsSome (word_of image a) → HasWord m a w → All (λ e. IsBeside spare e.0 × (e.0 ≢ a)) beside
    → InRam m a ⊎ InRom m a → HasWord (loaded beside m) a w
stays_by image beside pages spare m a w h some g all (inl r) =
    keep_ram beside m a w r.place h.mapped.whole r.below r.at (apart_ram image beside pages spare m a w (r.place / 4) h some r.here all) (gives_at m a w (Ram r.place) g r.at)
stays_by image beside pages spare m a w h some g all (inr r) =
    let here : a / 4 * 4 ≡ a = (let four = r.four in omega (arith, four)) in
    keep_rom beside m a w r.four r.at (apart_rom beside spare m a w h.mapped.size all) (ap (λ (b : ℕ). rom_word m.rom b) (sym here) ∙ gives_at m a w (Rom a) g r.at)

pub image_stays : (image beside : Words) (pages : List PlacedPage) (spare : ℕ) (m : Memory) (a w : ℕ) → AreWhole image → IsPagePlan image pages spare → IsMapped pages m → IsSome (word_of image a) → HasWord m a w
    → All (λ e. IsBeside spare e.0 × (e.0 ≢ a)) beside → HasWord (loaded beside m) a w
image_stays image beside pages spare m a w whole plan mapped some g all =
    let h : IsPlanned image pages spare m = record { whole = whole; plan = plan; mapped = mapped } in
    stays_by image beside pages spare m a w h some g all (found image pages spare m a h some (given_fits m a w mapped.size g))

-- the words beside the image that go to the place of one of them are this one
alone_ram : (beside : Words) (spare : ℕ) (m : Memory) (a w : ℕ) → m.shift ≡ 15 → a % 4 ≡ 0 → 0x2000000 ≤ a → All (λ e. IsBeside spare e.0 × (e.0 ≡ a → e.1 ≡ w)) beside
    → AreSame (ram_of m) ((a - 0x2000000) / 4 * 4 / 4) w beside
alone_ram beside spare m a w size four high all = recursion_from_All (λ (e : ℕ × ℕ). ram_of m e.0 ≡ Some ((a - 0x2000000) / 4 * 4 / 4) → e.1 ≡ w) beside (λ i d lt at.
    let e = get_or beside i d in
    let p = (beside_high m spare e.0 ((a - 0x2000000) / 4 * 4 / 4) (all i d lt).0 (ram_where m e.0 ((a - 0x2000000) / 4 * 4 / 4) size at)).0 in
    let e4 = (all i d lt).0.0 in
    let up = p.high in
    let is = p.is in
    (all i d lt).1 (omega (arith, four, high, e4, up, is)))

alone_rom : (beside : Words) (spare : ℕ) (m : Memory) (a w : ℕ) → m.shift ≡ 15 → All (λ e. IsBeside spare e.0 × (e.0 ≡ a → e.1 ≡ w)) beside → AreSame (rom_of m) a w beside
alone_rom beside spare m a w size all = recursion_from_All (λ (e : ℕ × ℕ). rom_of m e.0 ≡ Some a → e.1 ≡ w) beside (λ i d lt at. (all i d lt).1 (rom_where m (get_or beside i d).0 a size at))

pub beside_given : (beside : Words) (pages : List PlacedPage) (spare : ℕ) (m : Memory) (a w : ℕ) → IsMapped pages m → spare < PHYSICAL_PAGES → All (λ e. IsBeside spare e.0 × (e.0 ≡ a → e.1 ≡ w)) beside → Contains beside (a, w)
    → HasWord (loaded beside m) a w
beside_given beside pages spare m a w mapped fits all c = given_beside here.1
  where
    here : IsBeside spare a
    here = (All-contains (λ (e : ℕ × ℕ). IsBeside spare e.0 × (e.0 ≡ a → e.1 ≡ w)) beside (a, w) all c).0

    given_beside : (page_of a ≡ physical_page spare) ⊎ ((0x3400000 ≤ a) × (a < 0x4000000)) → HasWord (loaded beside m) a w
    given_beside (inl s) =
        let high : 0x2000000 ≤ a = omega (arith, s) in
        let below : a < 0x2400000 = omega (arith, s, fits) in
        give_ram beside m a w ((a - 0x2000000) / 4 * 4) mapped.whole (omega (arith, below)) (spot_fitted m a mapped.size high below) (alone_ram beside spare m a w mapped.size here.0 high all) c
    given_beside (inr r) = give_rom beside m a w here.0 (spot_rom m a r.0) (alone_rom beside spare m a w mapped.size all) c

-- ## Which words lead to a place at all

found_fits : (m : Memory) (a : ℕ) → m.shift ≡ 15 → is_err (spot_of m a) ≡ false → IsFitted a
found_fits m a size e = not_past a (elim (cases_lt a 0x2400000) [
  | inl below ↦ inl below
  | inr past ↦ elim (cases_lt a 0x3000000) [ inl io ↦ (let refused = ap is_err (spot_unfitted m a size past io) in absurd (cc)) | inr high ↦ inr high ]
])

all_found : (m : Memory) (words : Words) → m.shift ≡ 15 → lacks_page m words ≡ false → AllByRecursion (λ e. IsFitted e.0) words
all_found m [] size e = tt
all_found m (x ∷ rest) size e =
    let p = or_parts (is_err (spot_of m x.0)) (lacks_page m rest) e in
    (found_fits m x.0 size p.0, all_found m rest size p.1)

found_by : (m : Memory) (a : ℕ) → InRam m a ⊎ InRom m a → is_err (spot_of m a) ≡ false
found_by m a (inl r) = ap is_err r.at
found_by m a (inr r) = ap is_err r.at

none_lacks : (image : Words) (pages : List PlacedPage) (spare : ℕ) (m : Memory) (words : Words) → IsPlanned image pages spare m → AllByRecursion (λ e. word_of image e.0 ≡ Some e.1) words → AllByRecursion (λ e. IsFitted e.0) words
    → lacks_page m words ≡ false
none_lacks image pages spare m [] h of fits = refl
none_lacks image pages spare m (x ∷ rest) h of fits =
    let here = found_by m x.0 (found image pages spare m x.0 h (ap is_some of.0) fits.0) in
    rw (here, none_lacks image pages spare m rest h of.1 fits.1) refl

pub image_fits : (image words : Words) (pages : List PlacedPage) (spare : ℕ) (m : Memory) → AreWhole image → IsPagePlan image pages spare → IsMapped pages m → AreOf image words
    → (lacks_page m words ≡ false) ↔ All (λ e. IsFitted e.0) words
image_fits image words pages spare m whole plan mapped of =
    let h : IsPlanned image pages spare m = record { whole = whole; plan = plan; mapped = mapped } in (
      (λ e. All-from_recursion (λ (x : ℕ × ℕ). IsFitted x.0) words (all_found m words mapped.size e)),
      (λ fits.
          none_lacks image pages spare m words h (recursion_from_All (λ (x : ℕ × ℕ). word_of image x.0 ≡ Some x.1) words of)
          (recursion_from_All (λ (x : ℕ × ℕ). IsFitted x.0) words fits)),
    )
