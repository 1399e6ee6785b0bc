-- Words on one page: each lies where the first does, further on by as much as its address.
use Rattle.std.proofs.Common.{◌≡◌, ℕ, ◌+◌, ◌-◌, ◌*◌, ◌/◌, ◌%◌, ◌^◌, ◌<◌, ◌≤◌, Bool, true, false, cond, Option, Some, None, Result, Ok, Err, length, refl, sym, ◌∙◌, ap, arith}
use Rattle.std.proofs.Math.Nat.{div-add-mod, mul_assoc, mul_comm, pow-le-pow_right}
use Rattle.std.proofs.lemmas.Bool.{lt-ltb}
use Rattle.std.proofs.lemmas.Nat.{div-mul-add, mod-mul-add, div_below, mul-add-lt, pow_pos, pow-add, one_shl}
use Rattle.bus_ticks.specs.Prices.{word_address}
use Rattle.memc.specs.declared.pages.Entry.{Entry}
use Rattle.memc.specs.declared.spots.Spot.{Spot}
use Rattle.memc.specs.declared.spots.Spot.TheVariants.{Ram}
use Rattle.memc.specs.declared.spots.Refused.{Refused}
use Rattle.memc.specs.declared.spots.Refused.TheVariants.{NoPage, Protected}
use Rattle.memc.specs.Paged.{page_at, place_of, IsWhole}
use Rattle.memc.specs.Memory.{Memory, allowed, logical_at, IsOnOnePage, IsRun}

-- a page has at least 4 KB, at most 32 KB
pub size_bounds : (shift : ℕ) → 12 ≤ shift → shift ≤ 15 → (4096 ≤ 1 * 2 ^ shift % 2 ^ 32) × (1 * 2 ^ shift % 2 ^ 32 ≤ 32768)
size_bounds shift least most =
    rw (one_shl shift 32 (omega arith)) (pow-le-pow_right {n = 2} (omega arith) {i = 12} {j = shift} least, pow-le-pow_right {n = 2} (omega arith) {i = shift} {j = 15} most)

-- word i from an address on, where it lies no further than the address's page
record IsWithin (size address i : ℕ) : Type 0 where
  page : word_address address i / size ≡ address / size
  place : word_address address i % size / 4 * 4 ≡ address % size / 4 * 4 + 4 * i
  below : word_address address i < 2 ^ 25

word_within_page : (size quarter count address i : ℕ) → size ≡ 4 * quarter → 0 < size → count * size ≡ 2 ^ 25 → address < 2 ^ 25 → address % size / 4 * 4 + 4 * i < size → IsWithin size address i
word_within_page size quarter count address i quarters some whole below within =
    let q = address / size in
    let r = address % size in
    let split : size * q + r ≡ address = div-add-mod address size in
    let fours : size * q ≡ 4 * (quarter * q) = ap (λ (z : ℕ). z * q) quarters ∙ mul_assoc 4 quarter q in
    let turned : q * size ≡ size * q = mul_comm q size in
    let q_below : q < count = div_below address size count some (omega (arith, whole)) in
    let most : q * size + (r / 4 * 4 + 4 * i) < size * count = mul-add-lt q size (r / 4 * 4 + 4 * i) count q_below within in
    let all : size * count ≡ 2 ^ 25 = mul_comm size count ∙ whole in
    let lies : word_address address i ≡ q * size + (r / 4 * 4 + 4 * i) = omega arith in
    record {
      page = ap (λ (a : ℕ). a / size) lies ∙ div-mul-add q size (r / 4 * 4 + 4 * i) within;
      place = ap (λ (a : ℕ). a % size / 4 * 4) lies ∙ ap (λ (a : ℕ). a / 4 * 4) (mod-mul-add q size (r / 4 * 4 + 4 * i) within) ∙ omega arith;
      below = omega arith;
    }

-- the places of a run, where the first word is on a page
placed : (m : Memory) (address words : ℕ) (user store : Bool) (place : ℕ) (e : Entry) (granted : Bool) → IsWhole m.shift m.paged → address < 2 ^ 25 → IsOnOnePage m.shift address words
    → page_at m.paged (address / 2 ^ m.shift) ≡ Some e → allowed m.control.system e.level user store ≡ granted
    → cond granted (let spot : Result Spot Refused = Ok (Ram (place_of m.shift e.physical address)) in spot) (Err Protected) ≡ Ok (Ram place) → IsRun m address words user store place
placed m address words user store place e false whole below one on granted at = absurd (cc)
placed m address words user store place e true whole below one on granted at =
    let size = 2 ^ m.shift in
    let here : place_of m.shift e.physical address ≡ place = cc in
    let physical : e.physical < 128 = whole.physical_below (address / size) e on in
    let fits : e.physical * size + size ≤ 128 * size =
    let least : 0 < size = pow_pos m.shift in
    omega (arith, mul-add-lt e.physical size (size - 1) 128 physical (omega arith)) in
    let quarters : size ≡ 4 * 2 ^ (m.shift - 2) =
    let back : m.shift - 2 + 2 ≡ m.shift = omega (arith, whole.size) in
    ap (λ (k : ℕ). 2 ^ k) (sym back) ∙ pow-add 2 (m.shift - 2) 2 ∙ omega arith in
    record {
      logical = below;
      on_one_page = one;
      fitted = omega arith;
      each = λ i less.
          let at : IsWithin size address i = word_within_page size (2 ^ (m.shift - 2)) (length m.paged.pages) address i quarters (pow_pos m.shift) whole.count below (omega arith) in
          rw (lt-ltb (word_address address i) 0x2000000 at.below, at.page, on, granted, at.place) (ap (λ (x : ℕ). let spot : Result Spot Refused = Ok (Ram x) in spot) (omega arith));
    }

pub run_at : (m : Memory) (address words : ℕ) (user store : Bool) (place : ℕ) → IsWhole m.shift m.paged → address < 2 ^ 25 → IsOnOnePage m.shift address words
    → logical_at m address user store ≡ Ok (Ram place) → IsRun m address words user store place
run_at m address words user store place whole below one at = by_page (page_at m.paged (address / 2 ^ m.shift)) refl at
  where
    by_page : (o : Option Entry) → page_at m.paged (address / 2 ^ m.shift) ≡ o → logical_at m address user store ≡ Ok (Ram place) → IsRun m address words user store place
    by_page None on at =
        let none : ◌≡◌ {A = Result Spot Refused} (Err NoPage) (Ok (Ram place)) = rw on at at in
        absurd (cc)
    by_page (Some e) on at = placed m address words user store place e (allowed m.control.system e.level user store) whole below one on refl (rw on at at)
