-- Where words may be: below I/O, or above it.
use Rattle.std.proofs.Common.{◌≡◌, ℕ, ◌+◌, ◌%◌, ◌<◌, ◌≤◌, ◌⊎◌, true, inl, inr, arith}
use Rattle.std.specs.Prelude.{IsTrue}
use Rattle.std.proofs.lemmas.Bool.{cases_lt}
use Rattle.std.proofs.lemmas.Bool.Decides.{nat_tests}
use Rattle.image.specs.Image.{lies_in_memory, may_hold}

abbrev pub Lies : ℕ → ℕ → Type 0
Lies from to = (to ≤ 0x3000000) ⊎ ((0x3400000 ≤ from) × (to ≤ 0x4000000))

pub lies_where : (from to : ℕ) → lies_in_memory from to ≡ true → Lies from to
lies_where from to h = elim (cases_lt 0x3000000 to) [
  | inl past ↦ inr (grind (arith, nat_tests, h, past), grind (arith, nat_tests, h, past))
  | inr low ↦ inl low
]

pub lies_in : (from to : ℕ) → Lies from to → lies_in_memory from to ≡ true
lies_in from to h = elim h [
  | inl low ↦ grind (arith, nat_tests, low)
  | inr high ↦ let least = high.0 in let most = high.1 in grind (arith, nat_tests, least, most)
]

pub may_parts : (a : ℕ) → IsTrue (may_hold a) → (a % 4 ≡ 0) × (a < 0x4000000) × ((a < 0x3000000) ⊎ (0x3400000 ≤ a))
may_parts a may = elim (cases_lt a 0x3000000) [
  | inl low ↦ (grind (arith, nat_tests, may), grind (arith, nat_tests, may), inl low)
  | inr high ↦ (grind (arith, nat_tests, may), grind (arith, nat_tests, may), inr (grind (arith, nat_tests, may, high)))
]

pub lies_one : (a : ℕ) → IsTrue (may_hold a) → Lies a (a + 4)
lies_one a may =
    let parts = may_parts a may in
    let even = parts.0 in
    let most = parts.1 in
    elim parts.2 [ inl low ↦ inl (omega (arith, even, low)) | inr high ↦ inr (high, omega (arith, even, most)) ]

pub lies_more : (a to : ℕ) → IsTrue (may_hold a) → Lies (a + 4) to → a + 4 < to → Lies a to
lies_more a to may rest lt =
    let parts = may_parts a may in
    let even = parts.0 in
    elim rest [
      | inl low ↦ inl low
      | inr high ↦
          let least = high.0 in
          elim parts.2 [ inl below ↦ absurd (omega (arith, even, least, below)) | inr above ↦ inr (above, high.1) ]
    ]

-- a word within addresses that lie in memory
pub may_within : (from to a : ℕ) → lies_in_memory from to ≡ true → a % 4 ≡ 0 → from ≤ a → a + 4 ≤ to → IsTrue (may_hold a)
may_within from to a h four low high = elim (lies_where from to h) [
  | inl below ↦ grind (arith, nat_tests, four, high, below)
  | inr above ↦ let least = above.0 in let most = above.1 in grind (arith, nat_tests, four, low, high, least, most)
]
