-- The pages of 32 KB on which the words of an image lie, numbered by their addresses.
use Rattle.std.specs.Prelude.{◌≡◌, ◌≤◌, ◌↔◌, ◌/◌, ℕ, IsSome, List, length}
use Rattle.std.specs.List.{Contains}
use Rattle.std.specs.List.Sorted.{IsStrictlySortedBy}
use Rattle.std.specs.Ordering.{nat_cmp}
use Rattle.image.specs.Image.{Words, word_of}
use Rattle.image.specs.declared.image.TheConstants.{PAGE_BYTES}

-- the number of the page of an address
abbrev pub page_of : ℕ → ℕ
page_of address = address / PAGE_BYTES

-- a word lies on the page
abbrev pub HasWordOn : Words → ℕ → Type 0
HasWordOn words page = (address : ℕ) × IsSome (word_of words address) × (page_of address ≡ page)

-- numbers that ascend, no two of them equal
abbrev pub Ascend : List ℕ → Type 0
Ascend numbers = IsStrictlySortedBy nat_cmp numbers

-- The pages on which words lie. There are at most 40 of them: 65,536 words fill 8 pages, and each of 16 runs
-- begins and ends on one more.
pub record AreHeld (words : Words) (pages : List ℕ) : Type 0 where
  pub ascend : Ascend pages
  pub held : (page : ℕ) → Contains pages page ↔ HasWordOn words page
  pub few : length pages ≤ 40
