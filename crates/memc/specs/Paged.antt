-- RAM and its page map as plain maps: from physical place to word, and from logical page to physical page
-- and level (shaped on the data sheet of the VL86C110, MEMC).
use Rattle.std.specs.Prelude.{◌≡◌, ℕ, ◌+◌, ◌*◌, ◌/◌, ◌%◌, ◌^◌, ◌<◌, ◌≤◌, ◌==◌, if◌then◌else◌, Option, Some}
use Rattle.std.specs.Prelude.{None, List, length, map, slice_index_or, slice_set, All}
use Rattle.bus_ticks.specs.declared.space.TheConstants.{PHYSICAL_START}
use Rattle.memc.specs.declared.pages.Entry.{Entry}
use Rattle.memc.specs.declared.pages.TheConstants.{PHYSICAL_PAGES}

-- the sizes of a page: 4, 8, 16 and 32 KB
abbrev pub IsShift : ℕ → Type 0
IsShift shift = (12 ≤ shift) × (shift ≤ 15)

-- the bytes of the fitted RAM: the physical pages, of 2 ^ shift bytes
abbrev pub fitted_bytes : ℕ → ℕ
fitted_bytes shift = PHYSICAL_PAGES * 2 ^ shift

-- the word at the physical place 4 * i, and the page of each logical page
pub record Paged : Type 0 where
  pub words : List ℕ
  pub pages : List (Option Entry)

-- where a logical page lies
abbrev pub page_at : Paged → ℕ → Option Entry
page_at p logical = slice_index_or p.pages logical None

-- the physical place of the word that an address names, on a physical page
abbrev pub place_of : ℕ → ℕ → ℕ → ℕ
place_of shift physical address = physical * 2 ^ shift + address % 2 ^ shift / 4 * 4

-- an entry, unless it lies on the physical page
abbrev pub off : ℕ → Option Entry → Option Entry
off physical None = None
off physical (Some e) = if e.physical == physical then None else Some e

-- the map once no logical page lies on the physical page
abbrev pub unmapped : ℕ → Paged → Paged
unmapped physical p = record { words = p.words; pages = map (off physical) p.pages }

-- the map once the logical page lies on the physical page, and nothing else does
abbrev pub mapped : ℕ → ℕ → ℕ → Paged → Paged
mapped physical logical level p =
    record {
      words = p.words;
      pages = slice_set (map (off physical) p.pages) logical
          (Some (record { physical = physical; level = level }));
    }

-- as a machine starts: all words 0, and the logical pages 0 to 127 each on the physical page of its number,
-- at level 0
pub record IsFresh (shift : ℕ) (p : Paged) : Type 0 where
  pub size : length p.words ≡ 2 ^ (shift + 5)
  pub zero_words : All (λ w. w ≡ 0) p.words
  pub count : length p.pages * 2 ^ shift ≡ PHYSICAL_START
  pub low : (i : ℕ) → i < PHYSICAL_PAGES → page_at p i ≡ Some (record { physical = i; level = 0 })
  pub high : (i : ℕ) → PHYSICAL_PAGES ≤ i → page_at p i ≡ None

-- what every memory is: physical pages of 2 ^ shift bytes, logical pages up to physical RAM, levels 0 to 3,
-- and at most one logical page on each physical page
pub record IsWhole (shift : ℕ) (p : Paged) : Type 0 where
  pub size : IsShift shift
  pub words : length p.words ≡ 2 ^ (shift + 5)
  pub count : length p.pages * 2 ^ shift ≡ PHYSICAL_START
  pub physical_below : (l : ℕ) (e : Entry) → page_at p l ≡ Some e → e.physical < PHYSICAL_PAGES
  pub level_below : (l : ℕ) (e : Entry) → page_at p l ≡ Some e → e.level < 4
  pub alone : (k l : ℕ) (e f : Entry) → page_at p k ≡ Some e → page_at p l ≡ Some f → e.physical ≡ f.physical
      → k ≡ l
