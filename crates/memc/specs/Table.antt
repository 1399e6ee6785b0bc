-- What the page table and its inverse keep.
use Rattle.std.specs.Prelude.{◌≡◌, ℕ, ◌+◌, ◌*◌, ◌^◌, ◌<◌, ◌≤◌, Option, Some, None, List, length}
use Rattle.std.specs.Prelude.{slice_index_or}
use Rattle.bus_ticks.specs.declared.space.TheConstants.{PHYSICAL_START}
use Rattle.memc.specs.declared.pages.Entry.{Entry}
use Rattle.memc.specs.declared.pages.TheConstants.{PHYSICAL_PAGES}
use Rattle.memc.specs.Paged.{Paged}

-- RAM and its page map, with the number of bits of a place in a page
pub record Sized : Type 0 where
  pub shift : ℕ
  pub paged : Paged

-- the inverse has for each physical page the logical page that lies on it
pub record IsPaged (shift : ℕ) (words : List ℕ) (pages : List (Option Entry))
    (held : List (Option ℕ)) : Type 0 where
  pub shift_least : 12 ≤ shift
  pub shift_most : shift ≤ 15
  pub size : length words ≡ 2 ^ (shift + 5)
  pub count : length pages * 2 ^ shift ≡ PHYSICAL_START
  pub places : length held ≡ PHYSICAL_PAGES
  pub held_by : (l : ℕ) (e : Entry) → slice_index_or pages l None ≡ Some e
      → slice_index_or held e.physical None ≡ Some l
  pub holds : (p l : ℕ) → slice_index_or held p None ≡ Some l
      → (e : Entry) × (slice_index_or pages l None ≡ Some e) × (e.physical ≡ p)
  pub physical_below : (l : ℕ) (e : Entry) → slice_index_or pages l None ≡ Some e
      → e.physical < PHYSICAL_PAGES
  pub level_below : (l : ℕ) (e : Entry) → slice_index_or pages l None ≡ Some e → e.level < 4
