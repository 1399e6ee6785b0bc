-- Memory whose logical pages lie as a plan says, and the words that are put there.
use Rattle.std.specs.Prelude.{◌≡◌, ◌<◌, ◌≤◌, ◌⊎◌, ◌%◌, ℕ, false, Some, List, All}
use Rattle.bus_ticks.specs.declared.space.TheConstants.{ROM_START, SPACE_END}
use Rattle.image.specs.Image.{Words, is_past_ram, word_of}
use Rattle.image.specs.Pages.{page_of}
use Rattle.loader.specs.PagePlan.{physical_page}
use Rattle.loader.specs.declared.plan.PlacedPage.{PlacedPage}
use Rattle.memc.specs.Memory.{Memory, shift_of_size}
use Rattle.memc.specs.Paged.{IsWhole, page_at}
use Rattle.memc.specs.declared.spots.PageSize.TheVariants.{K32}

-- pages of 32 KB, and each logical page of the plan on its physical page, at level 0
pub record IsMapped (pages : List PlacedPage) (m : Memory) : Type 0 where
  pub size : m.shift ≡ shift_of_size K32
  pub whole : IsWhole (shift_of_size K32) m.paged
  pub placed : All (λ p. page_at m.paged p.logical ≡ Some (record { physical = p.physical; level = 0 })) pages

-- where a word may be beside an image's: on the spare page, by its own address, or in ROM
abbrev pub IsBeside : ℕ → ℕ → Type 0
IsBeside spare address =
    (address % 4 ≡ 0)
    × ((page_of address ≡ physical_page spare) ⊎ ((ROM_START ≤ address) × (address < SPACE_END)))
