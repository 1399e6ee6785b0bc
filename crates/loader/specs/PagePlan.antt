-- A plan of pages for an image: on which physical page of 32 KB each logical page with words of it lies.
-- Pages are numbered by their addresses, of 32,768 bytes each: the pages 0 to 1023 are logical, and the page
-- 1024 + p, which begins at 2000000 + 32768 * p, is the physical page p.
use Rattle.std.specs.Prelude.{◌<◌, ◌↔◌, ◌+◌, ℕ, Bool, List, map}
use Rattle.std.specs.Prelude.{All, nat_eq, nat_lt, not}
use Rattle.std.specs.List.{Contains, filter, list_any, range_with_len}
use Rattle.image.specs.Image.{Words}
use Rattle.image.specs.Pages.{Ascend, HasWordOn}
use Rattle.loader.specs.declared.plan.PlacedPage.{PlacedPage}
use Rattle.loader.specs.declared.plan.TheConstants.{LOGICAL_PAGES}
use Rattle.memc.specs.declared.pages.TheConstants.{PHYSICAL_PAGES}

-- the number of a physical page by its own addresses
abbrev pub physical_page : ℕ → ℕ
physical_page p = LOGICAL_PAGES + p

-- a page is logical; a physical one is not among pages, and so no word names it by its own address
abbrev pub is_logical : ℕ → Bool
is_logical page = nat_lt page LOGICAL_PAGES

abbrev pub is_unnamed : List ℕ → ℕ → Bool
is_unnamed pages physical = not (list_any (nat_eq (physical_page physical)) pages)

-- the physical pages that no word names, of pages with words
abbrev pub free_pages : List ℕ → List ℕ
free_pages held = filter (is_unnamed held) (range_with_len 0 PHYSICAL_PAGES)

abbrev pub placed : ℕ × ℕ → PlacedPage
placed p = record { logical = p.0; physical = p.1 }

-- a physical page that no word names by its own address
pub record IsFree (words : Words) (physical : ℕ) : Type 0 where
  pub below : physical < PHYSICAL_PAGES
  pub unnamed : HasWordOn words (physical_page physical) → ⊥

-- The logical pages are those with words, and ascend. Their physical pages, and then the spare one, are the
-- lowest that no word names, and ascend.
pub record IsPagePlan (words : Words) (pages : List PlacedPage) (spare : ℕ) : Type 0 where
  pub logical : (page : ℕ)
      → Contains (map (λ p. p.logical) pages) page ↔ ((page < LOGICAL_PAGES) × HasWordOn words page)
  pub logical_ascend : Ascend (map (λ p. p.logical) pages)
  pub physical_ascend : Ascend (map (λ p. p.physical) pages)
  pub free : All (λ p. IsFree words p.physical) pages
  pub spare_free : IsFree words spare
  pub spare_above : All (λ p. p.physical < spare) pages
  pub lowest : (p : ℕ) → IsFree words p → p < spare → Contains (map (λ q. q.physical) pages) p
