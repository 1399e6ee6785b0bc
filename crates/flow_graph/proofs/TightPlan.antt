-- Each image has a plan of its pages.
use Rattle.std.proofs.Common.{◌≡◌, ℕ, eqb, List, length, get_or, refl, sym}
use Rattle.std.specs.List.{dedup}
use Rattle.std.proofs.lemmas.List.{get_or_default}
use Rattle.image.specs.Image.{Words}
use Rattle.image.specs.Inside.{AreWhole}
use Rattle.image.specs.Pages.{AreHeld}
use Rattle.image.proofs.PageLemmas.{held_pages, pages}
use Rattle.loader.specs.PagePlan.{IsPagePlan, free_pages}
use Rattle.loader.specs.declared.plan.PlacedPage.{PlacedPage}
use Rattle.loader.proofs.PlanLemmas.{pages_on, plan_is, spare_within}

pub record Planned (words : Words) : Type 0 where
  pub pages : List PlacedPage
  pub spare : ℕ
  pub plan : IsPagePlan words pages spare

by_pages : (words : Words) (held free : List ℕ) (placed : List PlacedPage) → AreHeld words held → free ≡ free_pages held → placed ≡ pages_on held free → Planned words
by_pages words held free placed are frees on =
    let within = spare_within held free placed are.few frees on in
    let spare : ℕ = get_or free (length placed) 0 in
    record {
      pages = placed;
      spare = spare;
      plan = plan_is words held free placed (length placed) spare are frees on refl (sym (get_or_default free (length placed) spare 0 within));
    }

-- the lists of the pages with words, and of the free ones
held_in : Words → List ℕ
held_in words = dedup eqb (pages words)

are_held : (words : Words) → AreWhole words → AreHeld words (held_in words)
unfolding held_in
are_held words whole = held_pages words whole

free_beside : List ℕ → List ℕ
free_beside held = free_pages held

free_is : (held : List ℕ) → free_beside held ≡ free_pages held
unfolding free_beside
free_is held = refl

pub planned : (words : Words) → AreWhole words → Planned words
planned words whole =
    let held : List ℕ = held_in words in
    let free : List ℕ = free_beside held in
    by_pages words held free (pages_on held free) (are_held words whole) (free_is held) refl
