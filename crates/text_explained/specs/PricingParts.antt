-- What is said of prices at each step. No part of the table: it is here since clauses of private
-- functions cite it.
use Rattle.std.specs.Prelude.{◌≡◌, ℕ, Bool, true, false, if◌then◌else◌, Option, Some, None}
use Rattle.control_flow.specs.declared.places.Place.{Place}
use Rattle.image.specs.Image.{Words}
use Rattle.statement.specs.Stated.{Stated}
use Rattle.text_explained.specs.Pricing.{IsGranted}
use Rattle.text_explained.specs.Taken.{is_at}
use Rattle.text_explained.specs.declared.pricing.Pricing.{Pricing}

-- of an address, by a test of those that the handler leaves
pub record IsPricedBy (words : Words) (st : Stated) (leaving : ℕ → Bool) (a : ℕ) (p : Pricing) : Type 0 where
  pub granted : IsGranted words st a p.granted
  pub leave : p.leave ≡ (if leaving a then Some st.leave else None)

-- it is said of the place's address too
pub record Prices (words : Words) (st : Stated) (leaving : ℕ → Bool) (place : Place)
    (old new : ℕ → Option Pricing) : Type 0 where
  pub here : (a : ℕ) → is_at a place ≡ true
      → (p : Pricing) × (new a ≡ Some p) × IsPricedBy words st leaving a p
  pub others : (a : ℕ) → is_at a place ≡ false → new a ≡ old a
