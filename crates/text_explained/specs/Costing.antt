-- What the rows of a table are made of. No part of the table: it is here since clauses of private
-- functions cite it.
use Rattle.std.specs.Prelude.{◌≡◌, ℕ, List, Option, option_map}
use Rattle.std.specs.Borrow.{Bor}
use Rattle.std.specs.BTreeMap.{BTreeMap, get}
use Rattle.std.specs.Ordering.{nat_cmp}
use Rattle.control_flow.specs.Flow.{Flow}
use Rattle.image.specs.Image.{Words}
use Rattle.longest_walk.specs.Folded.{unfolded}
use Rattle.longest_walk.specs.declared.folded.Longest.{Longest}
use Rattle.statement.specs.Stated.{Stated}
use Rattle.text_explained.specs.Pricing.{ArePriced}
use Rattle.text_explained.specs.Starts.{latest_at}
use Rattle.text_explained.specs.Table.{WalkFigures}
use Rattle.text_explained.specs.Taken.{IsTally}
use Rattle.text_explained.specs.declared.cost_figures.Costing.{Costing}

-- first starts, by their map, if there is one
abbrev pub first_of : Option (Bor (BTreeMap ℕ ℕ)) → Option (ℕ → Option ℕ)
first_of first = option_map (λ starts. get nat_cmp starts.now) first

-- of a greatest walk, of when the places of its graph begin at the latest, and of first starts
pub record IsCosting (words : Words) (st : Stated) (flow : Flow) (longest : Longest) (starts : List ℕ)
    (asked : Option (ℕ → Option ℕ)) (c : Costing) : Type 0 where
  pub tally : IsTally flow (unfolded longest.walk) c.tally
  pub first : first_of c.first ≡ asked
  pub latest : (a : ℕ) → get nat_cmp c.latest a ≡ latest_at flow.places starts a
  pub prices : ArePriced words st flow (get nat_cmp c.prices)
  pub bound : c.bound ≡ longest.bound

-- by its maps
abbrev pub figures_of : Costing → WalkFigures
figures_of c =
    record {
      taken = get nat_cmp c.tally.by_address;
      starts = record { first = first_of c.first; latest = get nat_cmp c.latest };
      priced = get nat_cmp c.prices;
      bound = c.bound;
    }
