-- Where a run that keeps its statement and a greatest walk differ.
use Rattle.std.specs.Prelude.{◌≡◌, ℕ, ◌+◌, ◌-◌, ◌==◌, ◌&&◌, Bool, true, false, cond, Option, Some, None}
use Rattle.std.specs.Prelude.{is_some, if◌then◌else◌, List, [], ◌∷◌, count_by, flat_map, sum_by, unwrap_or}
use Rattle.std.specs.Prelude.{slice_index_or}
use Rattle.std.specs.BTreeMap.{get}
use Rattle.std.specs.List.{range_with_len}
use Rattle.std.specs.List.Sorted.{IsPermutation, IsSortedByKey, IsStableByKey}
use Rattle.std.specs.Ordering.{nat_cmp}
use Rattle.bus_ticks.specs.declared.profile.Class.{Class}
use Rattle.bus_ticks.specs.declared.profile.Class.TheVariants.{Any, Ram, Rom, Io}
use Rattle.bus_ticks.specs.declared.profile.Class.TheVariants.{Slow, Medium, Fast, Synchronous}
use Rattle.statement.specs.Stated.{Stated}
use Rattle.text_explained.specs.Pricing.{ArePriced}
use Rattle.text_explained.specs.declared.pricing.Granted.{Granted}
use Rattle.text_explained.specs.declared.pricing.Granted.TheVariants as granted
use Rattle.text_explained.specs.declared.pricing.Granted.TheVariants.{Nothing, Multiplier}
use Rattle.text_explained.specs.declared.pricing.Pricing.{Pricing}
use Rattle.text_explained.specs.declared.walk_tally.Taken.{Taken}
use Rattle.text_explained.specs.Table.{done_of, passes_of, ticks_of}
use Rattle.text_explained.specs.Taken.{cost_at, done_at, is_at, pass_at, taken_at}
use Rattle.text_explained.specs.declared.walk_tally.WalkTally.{WalkTally}
use Rattle.text_savings.specs.Savings.{falling}
use Rattle.control_flow.specs.Flow.{Flow}
use Rattle.control_flow.specs.Places.{place_at}
use Rattle.control_flow.specs.declared.edges.Edge.{Edge}
use Rattle.control_flow.specs.declared.places.Place.{Place}
use Rattle.kept_runs.specs.Passing as passing
use Rattle.kept_runs.specs.Passing.{Pass}
use Rattle.kept_runs.specs.declared.tally.Passed.{Passed}
use Rattle.image.specs.Image.{Words}
use Rattle.walk_counts.specs.Counts.{capped}
use Rattle.follow_reports.specs.declared.differences.Cause.{Cause}
use Rattle.follow_reports.specs.declared.differences.Cause.TheVariants.{Access, Fetches, Leaving, Multiply}
use Rattle.follow_reports.specs.declared.differences.Cause.TheVariants.{OtherWay}
use Rattle.follow_reports.specs.declared.differences.Compared.{Compared}
use Rattle.follow_reports.specs.declared.differences.Difference.{Difference}
use Rattle.follow_reports.specs.declared.differences.Numbers.{Numbers}
use Rattle.follow_reports.specs.declared.differences.RunTally.{RunTally}

-- ## At an address

-- how many of the run's steps begin at the address, how many of these do their instruction, and their ticks
abbrev pub run_at : Flow → List Pass → ℕ → Numbers
run_at flow passes a =
    record {
      passes = count_by (λ p. is_at a (place_at flow.places p.place)) passes;
      done = count_by (λ p. is_at a (place_at flow.places p.place) && p.done) passes;
      ticks = sum_by (λ p. cond (is_at a (place_at flow.places p.place)) p.ticks 0) passes;
    }

-- how often the walk leaves the address, and does the instruction there, and the ticks of all that
abbrev pub walk_at : List Edge → ℕ → Numbers
walk_at walk a =
    record {
      passes = sum_by (pass_at a) walk;
      done = sum_by (done_at a) walk;
      ticks = sum_by (cost_at a) walk;
    }

abbrev pub compared_at : Flow → List Pass → List Edge → ℕ → Compared
compared_at flow passes walk a = record { run = run_at flow passes a; bound = walk_at walk a }

abbrev pub agree : Compared → Bool
agree c = (c.run.passes == c.bound.passes) && (c.run.ticks == c.bound.ticks)

-- ## Causes

-- where both go the same way, by what the price takes for granted of a transfer: a class of devices, or of
-- any address, may be dearer than what a run finds there; in memory it is quads that differ
abbrev pub access_cause : Class → Cause
access_cause Any = Access
access_cause Io = Access
access_cause Slow = Access
access_cause Medium = Access
access_cause Fast = Access
access_cause Synchronous = Access
access_cause Ram = Fetches
access_cause Rom = Fetches

abbrev pub granted_cause : Granted → Cause
granted_cause Nothing = Fetches
granted_cause (Multiplier cycles) = Multiply
granted_cause (granted.Access class) = access_cause class

-- a word from where the handler leaves does so at the price of the class that it leaves to
abbrev pub pricing_cause : Pricing → Cause
pricing_cause p = if is_some p.leave then Leaving else granted_cause p.granted

abbrev pub same_way_cause : Option Pricing → Cause
same_way_cause None = Fetches
same_way_cause (Some p) = pricing_cause p

-- both pass the word as often, and its condition holds as often
abbrev pub is_same_way : Compared → Bool
is_same_way c = (c.run.passes == c.bound.passes) && (c.run.done == c.bound.done)

-- else the run goes another way, or turns a loop another number of times
abbrev pub cause_of : Option Pricing → Compared → Cause
cause_of p c = if is_same_way c then same_way_cause p else OtherWay

-- ## Words where the two differ

-- by how many ticks the run takes less there, or more
abbrev pub less : Difference → ℕ
less d = d.compared.bound.ticks - d.compared.run.ticks

abbrev pub more : Difference → ℕ
more d = d.compared.run.ticks - d.compared.bound.ticks

abbrev pub ticks_apart : Difference → ℕ
ticks_apart d = less d + more d

-- what is compared at each address, and what its price takes for granted
module _ (compared : ℕ → Compared) (priced : ℕ → Option Pricing) where
  -- at a word of an image, if the two differ there
  abbrev pub differences_at : ℕ × ℕ → List Difference
  differences_at e =
      if agree (compared e.0) then []
      else record {
        at = e.0;
        word = e.1;
        compared = compared e.0;
        cause = cause_of (priced e.0) (compared e.0);
      } ∷ []

  -- at all words, the greatest first, and of equal ones that of the lower address
  pub record AreDifferences (words : Words) (list : List Difference) : Type 0 where
    pub same : IsPermutation (flat_map differences_at words) list
    pub ordered : IsSortedByKey ticks_apart falling list
    pub stable : IsStableByKey ticks_apart falling (flat_map differences_at words) list

-- the differences at the words, by what their prices take for granted
pub record IsListed (words : Words) (st : Stated) (flow : Flow) (compared : ℕ → Compared)
    (list : List Difference) : Type 0 where
  pub priced : ℕ → Option Pricing
  pub are_priced : ArePriced words st flow priced
  pub are_differences : AreDifferences compared priced words list

-- ## Tallies

-- the run's numbers at an address, counted up to 2^64 - 1
abbrev pub capped_run_at : Flow → List Pass → ℕ → Numbers
capped_run_at flow passes a =
    record {
      passes = capped (run_at flow passes a).passes;
      done = capped (run_at flow passes a).done;
      ticks = capped (run_at flow passes a).ticks;
    }

-- the walk's numbers at an address, 0 where it has none
abbrev pub numbers_of : Option Taken → Numbers
numbers_of taken =
    record { passes = passes_of taken; done = done_of taken; ticks = ticks_of taken }

abbrev pub capped_at : Flow → List Pass → List Edge → ℕ → Compared
capped_at flow passes walk a =
    record { run = capped_run_at flow passes a; bound = numbers_of (taken_at flow walk a) }

abbrev pub no_numbers : Numbers
no_numbers = record { passes = 0; done = 0; ticks = 0 }

-- what the tally has at an address
abbrev pub tallied : RunTally → ℕ → Numbers
tallied t a = unwrap_or (get nat_cmp t.by_address a) no_numbers

abbrev pub compared_in : RunTally → WalkTally → ℕ → Compared
compared_in run walk a = record { run = tallied run a; bound = numbers_of (get nat_cmp walk.by_address a) }

-- what is done at a place more
abbrev pub with_place : Numbers → Passed → Numbers
with_place n p =
    record {
      passes = capped (n.passes + p.passes);
      done = capped (n.done + p.done);
      ticks = capped (n.ticks + p.ticks);
    }

-- what is done at a place is added at its address
abbrev pub Adds : Place → Passed → (old new : RunTally) → Type 0
Adds place p old new =
    (a : ℕ) → tallied new a ≡ (if is_at a place then with_place (tallied old a) p else tallied old a)

-- a number of each of the first places at the address, in all
abbrev pub in_all : List Place → List Passed → (Passed → ℕ) → (count a : ℕ) → ℕ
in_all places by_place number count a =
    sum_by (λ k. cond (is_at a (place_at places k)) (number (slice_index_or by_place k passing.nothing)) 0)
    (range_with_len 0 count)

-- what is done at the first places
abbrev pub HasAdded : List Place → List Passed → ℕ → RunTally → Type 0
HasAdded places by_place count t =
    (a : ℕ) → tallied t a
    ≡ record {
      passes = capped (in_all places by_place (λ p. p.passes) count a);
      done = capped (in_all places by_place (λ p. p.done) count a);
      ticks = capped (in_all places by_place (λ p. p.ticks) count a);
    }
