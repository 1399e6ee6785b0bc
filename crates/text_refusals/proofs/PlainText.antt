-- A document that is that of a plain line.
use Rattle.std.proofs.Common.{◌≡◌, ◌≤◌, ℕ, List, [], length, Some, None, Ordering, refl, sym, arith}
use Rattle.std.specs.Prelude.{Contains, IsSome, codes}
use Rattle.std.specs.Ordering.{match_ordering, nat_cmp}
use Rattle.std.specs.Cmp.Lexicographic.{slice_cmp}
use Rattle.std.specs.declared.cmp.Ordering.TheVariants.{Less, Equal, Greater}
use Rattle.std.proofs.lemmas.Bool.{false≢true}
use Rattle.std.proofs.lemmas.Map.Lookups.{exact_bytes}
use Rattle.toml.specs.Data.{string}
use Rattle.toml_reading.specs.Lowest.{entries_at}
use Rattle.statement.specs.Places.{list_key}
use Rattle.statement.specs.declared.spots.Key.TheVariants as key
use Rattle.statement.specs.declared.spots.Part.TheVariants.{Missing, Unknown, Value}
use Rattle.statement.specs.declared.spots.Spot.{Spot}
use Rattle.statement.specs.declared.spots.Spot.TheVariants as spot
use Rattle.statement.specs.declared.spots.TableList.{TableList}
use Rattle.statement.specs.declared.spots.TableList.TheVariants.{Loops, Targets, Accesses, Rules, Multiplies, Branches}
use Rattle.text_refusals.specs.Courses.{at_front}
use Rattle.text_refusals.specs.Outline.{Item, Quoted, States}
use Rattle.text_refusals.specs.Placed.{AreOf, IsThere, Shows, a_document, a_text, placed}
use Rattle.text_refusals.specs.PlainLines.{items_from}
use Rattle.text_refusals.specs.Refused.{tables_in}
use Rattle.text_refusals.specs.declared.course.Course.{Course}

abbrev the_items : List Item
the_items = items_from 1 [] a_text

entry_key : (k : List ℕ) (o : Ordering) → o ≡ slice_cmp nat_cmp k (codes "entry") → IsSome (match_ordering o None (Some (string (codes "a"))) None) → k ≡ codes "entry"
entry_key k Less is h = absurd (false≢true h)
entry_key k Equal is h = exact_bytes k (codes "entry") (sym is)
entry_key k Greater is h = absurd (false≢true h)

abbrev Shown : Spot → Type 0
Shown s = (c : Course) × (i : Item) × Contains (placed at_front the_items) (c, i) × Shows c i s

shown : (s : Spot) → IsThere a_document s → Shown s
shown (spot.Own (Unknown k)) h = (
  at_front,
  States (record { line = 1; list = []; key = codes "entry"; depth = 0; value = Quoted (codes "\"") (codes "a") }),
  (0, omega arith, refl),
  (refl, refl, sym (entry_key k.now (slice_cmp nat_cmp k.now (codes "entry")) refl h)),
)
shown (spot.Own (Value key.Entry)) h = (
  at_front,
  States (record { line = 1; list = []; key = codes "entry"; depth = 0; value = Quoted (codes "\"") (codes "a") }),
  (0, omega arith, refl),
  (refl, refl, (refl, refl)),
)
shown (spot.Own (Value _)) h = absurd (false≢true h)
shown (spot.Own (Missing k)) h = absurd h
shown (spot.NoList Loops) h = absurd (false≢true h)
shown (spot.NoList Targets) h = absurd (false≢true h)
shown (spot.NoList Accesses) h = absurd (false≢true h)
shown (spot.NoList Rules) h = absurd (false≢true h)
shown (spot.NoList Multiplies) h = absurd (false≢true h)
shown (spot.NoList Branches) h = absurd (false≢true h)
shown (spot.TooMany list) h = absurd h
shown (spot.NoTable Loops n) h = absurd h
shown (spot.NoTable Targets n) h = absurd h
shown (spot.NoTable Accesses n) h = absurd h
shown (spot.NoTable Rules n) h = absurd h
shown (spot.NoTable Multiplies n) h = absurd h
shown (spot.NoTable Branches n) h = absurd h
shown (spot.Listed Loops n (Unknown k)) h = absurd h
shown (spot.Listed Targets n (Unknown k)) h = absurd h
shown (spot.Listed Accesses n (Unknown k)) h = absurd h
shown (spot.Listed Rules n (Unknown k)) h = absurd h
shown (spot.Listed Multiplies n (Unknown k)) h = absurd h
shown (spot.Listed Branches n (Unknown k)) h = absurd h
shown (spot.Listed Loops n (Value k)) h = absurd h
shown (spot.Listed Targets n (Value k)) h = absurd h
shown (spot.Listed Accesses n (Value k)) h = absurd h
shown (spot.Listed Rules n (Value k)) h = absurd h
shown (spot.Listed Multiplies n (Value k)) h = absurd h
shown (spot.Listed Branches n (Value k)) h = absurd h
shown (spot.Listed Loops n (Missing k)) h = absurd h
shown (spot.Listed Targets n (Missing k)) h = absurd h
shown (spot.Listed Accesses n (Missing k)) h = absurd h
shown (spot.Listed Rules n (Missing k)) h = absurd h
shown (spot.Listed Multiplies n (Missing k)) h = absurd h
shown (spot.Listed Branches n (Missing k)) h = absurd h
shown (spot.Misplaced n) h = absurd h
shown (spot.Unwanted n) h = absurd h
shown (spot.Reversed n) h = absurd h
shown (spot.TooManyDestinations n) h = absurd h
shown (spot.Destination n i) h = absurd h
shown spot.NoStretches h = absurd (false≢true h)
shown spot.TooManyStretches h = absurd h
shown (spot.NoStretch n) h = absurd (false≢true h)
shown (spot.StretchEnd n i) h = absurd h
shown (spot.ReversedStretch n) h = absurd h
shown (spot.Second Loops n) h = absurd h
shown (spot.Second Targets n) h = absurd h
shown (spot.Second Accesses n) h = absurd h
shown (spot.Second Rules n) h = absurd h
shown (spot.Second Multiplies n) h = absurd h
shown (spot.Second Branches n) h = absurd h

few : (list : TableList) → length (entries_at (list_key list) a_document) ≤ length (tables_in (list_key list) the_items)
few Loops = omega arith
few Targets = omega arith
few Accesses = omega arith
few Rules = omega arith
few Multiplies = omega arith
few Branches = omega arith

-- entry = "a"
pub is_of_text : AreOf the_items a_document
is_of_text = record { shown = shown; tables = few; stretches = omega arith; short = λ n h. h }
