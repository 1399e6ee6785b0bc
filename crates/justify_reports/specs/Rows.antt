-- The entries of a statement that may follow from the code, a row for each.
use Rattle.std.specs.Prelude.{◌≡◌, ◌≢◌, ◌↔◌, ◌⊎◌, ℕ, Bool, true, false, if◌then◌else◌, List, [], ◌∷◌, ◌++◌}
use Rattle.std.specs.Prelude.{Contains, Option, Some, None, is_some, nat_eq, unwrap_or}
use Rattle.std.specs.List.Sorted.{IsStrictlySortedBy}
use Rattle.std.specs.Map.{lookup}
use Rattle.std.specs.Ordering.{nat_cmp}
use Rattle.arm2_decode.specs.Writers.{is_transfer}
use Rattle.arm2_decode.specs.declared.instr.Instr.{Instr}
use Rattle.bus_ticks.specs.declared.profile.Class.{Class}
use Rattle.bus_ticks.specs.declared.profile.Class.TheVariants.{Any}
use Rattle.control_flow.specs.Flow.{Flow}
use Rattle.control_flow.specs.Kinds.{base_of}
use Rattle.image.specs.Image.{Words}
use Rattle.statement.specs.Stated.{Stated, class_at}
use Rattle.statement.specs.declared.stated.Loop.{Loop}
use Rattle.text_explained.specs.Doing.{may_do_shape}
use Rattle.text_explained.specs.Taken.{is_reached}
use Rattle.text_rows.specs.Rows.{AreRows}
use Rattle.word_shapes.specs.Words.{HasInstr}
use Rattle.loop_bounds.specs.Tree.{Tree}
use Rattle.known_words.specs.declared.words.Range.{Range}
use Rattle.known_places.specs.OnTrust.{OnTrust}
use Rattle.known_places.specs.declared.destination.Destination.{Destination}
use Rattle.justify_reports.specs.Endless.{IsEndlessAt}
use Rattle.justify_reports.specs.Outside.{IsOutside}
use Rattle.justify_reports.specs.Returns.{AreReturns, IsGoing}
use Rattle.justify_reports.specs.Trust.{lists_class, trusts_class, trusts_loop}
use Rattle.justify_reports.specs.declared.rows.Entry.{Entry}
use Rattle.justify_reports.specs.declared.rows.Entry.TheVariants as entry
use Rattle.justify_reports.specs.declared.returns.Going.{Going}
use Rattle.justify_reports.specs.declared.returns.Going.TheVariants.{AfterCall, Back, BackInside, Elsewhere}
use Rattle.justify_reports.specs.declared.returns.Going.TheVariants.{Out, Unseen}
use Rattle.justify_reports.specs.declared.rows.Reach.{Reach}
use Rattle.justify_reports.specs.declared.rows.Reach.TheVariants.{Of, Outside}
use Rattle.justify_reports.specs.declared.rows.Row.{Row}
use Rattle.justify_reports.specs.declared.rows.Verdict.{Verdict}
use Rattle.justify_reports.specs.declared.rows.Verdict.TheVariants as verdict

-- ## Which words have a row

-- a load or a store that may be done, and the class stated of it is not Any
pub record IsClassed (st : Stated) (a : ℕ) (i : Instr) : Type 0 where
  pub transfers : may_do_shape is_transfer st a i ≡ true
  pub stated : class_at st a (base_of i.operation) ≢ Any

abbrev pub HasClass : Words → Stated → ℕ → Type 0
HasClass words st a = (i : Instr) × HasInstr words a i × IsClassed st a i

-- exactly the addresses where the graph has a place and the word a stated class, and those of the words whose
-- class is on trust, ascending
pub record AreClassed (words : Words) (st : Stated) (flow : Flow) (left : Option OnTrust)
    (named : List ℕ) : Type 0 where
  pub ascending : IsStrictlySortedBy nat_cmp named
  pub each : (a : ℕ) → Contains named a
      ↔ (((is_reached flow.places a ≡ true) × HasClass words st a) ⊎ (lists_class left a ≡ true))

-- ## Rows

-- the class stated of what the word at the address transfers
abbrev pub IsClassAt : Words → Stated → ℕ → Class → Type 0
IsClassAt words st a class = (i : Instr) → HasInstr words a i → class ≡ class_at st a (base_of i.operation)

-- by an entry of its own, or by a rule for a base register
abbrev pub entry_of : Stated → ℕ → Reach → Entry
entry_of st a reach = if is_some (lookup (nat_eq a) st.accesses) then entry.Access reach else entry.Base reach

-- a class that is on trust is false where the word goes outside of it
abbrev pub class_verdict : (trusted : Bool) → Option Range → Verdict
class_verdict true None = verdict.OnTrust
class_verdict true (Some range) = verdict.False
class_verdict false range = verdict.Follows

abbrev pub reach_of : Class → (trusted : Bool) → Option Range → Reach
reach_of class true None = Of class
reach_of class true (Some range) = Outside range
reach_of class false range = Of class

abbrev pub class_row : Stated → Option OnTrust → (a : ℕ) → Class → Option Range → Row
class_row st left a class range =
    record {
      entry = entry_of st a (reach_of class (trusts_class left a) range);
      at = a;
      verdict = class_verdict (trusts_class left a) range;
    }

-- the row of a word's class
pub record IsClassRow (words : Words) (st : Stated) (flow : Flow) (tree : Tree) (left : Option OnTrust)
    (outside : List (Option Range)) (a : ℕ) (row : Row) : Type 0 where
  pub class : Class
  pub range : Option Range
  pub class_is : IsClassAt words st a class
  pub range_is : IsOutside flow tree outside a range
  pub row_is : row ≡ class_row st left a class range

-- a bound that is on trust is false where no run leaves the loop
abbrev pub loop_verdict : (trusted endless : Bool) → Verdict
loop_verdict true false = verdict.OnTrust
loop_verdict true true = verdict.False
loop_verdict false endless = verdict.Follows

abbrev pub loop_entry : (bound : ℕ) → (trusted endless : Bool) → Entry
loop_entry bound true false = entry.Loop bound
loop_entry bound true true = entry.Endless
loop_entry bound false endless = entry.Loop bound

abbrev pub loop_row : Option OnTrust → Loop → (endless : Bool) → Row
loop_row left l endless =
    record {
      entry = loop_entry l.bound (trusts_loop left l.header) endless;
      at = l.header;
      verdict = loop_verdict (trusts_loop left l.header) endless;
    }

-- the row of a stated loop
pub record IsLoopRow (tree : Tree) (left : Option OnTrust) (endless : List Bool) (l : Loop)
    (row : Row) : Type 0 where
  pub is_endless : Bool
  pub endless_is : (is_endless ≡ true) ↔ IsEndlessAt tree endless l.header
  pub row_is : row ≡ loop_row left l is_endless

abbrev pub verdict_of : Going → Verdict
verdict_of (Back bytes) = verdict.Follows
verdict_of AfterCall = verdict.Follows
verdict_of (Out a) = verdict.Follows
verdict_of (BackInside bytes) = verdict.OnTrust
verdict_of Unseen = verdict.OnTrust
verdict_of (Elsewhere a) = verdict.False

abbrev pub return_row : Going → (a : ℕ) → Row
return_row going a = record { entry = entry.Return going; at = a; verdict = verdict_of going }

-- the row of a word that returns or leaves
pub record IsReturnRow (words : Words) (st : Stated) (flow : Flow) (tree : Tree)
    (destinations : List Destination) (a : ℕ) (row : Row) : Type 0 where
  pub going : Going
  pub is_going : IsGoing words st flow tree destinations a going
  pub row_is : row ≡ return_row going a

-- one row for each address, and for each loop
abbrev pub AreClassRows : Words → Stated → Flow → Tree → Option OnTrust → List (Option Range) → List ℕ
    → List Row → Type 0
AreClassRows words st flow tree left outside =
    AreRows (λ a part. (row : Row) × IsClassRow words st flow tree left outside a row × (part ≡ row ∷ []))

pub record AreReturnRows (words : Words) (st : Stated) (flow : Flow) (tree : Tree)
    (destinations : List Destination) (rows : List Row) : Type 0 where
  pub named : List ℕ
  pub are_returns : AreReturns words st flow named
  pub are_rows : AreRows
      (λ a part. (row : Row) × IsReturnRow words st flow tree destinations a row × (part ≡ row ∷ []))
      named rows

-- by what was found
abbrev pub AreFoundRows : (ℕ → Option Going) → List ℕ → List Row → Type 0
AreFoundRows found = AreRows (λ a part. part ≡ return_row (unwrap_or (found a) Unseen) a ∷ [])

abbrev pub AreLoopRows : Tree → Option OnTrust → List Bool → List Loop → List Row → Type 0
AreLoopRows tree left endless =
    AreRows (λ l part. (row : Row) × IsLoopRow tree left endless l row × (part ≡ row ∷ []))

-- the rows of the words with a class, then of those that return or leave, both by their addresses, and then
-- of all stated loops, in the statement's order
pub record AreStatedRows (words : Words) (st : Stated) (flow : Flow) (tree : Tree) (left : Option OnTrust)
    (destinations : List Destination) (outside : List (Option Range)) (endless : List Bool)
    (rows : List Row) : Type 0 where
  pub named : List ℕ
  pub classes : List Row
  pub returns : List Row
  pub loops : List Row
  pub are_classed : AreClassed words st flow left named
  pub are_classes : AreClassRows words st flow tree left outside named classes
  pub are_returns : AreReturnRows words st flow tree destinations returns
  pub are_loops : AreLoopRows tree left endless st.loops.list loops
  pub rows_are : rows ≡ classes ++ (returns ++ loops)
