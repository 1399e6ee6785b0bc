-- Which values of a statement's text show a fault of its document, by which spots of the document have it.
use Rattle.std.specs.Prelude.{◌==◌, ◌&&◌, ◌||◌, ◌-◌, not, ℕ, Bool, true, false, List, codes, length}
use Rattle.std.specs.Prelude.{Option, Some, None, if◌then◌else◌}
use Rattle.std.specs.Borrow.{Bor}
use Rattle.std.specs.Str.{bytes_eq}
use Rattle.toml.specs.View.{table_view}
use Rattle.image.specs.Labels.{address_of}
use Rattle.statement.specs.PlaceTests.{found, holds_of}
use Rattle.statement.specs.Places.{named_key}
use Rattle.statement.specs.declared.spots.Key.{Key}
use Rattle.statement.specs.declared.spots.Key.TheVariants.{Bound, Cycles, To}
use Rattle.statement.specs.declared.spots.Part.{Part}
use Rattle.statement.specs.declared.spots.Part.TheVariants as part
use Rattle.statement.specs.declared.spots.Spot.{Spot}
use Rattle.statement.specs.declared.spots.Spot.TheVariants.{Destination, Listed, NoList, NoTable, Own, Second}
use Rattle.statement.specs.declared.spots.Spot.TheVariants.{NoStretch, NoStretches, ReversedStretch}
use Rattle.statement.specs.declared.spots.Spot.TheVariants.{StretchEnd}
use Rattle.statement.specs.declared.spots.TableList.{TableList}
use Rattle.statement.specs.declared.spots.TableList.TheVariants.{Loops, Targets, Accesses, Rules, Multiplies}
use Rattle.statement.specs.declared.spots.TableList.TheVariants.{Branches}
use Rattle.text_refusals.specs.Courses.{begun, is_at_key, is_destination, is_end, is_stretch, key_head}
use Rattle.text_refusals.specs.Courses.{named_list, value_list}
use Rattle.text_refusals.specs.Outline.{Cut, KeyValue, Value}
use Rattle.text_refusals.specs.declared.asked.Asked.{Asked}
use Rattle.text_refusals.specs.declared.course.Course.{Course}

-- the document has the fault that is looked for at the spot
abbrev pub has_in : Asked → Spot → Bool
has_in asked s =
    found (address_of asked.document.now.labels.now) (table_view asked.document.now.table.now) s asked.fault

-- a word, as the code hands it in
abbrev pub lent : List ℕ → Bor (List ℕ)
lent w = record { ref_ptr = (0, 0); now = w }

-- A text that goes on after its line. It is not joined with the lines that follow.
abbrev pub is_cut : Value → Bool
is_cut (Cut quotes w) = true
is_cut _ = false

-- a text may be a value of the key, in so many arrays
abbrev pub may_be_text : (depth : ℕ) → Option Key → Bool
may_be_text depth None = false
may_be_text depth (Some Bound) = false
may_be_text depth (Some Cycles) = false
may_be_text depth (Some To) = not (depth == 0)
may_be_text depth (Some _) = true

-- Where a label or a word may be, a text that goes on after its line has no row, whether it is right or
-- wrong.
abbrev pub is_hidden : KeyValue → Bool
is_hidden p = is_cut p.value && may_be_text p.depth (named_key p.key)

abbrev pub number_if_target : TableList → ℕ → Option ℕ
number_if_target Loops n = None
number_if_target Targets n = Some n
number_if_target Accesses n = None
number_if_target Rules n = None
number_if_target Multiplies n = None
number_if_target Branches n = None

-- the key whose value shows that an entry says what an earlier one of its list does
abbrev pub second_key : TableList → List ℕ
second_key Loops = codes "at"
second_key Targets = codes "at"
second_key Accesses = codes "at"
second_key Rules = codes "register"
second_key Multiplies = codes "at"
second_key Branches = codes "at"

-- the number of the target that is the entry at hand
abbrev pub target_number : Option (TableList × ℕ) → Option ℕ
target_number None = None
target_number (Some e) = number_if_target e.0 e.1

-- the value is of a list's key, and no list
abbrev pub has_no_list : (Spot → Bool) → KeyValue → Bool
has_no_list has p =
    length p.list == 0
    && (p.depth == 0 && holds_of (λ list. has (NoList list)) (named_list (key_head p.key)))

-- the value is at the key of the stretches apart, and no list
abbrev pub has_no_stretches : (Spot → Bool) → KeyValue → Bool
has_no_stretches has p =
    length p.list == 0 && (p.depth == 0 && (bytes_eq (key_head p.key) (codes "apart") && has NoStretches))

module _ (has : Spot → Bool) (c : Course) where
  -- a part of the table that the value is in has the fault
  abbrev pub has_part : KeyValue → Part → Bool
  has_part p part =
      if length p.list == 0 then has (Own part) else holds_of (λ e. has (Listed e.0 e.1 part)) c.entry

  -- the table may not have the key
  abbrev pub has_unknown : KeyValue → Bool
  has_unknown p = p.depth == 0 && has_part p (part.Unknown (lent (key_head p.key)))

  -- the value at the key
  abbrev pub has_value : KeyValue → Bool
  has_value p = p.depth == 0 && holds_of (λ key. has_part p (part.Value key)) (named_key (key_head p.key))

  -- the value is an entry of a list, and no table
  abbrev pub has_no_table : KeyValue → Bool
  has_no_table p = holds_of (λ list. has (NoTable list (begun list c))) (value_list p)

  -- the value is a destination
  abbrev pub has_destination : KeyValue → Bool
  has_destination p =
      is_destination p && holds_of (λ n. has (Destination n c.destinations)) (target_number c.entry)

  -- the value is an entry of that list, and no list of two values
  abbrev pub has_no_stretch : KeyValue → Bool
  has_no_stretch p = is_stretch p && has (NoStretch c.stretches)

  -- or ends before it begins
  abbrev pub has_reversed_stretch : KeyValue → Bool
  has_reversed_stretch p = is_stretch p && has (ReversedStretch c.stretches)

  -- the value is an address of the stretch at hand
  abbrev pub has_end : KeyValue → Bool
  has_end p = is_end p && has (StretchEnd (c.stretches - 1) c.ends)

  -- an earlier entry of the list is of the address, or for a rule of the register, that the value is
  abbrev pub has_second : KeyValue → Bool
  has_second p =
      not (length p.list == 0)
      && holds_of (λ e. is_at_key 0 (second_key e.0) p && has (Second e.0 e.1)) c.entry

  -- the value is one of a list's
  abbrev pub is_listed : KeyValue → Bool
  is_listed p = has_no_table p || (has_destination p || (has_end p || has_second p))

  -- the value has the fault, which is not hidden
  abbrev pub is_shown : KeyValue → Bool
  is_shown p = has_value p || (has_no_list has p || is_listed p)

  -- the value, or its key, has the fault
  abbrev pub is_faulty : KeyValue → Bool
  is_faulty p = has_unknown p || (not (is_hidden p) && is_shown p)
