-- What a source says as a whole: two sweeps over its lines.
use Rattle.std.specs.Prelude.{ℕ, ◌+◌, ◌*◌, ◌&&◌, ◌||◌, not, nat_le, nat_lt, Bool, false, List, [], ◌∷◌, ◌++◌}
use Rattle.std.specs.Prelude.{length, Option, Some, None, is_some, unwrap_or, Result, Ok, Err, if◌then◌else◌}
use Rattle.std.specs.List.{list_any}
use Rattle.std.specs.Str.{bytes_eq}
use Rattle.image.specs.Image.{Words, lies_in_memory, may_hold, put_fault, with_word}
use Rattle.image.specs.Labels.{Names, no_names}
use Rattle.image.specs.declared.places.TheConstants.{MOST_SEGMENTS, MOST_WORDS}
use Rattle.image.specs.declared.image.ImageFault.{ImageFault}
use Rattle.image.specs.declared.image.ImageFault.TheVariants as image_fault
use Rattle.asm_text.specs.declared.syntax.Reference.{Reference}
use Rattle.asm_text.specs.declared.statement.TextFault.{TextFault}
use Rattle.asm_text.specs.declared.statement.TextFault.TheVariants as text_fault
use Rattle.asm_text.specs.Said.{Target, Number, Label, Said, Codes, Refers, Orgs, Lists}
use Rattle.asm_text.specs.Statements.{Parsed, line_of}
use Rattle.asm_text.specs.Source.{lines_of}
use Rattle.assembler.specs.declared.fault.LineFault.{LineFault}
use Rattle.assembler.specs.declared.fault.LineFault.TheVariants.{NotText, UnknownWord, BadOperand, LabelTwice}
use Rattle.assembler.specs.declared.fault.LineFault.TheVariants.{LabelMissing, OutOfRange, TooLong}
use Rattle.assembler.specs.Faults.{lower}
use Rattle.assembler.specs.Codes.{encoded, refer, use_fault}
use Rattle.assembler.specs.declared.sweep.TheConstants.{FIRST_ADDRESS}

abbrev pub with_name : List ℕ → ℕ → Names → Names
with_name name at names other = if bytes_eq other name then Some at else names other

-- what is at an address: a word, one that waits for a label's address, or a label's address
pub data Pending : Type 0 where
  Fixed : ℕ → Pending
  Waits : Reference → List ℕ → Pending
  Address : List ℕ → Pending

-- the number of its line, its address, and what is there
pub record Item : Type 0 where
  pub line : ℕ
  pub at : ℕ
  pub pending : Pending

-- After a line: the address of the next word, where the segment of the words before it begins (if it has a
-- word), the earlier segments (the first address, and that after the last word), the number of words, the
-- names and the items.
pub record State : Type 0 where
  pub at : ℕ
  pub start : Option ℕ
  pub closed : List (ℕ × ℕ)
  pub words : ℕ
  pub names : Names
  pub items : List Item

-- the state in front of the first line
abbrev pub at_first : State
at_first = record { at = FIRST_ADDRESS; start = None; closed = []; words = 0; names = no_names; items = [] }

-- ## Places

-- an earlier segment has one of the addresses
abbrev pub overlaps : List (ℕ × ℕ) → ℕ → ℕ → Bool
overlaps closed from to = list_any (λ s. nat_lt s.0 to && nat_lt from s.1) closed

-- the next word has to begin a segment, and there may be no more
abbrev pub lacks_segment : State → Bool
lacks_segment s = not (is_some s.start) && nat_le MOST_SEGMENTS (length s.closed)

-- why so many words cannot come next
abbrev pub place_fault : State → ℕ → Option LineFault
place_fault s n =
    if not (lies_in_memory s.at (s.at + 4 * n)) || overlaps s.closed s.at (s.at + 4 * n) then Some OutOfRange
    else (if nat_lt MOST_WORDS (s.words + n) || lacks_segment s then Some TooLong else None)

-- the segment of the words before, closed
abbrev pub closed_with : Option ℕ → ℕ → List (ℕ × ℕ) → List (ℕ × ℕ)
closed_with None to closed = closed
closed_with (Some from) to closed = closed ++ (from, to) ∷ []

-- the segment of the words before has the address
abbrev pub is_open_at : Option ℕ → ℕ → ℕ → Bool
is_open_at None to n = false
is_open_at (Some from) to n = nat_le from n && nat_lt n to

-- why an ORG cannot have an address: no word may be there, or one is
abbrev pub org_fault : State → ℕ → Option LineFault
org_fault s n =
    if not (may_hold n) || (overlaps s.closed n (n + 1) || is_open_at s.start s.at n) then Some OutOfRange
    else None

-- ## The first sweep: what needs no label's address

abbrev pub label_fault : State → Option (List ℕ) → Option LineFault
label_fault s None = None
label_fault s (Some name) = if is_some (s.names name) then Some LabelTwice else None

abbrev pub labelled_state : State → Option (List ℕ) → State
labelled_state s None = s
labelled_state s (Some name) = record s { names = with_name name s.at s.names }

-- where the segment of a word begins
abbrev pub started : State → Option ℕ
started s = Some (unwrap_or s.start s.at)

abbrev pub placed : State → ℕ → Pending → State
placed s k p =
    record s {
      at = s.at + 4;
      start = started s;
      words = s.words + 1;
      items = s.items
          ++ record { line = k; at = s.at; pending = p } ∷ [];
    }

abbrev pub closed_state : State → State
closed_state s = record s { closed = closed_with s.start s.at s.closed }

-- after ORG: the segment before is closed, and none is begun
abbrev pub org_state : State → ℕ → State
org_state s n = record (closed_state s) { at = n; start = None }

abbrev pub value_pending : Target → Pending
value_pending (Number n) = Fixed n
value_pending (Label name) = Address name

abbrev pub all_placed : State → ℕ → List Target → State
all_placed s k [] = s
all_placed s k (v ∷ vs) = all_placed (placed s k (value_pending v)) k vs

-- the value, or the fault if there is one
abbrev pub unless : {A : Type 0} → Option LineFault → A → Result A LineFault
unless None x = Ok x
unless (Some fault) x = Err fault

abbrev pub word_pending : Result ℕ LineFault → Result Pending LineFault
word_pending (Ok w) = Ok (Fixed w)
word_pending (Err fault) = Err fault

-- a word with a target, whose address is known or not
abbrev pub target_pending : Reference → ℕ → Target → Result Pending LineFault
target_pending r at (Number n) = word_pending (encoded (refer r at n) at)
target_pending r at (Label name) = unless (use_fault r.how) (Waits r name)

-- the faults of a line's label and place
abbrev pub around_fault : State → Option (List ℕ) → ℕ → Option LineFault
around_fault s label n = lower (label_fault s label) (place_fault s n)

abbrev pub pending_step : State → ℕ → Option (List ℕ) → Result Pending LineFault → Result State LineFault
pending_step s k label (Ok p) = unless (around_fault s label 1) (placed (labelled_state s label) k p)
pending_step s k label (Err fault) = unless (lower (Some fault) (around_fault s label 1)) s

abbrev pub org_step : State → Option (List ℕ) → ℕ → Result State LineFault
org_step s label n =
    unless (lower (label_fault s label) (org_fault s n)) (org_state (labelled_state s label) n)

abbrev pub list_step : State → ℕ → Option (List ℕ) → List Target → Result State LineFault
list_step s k label vs = unless (around_fault s label (length vs)) (all_placed (labelled_state s label) k vs)

abbrev pub said_step : State → ℕ → Option (List ℕ) → Option Said → Result State LineFault
said_step s k label None = unless (label_fault s label) (labelled_state s label)
said_step s k label (Some (Codes c)) = pending_step s k label (word_pending (encoded c s.at))
said_step s k label (Some (Refers r t)) = pending_step s k label (target_pending r s.at t)
said_step s k label (Some (Orgs n)) = org_step s label n
said_step s k label (Some (Lists vs)) = list_step s k label vs

abbrev pub line_fault : TextFault → LineFault
line_fault text_fault.UnknownWord = UnknownWord
line_fault text_fault.BadOperand = BadOperand
line_fault _ = NotText

-- after the line of a number, or its lowest fault
abbrev pub line_step : State → ℕ → Result Parsed TextFault → Result State LineFault
line_step s k (Ok p) = said_step s k p.label p.said
line_step s k (Err w) = Err (line_fault w)

-- what comes after the line of a number, or its fault with the number
abbrev pub after_line : {A : Type 0} → ℕ → Result A LineFault → (A → Result A (LineFault × ℕ))
    → Result A (LineFault × ℕ)
after_line k (Ok x) on = on x
after_line k (Err fault) on = Err (fault, k)

-- all lines, from the one of a number on; or the first that has a fault
unfoldable pub swept : State → ℕ → List (List ℕ) → Result State (LineFault × ℕ)
swept s k [] = Ok s
swept s k (line ∷ lines) = after_line k (line_step s k (line_of line)) (λ t. swept t (k + 1) lines)

-- ## The second sweep: what needs one

abbrev pub targeted : Option ℕ → (ℕ → Result ℕ LineFault) → Result ℕ LineFault
targeted None word = Err LabelMissing
targeted (Some at) word = word at

-- the word of an item
abbrev pub resolved : Names → ℕ → Pending → Result ℕ LineFault
resolved names at (Fixed w) = Ok w
resolved names at (Waits r name) = targeted (names name) (λ target. encoded (refer r at target) at)
resolved names at (Address name) = targeted (names name) (λ target. Ok target)

abbrev pub image_fault_of : ImageFault → LineFault
image_fault_of image_fault.OutOfRange = OutOfRange
image_fault_of _ = TooLong

abbrev pub put_on : Option ImageFault → ℕ → ℕ → Words → Result Words LineFault
put_on None at word image = Ok (with_word image at word)
put_on (Some fault) at word image = Err (image_fault_of fault)

abbrev pub word_put : Words → ℕ → Result ℕ LineFault → Result Words LineFault
word_put image at (Err fault) = Err fault
word_put image at (Ok word) = put_on (put_fault image at word) at word image

abbrev pub item_step : Names → Words → Item → Result Words LineFault
item_step names image i = word_put image i.at (resolved names i.at i.pending)

-- the image of items, or the first that has a fault, by its line
unfoldable pub filled : Names → Words → List Item → Result Words (LineFault × ℕ)
filled names image [] = Ok image
filled names image (i ∷ items) = after_line i.line (item_step names image i) (λ more. filled names more items)

-- ## The whole

abbrev pub assembled_with : Names → Result Words (LineFault × ℕ) → Result (Words × Names) (LineFault × ℕ)
assembled_with names (Ok image) = Ok (image, names)
assembled_with names (Err fault) = Err fault

abbrev pub assembled_on : Result State (LineFault × ℕ) → Result (Words × Names) (LineFault × ℕ)
assembled_on (Ok s) = assembled_with s.names (filled s.names [] s.items)
assembled_on (Err fault) = Err fault

-- the image and the names of a source; or its first fault, and the number of its line from 1
abbrev pub assembled : List ℕ → Result (Words × Names) (LineFault × ℕ)
assembled source = assembled_on (swept at_first 1 (lines_of source))
