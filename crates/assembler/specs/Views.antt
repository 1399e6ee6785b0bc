-- What the code keeps, as the definitions see it.
use Rattle.std.specs.Prelude.{◌≡◌, ℕ, List, map, Result, Ok, Err}
use Rattle.image.specs.Labels.{address_of}
use Rattle.assembler.specs.declared.fault.AsmFault.{AsmFault}
use Rattle.assembler.specs.declared.fault.AsmFault.TheVariants.{Memory, Line}
use Rattle.assembler.specs.declared.fault.LineFault.{LineFault}
use Rattle.assembler.specs.declared.item.Item.{Item as CodeItem}
use Rattle.assembler.specs.declared.item.Pending.{Pending as CodePending}
use Rattle.assembler.specs.declared.item.Pending.TheVariants as code
use Rattle.assembler.specs.declared.sweep.Span.{Span}
use Rattle.assembler.specs.declared.sweep.Sweep.{Sweep}
use Rattle.assembler.specs.Refusals.{IsRefusal}
use Rattle.assembler.specs.Sweeps.{Item, Pending, Fixed, Waits, Address, State}

abbrev pub pending_of : CodePending → Pending
pending_of (code.Fixed w) = Fixed w
pending_of (code.Waits r name) = Waits r name.now
pending_of (code.Address name) = Address name.now

abbrev pub item_of : CodeItem → Item
item_of i = record { line = i.line; at = i.at; pending = pending_of i.pending }

abbrev pub result_pending : Result CodePending LineFault → Result Pending LineFault
result_pending (Ok p) = Ok (pending_of p)
result_pending (Err fault) = Err fault

abbrev pub span_of : Span → ℕ × ℕ
span_of s = (s.from, s.to)

abbrev pub state_of : Sweep → State
state_of s =
    record {
      at = s.at;
      start = s.start;
      closed = map span_of s.closed.items;
      words = s.words;
      names = address_of s.labels;
      items = map item_of s.items.items;
    }

-- a refusal for memory, or the fault of a line
abbrev pub Faulted : {A : Type 0} → AsmFault → ℕ → Result A LineFault → Type 0
Faulted Memory line r = Unit {0}
Faulted (Line fault k) line r = (k ≡ line) × (r ≡ Err fault)

-- a refusal for memory, or a fault and its line
abbrev pub FaultedAt : {A : Type 0} → AsmFault → Result A (LineFault × ℕ) → Type 0
FaultedAt Memory r = Unit {0}
FaultedAt (Line fault k) r = r ≡ Err (fault, k)

-- a refusal for memory, or the refusal of a source
abbrev pub RefusedAt : List ℕ → AsmFault → Type 0
RefusedAt source Memory = Unit {0}
RefusedAt source (Line fault k) = IsRefusal source fault k
