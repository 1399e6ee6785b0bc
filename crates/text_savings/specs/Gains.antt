-- What the next better entry of a statement takes off a price, in ticks.
use Rattle.std.specs.Prelude.{ℕ, ◌-◌, ◌*◌, ◌<◌, ◌≤◌, ◌==◌, max, nat_eq, nat_lt, if◌then◌else◌}
use Rattle.std.specs.Prelude.{Bool, true, false, not, ◌&&◌, is_some}
use Rattle.std.specs.Prelude.{List, [], ◌∷◌, Contains, filter, find, fold, map}
use Rattle.std.specs.Prelude.{Option, Some, None, option_map}
use Rattle.std.specs.Map.{lookup}
use Rattle.arm2_decode.specs.Names.{is_pc, is_same}
use Rattle.arm2_decode.specs.Writers.{moved}
use Rattle.arm2_decode.specs.declared.instr.Operation.{Operation}
use Rattle.arm2_decode.specs.declared.instr.Operation.TheVariants as operation
use Rattle.arm2_decode.specs.declared.transfers.Moved.{Moved}
use Rattle.arm2_transfer.specs.Registers.{address_by}
use Rattle.bus_ticks.specs.Prices.{ahead_of, by_class, class_of, narrowest_class}
use Rattle.bus_ticks.specs.declared.profile.Class.{Class}
use Rattle.bus_ticks.specs.declared.profile.Class.TheVariants.{Any, Ram, Rom, Io}
use Rattle.bus_ticks.specs.declared.profile.Class.TheVariants.{Slow, Medium, Fast, Synchronous}
use Rattle.bus_ticks.specs.declared.profile.Profile.{Profile}
use Rattle.bus_ticks.specs.Worst.{worst_leave}
use Rattle.shifter.specs.declared.shifts.TheConstants.{MOST_MULTIPLY_CYCLES}
use Rattle.control_flow.specs.Edges.{work_ticks}
use Rattle.control_flow.specs.Kinds.{base_of, is_multiply, transfer_work}
use Rattle.control_flow.specs.declared.actions.Work.{Work}
use Rattle.statement.specs.Stated.{Stated, class_at}
use Rattle.text_savings.specs.declared.classes.PricedClass.{PricedClass}
use Rattle.text_savings.specs.declared.gains.Gain.{Gain}
use Rattle.text_savings.specs.declared.gains.Operands.{Operands}
use Rattle.text_savings.specs.declared.gains.Operands.TheVariants.{Exchangeable, Fixed}
use Rattle.text_savings.specs.declared.gains.Refinement.TheVariants.{Addresses, Multiplier}

-- ## The next better class

-- a class with its price
abbrev pub priced : (price : Class → ℕ) → Class → PricedClass
priced price class = record { class = class; ticks = price class }

-- the greatest of the candidates' prices below the present one, 0 (no price) where there is none
abbrev pub next_price : (present : ℕ) → List PricedClass → ℕ
next_price present candidates =
    fold max 0 (filter (λ ticks. nat_lt ticks present) (map (λ c. c.ticks) candidates))

-- the class of the first candidate of that price
abbrev pub next_class : List PricedClass → (next : ℕ) → Option Class
next_class candidates next = option_map (λ c. c.class) (find (λ c. c.ticks == next) candidates)

-- what a class of the next price takes off
abbrev pub next_gain : (class : Class) → (present next : ℕ) → (better : Class) → Gain
next_gain class present next better =
    record { refinement = Addresses (record { present = class; better = better }); ticks = present - next }

-- what the next better candidate takes off; None where none costs less
abbrev pub class_gain : (class : Class) → (present : ℕ) → List PricedClass → Option Gain
class_gain class present candidates =
    if next_price present candidates == 0 then None
    else option_map (next_gain class present (next_price present candidates))
    (next_class candidates (next_price present candidates))

-- one of the classes is below the present price, and none of them that is below it is dearer
pub record IsDearestBelow (price : Class → ℕ) (present : ℕ) (classes : List Class) (class : Class)
    : Type 0 where
  pub offered : Contains classes class
  pub less : price class < present
  pub next : (other : Class) → Contains classes other → price other < present → price other ≤ price class

-- ## What a word and a way out gain

-- what a statement may say in place of a transfer's class, all within it, since what is stated is true:
-- memory or the devices for any, a speed for the devices
abbrev pub offered : Class → List Class
offered Any = Ram ∷ Rom ∷ Io ∷ []
offered Io = Slow ∷ Medium ∷ Fast ∷ Synchronous ∷ []
offered Ram = []
offered Rom = []
offered Slow = []
offered Medium = []
offered Fast = []
offered Synchronous = []

-- of a transfer whose address is known: the narrowest class of that address alone, if it is within the
-- present one
abbrev pub offered_of : (address : ℕ) → Class → List Class
offered_of address Any = narrowest_class address ∷ []
offered_of address Io = by_class (class_of address) [] [] (narrowest_class address ∷ [])
offered_of address Ram = []
offered_of address Rom = []
offered_of address Slow = []
offered_of address Medium = []
offered_of address Fast = []
offered_of address Synchronous = []

abbrev pub offered_at : Option ℕ → Class → List Class
offered_at None class = offered class
offered_at (Some address) class = offered_of address class

-- the address of what an operation at an address transfers, where that is a number of bytes from PC
abbrev pub known_address : (at : ℕ) → Operation → Option ℕ
known_address at (operation.SingleImmediate x) =
    if is_pc x.rn then Some (address_by x.before x.up (ahead_of at 8) x.offset) else None
known_address at (operation.Multiply x) = None
known_address at (operation.DataRegister x) = None
known_address at (operation.DataRegisterShift x) = None
known_address at (operation.DataImmediate x) = None
known_address at (operation.SingleRegister x) = None
known_address at (operation.Block x) = None
known_address at (operation.Branch x) = None
known_address at (operation.Swi x) = None
known_address at (operation.UndefinedTransfer x) = None
known_address at (operation.CoprocessorTransfer x) = None
known_address at (operation.Coprocessor x) = None

-- what a transfer gains, by what each class costs besides its fetches
abbrev pub transfer_gain : Profile → Class → Option ℕ → Work → Option Gain
transfer_gain p class address w =
    class_gain class (work_ticks p class w) (map (priced (λ c. work_ticks p c w)) (offered_at address class))

-- the multiplier and the other operand of a multiply may be exchanged: they are two registers, and the one
-- that becomes Rm is not Rd
abbrev pub may_exchange : Operation → Bool
may_exchange (operation.Multiply x) = not (is_same x.rs x.rd) && not (is_same x.rs x.rm)
may_exchange (operation.DataRegister x) = false
may_exchange (operation.DataRegisterShift x) = false
may_exchange (operation.DataImmediate x) = false
may_exchange (operation.SingleImmediate x) = false
may_exchange (operation.SingleRegister x) = false
may_exchange (operation.Block x) = false
may_exchange (operation.Branch x) = false
may_exchange (operation.Swi x) = false
may_exchange (operation.UndefinedTransfer x) = false
may_exchange (operation.CoprocessorTransfer x) = false
may_exchange (operation.Coprocessor x) = false

abbrev pub operands_of : Operation → Operands
operands_of o = if may_exchange o then Exchangeable else Fixed

-- a multiply is priced at its most internal cycles, and takes one less with the next better multiplier
abbrev pub multiply_gain : Profile → Operation → Gain
multiply_gain p o =
    record {
      refinement = Multiplier (operands_of o);
      ticks = MOST_MULTIPLY_CYCLES * p.internal - (MOST_MULTIPLY_CYCLES - 1) * p.internal;
    }

-- of one at an address; none where its cycles are stated
abbrev pub unstated_gain : Stated → Profile → ℕ → Operation → Option Gain
unstated_gain st p a o =
    if is_some (lookup (nat_eq a) st.multiplies) then None else Some (multiply_gain p o)

-- of what it moves, if it moves anything
abbrev pub moved_gain : Profile → Class → (address : Option ℕ) → Option Moved → Option Gain
moved_gain p class address None = None
moved_gain p class address (Some m) = transfer_gain p class address (transfer_work m.load m.words)

-- what is no multiply and moves nothing is priced by no entry
abbrev pub operation_gain : Stated → Profile → ℕ → Operation → Option Gain
operation_gain st p a o =
    if is_multiply o then unstated_gain st p a o
    else moved_gain p (class_at st a (base_of o)) (known_address a o) (moved o)

-- what a statement may say in place of the class to which the handler leaves: memory, since no handler goes
-- back to a program in a device
abbrev pub offered_ways_out : Class → List Class
offered_ways_out Any = Ram ∷ Rom ∷ []
offered_ways_out Ram = []
offered_ways_out Rom = []
offered_ways_out Io = []
offered_ways_out Slow = []
offered_ways_out Medium = []
offered_ways_out Fast = []
offered_ways_out Synchronous = []

-- what the way out gains, by what the two fetches after it cost
abbrev pub leave_gain : Profile → Class → Option Gain
leave_gain p class =
    class_gain class (worst_leave p class) (map (priced (worst_leave p)) (offered_ways_out class))
