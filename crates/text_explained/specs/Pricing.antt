-- What the price of a word takes for granted.
use Rattle.std.specs.Prelude.{◌≡◌, ℕ, true, false, if◌then◌else◌, List, [], ◌++◌, codes, decimal, Option}
use Rattle.std.specs.Prelude.{Some, None}
use Rattle.arm2_decode.specs.Writers.{is_transfer}
use Rattle.arm2_decode.specs.declared.instr.Instr.{Instr}
use Rattle.arm2_decode.specs.declared.instr.Operation.{Operation}
use Rattle.bus_ticks.specs.declared.profile.Class.{Class}
use Rattle.bus_ticks.specs.declared.profile.Class.TheVariants.{Any, Ram, Rom, Io}
use Rattle.bus_ticks.specs.declared.profile.Class.TheVariants.{Slow, Medium, Fast, Synchronous}
use Rattle.control_flow.specs.Flow.{Flow}
use Rattle.control_flow.specs.Kinds.{base_of, is_multiply}
use Rattle.image.specs.Image.{Words}
use Rattle.statement.specs.Stated.{Stated, class_at, cycles_at}
use Rattle.statement.specs.Statement.{class_name}
use Rattle.word_shapes.specs.Words.{HasInstr}
use Rattle.text_explained.specs.Doing.{may_be_done}
use Rattle.text_explained.specs.Leaving.{is_left_on}
use Rattle.text_explained.specs.Taken.{is_reached}
use Rattle.text_explained.specs.declared.leaving.EdgeKind.TheVariants.{LeadsOut}
use Rattle.text_explained.specs.declared.pricing.Granted.{Granted}
use Rattle.text_explained.specs.declared.pricing.Granted.TheVariants.{Nothing, Multiplier, Access}
use Rattle.text_explained.specs.declared.pricing.Pricing.{Pricing}

-- ## What is taken for granted

-- a multiply is priced at its most cycles, and a load or a store by the class of what it transfers
abbrev pub operation_granted : Stated → ℕ → Operation → Granted
operation_granted st a o =
    if is_multiply o then Multiplier (cycles_at st a)
    else (if is_transfer o then Access (class_at st a (base_of o)) else Nothing)

-- a word that is never done is passed over
abbrev pub instr_granted : Stated → ℕ → Instr → Granted
instr_granted st a i = if may_be_done st a i then operation_granted st a i.operation else Nothing

-- for what the word at an address does besides its fetches
pub record IsGranted (words : Words) (st : Stated) (a : ℕ) (g : Granted) : Type 0 where
  pub of_instr : (i : Instr) → HasInstr words a i → g ≡ instr_granted st a i
  pub of_none : ((i : Instr) → HasInstr words a i → ⊥) → g ≡ Nothing

-- and where the handler leaves from there, the class of the addresses to which it leaves
pub record IsPricing (words : Words) (st : Stated) (flow : Flow) (a : ℕ) (p : Pricing) : Type 0 where
  pub granted : IsGranted words st a p.granted
  pub leave : p.leave ≡ (if is_left_on LeadsOut flow.edges a then Some st.leave else None)

-- so it is said of each address where the graph has a place, and of no other
pub record ArePriced (words : Words) (st : Stated) (flow : Flow) (priced : ℕ → Option Pricing) : Type 0 where
  pub reached : (a : ℕ) → is_reached flow.places a ≡ true
      → (p : Pricing) × (priced a ≡ Some p) × IsPricing words st flow a p
  pub other : (a : ℕ) → is_reached flow.places a ≡ false → priced a ≡ None

-- ## Texts

-- the name of a class in a column, which has no room for `synchronous`
abbrev pub column_name : Class → List ℕ
column_name Synchronous = codes "sync"
column_name Any = class_name Any
column_name Ram = class_name Ram
column_name Rom = class_name Rom
column_name Io = class_name Io
column_name Slow = class_name Slow
column_name Medium = class_name Medium
column_name Fast = class_name Fast

abbrev pub granted_text : Granted → List ℕ
granted_text Nothing = []
granted_text (Multiplier cycles) = codes "m = " ++ decimal cycles
granted_text (Access class) = column_name class

-- with a way out of the handler
abbrev pub leave_text : Granted → Class → List ℕ
leave_text Nothing class = codes "> " ++ class_name class
leave_text granted class = granted_text granted ++ (codes " > " ++ class_name class)

abbrev pub both_text : Granted → Option Class → List ℕ
both_text granted None = granted_text granted
both_text granted (Some class) = leave_text granted class

-- nothing where no place is
abbrev pub pricing_text : Option Pricing → List ℕ
pricing_text None = []
pricing_text (Some p) = both_text p.granted p.leave
