-- Test vectors: a step of the machine as JSON (the members are our own, after those of SingleStepTests).
use Rattle.std.specs.Prelude.{◌≡◌, ℕ, zero, suc, ◌+◌, Bool, not, true, false, List, [], ◌∷◌, ◌++◌, codes}
use Rattle.std.specs.Prelude.{decimal, map, Option, Some, None}
use Rattle.arm2_effect.specs.declared.modes.Mode.{Mode}
use Rattle.arm2_effect.specs.declared.modes.Mode.TheVariants.{User, Fiq, Irq, Svc}
use Rattle.arm2_effect.specs.Effects.{Access, FetchN, FetchS, Word, Internal}
use Rattle.arm2_effect.specs.Modes.{r15_in, register_in}
use Rattle.arm2_effect.specs.ProgramCounter.{mode_of}
use Rattle.arm2_exec.specs.State.{State}
use Rattle.arm2_exec.specs.Step.{Step, address_in, fetched}
use Rattle.arm2_exec.specs.declared.machine.Input.{Input}
use Rattle.arm2_exec.specs.declared.machine.Stepped.{Stepped}
use Rattle.assembler.specs.ShownLines.{IsShown}
use Rattle.memc.specs.Memory.{Memory}
use Rattle.json_trace.specs.Json.{array, boolean, member, object, quoted}
use Rattle.json_trace.specs.StepLine.{flags_text, memory_word, mode_name, register_name, transfer_kind}

-- ## Values

abbrev pub number_or_null : Option ℕ → List ℕ
number_or_null None = codes "null"
number_or_null (Some number) = decimal number

-- the name of a vector: its number, and the line of the word that is next
abbrev pub IsName : (number : ℕ) → Option ℕ → (at : ℕ) → List ℕ → Type 0
IsName number None at name = name ≡ decimal number
IsName number (Some word) at name =
    (line : List ℕ) × IsShown word at line × (name ≡ decimal number ++ (codes " " ++ line))

-- ## A state

-- so many registers of a mode's bank, from one on
abbrev pub bank : Mode → List ℕ → (first count : ℕ) → List (List ℕ)
bank mode regs first zero = []
bank mode regs first (suc k) =
    bank mode regs first k
    ++ member (register_name mode (first + k)) (decimal (register_in mode (first + k) regs)) ∷ []

-- R15, and of it the mode and the flags by their names
abbrev pub r15_members : (r15 : ℕ) → List (List ℕ)
r15_members r15 =
    member (codes "R15") (decimal r15)
    ∷ member (codes "mode") (quoted (mode_name (mode_of r15)))
    ∷ member (codes "flags") (quoted (flags_text r15)) ∷ []

-- the 27 registers
abbrev pub register_members : List ℕ → List (List ℕ)
register_members regs =
    bank User regs 0 15
    ++ (bank Fiq regs 8 7 ++ (bank Irq regs 13 2 ++ (bank Svc regs 13 2 ++ r15_members (r15_in regs))))

-- an address, and the word that memory has there, or null where it has none
abbrev pub word_pair : Memory → (address : ℕ) → List ℕ
word_pair m address = array (decimal address ∷ number_or_null (memory_word m false address) ∷ [])

-- the registers, and the words of memory at some addresses
abbrev pub state_value : List ℕ → Memory → (addresses : List ℕ) → List ℕ
state_value regs m addresses =
    object (register_members regs ++ member (codes "ram") (array (map (word_pair m) addresses)) ∷ [])

-- ## Accesses

abbrev pub addresses_of : List Access → List ℕ
addresses_of [] = []
addresses_of (FetchN a ∷ rest) = a ∷ addresses_of rest
addresses_of (FetchS a ∷ rest) = a ∷ addresses_of rest
addresses_of (Word store first a ∷ rest) = a ∷ addresses_of rest
addresses_of (Internal cycles ∷ rest) = addresses_of rest

-- its kind, whether it follows the access before it, its address, and the word there
abbrev pub access_object : (kind : List ℕ) → (follows : Bool) → (address : ℕ) → Option ℕ → List ℕ
access_object kind follows address word =
    object
    (member (codes "kind") (quoted kind)
    ∷ member (codes "sequential") (boolean follows)
    ∷ member (codes "address") (decimal address)
    ∷ member (codes "value") (number_or_null word) ∷ [])

abbrev pub internal_object : (count : ℕ) → List ℕ
internal_object count =
    object (member (codes "kind") (quoted (codes "internal")) ∷ member (codes "count") (decimal count) ∷ [])

-- an access, by memory before the step and after it: a store leaves its word there
abbrev pub access_value : (before after : Memory) → Access → List ℕ
access_value before after (FetchN a) = access_object (codes "fetch") false a (memory_word before false a)
access_value before after (FetchS a) = access_object (codes "fetch") true a (memory_word before false a)
access_value before after (Word store first a) =
    access_object (transfer_kind store) (not first) a (memory_word after store a)
access_value before after (Internal cycles) = internal_object cycles

-- ## A vector

-- the addresses that a step's vector shows: its own, and those of its accesses in their order
abbrev pub addresses_shown : State → List Access → List ℕ
addresses_shown s accesses = address_in s.regs ∷ addresses_of accesses

abbrev pub vector_members : (name : List ℕ) → (s after : State) → List Access → List (List ℕ)
vector_members name s after accesses =
    member (codes "name") (quoted name)
    ∷ member (codes "initial") (state_value s.regs s.bus.memc (addresses_shown s accesses))
    ∷ member (codes "final") (state_value after.regs after.bus.memc (addresses_shown s accesses))
    ∷ member (codes "cycles") (array (map (access_value s.bus.memc after.bus.memc) accesses)) ∷ []

-- a text is the vector of a number: it shows some step of the machine, the state before it and after it, and
-- its accesses
pub record IsVector (number : ℕ) (text : List ℕ) : Type 0 where
  pub before : State
  pub input : Input
  pub stepped : Stepped
  pub after : State
  pub step : Step before input stepped after
  pub name : List ℕ
  pub name_is : IsName number (fetched before.bus.memc (r15_in before.regs)) (address_in before.regs) name
  pub text_is : text ≡ object (vector_members name before after step.moved.accesses)

-- ## All of them

-- in front of the vector of a number
abbrev pub opening : (number : ℕ) → List ℕ
opening zero = codes "\n"
opening (suc number) = codes ",\n"

-- the vectors of the numbers below one, each after what is in front of it
abbrev pub AreVectors : (count : ℕ) → List ℕ → Type 0
AreVectors zero text = text ≡ []
AreVectors (suc number) text =
    (front : List ℕ) × (vector : List ℕ) × AreVectors number front × IsVector number vector
    × (text ≡ front ++ (opening number ++ vector))

-- an array of so many vectors, a line for each
abbrev pub IsVectorArray : (count : ℕ) → List ℕ → Type 0
IsVectorArray count text =
    (vectors : List ℕ) × AreVectors count vectors × (text ≡ codes "[" ++ (vectors ++ codes "\n]\n"))
