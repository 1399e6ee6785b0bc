-- What a step is as JSON.
use Rattle.std.specs.Prelude.{◌≡◌, ℕ, zero, suc, ◌+◌, ◌-◌, ◌==◌, ◌&&◌, Bool, true, false, if◌then◌else◌, List}
use Rattle.std.specs.Prelude.{[]}
use Rattle.std.specs.Prelude.{◌∷◌, ◌++◌, codes, decimal, map, Option, Some, None}
use Rattle.std.specs.Prelude.{slice_index_or}
use Rattle.arm2_decode.specs.Bits.{bit_of_word, bits}
use Rattle.arm2_decode.specs.Conditions.{condition_holds}
use Rattle.arm2_decode.specs.declared.names.Cond.{Cond}
use Rattle.arm2_decode.specs.declared.names.Cond.TheVariants.{Eq, Ne, Cs, Cc, Mi, Pl, Vs, Vc, Hi, Ls, Ge, Lt}
use Rattle.arm2_decode.specs.declared.names.Cond.TheVariants.{Gt, Le, Al, Nv}
use Rattle.arm2_effect.specs.declared.modes.Mode.{Mode}
use Rattle.arm2_effect.specs.declared.modes.Mode.TheVariants.{User, Fiq, Irq, Svc}
use Rattle.arm2_effect.specs.declared.step_end.Kind.{Kind}
use Rattle.arm2_effect.specs.declared.step_end.Kind.TheVariants.{Plain, Taken, Stopped}
use Rattle.arm2_effect.specs.Effects.{Access, FetchN, FetchS, Word, Internal}
use Rattle.arm2_effect.specs.declared.exceptions.Vector.TheVariants.{Swi}
use Rattle.arm2_effect.specs.Modes.{r15_in, register_in}
use Rattle.arm2_effect.specs.ProgramCounter.{flags_of, mode_of}
use Rattle.arm2_exec.specs.State.{State}
use Rattle.arm2_exec.specs.Step.{fetched_at}
use Rattle.arm2_exec.specs.declared.machine.Stepped.{Stepped}
use Rattle.assembler.specs.ShownLines.{IsShown}
use Rattle.ioc.specs.Interrupts.{fiq_of, irq_of}
use Rattle.memc.specs.Memory.{Memory, located}
use Rattle.text_trace.specs.TraceText.{exception_name, why_name}
use Rattle.json_trace.specs.Json.{array, boolean, member, name_value, object, quoted, word_value}

-- ## What is shown of a step

-- a word that is moved between registers and memory or a device: whether it is stored, and its address, which
-- has no part for the byte of it that a transfer with B moves
abbrev pub Transfer : Type 0
Transfer = Bool × ℕ

-- those of a step's accesses, in their order
abbrev pub transfers_in : List Access → List Transfer
transfers_in [] = []
transfers_in (FetchN a ∷ rest) = transfers_in rest
transfers_in (FetchS a ∷ rest) = transfers_in rest
transfers_in (Word store first a ∷ rest) = (store, a) ∷ transfers_in rest
transfers_in (Internal cycles ∷ rest) = transfers_in rest

-- The step's number and the ticks that have passed when it ends, both counted from the run's start; what it
-- answered, the word that it fetched and what it moved; the interrupt lines that it was given, the registers
-- before it and the machine after it.
pub record StepFacts : Type 0 where
  pub number : ℕ
  pub elapsed : ℕ
  pub stepped : Stepped
  pub word : Option ℕ
  pub transfers : List Transfer
  pub lines : ℕ
  pub before : List ℕ
  pub after : State

-- ## The instruction

abbrev pub word_or_null : Option ℕ → List ℕ
word_or_null (Some word) = word_value word
word_or_null None = codes "null"

-- the line of the word at its address
abbrev pub IsTextValue : Option ℕ → (at : ℕ) → List ℕ → Type 0
IsTextValue (Some word) at value = (line : List ℕ) × IsShown word at line × (value ≡ quoted line)
IsTextValue None at value = value ≡ codes "null"

abbrev pub exception_of : Kind → Option (List ℕ)
exception_of Plain = None
exception_of (Taken vector) = Some (exception_name vector)
exception_of (Stopped why) = None

abbrev pub stop_of : Kind → Option (List ℕ)
stop_of Plain = None
stop_of (Taken vector) = None
stop_of (Stopped why) = Some (why_name why)

-- the condition of a number
abbrev pub cond_named : ℕ → Cond
cond_named n =
    slice_index_or
    (Eq ∷ Ne ∷ Cs ∷ Cc ∷ Mi ∷ Pl ∷ Vs ∷ Vc ∷ Hi ∷ Ls ∷ Ge ∷ Lt ∷ Gt ∷ Le ∷ Al ∷ Nv ∷ []) n Nv

-- the step is its instruction's own work: it did not stop, and no exception was taken in place of the
-- instruction; that of SWI is what SWI does
abbrev pub is_own_work : Kind → Bool
is_own_work Plain = true
is_own_work (Taken Swi) = true
is_own_work (Taken vector) = false
is_own_work (Stopped why) = false

-- whether the step carried an instruction out: it fetched a word whose condition holds, and did its work
abbrev pub is_done : Option ℕ → (r15 : ℕ) → Kind → Bool
is_done None r15 kind = false
is_done (Some word) r15 kind =
    is_own_work kind && condition_holds (cond_named (bits 31 28 word)) (flags_of r15)

-- ## The processor

abbrev pub mode_name : Mode → List ℕ
mode_name User = codes "user"
mode_name Fiq = codes "fiq"
mode_name Irq = codes "irq"
mode_name Svc = codes "svc"

-- a flag's letter: a capital where it is set
abbrev pub flag_letter : Bool → (clear : ℕ) → ℕ
flag_letter is_set clear = if is_set then clear - 32 else clear

-- N Z C V I F, the bits 31 to 26 of R15
abbrev pub flags_text : (r15 : ℕ) → List ℕ
flags_text r15 =
    flag_letter (bit_of_word r15 31) 110 ∷ flag_letter (bit_of_word r15 30) 122
    ∷ flag_letter (bit_of_word r15 29) 99 ∷ flag_letter (bit_of_word r15 28) 118
    ∷ flag_letter (bit_of_word r15 27) 105 ∷ flag_letter (bit_of_word r15 26) 102 ∷ []

-- what ends the names of the registers of a mode's own bank
abbrev pub bank_suffix : Mode → List ℕ
bank_suffix User = []
bank_suffix Fiq = codes "_fiq"
bank_suffix Irq = codes "_irq"
bank_suffix Svc = codes "_svc"

abbrev pub register_name : Mode → ℕ → List ℕ
register_name mode n = codes "R" ++ (decimal n ++ bank_suffix mode)

-- a register with its word after a step, where the step changed it
abbrev pub if_changed : Mode → (before after : List ℕ) → ℕ → List (List ℕ)
if_changed mode before after n =
    if register_in mode n before == register_in mode n after then []
    else member (register_name mode n) (word_value (register_in mode n after)) ∷ []

-- those of so many registers of a mode, from one on
abbrev pub changed : Mode → (before after : List ℕ) → (first count : ℕ) → List (List ℕ)
changed mode before after first zero = []
changed mode before after first (suc k) =
    changed mode before after first k ++ if_changed mode before after (first + k)

-- the registers that the step changed, in all banks; R15 at any rate, with its flags and mode
abbrev pub registers_value : (before after : List ℕ) → List ℕ
registers_value before after =
    object (changed User before after 0 15
    ++ (changed Fiq before after 8 7
    ++ (changed Irq before after 13 2
    ++ (changed Svc before after 13 2 ++ member (codes "R15") (word_value (r15_in after)) ∷ []))))

-- ## The bus

abbrev pub transfer_kind : (store : Bool) → List ℕ
transfer_kind true = codes "store"
transfer_kind false = codes "load"

-- how many bytes each transfer of the word moves: 1 for a single transfer with B, else 4
abbrev pub size_of : Option ℕ → ℕ
size_of None = 4
size_of (Some word) = if (bits 27 26 word == 1) && bit_of_word word 22 then 1 else 4

-- the word of RAM or ROM to which a privileged load or store at an address goes; None where it goes to a
-- device
abbrev pub memory_word : Memory → (store : Bool) → (address : ℕ) → Option ℕ
memory_word m store address = fetched_at m (located m address false store)

-- its kind, the address of its word, how many bytes of that it moves, and the word that memory has there
abbrev pub transfer_value : Option ℕ → Memory → Transfer → List ℕ
transfer_value word m transfer =
    object
    (member (codes "kind") (quoted (transfer_kind transfer.0))
    ∷ member (codes "word_address") (word_value transfer.1)
    ∷ member (codes "size") (decimal (size_of word))
    ∷ member (codes "memory") (word_or_null (memory_word m transfer.0 transfer.1)) ∷ [])

-- ## The whole line

abbrev pub fetched_members : (number from : ℕ) → Option ℕ → (text : List ℕ) → List (List ℕ)
fetched_members number from word text =
    member (codes "step") (decimal number)
    ∷ member (codes "pc") (word_value from)
    ∷ member (codes "word") (word_or_null word)
    ∷ member (codes "text") text ∷ []

abbrev pub outcome_members : Kind → (done : Bool) → List (List ℕ)
outcome_members kind done =
    member (codes "exception") (name_value (exception_of kind))
    ∷ member (codes "stopped") (name_value (stop_of kind))
    ∷ member (codes "done") (boolean done) ∷ []

-- the instruction, with the value of its text
abbrev pub instruction_members : StepFacts → (text : List ℕ) → List (List ℕ)
instruction_members f text =
    fetched_members f.number f.stepped.from f.word text
    ++ outcome_members f.stepped.kind (is_done f.word (r15_in f.before) f.stepped.kind)

abbrev pub mode_members : (mode flags : List ℕ) → List (List ℕ)
mode_members mode flags = member (codes "mode") (quoted mode) ∷ member (codes "flags") (quoted flags) ∷ []

abbrev pub processor_members : StepFacts → List (List ℕ)
processor_members f =
    mode_members (mode_name (mode_of (r15_in f.after.regs))) (flags_text (r15_in f.after.regs))
    ++ member (codes "registers") (registers_value f.before f.after.regs) ∷ []

-- the interrupt lines that the step was given, and whether IOC asserts FIQ and IRQ in the state after it
abbrev pub line_members : (lines : ℕ) → (fiq irq : Bool) → List (List ℕ)
line_members lines fiq irq =
    member (codes "lines") (word_value lines)
    ∷ member (codes "fiq") (boolean fiq)
    ∷ member (codes "irq") (boolean irq) ∷ []

abbrev pub bus_members : StepFacts → List (List ℕ)
bus_members f =
    member (codes "transfers") (array (map (transfer_value f.word f.after.bus.memc) f.transfers))
    ∷ line_members f.lines (fiq_of f.after.bus.ioc) (irq_of f.after.bus.ioc)

abbrev pub time_members : Stepped → (elapsed : ℕ) → List (List ℕ)
time_members stepped elapsed =
    member (codes "ticks") (decimal stepped.ticks)
    ∷ member (codes "elapsed") (decimal elapsed)
    ∷ member (codes "next") (word_value stepped.to) ∷ []

-- an object of these members, and the line's end
abbrev pub IsStepLine : StepFacts → List ℕ → Type 0
IsStepLine f line =
    (text : List ℕ) × IsTextValue f.word f.stepped.from text
    × (line ≡ object (instruction_members f text
    ++ (processor_members f ++ (bus_members f ++ time_members f.stepped f.elapsed))) ++ codes "\n")
