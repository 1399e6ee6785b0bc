-- What a machine shows as text.
use Rattle.std.specs.Prelude.{◌≡◌, ℕ, ◌+◌, List, [], ◌∷◌, ◌++◌, codes, decimal}
use Rattle.std.specs.Prelude.{Option, Some, None}
use Rattle.arm2_effect.specs.declared.step_end.Kind.{Kind}
use Rattle.arm2_effect.specs.declared.step_end.Kind.TheVariants.{Plain, Taken, Stopped}
use Rattle.arm2_effect.specs.declared.step_end.Why.{Why}
use Rattle.arm2_effect.specs.declared.step_end.Why.TheVariants.{Unallocated, UnsupportedWrite}
use Rattle.arm2_effect.specs.declared.exceptions.Vector.{Vector}
use Rattle.arm2_effect.specs.declared.exceptions.Vector.TheVariants.{Undefined, Swi, PrefetchAbort, DataAbort}
use Rattle.arm2_effect.specs.declared.exceptions.Vector.TheVariants.{AddressException, Irq, Fiq}
use Rattle.arm2_effect.specs.declared.modes.Mode.{Mode}
use Rattle.arm2_effect.specs.Modes.{r15_in, register_in}
use Rattle.arm2_effect.specs.ProgramCounter.{mode_of}
use Rattle.arm2_exec.specs.declared.machine.Input.{Input}
use Rattle.arm2_exec.specs.declared.machine.Ran.{Ran}
use Rattle.arm2_exec.specs.declared.machine.Stepped.{Stepped}
use Rattle.arm2_exec.specs.Run.{Runs, why_stopped}
use Rattle.arm2_exec.specs.State.{State}
use Rattle.arm2_exec.specs.Step.{Step, traced_word}
use Rattle.asm_text.specs.Appended.{Appends}
use Rattle.asm_text.specs.Hex.{hex, hex8}
use Rattle.assembler.specs.ShownLines.{IsWordLine}
use Rattle.arm2_exec.specs.declared.machine.Traced.{Traced}

-- ## Registers

-- a register of a mode and its word
abbrev pub register_text : Mode → List ℕ → ℕ → List ℕ
register_text mode regs n = codes "R" ++ (decimal n ++ (codes "=" ++ hex8 (register_in mode n regs)))

-- a line of four registers, from a number on
abbrev pub four_text : Mode → List ℕ → ℕ → List ℕ
four_text mode regs n =
    (register_text mode regs n ++ codes " ") ++ ((register_text mode regs (n + 1) ++ codes " ")
    ++ ((register_text mode regs (n + 2) ++ codes " ") ++ (register_text mode regs (n + 3) ++ codes "\n")))

-- the sixteen registers of a mode
abbrev pub mode_text : Mode → List ℕ → List ℕ
mode_text mode regs =
    four_text mode regs 0 ++ (four_text mode regs 4 ++ (four_text mode regs 8 ++ four_text mode regs 12))

-- those of the mode in R15
abbrev pub registers_text : List ℕ → List ℕ
registers_text regs = mode_text (mode_of (r15_in regs)) regs

-- ## Ticks and stops

abbrev pub ticks_text : (ticks elapsed : ℕ) → List ℕ
ticks_text ticks elapsed =
    codes "ticks " ++ (decimal ticks ++ (codes " elapsed " ++ (decimal elapsed ++ codes "\n")))

abbrev pub why_name : Why → List ℕ
why_name Unallocated = codes "Unallocated"
why_name UnsupportedWrite = codes "UnsupportedWrite"

abbrev pub stop_text : Why → (address : ℕ) → List ℕ
stop_text why address = codes "stopped " ++ (why_name why ++ (codes " at " ++ (hex address ++ codes "\n")))

-- ## Steps

abbrev pub exception_name : Vector → List ℕ
exception_name Undefined = codes "undefined"
exception_name Swi = codes "swi"
exception_name PrefetchAbort = codes "prefetch"
exception_name DataAbort = codes "abort"
exception_name AddressException = codes "address"
exception_name Irq = codes "irq"
exception_name Fiq = codes "fiq"

abbrev pub word_text : Option ℕ → List ℕ
word_text (Some word) = hex8 word
word_text None = codes "--------"

-- the address, the word and the ticks, each before a blank
abbrev pub front_text : Traced → List ℕ
front_text t =
    hex8 t.stepped.from
    ++ (codes " " ++ (word_text t.word ++ (codes " " ++ (decimal t.stepped.ticks ++ codes " "))))

-- a stopped step shows nothing; any other its front, and the exception's name or the word's line
abbrev pub IsLineOf : Kind → Traced → List ℕ → Type 0
IsLineOf (Stopped why) t line = line ≡ []
IsLineOf (Taken vector) t line = line ≡ front_text t ++ (exception_name vector ++ codes "\n")
IsLineOf Plain t line =
    (text : List ℕ) × IsWordLine t.word t.stepped.from text × (line ≡ front_text t ++ (text ++ codes "\n"))

abbrev pub IsTraceLine : Traced → List ℕ → Type 0
IsTraceLine t line = IsLineOf t.stepped.kind t line

-- ## Runs

-- a stopped step ends the text
abbrev pub Goes : Option Why → (text : List ℕ) → (goes_on : Type 0) → Type 0
Goes (Some why) text goes_on = text ≡ []
Goes None text goes_on = goes_on

-- the trace lines of a run's steps, in their order, up to the first that is stopped
abbrev pub TracesRun : State → List Input → List ℕ → Type 0
TracesRun s [] text = text ≡ []
TracesRun s (i ∷ rest) text =
    (traced : Traced) × (next : State) × Step s i traced.stepped next × (traced.word ≡ traced_word s i)
    × Goes (why_stopped traced.stepped.kind) text
    ((line : List ℕ) × IsTraceLine traced line × (more : List ℕ) × TracesRun next rest more
    × (text ≡ line ++ more))

-- A run that ended because the line of a step was refused: the machine has made that step, which did not
-- stop it, and the text has the lines of the steps before it.
pub record RefusedRun (s : State) (inputs : List Input) (after : State) (old new : List ℕ) : Type 0 where
  pub done : List Input
  pub input : Input
  pub rest : List Input
  pub are : inputs ≡ done ++ input ∷ rest
  pub ran : Ran
  pub between : State
  pub runs : Runs s done ran between
  pub goes_on : ran.stopped ≡ None
  pub stepped : Stepped
  pub step : Step between input stepped after
  pub not_stopped : why_stopped stepped.kind ≡ None
  pub text : Appends (TracesRun s done) old new
