-- What each command answers and what it leaves, and when it is refused.
use Rattle.std.specs.Prelude.{◌≡◌, ◌⊎◌, ℕ, ◌+◌, ◌*◌, ◌<◌, ◌≤◌, Bool, true, false, if◌then◌else◌, List, []}
use Rattle.std.specs.Prelude.{◌∷◌, ◌++◌, codes, length, Option, Some, None, Ok, Err, is_some}
use Rattle.std.specs.Int.RustNames.{bit_or}
use Rattle.bitflags.specs.Sets.{without}
use Rattle.image.specs.Labels.{Names}
use Rattle.ioc.specs.declared.lines.Lines.{Lines}
use Rattle.memc.specs.Memory.{Memory, located}
use Rattle.arm2_exec.specs.declared.machine.Input.{Input}
use Rattle.arm2_exec.specs.declared.machine.Ran.{Ran}
use Rattle.arm2_exec.specs.declared.machine.Stepped.{Stepped}
use Rattle.arm2_exec.specs.State.{State}
use Rattle.arm2_exec.specs.Step.{Step as MachineStep, fetched_at}
use Rattle.arm2_exec.specs.Run.{Runs, why_stopped}
use Rattle.assembler.specs.ShownLines.{IsShown}
use Rattle.asm_text.specs.Hex.{hex8}
use Rattle.arm2_exec.specs.declared.machine.Traced.{Traced}
use Rattle.text_trace.specs.TraceText.{IsTraceLine, TracesRun, registers_text, ticks_text}
use Rattle.debugger.specs.declared.command.Command.{Command}
use Rattle.debugger.specs.declared.command.Command.TheVariants.{Nothing, Step, Run, ListBreaks, Break, Regs}
use Rattle.debugger.specs.declared.command.Command.TheVariants.{Mem, Dis, Ticks, Burst, Line, Port}
use Rattle.debugger.specs.declared.fault.DebugFault.{DebugFault}
use Rattle.debugger.specs.declared.fault.DebugFault.TheVariants.{NoPage, MachineStopped, TooManyBreaks}
use Rattle.debugger.specs.declared.rows.Row.{Row}
use Rattle.debugger.specs.declared.rows.Row.TheVariants as row
use Rattle.debugger.specs.Commands.{command_of}
use Rattle.debugger.specs.SessionState.{Ascending, SessionState, moved_on, toggled}
use Rattle.debugger.specs.Watching.{Watches, inputs_of}

-- ## Runs

-- the trace lines of up to so many steps
abbrev pub AnswersStep : SessionState → ℕ → List ℕ → SessionState → Type 0
AnswersStep s n answer after =
    (ran : Ran) × (machine : State) × Runs s.machine (inputs_of s.next n) ran machine × (0 < ran.steps)
    × TracesRun s.machine (inputs_of s.next n) answer × (after ≡ moved_on s ran machine)

-- the run of the first of some inputs
abbrev pub RunsFirst : State → List Input → Ran → State → Type 0
RunsFirst s inputs ran after =
    (taken : List Input) × (left : List Input) × (inputs ≡ taken ++ left)
    × Runs s taken (record ran { stopped = None }) after

-- at least one step and up to so many, with an end at a breakpoint: the trace line of the last
abbrev pub AnswersRun : SessionState → ℕ → List ℕ → SessionState → Type 0
AnswersRun s n answer after =
    (ran : Ran) × (machine : State) × RunsFirst s.machine (inputs_of s.next n) ran machine × (0 < ran.steps)
    × (before : List Traced) × (last : Traced)
    × Watches s.breaks s.machine (inputs_of s.next n) (before ++ last ∷ []) ran machine
    × IsTraceLine last answer × (after ≡ moved_on s ran machine)

-- the next step is stopped
abbrev pub IsStopped : SessionState → Type 0
IsStopped s =
    (stepped : Stepped) × (machine : State) × MachineStep s.machine s.next stepped machine
    × (is_some (why_stopped stepped.kind) ≡ true)

-- ## Memory

-- the word that a privileged load finds in RAM or ROM
abbrev pub seen : Memory → (address : ℕ) → Option ℕ
seen m address = fetched_at m (located m address false false)

abbrev pub AreSeen : Memory → (address : ℕ) → List ℕ → Type 0
AreSeen m address [] = Unit {0}
AreSeen m address (word ∷ words) = (seen m address ≡ Some word) × AreSeen m (address + 4) words

-- a word of the span is in neither
abbrev pub HasGap : Memory → (address count : ℕ) → Type 0
HasGap m address count = (k : ℕ) × (k < count) × (seen m (address + 4 * k) ≡ None)

-- ## Lines of memory

abbrev pub IsWordRow : (address word : ℕ) → List ℕ → Type 0
IsWordRow address word row = row ≡ hex8 address ++ (codes " " ++ (hex8 word ++ codes "\n"))

abbrev pub IsLineRow : (address word : ℕ) → List ℕ → Type 0
IsLineRow address word row =
    (line : List ℕ) × IsShown word address line
    × (row ≡ hex8 address ++ (codes " " ++ (hex8 word ++ (codes " " ++ (line ++ codes "\n")))))

-- a row for each word
abbrev pub Rows : (IsRow : ℕ → ℕ → List ℕ → Type 0) → (address : ℕ) → (words text : List ℕ) → Type 0
Rows IsRow address [] text = text ≡ []
Rows IsRow address (word ∷ words) text =
    (row : List ℕ) × IsRow address word row × (rest : List ℕ) × Rows IsRow (address + 4) words rest
    × (text ≡ row ++ rest)

abbrev pub IsRowOf : Row → (address word : ℕ) → List ℕ → Type 0
IsRowOf row.Word address word row = IsWordRow address word row
IsRowOf row.Line address word row = IsLineRow address word row

abbrev pub ShowsSpan : Row → Memory → (address count : ℕ) → List ℕ → Type 0
ShowsSpan shown m address count answer =
    (words : List ℕ) × AreSeen m address words × (length words ≡ count)
    × Rows (IsRowOf shown) address words answer

-- ## Settings

abbrev pub breaks_text : List ℕ → List ℕ
breaks_text [] = []
breaks_text (a ∷ rest) = hex8 a ++ (codes "\n" ++ breaks_text rest)

-- a line's bit is set or cleared
abbrev pub switched : Lines → (on : Bool) → Lines → Lines
switched line on lines = record { 0 = if on then bit_or lines.0 line.0 else without 32 lines.0 line.0 }

-- a setting answers nothing
abbrev pub Sets : (answer : List ℕ) → (after set : SessionState) → Type 0
Sets answer after set = (answer ≡ []) × (after ≡ set)

-- a question changes nothing
abbrev pub Shows : SessionState → (after : SessionState) → (is_answer : Type 0) → Type 0
Shows s after is_answer = is_answer × (after ≡ s)

-- ## Commands

abbrev pub Answers : SessionState → Command → (answer : List ℕ) → (after : SessionState) → Type 0
Answers s Nothing answer after = Sets answer after s
Answers s (Step n) answer after = AnswersStep s n answer after
Answers s (Run n) answer after = AnswersRun s n answer after
Answers s ListBreaks answer after = Shows s after (Ascending s.breaks × (answer ≡ breaks_text s.breaks))
Answers s (Break a) answer after =
    (length (toggled a s.breaks) ≤ 16) × Sets answer after (record s { breaks = toggled a s.breaks })
Answers s Regs answer after = Shows s after (answer ≡ registers_text s.machine.regs)
Answers s (Mem a n) answer after = Shows s after (ShowsSpan row.Word s.machine.bus.memc a n answer)
Answers s (Dis a n) answer after = Shows s after (ShowsSpan row.Line s.machine.bus.memc a n answer)
Answers s Ticks answer after = Shows s after (answer ≡ ticks_text s.ticks s.elapsed)
Answers s (Burst n) answer after = Sets answer after (record s { next = record s.next { bursts = n } })
Answers s (Line line on) answer after =
    Sets answer after (record s { next = record s.next { lines = switched line on s.next.lines } })
Answers s (Port n) answer after = Sets answer after (record s { next = record s.next { port = n } })

-- the refusals but that of memory
abbrev pub Refuses : SessionState → Command → DebugFault → Type 0
Refuses s (Step n) fault = (fault ≡ MachineStopped) × IsStopped s
Refuses s (Run n) fault = (fault ≡ MachineStopped) × IsStopped s
Refuses s (Break a) fault = (fault ≡ TooManyBreaks) × (16 < length (toggled a s.breaks))
Refuses s (Mem a n) fault = (fault ≡ NoPage) × HasGap s.machine.bus.memc a n
Refuses s (Dis a n) fault = (fault ≡ NoPage) × HasGap s.machine.bus.memc a n
Refuses s _ fault = ⊥

-- ## Lines

-- by the labels of the source
abbrev pub AnswersLine : Names → SessionState → (line answer : List ℕ) → SessionState → Type 0
AnswersLine names s line answer after =
    (command : Command) × (command_of names line ≡ Ok command) × Answers s command answer after

abbrev pub RefusesLine : Names → SessionState → (line : List ℕ) → DebugFault → Type 0
RefusesLine names s line fault =
    (command_of names line ≡ Err fault)
    ⊎ ((command : Command) × (command_of names line ≡ Ok command) × Refuses s command fault)
