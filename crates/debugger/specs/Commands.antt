-- The commands of a session and how a line says them.
use Rattle.std.specs.Prelude.{◌==◌, ◌&&◌, ◌+◌, ◌-◌, ◌*◌, ◌%◌, ◌^◌, ◌≤◌, nat_le, ℕ, Bool, true, false, List}
use Rattle.std.specs.Prelude.{[], ◌∷◌, codes, Option, Some, None, Result, Ok, Err, if◌then◌else◌}
use Rattle.std.specs.Str.{bytes_eq}
use Rattle.bus_ticks.specs.declared.space.TheConstants.{SPACE_END}
use Rattle.image.specs.Labels.{Names}
use Rattle.ioc.specs.LineNames.{line_named}
use Rattle.ioc.specs.declared.lines.Lines.{Lines}
use Rattle.debugger.specs.declared.command.Command.{Command}
use Rattle.debugger.specs.declared.command.Command.TheVariants.{Nothing, Step, Run, ListBreaks, Break, Regs}
use Rattle.debugger.specs.declared.command.Command.TheVariants.{Mem, Dis, Ticks, Burst, Line, Port}
use Rattle.debugger.specs.declared.fault.DebugFault.{DebugFault}
use Rattle.debugger.specs.declared.fault.DebugFault.TheVariants.{UnknownCommand, BadNumber}
use Rattle.debugger.specs.Words.{number_of, words_of}

-- ## Numbers

-- the number, where it is in the range
abbrev pub number_between : (low high : ℕ) → Option ℕ → Result ℕ DebugFault
number_between low high None = Err BadNumber
number_between low high (Some n) = if nat_le low n && nat_le n high then Ok n else Err BadNumber

abbrev pub number_in : (low high : ℕ) → List ℕ → Result ℕ DebugFault
number_in low high word = number_between low high (number_of word)

-- the address of so many words, none of them past 3FFFFFC
abbrev pub span_start : (count : ℕ) → Option ℕ → Result ℕ DebugFault
span_start count None = Err BadNumber
span_start count (Some a) = if a % 4 == 0 && nat_le (a + 4 * count) SPACE_END then Ok a else Err BadNumber

-- the address that a number is, or else that of the label
abbrev pub number_or_label : (number label : Option ℕ) → Option ℕ
number_or_label (Some n) label = Some n
number_or_label None label = label

abbrev pub address_in : Names → (count : ℕ) → List ℕ → Result ℕ DebugFault
address_in names count word = span_start count (number_or_label (number_of word) (names word))

-- the command with a number, where there is one
abbrev pub number_command : Result ℕ DebugFault → (ℕ → Command) → Result Command DebugFault
number_command (Ok n) command = Ok (command n)
number_command (Err fault) command = Err fault

-- ## Interrupt lines, by their names

abbrev pub switch_command : Option Lines → (on : Bool) → Result Command DebugFault
switch_command (Some line) on = Ok (Line line on)
switch_command None on = Err UnknownCommand

abbrev pub line_command : (name state : List ℕ) → Result Command DebugFault
line_command name state =
    if bytes_eq state (codes "on") then switch_command (line_named name) true
    else (if bytes_eq state (codes "off") then switch_command (line_named name) false else Err UnknownCommand)

-- ## Commands, by the number of their words

abbrev pub one_word : List ℕ → Result Command DebugFault
one_word name =
    if bytes_eq name (codes "step") then Ok (Step 1)
    else (if bytes_eq name (codes "break") then Ok ListBreaks
    else (if bytes_eq name (codes "regs") then Ok Regs
    else (if bytes_eq name (codes "ticks") then Ok Ticks else Err UnknownCommand)))

abbrev pub two_words : Names → (name number : List ℕ) → Result Command DebugFault
two_words names name number =
    if bytes_eq name (codes "step") then number_command (number_in 1 1024 number) (λ n. Step n)
    else (if bytes_eq name (codes "run") then number_command (number_in 1 65536 number) (λ n. Run n)
    else (if bytes_eq name (codes "break") then number_command (address_in names 1 number) (λ a. Break a)
    else (if bytes_eq name (codes "burst") then number_command (number_in 0 65535 number) (λ n. Burst n)
    else
    (if bytes_eq name (codes "port") then number_command (number_in 0 (2 ^ 32 - 1) number) (λ n. Port n)
    else Err UnknownCommand))))

-- the command with an address and a number of words
abbrev pub span_command : Names → (count : Result ℕ DebugFault) → (address : List ℕ) → (ℕ → ℕ → Command)
    → Result Command DebugFault
span_command names (Ok count) address command =
    number_command (address_in names count address) (λ a. command a count)
span_command names (Err fault) address command = Err fault

abbrev pub three_words : Names → (name first second : List ℕ) → Result Command DebugFault
three_words names name first second =
    if bytes_eq name (codes "mem") then span_command names (number_in 1 16 second) first (λ a n. Mem a n)
    else
    (if bytes_eq name (codes "dis") then span_command names (number_in 1 16 second) first (λ a n. Dis a n)
    else (if bytes_eq name (codes "line") then line_command first second else Err UnknownCommand))

abbrev pub command_in : Names → List (List ℕ) → Result Command DebugFault
command_in names [] = Ok Nothing
command_in names (name ∷ []) = one_word name
command_in names (name ∷ number ∷ []) = two_words names name number
command_in names (name ∷ first ∷ second ∷ []) = three_words names name first second
command_in names (name ∷ first ∷ second ∷ third ∷ rest) = Err UnknownCommand

-- the command of a line, by the labels of the source, or why it is none
abbrev pub command_of : Names → (line : List ℕ) → Result Command DebugFault
command_of names line = command_in names (words_of line)

-- what is true of every command that a line says
abbrev pub IsInRange : Command → Type 0
IsInRange (Step n) = (1 ≤ n) × (n ≤ 1024)
IsInRange (Run n) = (1 ≤ n) × (n ≤ 65536)
IsInRange (Mem a n) = (a + 4 * n ≤ SPACE_END) × (n ≤ 16)
IsInRange (Dis a n) = (a + 4 * n ≤ SPACE_END) × (n ≤ 16)
IsInRange _ = Unit {0}
