-- What the code plans of a step's transfers. It is here since clauses of private functions cite it.
use Rattle.std.specs.Prelude.{codes, ℕ, zero, suc, Bool, not, nat_lt, if◌then◌else◌, List, [], ◌∷◌, ◌++◌}
use Rattle.std.specs.Prelude.{Option, Some, None}
use Rattle.bus_ticks.specs.Prices.{word_address}
use Rattle.bus_ticks.specs.declared.space.TheConstants.{SPACE_END}
use Rattle.arm2_decode.specs.declared.instr.Operation.{Operation}
use Rattle.arm2_decode.specs.declared.instr.Operation.TheVariants as operation
use Rattle.arm2_decode.specs.declared.instr.Instr.{Instr}
use Rattle.arm2_decode.specs.Conditions.{condition_holds}
use Rattle.arm2_decode.specs.Names.{register_number}
use Rattle.arm2_decode.specs.Transfers.{word_count}
use Rattle.arm2_effect.specs.Modes.{r15_in, register_in}
use Rattle.arm2_effect.specs.ProgramCounter.{flags_of}
use Rattle.arm2_effect.specs.Operands.{current_mode, first_of}
use Rattle.arm2_transfer.specs.Block.{lowest_of}
use Rattle.arm2_transfer.specs.Single.{address_for, of_immediate, of_register}
use Rattle.json_trace.specs.StepLine.{Transfer}
use Rattle.json_trace.specs.declared.moved_words.Transfers.{Transfers}

-- so many words, one after the other
abbrev pub words_from : (store : Bool) → (address count : ℕ) → List Transfer
words_from store address zero = []
words_from store address (suc k) = words_from store address k ++ (store, word_address address k) ∷ []

abbrev pub words_of : Transfers → List Transfer
words_of t = words_from t.store t.address t.words

abbrev pub moved_words : Option Transfers → List Transfer
moved_words None = []
moved_words (Some t) = words_of t

-- none where the lowest address is 2 ^ 26 or more
abbrev pub words_in_space : (store : Bool) → (address words : ℕ) → Option Transfers
words_in_space store address words =
    if nat_lt address SPACE_END
    then Some (record { store = store; address = address; words = words }) else None

-- what an instruction moves where no word is refused
abbrev pub planned_by : Operation → List ℕ → Option Transfers
planned_by (operation.SingleImmediate x) regs =
    words_in_space (not x.load) (address_for (of_immediate x) (first_of 8 x.rn regs)) 1
planned_by (operation.SingleRegister x) regs =
    words_in_space (not x.load) (address_for (of_register x regs) (first_of 8 x.rn regs)) 1
planned_by (operation.Block x) regs =
    let base = register_in (current_mode regs) (register_number x.rn) regs in
    words_in_space (not x.load) (lowest_of x base (word_count x.list)) (word_count x.list)
planned_by _ regs = None

-- and where its condition holds
abbrev pub planned_if : Instr → List ℕ → Option Transfers
planned_if i regs =
    if condition_holds i.cond (flags_of (r15_in regs)) then planned_by i.operation regs else None

-- a comma in front of any item but the first
abbrev pub comma : (number : ℕ) → List ℕ
comma zero = []
comma (suc n) = codes ","
