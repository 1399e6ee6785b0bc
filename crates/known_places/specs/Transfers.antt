-- What is known of the words that an instruction transfers.
use Rattle.std.specs.Prelude.{◌≡◌, ◌≤◌, ℕ, Bool, List, Option, Some, None}
use Rattle.arm2_decode.specs.declared.instr.Operation.{Operation}
use Rattle.arm2_exec.specs.Step.{address_in}
use Rattle.kept_runs.specs.Transfers.{words_of}
use Rattle.kept_runs.specs.declared.transfers.Transfer.{Transfer}
use Rattle.known_words.specs.Known.{IsKnown}
use Rattle.known_words.specs.Knowledge.{Holds}
use Rattle.known_words.specs.declared.knowledge.Knowledge.{Knowledge}
use Rattle.known_places.specs.declared.transfers.Transferred.{Transferred}
use Rattle.known_places.specs.declared.transfers.Transferred.TheVariants.{From, Nothing, Unseen}

-- so many words from an address that is known so
abbrev pub IsTransferred : (entry turns : List ℕ) → Transferred → Option Transfer → Type 0
IsTransferred entry turns Nothing transfer = transfer ≡ None
IsTransferred entry turns Unseen transfer = Unit {0}
IsTransferred entry turns (From lowest words) transfer =
    (address : ℕ) × (store : Bool)
    × (transfer ≡ Some (record { address = address; words = words; store = store }))
    × IsKnown entry turns lowest address

-- as many words as a block may have
abbrev pub HasWords : Transferred → Type 0
HasWords Nothing = Unit {0}
HasWords Unseen = Unit {0}
HasWords (From lowest words) = (1 ≤ words) × (words ≤ 16)

-- of the instruction at the address, where this is known before it
abbrev pub TransfersSo : Operation → (address : ℕ) → Knowledge → Transferred → Type 0
TransfersSo o address known transferred =
    (entry turns regs : List ℕ) → address_in regs ≡ address → Holds entry turns known regs
    → IsTransferred entry turns transferred (words_of o regs)
