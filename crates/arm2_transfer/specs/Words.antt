-- The words of a block: their registers, their addresses, and what the memory controller says of them all
-- together (VL86C010 data sheet, block data transfer; it is silent on three rules: all words are located
-- before the first is moved, an abort comes before an unsupported write, and the addresses wrap at 2^26).
use Rattle.std.specs.Prelude.{ℕ, ◌+◌, ◌*◌, ◌^◌, ◌≤◌, Bool, true, false, if◌then◌else◌, List, [], ◌∷◌}
use Rattle.std.specs.Prelude.{All, Result, Ok, Err}
use Rattle.std.specs.List.{list_any}
use Rattle.arm2_decode.specs.declared.names.Register.{Register}
use Rattle.arm2_decode.specs.Transfers.{word_count}
use Rattle.bus_ticks.specs.Prices.{word_address}
use Rattle.memc.specs.Memory.{Memory, located, Fits}
use Rattle.memc.specs.Paged.{fitted_bytes}
use Rattle.memc.specs.declared.spots.Spot.{Spot}
use Rattle.memc.specs.declared.spots.Spot.TheVariants.{Ram}
use Rattle.memc.specs.declared.spots.Refused.{Refused}
use Rattle.memc.specs.declared.spots.Refused.TheVariants.{NoPage, Protected, UnsupportedWrite}
use Rattle.arm2_transfer.specs.declared.words.Move.{Move}
use Rattle.arm2_transfer.specs.declared.words.TransferFault.{TransferFault}
use Rattle.arm2_transfer.specs.declared.words.TransferFault.TheVariants as fault

-- A word of a transfer: its register, and what the memory controller says of its address.
abbrev pub Word : Type 0
Word = Register × Result Spot Refused

-- the words of some registers, from word number i on: the lowest register at the lowest address
abbrev pub words_from : Memory → (user store : Bool) → (lowest i : ℕ) → List Register → List Word
words_from m user store lowest i [] = []
words_from m user store lowest i (register ∷ rest) =
    (register, located m (word_address lowest i) user store) ∷ words_from m user store lowest (i + 1) rest

-- whether a word aborts its instruction, and whether it stops the machine
abbrev pub is_abort : Result Spot Refused → Bool
is_abort (Ok spot) = false
is_abort (Err NoPage) = true
is_abort (Err Protected) = true
is_abort (Err UnsupportedWrite) = false

abbrev pub is_unsupported : Result Spot Refused → Bool
is_unsupported (Ok spot) = false
is_unsupported (Err NoPage) = false
is_unsupported (Err Protected) = false
is_unsupported (Err UnsupportedWrite) = true

-- the words that were located
abbrev pub moves_of : List Word → List Move
moves_of [] = []
moves_of ((register, Ok spot) ∷ rest) = record { register = register; spot = spot } ∷ moves_of rest
moves_of ((register, Err why) ∷ rest) = moves_of rest

-- all words together: any abort, or else any unsupported write, or else where each goes
abbrev pub verdict_of : List Word → Result (List Move) TransferFault
verdict_of words =
    if list_any (λ (word : Word). is_abort word.1) words then Err fault.DataAbort
    else (if list_any (λ (word : Word). is_unsupported word.1) words then Err fault.UnsupportedWrite
    else Ok (moves_of words))

-- the moves of some registers, one word of RAM after another from a place on
abbrev pub moves_along : (place : ℕ) → List Register → List Move
moves_along place [] = []
moves_along place (register ∷ rest) =
    record { register = register; spot = Ram place } ∷ moves_along (place + 4) rest

-- the one word of a single transfer
abbrev pub or_fault : Result Spot Refused → Result Spot TransferFault
or_fault (Ok spot) = Ok spot
or_fault (Err NoPage) = Err fault.DataAbort
or_fault (Err Protected) = Err fault.DataAbort
or_fault (Err UnsupportedWrite) = Err fault.UnsupportedWrite

-- the words of a list's registers, from a place on: all are in the fitted RAM of a memory with pages of
-- 2 ^ shift bytes, and no RAM has more than 2 ^ 22 bytes
pub record AreFitted (shift place list : ℕ) : Type 0 where
  pub fit : place + 4 * word_count list ≤ fitted_bytes shift
  pub room : place + 4 * word_count list ≤ 2 ^ 22

-- each move goes to a spot of a memory with pages of 2 ^ shift bytes
abbrev pub AllFit : ℕ → List Move → Type 0
AllFit shift moves = All (λ (move : Move). Fits shift move.spot) moves
