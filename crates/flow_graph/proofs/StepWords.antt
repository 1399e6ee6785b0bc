-- The words of a block: R15 stays where the list has none for it.
use Rattle.std.proofs.Common.{◌≡◌, ℕ, ◌+◌, Bool, true, false, cond, List, [], ◌∷◌, filter, Result, Ok, Err, refl, sym, subst, ◌∙◌}
use Rattle.std.proofs.lemmas.Bool.{false≢true}
use Rattle.arm2_decode.specs.Names.{is_pc}
use Rattle.arm2_decode.specs.Transfers.{all_registers, is_listed, registers_in}
use Rattle.arm2_decode.specs.declared.names.Register.{Register}
use Rattle.arm2_decode.specs.declared.names.Register.TheVariants.{R0, R1, R2, R3, R4, R5, R6, R7, R8, R9, R10, R11, R12, R13, R14, R15}
use Rattle.memc.specs.Memory.{Memory}
use Rattle.memc.specs.declared.spots.Refused.{Refused}
use Rattle.memc.specs.declared.spots.Spot.{Spot}
use Rattle.memc.specs.Memory.{located}
use Rattle.bus_ticks.specs.Prices.{word_address}
use Rattle.arm2_effect.specs.declared.modes.Mode.{Mode}
use Rattle.arm2_effect.specs.Modes.{r15_in}
use Rattle.arm2_transfer.specs.declared.bus.Bus.{Bus}
use Rattle.arm2_transfer.specs.declared.words.Move.{Move}
use Rattle.arm2_transfer.specs.declared.words.TransferFault.{TransferFault}
use Rattle.arm2_transfer.specs.declared.words.TransferFault.TheVariants as fault
use Rattle.arm2_transfer.specs.Block.{load_all}
use Rattle.arm2_transfer.specs.Bus.{seen}
use Rattle.arm2_transfer.specs.Registers.{with_loaded}
use Rattle.arm2_transfer.specs.Words.{Word, is_abort, is_unsupported, moves_of, verdict_of, words_from}
use Rattle.std.specs.List.{list_any}
use Rattle.flow_graph.proofs.StepRegisters.{loaded_stays}

-- no register of the list is R15
abbrev AllOther : List Register → Type 0
AllOther [] = Unit {0}
AllOther (r ∷ rest) = (is_pc r ≡ false) × AllOther rest

other_register : (list : ℕ) → is_listed list R15 ≡ false → (r : Register) → is_listed list r ≡ true → is_pc r ≡ false
other_register list none R0 h = refl
other_register list none R1 h = refl
other_register list none R2 h = refl
other_register list none R3 h = refl
other_register list none R4 h = refl
other_register list none R5 h = refl
other_register list none R6 h = refl
other_register list none R7 h = refl
other_register list none R8 h = refl
other_register list none R9 h = refl
other_register list none R10 h = refl
other_register list none R11 h = refl
other_register list none R12 h = refl
other_register list none R13 h = refl
other_register list none R14 h = refl
other_register list none R15 h = absurd (false≢true (sym none ∙ h))

kept_others : (test : Register → Bool) → ((r : Register) → test r ≡ true → is_pc r ≡ false) → (rs : List Register) → AllOther (filter test rs)
kept_others test other [] = tt
kept_others test other (r ∷ rest) = by_test (kept_others test other rest) (test r) refl
  where
    by_test : AllOther (filter test rest) → (b : Bool) → test r ≡ b → AllOther (cond b (r ∷ filter test rest) (filter test rest))
    by_test more true e = (other r e, more)
    by_test more false e = more

-- no move loads R15
abbrev pub AllMoveOther : List Move → Type 0
AllMoveOther [] = Unit {0}
AllMoveOther (move ∷ rest) = (is_pc move.register ≡ false) × AllMoveOther rest

moves_others : (m : Memory) (user store : Bool) (lowest i : ℕ) (rs : List Register) → AllOther rs → AllMoveOther (moves_of (words_from m user store lowest i rs))
moves_others m user store lowest i [] h = tt
moves_others m user store lowest i (r ∷ rest) h = by_place (moves_others m user store lowest (i + 1) rest h.1) (located m (word_address lowest i) user store)
  where
    by_place : AllMoveOther (moves_of (words_from m user store lowest (i + 1) rest)) → (found : Result Spot Refused) → AllMoveOther (moves_of ((r, found) ∷ words_from m user store lowest (i + 1) rest))
    by_place more (Ok spot) = (h.0, more)
    by_place more (Err why) = more

by_verdict : (aborts unsupported : Bool) (all moves : List Move) → ◌≡◌ {A = Result (List Move) TransferFault} (cond aborts (Err fault.DataAbort) (cond unsupported (Err fault.UnsupportedWrite) (Ok all))) (Ok moves) → all ≡ moves
by_verdict true unsupported all moves e = absurd (cc)
by_verdict false true all moves e = absurd (cc)
by_verdict false false all moves e = cc

pub verdict_others : (m : Memory) (user store : Bool) (lowest list : ℕ) (moves : List Move) → verdict_of (words_from m user store lowest 0 (registers_in list)) ≡ Ok moves → is_listed list R15 ≡ false → AllMoveOther moves
verdict_others m user store lowest list moves e none =
    let words : List Word = words_from m user store lowest 0 (registers_in list) in
    subst AllMoveOther
    (by_verdict (list_any (λ (word : Word). is_abort word.1) words) (list_any (λ (word : Word). is_unsupported word.1) words) (moves_of words) moves e)
    (moves_others m user store lowest 0 (registers_in list) (kept_others (is_listed list) (other_register list none) all_registers))

pub all_stay : (psr : Bool) (mode : Mode) (r : ℕ) (bus : Bus) (port : ℕ) (moves : List Move) (regs : List ℕ) → AllMoveOther moves → r15_in (load_all psr mode r bus port moves regs) ≡ r15_in regs
all_stay psr mode r bus port [] regs h = refl
all_stay psr mode r bus port (move ∷ rest) regs h =
    all_stay psr mode r bus port rest (with_loaded psr mode r move.register (seen bus port move.spot) regs) h.1
    ∙ loaded_stays psr mode r move.register (seen bus port move.spot) regs h.0
