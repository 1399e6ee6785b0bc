-- What the memory controller says of the words of a run, and what is done with them.
use Rattle.std.proofs.Common.{◌≡◌, ℕ, ◌+◌, ◌*◌, ◌<◌, Bool, false, List, [], ◌∷◌, length, Result, Ok, refl, ap, ◌∙◌, arith}
use Rattle.std.specs.List.{list_any}
use Rattle.arm2_decode.specs.declared.names.Register.{Register}
use Rattle.bus_ticks.specs.Prices.{word_address}
use Rattle.memc.specs.Memory.{Memory, located, IsRun}
use Rattle.memc.specs.declared.spots.Spot.{Spot}
use Rattle.memc.specs.declared.spots.Spot.TheVariants.{Ram}
use Rattle.memc.specs.declared.spots.Refused.{Refused}
use Rattle.arm2_transfer.specs.declared.words.Move.{Move}
use Rattle.arm2_transfer.specs.Words.{Word, words_from, is_abort, is_unsupported, moves_of, moves_along, verdict_of}

abbrev at_place : ℕ → Result Spot Refused
at_place place = Ok (Ram place)

-- the words of some registers, one after another from a place on
abbrev words_along : (place : ℕ) → List Register → List Word
words_along place [] = []
words_along place (register ∷ rest) = (register, at_place place) ∷ words_along (place + 4) rest

words_are_along : (m : Memory) (user store : Bool) (lowest i place : ℕ) (rs : List Register) →
    ((j : ℕ) → j < length rs → located m (word_address lowest (i + j)) user store ≡ at_place (place + 4 * j)) →
    words_from m user store lowest i rs ≡ words_along place rs
words_are_along m user store lowest i place [] each = refl
words_are_along m user store lowest i place (r ∷ rs) each =
    let first : located m (word_address lowest i) user store ≡ at_place place =
    ap (λ (n : ℕ). located m (word_address lowest n) user store) (omega arith) ∙ each 0 (omega arith) ∙ ap at_place (omega arith) in
    let rest = words_are_along m user store lowest (i + 1) (place + 4) rs
    (λ j less. ap (λ (n : ℕ). located m (word_address lowest n) user store) (omega arith) ∙ each (j + 1) (omega arith) ∙ ap at_place (omega arith)) in
    ap (λ (found : Result Spot Refused). (r, found) ∷ words_from m user store lowest (i + 1) rs) first
    ∙ ap (λ (words : List Word). (r, at_place place) ∷ words) rest

none_aborts : (place : ℕ) (rs : List Register) → list_any (λ (word : Word). is_abort word.1) (words_along place rs) ≡ false
none_aborts place [] = refl
none_aborts place (r ∷ rs) = none_aborts (place + 4) rs

all_supported : (place : ℕ) (rs : List Register) → list_any (λ (word : Word). is_unsupported word.1) (words_along place rs) ≡ false
all_supported place [] = refl
all_supported place (r ∷ rs) = all_supported (place + 4) rs

moves_are_along : (place : ℕ) (rs : List Register) → moves_of (words_along place rs) ≡ moves_along place rs
moves_are_along place [] = refl
moves_are_along place (r ∷ rs) = ap (λ (moves : List Move). record { register = r; spot = Ram place } ∷ moves) (moves_are_along (place + 4) rs)

verdict_along : (place : ℕ) (rs : List Register) → verdict_of (words_along place rs) ≡ Ok (moves_along place rs)
verdict_along place rs = rw (none_aborts place rs, all_supported place rs, moves_are_along place rs) refl

pub run_verdict : (m : Memory) (user store : Bool) (lowest words place : ℕ) (rs : List Register) → words ≡ length rs → IsRun m lowest words user store place →
    verdict_of (words_from m user store lowest 0 rs) ≡ Ok (moves_along place rs)
run_verdict m user store lowest words place rs counted run =
    ap verdict_of (words_are_along m user store lowest 0 place rs (λ j less. ap (λ (n : ℕ). located m (word_address lowest n) user store) (omega arith) ∙ run.each j (omega arith)))
    ∙ verdict_along place rs
