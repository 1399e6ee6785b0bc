-- The words of a transfer that the memory controller locates, and what R15 is loaded with.
use Rattle.std.proofs.Common.{◌≡◌, ℕ, suc, ◌+◌, ◌*◌, ◌/◌, ◌%◌, ◌^◌, ◌<◌, Bool, true, false, List, [], ◌∷◌}
use Rattle.std.proofs.Common.{◌++◌, length, filter, Ok, refl, ap, ◌∙◌, arith}
use Rattle.std.specs.Prelude.{bit_or}
use Rattle.std.specs.Int.Bits.{or_self}
use Rattle.std.specs.List.{list_any}
use Rattle.std.proofs.lemmas.Bool.{cond-false, cond-true}
use Rattle.std.proofs.lemmas.List.Elements.{filter-append}
use Rattle.std.proofs.lemmas.Nat.{or_mod}
use Rattle.arm2_decode.specs.Transfers.{all_registers, is_listed, registers_in}
use Rattle.arm2_decode.specs.declared.names.Register.{Register}
use Rattle.arm2_decode.specs.declared.names.Register.TheVariants.{R0, R1, R2, R3, R4, R5, R6, R7, R8, R9, R10}
use Rattle.arm2_decode.specs.declared.names.Register.TheVariants.{R11, R12, R13, R14, R15}
use Rattle.memc.specs.Memory.{Memory, located}
use Rattle.memc.specs.declared.spots.Spot.{Spot}
use Rattle.bus_ticks.specs.Prices.{word_address}
use Rattle.arm2_effect.specs.declared.modes.Mode.{Mode}
use Rattle.arm2_effect.specs.Modes.{r15_in}
use Rattle.arm2_effect.specs.ProgramCounter.{address_of}
use Rattle.arm2_transfer.specs.declared.bus.Bus.{Bus}
use Rattle.arm2_transfer.specs.Block.{load_all}
use Rattle.arm2_transfer.specs.Bus.{made_of, seen, turned}
use Rattle.arm2_transfer.specs.Registers.{with_loaded}
use Rattle.arm2_transfer.specs.Words.{Word, is_abort, is_unsupported, moves_of}
use Rattle.arm2_transfer.specs.Words.{verdict_of, words_from}
use Rattle.flow_graph.proofs.StepRegisters.{loaded_goes, long_loaded}

-- ## The one word of a single transfer

same_low : (n m : ℕ) → n % 2 ^ 32 ≡ m % 2 ^ 32 → address_of n ≡ address_of m
same_low n m e = omega (arith, e)

-- turned by no byte, a word keeps its 32 bits
turned_none : (word : ℕ) → address_of (turned 0 word) ≡ address_of word
turned_none word =
    let low : word / 1 ≡ word = omega arith in
    let high : word * 1 ≡ word = omega arith in
    let twice : word % 2 ^ 32 % 2 ^ 32 ≡ word % 2 ^ 32 = omega arith in
    let parts : turned 0 word ≡ bit_or word (word % 2 ^ 32) =
    ap (λ n. bit_or n (word * 1 % 2 ^ 32)) low ∙ ap (λ n. bit_or word (n % 2 ^ 32)) high in
    same_low (turned 0 word) word
    (ap (λ n. n % 2 ^ 32) parts
    ∙ or_mod word (word % 2 ^ 32) 32
    ∙ ap (bit_or (word % 2 ^ 32)) twice
    ∙ or_self (word % 2 ^ 32))

-- a whole word from a multiple of 4
pub made_whole : (byte : Bool) (x word : ℕ) → byte ≡ false → x % 4 ≡ 0
    → address_of (made_of byte x word) ≡ address_of word
made_whole byte x word whole at =
    ap address_of (cond-false byte _ _ whole)
    ∙ ap (λ lane. address_of (turned lane word)) at
    ∙ turned_none word

-- ## The words of a block

-- words that are all located
abbrev pub words_to : (ℕ → Spot) → ℕ → List Register → List Word
words_to spot i [] = []
words_to spot i (r ∷ rest) = (r, Ok (spot i)) ∷ words_to spot (i + 1) rest

pub words_found : (m : Memory) (user store : Bool) (lowest i : ℕ) (spot : ℕ → Spot) (rs : List Register)
    → ((j : ℕ) → j < i + length rs → located m (word_address lowest j) user store ≡ Ok (spot j))
    → words_from m user store lowest i rs ≡ words_to spot i rs
words_found m user store lowest i spot [] found = refl
words_found m user store lowest i spot (r ∷ rest) found =
    let more = words_found m user store lowest (i + 1) spot rest (λ j h. found j (omega (arith, h))) in
    ap (λ at. (r, at) ∷ words_from m user store lowest (i + 1) rest) (found i (omega arith))
    ∙ ap (λ ws. (r, Ok (spot i)) ∷ ws) more

no_abort : (spot : ℕ → Spot) (i : ℕ) (rs : List Register)
    → list_any (λ (word : Word). is_abort word.1) (words_to spot i rs) ≡ false
no_abort spot i [] = refl
no_abort spot i (r ∷ rest) = no_abort spot (i + 1) rest

no_unsupported : (spot : ℕ → Spot) (i : ℕ) (rs : List Register)
    → list_any (λ (word : Word). is_unsupported word.1) (words_to spot i rs) ≡ false
no_unsupported spot i [] = refl
no_unsupported spot i (r ∷ rest) = no_unsupported spot (i + 1) rest

pub verdict_found : (spot : ℕ → Spot) (i : ℕ) (rs : List Register)
    → verdict_of (words_to spot i rs) ≡ Ok (moves_of (words_to spot i rs))
verdict_found spot i rs = cond-false _ _ _ (no_abort spot i rs) ∙ cond-false _ _ _ (no_unsupported spot i rs)

-- ## R15, the last register of its list

pub fifteen : List Register
fifteen = R0 ∷ R1 ∷ R2 ∷ R3 ∷ R4 ∷ R5 ∷ R6 ∷ R7 ∷ R8 ∷ R9 ∷ R10 ∷ R11 ∷ R12 ∷ R13 ∷ R14 ∷ []

split_registers : all_registers ≡ fifteen ++ R15 ∷ []
unfolding all_registers fifteen
split_registers = refl

-- the other registers of a list
abbrev pub others_in : ℕ → List Register
others_in list = filter (is_listed list) fifteen

pub last_is_r15 : (list : ℕ) → is_listed list R15 ≡ true → registers_in list ≡ others_in list ++ R15 ∷ []
last_is_r15 list listed =
    ap (filter (is_listed list)) split_registers
    ∙ filter-append (is_listed list) fifteen (R15 ∷ [])
    ∙ ap (λ rs. others_in list ++ rs) (cond-true (is_listed list R15) (R15 ∷ []) [] listed)

module _ (psr : Bool) (mode : Mode) (r : ℕ) (bus : Bus) (port : ℕ) (spot : ℕ → Spot) where
  abbrev pub loaded : ℕ → List Register → List ℕ → List ℕ
  loaded i rs regs = load_all psr mode r bus port (moves_of (words_to spot i rs)) regs

  pub last_loaded : (i : ℕ) (rs : List Register) (regs : List ℕ) → 26 < length regs
      → address_of (r15_in (loaded i (rs ++ R15 ∷ []) regs))
      ≡ address_of (seen bus port (spot (i + length rs)))
  last_loaded i [] regs long =
      let here : i ≡ i + 0 = omega arith in
      loaded_goes psr mode r R15 (seen bus port (spot i)) regs long refl
      ∙ ap (λ n. address_of (seen bus port (spot n))) here
  last_loaded i (x ∷ rest) regs long =
      let on : i + 1 + length rest ≡ i + suc (length rest) = omega arith in
      let word : ℕ = seen bus port (spot i) in
      last_loaded (i + 1) rest (with_loaded psr mode r x word regs) (long_loaded psr mode r x word regs long)
      ∙ ap (λ n. address_of (seen bus port (spot n))) on
