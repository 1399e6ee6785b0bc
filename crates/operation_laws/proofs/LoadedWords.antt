-- The words of a block: where each is, and what a load leaves of them at one place.
use Rattle.std.proofs.Common.{◌≡◌, ℕ, ◌+◌, ◌<◌, Bool, true, false, not, ◌||◌, cond, List, [], ◌∷◌, length, Result, Ok, Err, refl, sym, ◌∙◌, ap, subst, arith, inl, inr}
use Rattle.std.specs.Prelude.{slice_index}
use Rattle.std.specs.List.{list_any, position_or_len}
use Rattle.std.proofs.lemmas.Bool.{cases_Bool, false≢true, or_parts, true≢false}
use Rattle.bus_ticks.specs.Prices.{word_address}
use Rattle.memc.specs.Memory.{located}
use Rattle.memc.specs.declared.spots.Spot.{Spot}
use Rattle.memc.specs.declared.spots.Refused.{Refused}
use Rattle.memc.specs.declared.spots.Refused.TheVariants.{NoPage, Protected, UnsupportedWrite}
use Rattle.arm2_decode.specs.declared.instr.Block.{Block}
use Rattle.arm2_decode.specs.declared.names.Register.{Register}
use Rattle.arm2_decode.specs.Transfers.{registers_in}
use Rattle.arm2_effect.specs.declared.modes.Mode.{Mode}
use Rattle.arm2_effect.specs.Modes.{is_user}
use Rattle.arm2_effect.specs.Operands.{current_mode}
use Rattle.arm2_transfer.specs.declared.bus.Bus.{Bus}
use Rattle.arm2_transfer.specs.declared.words.Move.{Move}
use Rattle.arm2_transfer.specs.declared.words.TransferFault.TheVariants as fault
use Rattle.arm2_transfer.specs.Bases.{IsWordSpot, lowest_at}
use Rattle.arm2_transfer.specs.Block.{load_all}
use Rattle.arm2_transfer.specs.Bus.{seen}
use Rattle.arm2_transfer.specs.Registers.{with_loaded}
use Rattle.arm2_transfer.specs.Words.{Word, is_abort, is_unsupported, moves_of, verdict_of, words_from}
use Rattle.arm2_transfer.proofs.Slots.{AtMostOne, stands_at}
use Rattle.operation_laws.proofs.SingleLaws.{loaded_long}

-- ## Where they are

abbrev any_abort : List Word → Bool
any_abort words = list_any (λ (word : Word). is_abort word.1) words

abbrev any_unsupported : List Word → Bool
any_unsupported words = list_any (λ (word : Word). is_unsupported word.1) words

verdict_parts : (aborts stops : Bool) (all moves : List Move)
    → cond aborts (Err fault.DataAbort) (cond stops (Err fault.UnsupportedWrite) (Ok all)) ≡ Ok moves
    → (aborts ≡ false) × (stops ≡ false) × (all ≡ moves)
verdict_parts true stops all moves is = absurd cc
verdict_parts false true all moves is = absurd cc
verdict_parts false false all moves is = (refl, refl, cc)

module _ (x : Block) (regs : List ℕ) (bus : Bus) where
  -- the moves of some registers, from word number i on
  abbrev pub Placed : (i : ℕ) → List Register → List Move → Type 0
  Placed i [] [] = Unit {0}
  Placed i [] (move ∷ moves) = ⊥
  Placed i (r ∷ rest) [] = ⊥
  Placed i (r ∷ rest) (move ∷ moves) =
      (move.register ≡ r) × IsWordSpot x regs bus i move.spot × Placed (i + 1) rest moves

  abbrev pub words_on : (i : ℕ) → List Register → List Word
  words_on i registers =
      words_from bus.memc (is_user (current_mode regs)) (not x.load) (lowest_at x regs) i registers

  abbrev located_at : (i : ℕ) → Result Spot Refused
  located_at i = located bus.memc (word_address (lowest_at x regs) i) (is_user (current_mode regs)) (not x.load)

  word_placed : (i : ℕ) (r : Register) (rest : List Register) (found : Result Spot Refused)
      (words : List Word) → located_at i ≡ found → (is_abort found || any_abort words) ≡ false
      → (is_unsupported found || any_unsupported words) ≡ false
      → Placed (i + 1) rest (moves_of words) → Placed i (r ∷ rest) (moves_of ((r, found) ∷ words))
  word_placed i r rest (Ok spot) words at aborts stops more = (refl, at, more)
  word_placed i r rest (Err NoPage) words at aborts stops more = absurd (true≢false aborts)
  word_placed i r rest (Err Protected) words at aborts stops more = absurd (true≢false aborts)
  word_placed i r rest (Err UnsupportedWrite) words at aborts stops more = absurd (true≢false stops)

  words_placed : (i : ℕ) (registers : List Register) → any_abort (words_on i registers) ≡ false
      → any_unsupported (words_on i registers) ≡ false → Placed i registers (moves_of (words_on i registers))
  words_placed i [] aborts stops = tt
  words_placed i (r ∷ rest) aborts stops =
      let more = words_on (i + 1) rest in
      let aborts_on = (or_parts (is_abort (located_at i)) (any_abort more) aborts).1 in
      let stops_on = (or_parts (is_unsupported (located_at i)) (any_unsupported more) stops).1 in
      word_placed i r rest (located_at i) more refl aborts stops
      (words_placed (i + 1) rest aborts_on stops_on)

  pub all_placed : (moves : List Move) → verdict_of (words_on 0 (registers_in x.list)) ≡ Ok moves
      → Placed 0 (registers_in x.list) moves
  all_placed moves is =
      let words = words_on 0 (registers_in x.list) in
      let parts = verdict_parts (any_abort words) (any_unsupported words) (moves_of words) moves is in
      subst (Placed 0 (registers_in x.list)) parts.2 (words_placed 0 (registers_in x.list) parts.0 parts.1)

-- ## What is left of them

module _ (test : Register → Bool) (r : Register) (rest : List Register) where
  position_here : test r ≡ true → position_or_len test (r ∷ rest) ≡ 0
  position_here here = ap (λ (b : Bool). cond (not b) (1 + position_or_len test rest) 0) here

  position_next : test r ≡ false → position_or_len test (r ∷ rest) ≡ 1 + position_or_len test rest
  position_next apart = ap (λ (b : Bool). cond (not b) (1 + position_or_len test rest) 0) apart

module _ (psr : Bool) (mode : Mode) (r : ℕ) (bus : Bus) (port : ℕ) where
  pub all_long : (moves : List Move) (now : List ℕ)
      → length (load_all psr mode r bus port moves now) ≡ length now
  all_long [] now = refl
  all_long (move ∷ rest) now =
      all_long rest (with_loaded psr mode r move.register _ now) ∙ loaded_long psr mode r _ move.register now

  -- a load of one register leaves what `made` makes of its word at place s, where the register is there, and
  -- else what was there
  pub record LoadsAt (s : ℕ) (made : ℕ → ℕ) : Type 0 where
    pub here : (register : Register) (word : ℕ) (now : List ℕ) → 26 < length now
        → stands_at mode s register ≡ true
        → slice_index (with_loaded psr mode r register word now) s ≡ made word
    pub apart : (register : Register) (word : ℕ) (now : List ℕ) → stands_at mode s register ≡ false
        → slice_index (with_loaded psr mode r register word now) s ≡ slice_index now s

  module _ (x : Block) (regs : List ℕ) (s : ℕ) (made : ℕ → ℕ) (one_load : LoadsAt s made) where
    abbrev is_here : Register → Bool
    is_here register = stands_at mode s register

    pub none_loaded : (i : ℕ) (registers : List Register) (moves : List Move) (now : List ℕ)
        → Placed x regs bus i registers moves → list_any is_here registers ≡ false
        → slice_index (load_all psr mode r bus port moves now) s ≡ slice_index now s
    none_loaded i [] [] now placed none = refl
    none_loaded i [] (move ∷ moves) now placed none = absurd placed
    none_loaded i (a ∷ rest) [] now placed none = absurd placed
    none_loaded i (a ∷ rest) (move ∷ moves) now placed none =
        let parts = or_parts (is_here a) (list_any is_here rest) none in
        let word = seen bus port move.spot in
        none_loaded (i + 1) rest moves (with_loaded psr mode r move.register word now) placed.2 parts.1
        ∙ one_load.apart move.register word now (ap is_here placed.0 ∙ parts.0)

    -- the word at its place in the list
    abbrev IsMadeOf : (i : ℕ) → List Register → (value : ℕ) → Type 0
    IsMadeOf i registers value =
        (spot : Spot) × IsWordSpot x regs bus (i + position_or_len is_here registers) spot
        × (value ≡ made (seen bus port spot))

    pub one_loaded : (i : ℕ) (registers : List Register) (moves : List Move) (now : List ℕ)
        → Placed x regs bus i registers moves → 26 < length now → AtMostOne mode s registers
        → list_any is_here registers ≡ true
        → IsMadeOf i registers (slice_index (load_all psr mode r bus port moves now) s)
    one_loaded i [] moves now placed long one some = absurd (false≢true some)
    one_loaded i (a ∷ rest) [] now placed long one some = absurd placed
    one_loaded i (a ∷ rest) (move ∷ moves) now placed long one some =
        let word = seen bus port move.spot in
        let next = with_loaded psr mode r move.register word now in
        elim (cases_Bool (is_here a)) [
          | inl is ↦
              let number : i + position_or_len is_here (a ∷ rest) ≡ i =
              omega (arith, position_here is_here a rest is) in
              let at = one_load.here move.register word now long (ap is_here placed.0 ∙ is) in (
                move.spot,
                subst (λ (k : ℕ). IsWordSpot x regs bus k move.spot) (sym number) placed.1,
                none_loaded (i + 1) rest moves next placed.2 (one.0 is) ∙ at,
              )
          | inr apart ↦
              let long_next : 26 < length next =
              omega (arith, long, loaded_long psr mode r word move.register now) in
              let some_more = ap (λ (b : Bool). b || list_any is_here rest) (sym apart) ∙ some in
              let more = one_loaded (i + 1) rest moves next placed.2 long_next one.1 some_more in
              let number : i + position_or_len is_here (a ∷ rest) ≡ i + 1 + position_or_len is_here rest =
              omega (arith, position_next is_here a rest apart) in
              (more.0, subst (λ (k : ℕ). IsWordSpot x regs bus k more.0) (sym number) more.1, more.2)
        ]
