-- A base after its transfer.
use Rattle.std.proofs.Common.{◌≡◌, ◌≢◌, ℕ, ◌+◌, ◌<◌, ◌==◌, Bool, true, false, not, ◌&&◌, ◌||◌, cond, List, [], ◌∷◌, length, Result, Ok, Err, refl, sym, ◌∙◌, ap, subst, arith, ◌⊎◌, inl, inr}
use Rattle.std.specs.Prelude.{slice_index}
use Rattle.std.specs.List.{list_any, position_or_len}
use Rattle.std.proofs.lemmas.Bool.{and_parts, cases_Bool, cond-false, cond-true, cond_both, false≢true, ne_eqb, or_parts, true≢false}
use Rattle.bus_ticks.specs.Prices.{word_address}
use Rattle.memc.specs.Memory.{located}
use Rattle.memc.specs.declared.spots.Spot.{Spot}
use Rattle.memc.specs.declared.spots.Refused.{Refused}
use Rattle.memc.specs.declared.spots.Refused.TheVariants.{NoPage, Protected, UnsupportedWrite}
use Rattle.arm2_decode.specs.declared.instr.Block.{Block}
use Rattle.arm2_decode.specs.declared.names.Register.{Register}
use Rattle.arm2_decode.specs.Allowed.{block_clash}
use Rattle.arm2_decode.specs.Names.{register_number}
use Rattle.arm2_decode.specs.Transfers.{is_listed, registers_in, word_count, writes_base}
use Rattle.arm2_effect.specs.declared.step_end.Kind.TheVariants.{Plain}
use Rattle.arm2_effect.specs.declared.exceptions.Vector.{Vector}
use Rattle.arm2_effect.specs.declared.exceptions.Vector.TheVariants as vector
use Rattle.arm2_effect.specs.declared.modes.Mode.{Mode}
use Rattle.arm2_effect.specs.Effects.{stopped}
use Rattle.arm2_effect.specs.Exceptions.{taken}
use Rattle.arm2_effect.specs.Modes.{r15_in, is_user}
use Rattle.arm2_effect.specs.Operands.{current_in, first_of, current_mode}
use Rattle.arm2_transfer.specs.declared.bus.Bus.{Bus}
use Rattle.arm2_transfer.specs.declared.single_fields.Single.{Single}
use Rattle.arm2_transfer.specs.declared.span.Span.{Span}
use Rattle.arm2_transfer.specs.declared.words.Move.{Move}
use Rattle.arm2_transfer.specs.declared.words.TransferFault.{TransferFault}
use Rattle.arm2_transfer.specs.declared.words.TransferFault.TheVariants as fault
use Rattle.arm2_transfer.specs.Bases.{address_at, base_moved, BlockBase, Stores, is_base, is_own_base, IsSpot, IsWordSpot, loads_base, lowest_at, PutsWords, SingleBase}
use Rattle.arm2_transfer.specs.Block.{load_all, put_all, block_at, block_by, block_carried_out, block_loads, block_moved, block_put, block_stores, mode_for, span_of}
use Rattle.arm2_transfer.specs.Bus.{made_of, put, put_single, seen}
use Rattle.arm2_transfer.specs.Moved.{on_bus, out_of_space, faulted}
use Rattle.arm2_transfer.specs.Registers.{given, moved_by, passed, with_base, with_loaded}
use Rattle.arm2_transfer.specs.Single.{base_after, has_user_rights, single_at, single_by, single_carried_out, single_loaded, single_loads, single_moved, single_stores}
use Rattle.arm2_transfer.specs.Words.{Word, is_abort, is_unsupported, or_fault, moves_of, verdict_of, words_from}
use Rattle.arm2_transfer.proofs.Slots.{AtMostOne, base_slot, based_kept, based_long, based_written, given_apart, given_here, loaded_apart, loaded_here, loaded_long, one_listed, other_stands, passed_base, passed_long, place, same_stands, stands_at}

-- ## Where the words of a block are

abbrev any_abort : List Word → Bool
any_abort words = list_any (λ (word : Word). is_abort word.1) words

abbrev any_unsupported : List Word → Bool
any_unsupported words = list_any (λ (word : Word). is_unsupported word.1) words

verdict_parts : (aborts stops : Bool) (all moves : List Move)
    → cond aborts (Err fault.DataAbort) (cond stops (Err fault.UnsupportedWrite) (Ok all)) ≡ Ok moves
    → (aborts ≡ false) × (stops ≡ false) × (all ≡ moves)
verdict_parts true stops all moves is = absurd cc
verdict_parts false true all moves is = absurd cc
verdict_parts false false all moves is = (refl, refl, cc)

module _ (x : Block) (regs : List ℕ) (bus : Bus) where
  -- the moves of some registers, from word number i on
  abbrev Placed : (i : ℕ) → List Register → List Move → Type 0
  Placed i [] [] = Unit {0}
  Placed i [] (move ∷ moves) = ⊥
  Placed i (r ∷ rest) [] = ⊥
  Placed i (r ∷ rest) (move ∷ moves) =
      (move.register ≡ r) × IsWordSpot x regs bus i move.spot × Placed (i + 1) rest moves

  abbrev words_on : (i : ℕ) → List Register → List Word
  words_on i registers =
      words_from bus.memc (is_user (current_mode regs)) (not x.load) (lowest_at x regs) i registers

  abbrev located_at : (i : ℕ) → Result Spot Refused
  located_at i = located bus.memc (word_address (lowest_at x regs) i) (is_user (current_mode regs)) (not x.load)

  word_placed : (i : ℕ) (r : Register) (rest : List Register) (found : Result Spot Refused)
      (words : List Word) → located_at i ≡ found → (is_abort found || any_abort words) ≡ false
      → (is_unsupported found || any_unsupported words) ≡ false
      → Placed (i + 1) rest (moves_of words) → Placed i (r ∷ rest) (moves_of ((r, found) ∷ words))
  word_placed i r rest (Ok spot) words at aborts stops more = (refl, at, more)
  word_placed i r rest (Err NoPage) words at aborts stops more = absurd (true≢false aborts)
  word_placed i r rest (Err Protected) words at aborts stops more = absurd (true≢false aborts)
  word_placed i r rest (Err UnsupportedWrite) words at aborts stops more = absurd (true≢false stops)

  words_placed : (i : ℕ) (registers : List Register) → any_abort (words_on i registers) ≡ false
      → any_unsupported (words_on i registers) ≡ false → Placed i registers (moves_of (words_on i registers))
  words_placed i [] aborts stops = tt
  words_placed i (r ∷ rest) aborts stops =
      let more = words_on (i + 1) rest in
      let aborts_on = (or_parts (is_abort (located_at i)) (any_abort more) aborts).1 in
      let stops_on = (or_parts (is_unsupported (located_at i)) (any_unsupported more) stops).1 in
      word_placed i r rest (located_at i) more refl aborts stops
      (words_placed (i + 1) rest aborts_on stops_on)

  all_placed : (moves : List Move) → verdict_of (words_on 0 (registers_in x.list)) ≡ Ok moves
      → Placed 0 (registers_in x.list) moves
  all_placed moves is =
      let words = words_on 0 (registers_in x.list) in
      let parts = verdict_parts (any_abort words) (any_unsupported words) (moves_of words) moves is in
      subst (Placed 0 (registers_in x.list)) parts.2 (words_placed 0 (registers_in x.list) parts.0 parts.1)

-- ## A load

module _ (test : Register → Bool) (r : Register) (rest : List Register) where
  position_here : test r ≡ true → position_or_len test (r ∷ rest) ≡ 0
  position_here here = ap (λ (b : Bool). cond (not b) (1 + position_or_len test rest) 0) here

  position_next : test r ≡ false → position_or_len test (r ∷ rest) ≡ 1 + position_or_len test rest
  position_next apart = ap (λ (b : Bool). cond (not b) (1 + position_or_len test rest) 0) apart

module _ (x : Block) (regs : List ℕ) (bus : Bus) (port : ℕ) (psr : Bool) (mode : Mode) (r s : ℕ)
    (low : s < 26) where
  abbrev here : Register → Bool
  here register = stands_at mode s register

  none_loaded : (i : ℕ) (registers : List Register) (moves : List Move) (now : List ℕ)
      → Placed x regs bus i registers moves → list_any here registers ≡ false
      → slice_index (load_all psr mode r bus port moves now) s ≡ slice_index now s
  none_loaded i [] [] now placed none = refl
  none_loaded i [] (move ∷ moves) now placed none = absurd placed
  none_loaded i (a ∷ rest) [] now placed none = absurd placed
  none_loaded i (a ∷ rest) (move ∷ moves) now placed none =
      let parts = or_parts (here a) (list_any here rest) none in
      let word = seen bus port move.spot in
      none_loaded (i + 1) rest moves (with_loaded psr mode r move.register word now) placed.2 parts.1
      ∙ loaded_apart mode s move.register now low psr r word (ap here placed.0 ∙ parts.0)

  -- the word at its place in the list
  abbrev IsWordOf : (i : ℕ) → List Register → (value : ℕ) → Type 0
  IsWordOf i registers value =
      (spot : Spot) × IsWordSpot x regs bus (i + position_or_len here registers) spot
      × (value ≡ seen bus port spot)

  one_loaded : (i : ℕ) (registers : List Register) (moves : List Move) (now : List ℕ)
      → Placed x regs bus i registers moves → 26 < length now → AtMostOne mode s registers
      → list_any here registers ≡ true
      → IsWordOf i registers (slice_index (load_all psr mode r bus port moves now) s)
  one_loaded i [] moves now placed long one some = absurd (false≢true some)
  one_loaded i (a ∷ rest) [] now placed long one some = absurd placed
  one_loaded i (a ∷ rest) (move ∷ moves) now placed long one some =
      let word = seen bus port move.spot in
      let next = with_loaded psr mode r move.register word now in
      elim (cases_Bool (here a)) [
        | inl is ↦
            let number : i + position_or_len here (a ∷ rest) ≡ i =
            omega (arith, position_here here a rest is) in
            let at = loaded_here mode s move.register now low psr r word long (ap here placed.0 ∙ is) in (
              move.spot,
              subst (λ (k : ℕ). IsWordSpot x regs bus k move.spot) (sym number) placed.1,
              none_loaded (i + 1) rest moves next placed.2 (one.0 is) ∙ at,
            )
        | inr apart ↦
            let long_next = loaded_long mode s move.register now low psr r word long in
            let some_more = ap (λ (b : Bool). b || list_any here rest) (sym apart) ∙ some in
            let more = one_loaded (i + 1) rest moves next placed.2 long_next one.1 some_more in
            let number : i + position_or_len here (a ∷ rest) ≡ i + 1 + position_or_len here rest =
            omega (arith, position_next here a rest apart) in
            (more.0, subst (λ (k : ℕ). IsWordSpot x regs bus k more.0) (sym number) more.1, more.2)
      ]

-- ## A store

module _ (x : Block) (regs : List ℕ) (bus : Bus) (low : place (current_mode regs) x.rn < 26)
    (long : 26 < length regs) where
  abbrev after : List ℕ
  after = with_base x.write_back (current_mode regs) x.rn (base_moved x regs) regs

  abbrev value_in : Register → List ℕ → ℕ
  value_in register now = given (mode_for x (current_mode regs)) register now

  stores_first : (register : Register) → Stores x regs true register (value_in register regs)
  stores_first register =
      let here = given_here (mode_for x (current_mode regs)) (place (current_mode regs) x.rn) register regs low in
      record {
        lowest_base = λ is first. here is;
        later_base = λ is later writes. absurd (true≢false later);
        kept_base = λ is keeps. here is;
        other = λ apart. refl;
      }

  stays : (register : Register) → is_base x regs register ≡ false
      → (x.write_back ≡ true) ⊎ (x.write_back ≡ false) → value_in register after ≡ value_in register regs
  stays register apart (inl writes) =
      ap (value_in register) (cond-true x.write_back _ _ writes)
      ∙ given_apart (mode_for x (current_mode regs)) (place (current_mode regs) x.rn) register regs low
      (base_moved x regs) apart
  stays register apart (inr keeps) = ap (value_in register) (cond-false x.write_back _ _ keeps)

  stores_later : (register : Register) → Stores x regs false register (value_in register after)
  stores_later register =
      let here = given_here (mode_for x (current_mode regs)) (place (current_mode regs) x.rn) register after low in
      record {
        lowest_base = λ is first. absurd (false≢true first);
        later_base = λ is later writes.
            here is ∙ based_written (current_mode regs) x.rn (base_moved x regs) regs low long x.write_back writes;
        kept_base = λ is keeps.
            here is ∙ based_kept (current_mode regs) x.rn (base_moved x regs) regs low long x.write_back keeps;
        other = λ apart. stays register apart (cases_Bool x.write_back);
      }

  later_put : (i : ℕ) (registers : List Register) (moves : List Move) (old : Bus)
      → Placed x regs bus i registers moves → (i == 0) ≡ false
      → PutsWords x regs bus i registers old (put_all (mode_for x (current_mode regs)) after moves old)
  later_put i [] [] old placed later = refl
  later_put i [] (move ∷ moves) old placed later = absurd placed
  later_put i (a ∷ rest) [] old placed later = absurd placed
  later_put i (a ∷ rest) (move ∷ moves) old placed later =
      let mode = mode_for x (current_mode regs) in
      let word = value_in a after in
      let next_later = ne_eqb (i + 1) 0 (λ e. omega (arith, e)) in
      let more = later_put (i + 1) rest moves (put move.spot word old) placed.2 next_later in (
        move.spot,
        word,
        placed.1,
        subst (λ (b : Bool). Stores x regs b a word) (sym later) (stores_later a),
        subst
            (λ (q : Register).
            PutsWords x regs bus (i + 1) rest (put move.spot word old)
            (put_all mode after moves (put move.spot (value_in q after) old)))
            (sym placed.0) more,
      )

  words_put : (registers : List Register) (moves : List Move) → Placed x regs bus 0 registers moves
      → PutsWords x regs bus 0 registers bus (block_put (mode_for x (current_mode regs)) regs after moves bus)
  unfolding block_put
  words_put [] [] placed = refl
  words_put [] (move ∷ moves) placed = absurd placed
  words_put (a ∷ rest) [] placed = absurd placed
  words_put (a ∷ rest) (move ∷ moves) placed =
      let mode = mode_for x (current_mode regs) in
      let word = value_in a regs in
      let more = later_put 1 rest moves (put move.spot word bus) placed.2 refl in (
        move.spot,
        word,
        placed.1,
        stores_first a,
        subst
            (λ (q : Register).
            PutsWords x regs bus 1 rest (put move.spot word bus)
            (put_all mode after moves (put move.spot (value_in q regs) bus)))
            (sym placed.0) more,
      )

-- ## What is not carried out

not_taken : (v : Vector) (regs : List ℕ) (bus : Bus) → (on_bus bus (taken v regs)).kind ≡ Plain → ⊥
unfolding taken
not_taken v regs bus is = cc

not_faulted : (t : TransferFault) (regs : List ℕ) (bus : Bus) → (faulted t regs bus).kind ≡ Plain → ⊥
unfolding stopped
not_faulted fault.DataAbort regs bus is = not_taken vector.DataAbort regs bus is
not_faulted fault.UnsupportedWrite regs bus is = cc

-- ## A block

base_not_r15 : (rn list : ℕ) → block_clash rn list ≡ 0 → rn ≢ 15
base_not_r15 rn list none last =
    let clash : ◌≡◌ {A = ℕ} 7 0 = ap (λ (n : ℕ). block_clash n list) (sym last) ∙ none in
    omega (arith, clash)

module _ (x : Block) (port : ℕ) (regs : List ℕ) (bus : Bus) where
  abbrev span : Span
  span = span_of x (current_in x.rn regs) (word_count x.list)

  abbrev moves_base : Bool
  moves_base = list_any (is_base x regs) (registers_in x.list)

  module _ (moves : List Move) (low : place (current_mode regs) x.rn < 26) (long : 26 < length regs)
      (placed : Placed x regs bus 0 (registers_in x.list) moves) where
    block_loads_base : x.load ≡ true → BlockBase x port regs bus (block_loads x span port moves regs bus)
    unfolding block_loads
    block_loads_base loads =
        let mode = mode_for x (current_mode regs) in
        let moved = base_moved x regs in
        let s = place (current_mode regs) x.rn in
        let written = with_base x.write_back (current_mode regs) x.rn moved (passed regs) in
        let long_passed = passed_long (current_mode regs) x.rn moved regs low long in
        let long_written = based_long (current_mode regs) x.rn moved (passed regs) low long_passed x.write_back in
        let registers = registers_in x.list in
        let r = r15_in regs in
        let none = none_loaded x regs bus port x.user mode r s low 0 registers moves written placed in
        let one =
        one_loaded x regs bus port x.user mode r s low 0 registers moves written placed long_written in
        let based = based_written (current_mode regs) x.rn moved (passed regs) low long_passed x.write_back in
        let unbased = based_kept (current_mode regs) x.rn moved (passed regs) low long_passed x.write_back in
        let at = position_or_len (is_base x regs) registers in
        let same : (b : Bool) → loads_base x regs ≡ b → moves_base ≡ b =
        λ b is. ap (λ (l : Bool). l && moves_base) (sym loads) ∙ is in
        record {
          leaves = record {
            loaded = λ is.
                let found = one (one_listed mode s (is_listed x.list)) (same true is) in
                let first : 0 + at ≡ at = omega arith in
                (found.0, subst (λ (k : ℕ). IsWordSpot x regs bus k found.0) first found.1, found.2);
            written_back = λ is writes. none (same false is) ∙ based writes;
            kept = λ is keeps.
                none (same false is) ∙ unbased keeps ∙ passed_base (current_mode regs) x.rn moved regs low long;
          };
          stores = λ store. absurd (false≢true (sym store ∙ loads));
        }

    block_stores_base : x.load ≡ false → BlockBase x port regs bus (block_stores x span moves regs bus)
    unfolding block_stores
    block_stores_base stores =
        let moved = base_moved x regs in
        let written = with_base x.write_back (current_mode regs) x.rn moved regs in
        let long_written = based_long (current_mode regs) x.rn moved regs low long x.write_back in
        let passes = passed_base (current_mode regs) x.rn moved written low long_written in
        let based = based_written (current_mode regs) x.rn moved regs low long x.write_back in
        let unbased = based_kept (current_mode regs) x.rn moved regs low long x.write_back in
        record {
          leaves = record {
            loaded = λ is. absurd (false≢true (sym stores ∙ (and_parts x.load moves_base is).0));
            written_back = λ is writes. passes ∙ based writes;
            kept = λ is keeps. passes ∙ unbased keeps;
          };
          stores = λ is. words_put x regs bus low long (registers_in x.list) moves placed;
        }

    block_carried_base : BlockBase x port regs bus (block_carried_out x span port moves regs bus)
    unfolding block_carried_out
    block_carried_base = cond_both x.load _ _ (BlockBase x port regs bus) block_loads_base block_stores_base

  block_base_by : (within : Bool) (found : Result (List Move) TransferFault)
      → place (current_mode regs) x.rn < 26 → 26 < length regs
      → verdict_of (words_on x regs bus 0 (registers_in x.list)) ≡ found
      → (cond within (block_by x span port found regs bus) (out_of_space regs bus)).kind ≡ Plain
      → BlockBase x port regs bus (cond within (block_by x span port found regs bus) (out_of_space regs bus))
  unfolding block_by
  block_base_by false found low long is plain = absurd (not_taken vector.AddressException regs bus plain)
  block_base_by true (Err t) low long is plain = absurd (not_faulted t regs bus plain)
  block_base_by true (Ok moves) low long is plain =
      block_carried_base moves low long (all_placed x regs bus moves is)

  pub block_base : length regs ≡ 27 → (block_moved x port regs bus).kind ≡ Plain
      → BlockBase x port regs bus (block_moved x port regs bus)
  unfolding block_at block_moved
  block_base all plain =
      let low = base_slot (current_mode regs) x.rn (base_not_r15 (register_number x.rn) x.list x.allocated) in
      block_base_by _ _ low (omega (arith, all)) refl plain

-- ## A single transfer

met_located : (found : Result Spot Refused) (spot : Spot) → or_fault found ≡ Ok spot → found ≡ Ok spot
met_located (Ok other) spot is = cc
met_located (Err NoPage) spot is = absurd cc
met_located (Err Protected) spot is = absurd cc
met_located (Err UnsupportedWrite) spot is = absurd cc

module _ (x : Single) (port : ℕ) (regs : List ℕ) (bus : Bus) (not_15 : register_number x.rn ≢ 15)
    (long : 26 < length regs) where
  abbrev base : ℕ
  base = current_in x.rn regs

  abbrev moved : ℕ
  moved = moved_by x.up base x.offset

  abbrev slot : ℕ
  slot = place (current_mode regs) x.rn

  low : slot < 26
  low = base_slot (current_mode regs) x.rn not_15

  long_passed : 26 < length (passed regs)
  long_passed = passed_long (current_mode regs) x.rn moved regs low long

  long_after : 26 < length (base_after x base regs)
  long_after = based_long (current_mode regs) x.rn moved (passed regs) low long_passed (writes_base x.before x.write_back)

  written : writes_base x.before x.write_back ≡ true → slice_index (base_after x base regs) slot ≡ moved
  written writes =
      based_written (current_mode regs) x.rn moved (passed regs) low long_passed (writes_base x.before x.write_back) writes

  kept : writes_base x.before x.write_back ≡ false → slice_index (base_after x base regs) slot ≡ base
  kept keeps =
      based_kept (current_mode regs) x.rn moved (passed regs) low long_passed (writes_base x.before x.write_back) keeps
      ∙ passed_base (current_mode regs) x.rn moved regs low long

  module _ (spot : Spot) (here : IsSpot x regs bus spot) where
    single_loads_base : x.load ≡ true → SingleBase x port regs bus (single_loads x base port spot regs bus)
    unfolding single_loaded single_loads
    single_loads_base loads =
        let word = made_of x.byte (address_at x regs) (seen bus port spot) in
        let same : (b : Bool) → (x.load && is_own_base x) ≡ b → is_own_base x ≡ b =
        λ b is. ap (λ (l : Bool). l && is_own_base x) (sym loads) ∙ is in
        let mode = current_mode regs in
        let now = base_after x base regs in
        let loaded_in = loaded_here mode slot x.rd now low false (r15_in regs) word long_after in
        let loaded_by = loaded_apart mode slot x.rd now low false (r15_in regs) word in
        let apart = λ (is : is_own_base x ≡ false). loaded_by (other_stands mode x.rd x.rn not_15 is) in
        record {
          leaves = record {
            loaded = λ is. (spot, here, loaded_in (same_stands mode x.rd x.rn (same true is)));
            written_back = λ is writes. apart (same false is) ∙ written writes;
            kept = λ is keeps. apart (same false is) ∙ kept keeps;
          };
          stores_old = λ store. absurd (false≢true (sym store ∙ loads));
        }

    single_stores_base : x.load ≡ false → SingleBase x port regs bus (single_stores x base spot regs bus)
    unfolding single_stores
    single_stores_base stores =
        let gives = given_here (current_mode regs) slot x.rd regs low in
        record {
          leaves = record {
            loaded = λ is. absurd (false≢true (sym stores ∙ (and_parts x.load (is_own_base x) is).0));
            written_back = λ is writes. written writes;
            kept = λ is keeps. kept keeps;
          };
          stores_old = λ store own. (
            spot,
            here,
            ap (λ (value : ℕ). put_single x.byte spot (address_at x regs) value bus)
                (gives (same_stands (current_mode regs) x.rd x.rn own)),
          );
        }

    single_carried_base : SingleBase x port regs bus (single_carried_out x base port spot regs bus)
    unfolding single_carried_out
    single_carried_base =
        cond_both x.load _ _ (SingleBase x port regs bus) single_loads_base single_stores_base

  single_base_by : (within : Bool) (found : Result Spot TransferFault)
      → or_fault (located bus.memc (address_at x regs) (has_user_rights x (current_mode regs)) (not x.load)) ≡ found
      → (cond within (single_by x base port found regs bus) (out_of_space regs bus)).kind ≡ Plain
      → SingleBase x port regs bus
      (cond within (single_by x base port found regs bus) (out_of_space regs bus))
  unfolding single_by
  single_base_by false found is plain = absurd (not_taken vector.AddressException regs bus plain)
  single_base_by true (Err t) is plain = absurd (not_faulted t regs bus plain)
  single_base_by true (Ok spot) is plain = single_carried_base spot (met_located _ spot is)

  single_base_at : (single_at x base port regs bus).kind ≡ Plain
      → SingleBase x port regs bus (single_at x base port regs bus)
  unfolding single_at
  single_base_at plain = single_base_by _ _ refl plain

-- a base other than R15
first_is_base : (rn : Register) (regs : List ℕ) → register_number rn ≢ 15
    → first_of 8 rn regs ≡ current_in rn regs
first_is_base rn regs other =
    cond-false (register_number rn == 15) _ (current_in rn regs) (ne_eqb (register_number rn) 15 other)

pub single_base : (x : Single) (port : ℕ) (regs : List ℕ) (bus : Bus)
    → length regs ≡ 27 → register_number x.rn ≢ 15 → (single_moved x port regs bus).kind ≡ Plain
    → SingleBase x port regs bus (single_moved x port regs bus)
single_base x port regs bus all other =
    let at = single_base_at x port regs bus other (omega (arith, all)) in
    subst
    (λ (base : ℕ).
    (single_at x base port regs bus).kind ≡ Plain
    → SingleBase x port regs bus (single_at x base port regs bus))
    (sym (first_is_base x.rn regs other)) at
