-- Block transfers.
use Rattle.std.proofs.Common.{◌≡◌, ℕ, ◌+◌, ◌<◌, ◌&&◌, ◌||◌, nat_lt, Bool, true, false, cond, List, [], ◌∷◌, length, Result, Ok, Err, refl, sym, ap, subst, ◌∙◌, arith}
use Rattle.std.specs.Prelude.{slice_index, filter}
use Rattle.std.specs.List.{list_any, position_or_len}
use Rattle.std.proofs.lemmas.Bool.{false≢true, ltb-true, or_parts}
use Rattle.bus_ticks.specs.declared.space.TheConstants.{SPACE_END}
use Rattle.arm2_decode.specs.Names.{is_pc}
use Rattle.arm2_decode.specs.Transfers.{all_registers, is_listed, registers_in, word_count}
use Rattle.arm2_decode.specs.declared.instr.Block.{Block}
use Rattle.arm2_decode.specs.declared.names.Register.{Register}
use Rattle.arm2_decode.specs.declared.names.Register.TheVariants.{R15}
use Rattle.arm2_effect.specs.declared.exceptions.Vector.TheVariants as vector
use Rattle.arm2_effect.specs.declared.modes.Mode.{Mode}
use Rattle.arm2_effect.specs.declared.step_end.Kind.TheVariants.{Plain}
use Rattle.arm2_effect.specs.Modes.{r15_in}
use Rattle.arm2_effect.specs.Operands.{current_in, current_mode}
use Rattle.arm2_effect.specs.ProgramCounter.{address_of, r15_ahead}
use Rattle.arm2_transfer.specs.declared.bus.Bus.{Bus}
use Rattle.arm2_transfer.specs.declared.span.Span.{Span}
use Rattle.arm2_transfer.specs.declared.words.Move.{Move}
use Rattle.arm2_transfer.specs.declared.words.TransferFault.{TransferFault}
use Rattle.arm2_transfer.specs.Bases.{IsWordSpot, base_moved, lowest_at}
use Rattle.arm2_transfer.specs.Block.{block_at, block_by, block_carried_out, block_loads, block_mode, block_moved, block_stores, load_all, span_of}
use Rattle.arm2_transfer.specs.Bus.{seen}
use Rattle.arm2_transfer.specs.Moved.{Moved, out_of_space}
use Rattle.arm2_transfer.specs.Registers.{loaded_r15, passed, with_base}
use Rattle.arm2_transfer.specs.Words.{verdict_of}
use Rattle.arm2_transfer.proofs.BaseLemmas.{block_base}
use Rattle.arm2_transfer.proofs.Slots.{loaded_apart, loaded_here, one_listed, stands_at}
use Rattle.operation_laws.specs.Leaves.{IsBlockWord, IsListedWord, LeavesBlock, loads_at, loads_pc, moves_at, next_of}
use Rattle.operation_laws.specs.Left.{LeavesR15, LeavesRegisters, Kept, Restored, is_at}
use Rattle.operation_laws.proofs.LoadedWords.{LoadsAt, Placed, all_long, all_placed, none_loaded, one_loaded, words_on}
use Rattle.operation_laws.proofs.R15Lemmas.{ahead_left, is_word_address, jumped_left, restored_left}
use Rattle.operation_laws.proofs.SingleLaws.{loaded_other, loaded_pc, not_faulted, not_taken, or_second, passed_apart, passed_long, passed_r15}
use Rattle.operation_laws.proofs.WriteLemmas.{based_apart, based_here, based_long, based_r15, pc_stands}

-- ## R15 among the registers of a list

by_true : (b c : Bool) → (b || c) ≡ ((b && true) || c)
by_true true c = refl
by_true false c = refl

by_false : (b c : Bool) → c ≡ ((b && false) || c)
by_false true c = refl
by_false false c = refl

any_chosen : (test : Register → Bool) (x : Register) (xs : List Register) (kept : Bool)
    → list_any test (cond kept (x ∷ xs) xs) ≡ ((test x && kept) || list_any test xs)
any_chosen test x xs true = by_true (test x) (list_any test xs)
any_chosen test x xs false = by_false (test x) (list_any test xs)

pub any_filtered : (test kept : Register → Bool) (xs : List Register)
    → list_any test (filter kept xs) ≡ list_any (λ x. test x && kept x) xs
any_filtered test kept [] = refl
any_filtered test kept (x ∷ xs) =
    any_chosen test x (filter kept xs) (kept x)
    ∙ ap (λ (b : Bool). (test x && kept x) || b) (any_filtered test kept xs)

or_nothing : (b : Bool) → (b || false) ≡ b
or_nothing true = refl
or_nothing false = refl

any_pc : (kept : Register → Bool) → list_any (λ x. is_pc x && kept x) all_registers ≡ kept R15
unfolding all_registers
any_pc kept = or_nothing (kept R15)

pc_listed : (mode : Mode) (list : ℕ) → list_any (stands_at mode 26) (registers_in list) ≡ is_listed list R15
pc_listed mode list =
    ap (λ (test : Register → Bool). list_any test (registers_in list)) (λ i r. pc_stands mode r i)
    ∙ any_filtered is_pc (is_listed list) all_registers ∙ any_pc (is_listed list)

-- ## One loaded word

module _ (psr : Bool) (mode : Mode) (r : ℕ) (bus : Bus) (port : ℕ) where
  at_place : (p : ℕ) → p < 26 → LoadsAt psr mode r bus port p (λ word. word)
  at_place p low =
      record {
        here = λ register word now long is. loaded_here mode p register now low psr r word long is;
        apart = λ register word now is. loaded_apart mode p register now low psr r word is;
      }

  at_r15 : LoadsAt psr mode r bus port 26 (loaded_r15 psr r)
  at_r15 =
      record {
        here = λ register word now long is.
            loaded_pc psr mode r word register now long (sym (pc_stands mode register) ∙ is);
        apart = λ register word now is.
            loaded_other psr mode r word register now (sym (pc_stands mode register) ∙ is);
      }

loaded_left : (psr : Bool) (r word : ℕ)
    → LeavesR15 (address_of word) (cond psr (Restored word) Kept) r (loaded_r15 psr r word)
loaded_left true r word = restored_left r (address_of word) (is_word_address word) word
loaded_left false r word = jumped_left r word

-- ## A block

not_refused : (b : Bool) (m n : ℕ) → ◌≡◌ {A = ℕ} (cond b (m + 1) n) 0 → b ≡ false
not_refused true m n e = absurd (omega (arith, e))
not_refused false m n e = refl

module _ (x : Block) (port : ℕ) (regs : List ℕ) (bus : Bus) (long : length regs ≡ 27) where
  abbrev r : ℕ
  r = r15_in regs

  abbrev mode : Mode
  mode = current_mode regs

  abbrev span : Span
  span = span_of x (current_in x.rn regs) (word_count x.list)

  abbrev registers : List Register
  registers = registers_in x.list

  far : 26 < length regs
  far = omega (arith, long)

  base_other : is_pc x.rn ≡ false
  base_other = not_refused (is_pc x.rn) 6 _ x.allocated

  -- what is left of the registers, and the bus after a load
  record BlockLeft (m : Moved) : Type 0 where
    r15_word : ℕ
    is_r15_word : loads_pc x ≡ true → IsListedWord x port regs bus 26 r15_word
    left : LeavesRegisters
        (λ p. loads_at x regs p || (x.write_back && is_at regs x.rn p))
        (IsBlockWord x port regs bus)
        (cond (loads_pc x) (address_of r15_word) (next_of regs))
        (cond (loads_pc x && x.user) (Restored r15_word) Kept)
        regs m.regs
    loads : x.load ≡ true → m.bus ≡ bus

  -- ## A load

  abbrev written : List ℕ
  written = with_base x.write_back mode x.rn (base_moved x regs) (passed regs)

  written_long : length written ≡ length regs
  written_long = based_long mode x.rn (base_moved x regs) (passed regs) x.write_back ∙ passed_long regs far

  far_written : 26 < length written
  far_written = omega (arith, far, written_long)

  module _ (moves : List Move) (placed : Placed x regs bus 0 registers moves) (loads : x.load ≡ true) where
    abbrev after : List ℕ
    after = load_all x.user (block_mode x regs) r bus port moves written

    abbrev lists : (p : ℕ) → Bool
    lists p = list_any (moves_at x regs p) registers

    listed : (p : ℕ) (b : Bool) → loads_at x regs p ≡ b → lists p ≡ b
    listed p b is = ap (λ (l : Bool). l && lists p) (sym loads) ∙ is

    no_word : (p : ℕ) → p < 26 → loads_at x regs p ≡ false → slice_index after p ≡ slice_index written p
    no_word p low is =
        none_loaded x.user (block_mode x regs) r bus port x regs p (λ word. word)
        (at_place x.user (block_mode x regs) r bus port p low) 0 registers moves written placed (listed p false is)

    a_word : (p : ℕ) → p < 26 → loads_at x regs p ≡ true → IsListedWord x port regs bus p (slice_index after p)
    a_word p low is =
        let found =
        one_loaded x.user (block_mode x regs) r bus port x regs p (λ word. word)
        (at_place x.user (block_mode x regs) r bus port p low) 0 registers moves written placed far_written
        (one_listed (block_mode x regs) p (is_listed x.list)) (listed p true is) in
        let first : 0 + position_or_len (moves_at x regs p) registers ≡ position_or_len (moves_at x regs p) registers =
        omega arith in
        (found.0, subst (λ (k : ℕ). IsWordSpot x regs bus k found.0) first found.1, found.2)

    load_word : (p : ℕ) → p < 26 → (loads_at x regs p || (x.write_back && is_at regs x.rn p)) ≡ true
        → IsBlockWord x port regs bus p (slice_index after p)
    load_word p low is =
        record {
          loaded = a_word p low;
          base = λ none.
              no_word p low none
              ∙ based_here mode x.rn (base_moved x regs) (passed regs) x.write_back p
              (omega (arith, low, far, passed_long regs far))
              (or_second (loads_at x regs p) (x.write_back && is_at regs x.rn p) none is);
        }

    load_kept : (p : ℕ) → p < 26 → (loads_at x regs p || (x.write_back && is_at regs x.rn p)) ≡ false
        → slice_index after p ≡ slice_index regs p
    load_kept p low is =
        let parts = or_parts (loads_at x regs p) (x.write_back && is_at regs x.rn p) is in
        no_word p low parts.0
        ∙ based_apart mode x.rn (base_moved x regs) (passed regs) x.write_back p parts.1
        ∙ passed_apart regs far p low

    abbrev R15By : (to_pc : Bool) → (word : ℕ) → Type 0
    R15By to_pc word =
        LeavesR15 (cond to_pc (address_of word) (next_of regs)) (cond (to_pc && x.user) (Restored word) Kept) r
        (r15_in after)

    abbrev LoadLeft : Type 0
    LoadLeft = (word : ℕ) × (loads_pc x ≡ true → IsListedWord x port regs bus 26 word) × R15By (loads_pc x) word

    pc_of : (b : Bool) → loads_pc x ≡ b → lists 26 ≡ b
    pc_of b is =
        pc_listed (block_mode x regs) x.list ∙ ap (λ (l : Bool). l && is_listed x.list R15) (sym loads) ∙ is

    load_r15 : (b : Bool) → loads_pc x ≡ b → LoadLeft
    load_r15 true is =
        let found =
        one_loaded x.user (block_mode x regs) r bus port x regs 26 (loaded_r15 x.user r)
        (at_r15 x.user (block_mode x regs) r bus port) 0 registers moves written placed far_written
        (one_listed (block_mode x regs) 26 (is_listed x.list)) (pc_of true is) in
        let word = seen bus port found.0 in
        let first : 0 + position_or_len (moves_at x regs 26) registers ≡ position_or_len (moves_at x regs 26) registers =
        omega arith in
        let goes : R15By true word =
        subst (LeavesR15 (address_of word) (cond x.user (Restored word) Kept) r) (sym found.2)
        (loaded_left x.user r word) in (
          word,
          λ pc. (found.0, subst (λ (k : ℕ). IsWordSpot x regs bus k found.0) first found.1, refl),
          subst (λ (b : Bool). R15By b word) (sym is) goes,
        )
    load_r15 false is =
        let stays =
        none_loaded x.user (block_mode x regs) r bus port x regs 26 (loaded_r15 x.user r)
        (at_r15 x.user (block_mode x regs) r bus port) 0 registers moves written placed (pc_of false is) in
        let on : r15_in after ≡ r15_ahead r 4 =
        stays ∙ based_r15 mode x.rn (base_moved x regs) (passed regs) x.write_back (λ w. base_other)
        ∙ passed_r15 regs far in
        let goes : R15By false 0 = subst (LeavesR15 (next_of regs) Kept r) (sym on) (ahead_left r) in (
          0,
          λ pc. absurd (false≢true (sym is ∙ pc)),
          subst (λ (b : Bool). R15By b 0) (sym is) goes,
        )

    loads_left : BlockLeft (block_loads x span port moves regs bus)
    unfolding block_loads
    loads_left =
        let pc = load_r15 (loads_pc x) refl in
        record {
          r15_word = pc.0;
          is_r15_word = pc.1;
          left = record {
            as_many = all_long x.user (block_mode x regs) r bus port moves written ∙ written_long;
            written = load_word;
            kept = load_kept;
            r15 = pc.2;
          };
          loads = λ is. refl;
        }

  -- ## A store

  stores_left : (moves : List Move) → x.load ≡ false → BlockLeft (block_stores x span moves regs bus)
  unfolding block_stores
  stores_left moves stores =
      let based = with_base x.write_back mode x.rn (base_moved x regs) regs in
      let based_is = based_long mode x.rn (base_moved x regs) regs x.write_back in
      let far_based : 26 < length based = omega (arith, far, based_is) in
      let none : (p : ℕ) → loads_at x regs p ≡ false =
      λ p. ap (λ (l : Bool). l && list_any (moves_at x regs p) registers) stores in
      let no_pc : loads_pc x ≡ false = ap (λ (l : Bool). l && is_listed x.list R15) stores in
      let on : r15_in (passed based) ≡ r15_ahead r 4 =
      passed_r15 based far_based
      ∙ ap (λ (n : ℕ). r15_ahead n 4) (based_r15 mode x.rn (base_moved x regs) regs x.write_back (λ w. base_other)) in
      let goes : LeavesR15 (next_of regs) Kept r (r15_in (passed based)) =
      subst (LeavesR15 (next_of regs) Kept r) (sym on) (ahead_left r) in
      record {
        r15_word = 0;
        is_r15_word = λ pc. absurd (false≢true (sym no_pc ∙ pc));
        left = record {
          as_many = passed_long based far_based ∙ based_is;
          written = λ p low is.
              let writes = or_second (loads_at x regs p) (x.write_back && is_at regs x.rn p) (none p) is in
              record {
                loaded = λ some. absurd (false≢true (sym (none p) ∙ some));
                base = λ _.
                    passed_apart based far_based p low
                    ∙ based_here mode x.rn (base_moved x regs) regs x.write_back p (omega (arith, low, far)) writes;
              };
          kept = λ p low is.
              passed_apart based far_based p low
              ∙ based_apart mode x.rn (base_moved x regs) regs x.write_back p
              (or_parts (loads_at x regs p) (x.write_back && is_at regs x.rn p) is).1;
          r15 = subst
              (λ (b : Bool).
              LeavesR15 (cond b (address_of 0) (next_of regs)) (cond (b && x.user) (Restored 0) Kept) r
              (r15_in (passed based)))
              (sym no_pc) goes;
        };
        loads = λ is. absurd (false≢true (sym stores ∙ is));
      }

  -- ## Either, where it is carried out

  carried_by : (moves : List Move) → Placed x regs bus 0 registers moves → (load : Bool) → x.load ≡ load
      → BlockLeft (cond load (block_loads x span port moves regs bus) (block_stores x span moves regs bus))
  carried_by moves placed true is = loads_left moves placed is
  carried_by moves placed false is = stores_left moves is

  block_left_by : (within : Bool) (found : Result (List Move) TransferFault)
      → verdict_of (words_on x regs bus 0 registers) ≡ found
      → (cond within (block_by x span port found regs bus) (out_of_space regs bus)).kind ≡ Plain
      → BlockLeft (cond within (block_by x span port found regs bus) (out_of_space regs bus)) × (within ≡ true)
  unfolding block_by block_carried_out
  block_left_by false found is plain = absurd (not_taken vector.AddressException regs bus plain)
  block_left_by true (Err t) is plain = absurd (not_faulted t regs bus plain)
  block_left_by true (Ok moves) is plain = (carried_by moves (all_placed x regs bus moves is) x.load refl, refl)

  pub block_left : (block_moved x port regs bus).kind ≡ Plain
      → LeavesBlock x port regs bus (block_moved x port regs bus)
  unfolding block_at block_moved
  block_left plain =
      let both = block_left_by (nat_lt (lowest_at x regs) SPACE_END) _ refl plain in
      let base = block_base x port regs bus long plain in
      record {
        in_space = ltb-true (lowest_at x regs) SPACE_END both.1;
        r15_word = both.0.r15_word;
        is_r15_word = both.0.is_r15_word;
        registers = both.0.left;
        loads = both.0.loads;
        stores = base.stores;
      }
