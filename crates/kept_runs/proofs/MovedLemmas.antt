-- What a word that is done transfers and the cycles that it takes, against what is read of it beforehand.
use Rattle.std.proofs.Common.{◌≡◌, ℕ, zero, suc, ◌<◌, ◌≤◌, ◌==◌, ◌^◌, ◌⊎◌, inl, inr, not, nat_lt, Bool, true, false, cond, List, [], ◌∷◌, ◌++◌, length, Option, Some, None, Result, Ok, Err, refl, sym, ap, subst, ◌∙◌, arith, append_assoc}
use Rattle.std.specs.Prelude.{All, Contains, IfSome}
use Rattle.std.proofs.Math.ListN.{length-set}
use Rattle.std.proofs.Math.Nat.{eq-or-lt_of_le}
use Rattle.std.proofs.lemmas.Bool.{ltb-true}
use Rattle.std.proofs.lemmas.List.Elements.{All-append, All-contains, All-from_recursion, Contains-append_left, Contains-append_right}
use Rattle.shifter.specs.Shifts.{multiply_cycles}
use Rattle.bus_ticks.specs.Prices.{ahead_of, word_address}
use Rattle.bus_ticks.specs.Worst.{IsOf}
use Rattle.bus_ticks.specs.declared.profile.Class.{Class}
use Rattle.arm2_decode.specs.Names.{is_compare, is_pc, register_number}
use Rattle.arm2_decode.specs.Transfers.{is_listed, word_count}
use Rattle.arm2_decode.specs.declared.instr.Block.{Block}
use Rattle.arm2_decode.specs.declared.instr.Branch.{Branch}
use Rattle.arm2_decode.specs.declared.instr.Instr.{Instr}
use Rattle.arm2_decode.specs.declared.instr.Multiply.{Multiply}
use Rattle.arm2_decode.specs.declared.instr.Operation.{Operation}
use Rattle.arm2_decode.specs.declared.instr.Operation.TheVariants as operation
use Rattle.arm2_decode.specs.declared.instr.Unallocated.{Unallocated}
use Rattle.arm2_decode.specs.declared.names.Opcode.{Opcode}
use Rattle.arm2_decode.specs.declared.names.Register.{Register}
use Rattle.arm2_decode.specs.declared.names.Register.TheVariants.{R15}
use Rattle.memc.specs.declared.spots.Spot.{Spot}
use Rattle.arm2_effect.specs.declared.exceptions.Vector.{Vector}
use Rattle.arm2_effect.specs.declared.modes.Mode.{Mode}
use Rattle.arm2_effect.specs.declared.step_end.Kind.TheVariants.{Plain}
use Rattle.arm2_effect.specs.declared.step_end.Why.{Why}
use Rattle.arm2_effect.specs.declared.step_end.Why.TheVariants as why
use Rattle.arm2_effect.specs.Effects as effect
use Rattle.arm2_effect.specs.Effects.{Effect, FetchN, FetchS, Internal, Word, onward, skipped, stopped, straight}
use Rattle.arm2_effect.specs.Exceptions.{taken}
use Rattle.arm2_effect.specs.Operands.{current_in}
use Rattle.arm2_effect.specs.Modes.{r15_in, register_in, slot_of, with_r15, with_register}
use Rattle.arm2_effect.specs.Operations.{branch_effect, compared, data_immediate_effect, data_register_effect, data_register_shift_effect, delayed, entered, jumped, multiply_effect, operation_effect, outcome_effect, product_of}
use Rattle.arm2_effect.specs.ProgramCounter.{address_of, mode_of, r15_ahead}
use Rattle.arm2_transfer.specs.declared.bus.Bus.{Bus}
use Rattle.arm2_transfer.specs.declared.single_fields.Single.{Single}
use Rattle.arm2_transfer.specs.declared.span.Span.{Span}
use Rattle.arm2_transfer.specs.declared.words.Move.{Move}
use Rattle.arm2_transfer.specs.declared.words.TransferFault.{TransferFault}
use Rattle.arm2_transfer.specs.declared.words.TransferFault.TheVariants as fault
use Rattle.arm2_transfer.specs.Block.{load_all, block_at, block_by, block_carried_out, block_loads, block_moved, block_stores, mode_for, span_of}
use Rattle.arm2_transfer.specs.Moved.{Moved, faulted, load_accesses, on_bus, store_accesses, words_at}
use Rattle.arm2_transfer.specs.Operations.{operation_moved}
use Rattle.arm2_transfer.specs.Registers.{passed, with_base, with_loaded}
use Rattle.arm2_transfer.specs.Single.{address_for, base_after, of_immediate, of_register, single_at, single_by, single_carried_out, single_loaded, single_loads, single_stores}
use Rattle.arm2_exec.specs.Step.{Obeys, instruction_moved, unallocated_moved}
use Rattle.flow_graph.specs.StepLaw.{TakesWithin, TransfersIn, holds_in}
use Rattle.flow_graph.proofs.StepTicks.{words_there}
use Rattle.flow_graph.proofs.TightTicks.{IsIn, load_in, load_short, store_short, straight_in, takes_within, transfers_in, words_in}
use Rattle.kept_runs.specs.declared.transfers.Access.{Access}
use Rattle.kept_runs.specs.declared.transfers.Transfer.{Transfer}
use Rattle.kept_runs.specs.Judging.{IsFirstOther}
use Rattle.kept_runs.specs.Transfers.{HasNoOther, HasOther, block_words, words_of}
use Rattle.kept_runs.specs.Reading.{IsReading, cycles_if, multiplier_cycles, transfer_if}
use Rattle.kept_runs.specs.declared.reading.Reading.{Reading}
use Rattle.control_flow.proofs.SortedLemmas.{here}
use Rattle.arm2_decode.proofs.Unique.{never_both, one_instr, one_unallocated}

-- ## Accesses

-- it fetches, and nothing else
abbrev IsFetch : effect.Access → Type 0
IsFetch (FetchN x) = Unit {0}
IsFetch (FetchS x) = Unit {0}
IsFetch (Word store first x) = ⊥
IsFetch (Internal cycles) = ⊥

straight_fetches : (a : ℕ) → All IsFetch (straight a)
straight_fetches a = All-from_recursion IsFetch (straight a) (tt, tt)

onward_fetches : (a t : ℕ) → All IsFetch (onward a t)
onward_fetches a t = All-from_recursion IsFetch (onward a t) (tt, (tt, (tt, tt)))

module _ (class : Class) where
  fetch_in : (a : ℕ) → All (IsIn class) (FetchN a ∷ [])
  fetch_in a = All-from_recursion (IsIn class) (FetchN a ∷ []) (tt, tt)

  store_in : (a x k : ℕ) → ((i : ℕ) → i < k → IsOf class (word_address x i)) → All (IsIn class) (store_accesses a x k)
  store_in a x k each =
      All-append (IsIn class) (FetchN (ahead_of a 8) ∷ []) (words_at true x k)
      (All-from_recursion (IsIn class) (FetchN (ahead_of a 8) ∷ []) (tt, tt))
      (words_in class true x k each)

-- the list has the element right after these
abbrev IsSplitAt : (all before : List effect.Access) → effect.Access → Type 0
IsSplitAt all before x = (after : List effect.Access) × (all ≡ before ++ x ∷ after)

split_after : (front words before : List effect.Access) (x : effect.Access) → IsSplitAt words before x → IsSplitAt (front ++ words) (front ++ before) x
split_after front words before x (after, is) = (after, ap (λ ws. front ++ ws) is ∙ sym (append_assoc front before (x ∷ after)))

split_within : (front words tail before : List effect.Access) (x : effect.Access) → IsSplitAt words before x → IsSplitAt ((front ++ words) ++ tail) (front ++ before) x
split_within front words tail before x at =
    let after_front = split_after front words before x at in
    (after_front.0 ++ tail, ap (λ ws. ws ++ tail) after_front.1 ∙ append_assoc (front ++ before) (x ∷ after_front.0) tail)

-- the words of a transfer are in their order
words_split : (store : Bool) (address k i : ℕ) → i < k → IsSplitAt (words_at store address k) (words_at store address i) (Word store (i == 0) (word_address address i))
unfolding words_at
words_split store address zero i h = absurd (omega arith)
words_split store address (suc k) i h = by_place (λ less. words_split store address k i less) (eq-or-lt_of_le (let le : i ≤ k = omega arith in le))
  where
    by_place : (i < k → IsSplitAt (words_at store address k) (words_at store address i) (Word store (i == 0) (word_address address i))) → (i ≡ k) ⊎ (i < k)
        → IsSplitAt (words_at store address k ++ Word store (k == 0) (word_address address k) ∷ []) (words_at store address i) (Word store (i == 0) (word_address address i))
    by_place before (inl same) = ([], ap (λ (n : ℕ). words_at store address n ++ Word store (n == 0) (word_address address n) ∷ []) (sym same))
    by_place before (inr less) =
        let at = before less in (
          at.0 ++ Word store (k == 0) (word_address address k) ∷ [],
          ap (λ ws. ws ++ Word store (k == 0) (word_address address k) ∷ []) at.1
              ∙ append_assoc (words_at store address i) (Word store (i == 0) (word_address address i) ∷ at.0) (Word store (k == 0) (word_address address k) ∷ []),
        )

-- ## Lengths

either_long : (b : Bool) (xs ys : List ℕ) (n : ℕ) → length xs ≡ n → length ys ≡ n → length (cond b xs ys) ≡ n
either_long true xs ys n h k = h
either_long false xs ys n h k = k

module _ (regs : List ℕ) where
  with_long : (mode : Mode) (n value : ℕ) → length (with_register mode n value regs) ≡ length regs
  with_long mode n value = length-set regs (slot_of mode n) value

  r15_long : (value : ℕ) → length (with_r15 value regs) ≡ length regs
  r15_long value = length-set regs 26 value

  based_long : (write_back : Bool) (mode : Mode) (rn : Register) (base : ℕ) → length (with_base write_back mode rn base regs) ≡ length regs
  based_long write_back mode rn base = either_long write_back (with_register mode (register_number rn) base regs) regs (length regs) (with_long mode (register_number rn) base) refl

  loaded_long : (psr : Bool) (mode : Mode) (r : ℕ) (register : Register) (word : ℕ) → length (with_loaded psr mode r register word regs) ≡ length regs
  loaded_long psr mode r register word = either_long (is_pc register) (with_r15 _ regs) (with_register mode (register_number register) word regs) (length regs) (r15_long _) (with_long mode (register_number register) word)

load_all_long : (psr : Bool) (mode : Mode) (r : ℕ) (bus : Bus) (port : ℕ) (moves : List Move) (regs : List ℕ) → length (load_all psr mode r bus port moves regs) ≡ length regs
load_all_long psr mode r bus port [] regs = refl
load_all_long psr mode r bus port (move ∷ rest) regs =
    load_all_long psr mode r bus port rest (with_loaded psr mode r move.register _ regs) ∙ loaded_long regs psr mode r move.register _

-- ## What is done

-- Where a step ends as other instructions do: its words are of the class where none of the transfer's is of
-- another; each of the transfer's that is of another is among its words, and the first is named; it takes the
-- multiplier's cycles, if any, and no more but single ones; and there are as many registers.
pub record Moves (class : Class) (regs : List ℕ) (t : Option Transfer) (c : Option ℕ) (m : Moved) : Type 0 where
  pub in_class : m.kind ≡ Plain → HasNoOther class t → TransfersIn class m.accesses
  pub there : m.kind ≡ Plain → (access : Access) → HasOther class t access
      → (first : Bool) × Contains m.accesses (Word access.store first access.address)
  pub first_other : m.kind ≡ Plain → (access : Access) → HasOther class t access → IsFirstOther class m.accesses access
  pub within : m.kind ≡ Plain → (most : ℕ) → 1 ≤ most → IfSome c (λ cycles. cycles ≤ most) → TakesWithin most m.accesses
  pub takes : m.kind ≡ Plain → IfSome c (λ cycles. Contains m.accesses (Internal cycles))
  pub registers : m.kind ≡ Plain → length m.regs ≡ length regs

module _ (class : Class) (regs : List ℕ) (bus : Bus) where
  -- no multiplier
  abbrev IsMoved : Option Transfer → Moved → Type 0
  IsMoved t m = Moves class regs t None m

  -- no words
  none : (e : Effect) → All IsFetch e.accesses → length e.regs ≡ length regs → IsMoved None (on_bus bus e)
  none e all long = record {
    in_class = λ plain no store first x at. absurd (All-contains IsFetch e.accesses (Word store first x) all at);
    there = λ plain access has. absurd has;
    first_other = λ plain access has. absurd has;
    within = λ plain most some few cycles at. absurd (All-contains IsFetch e.accesses (Internal cycles) all at);
    takes = λ plain. tt;
    registers = λ plain. long;
  }

  -- what ends in another way
  not_plain : (t : Option Transfer) (m : Moved) → (m.kind ≡ Plain → ⊥) → IsMoved t m
  not_plain t m other = record {
    in_class = λ plain no. absurd (other plain);
    there = λ plain access has. absurd (other plain);
    first_other = λ plain access has. absurd (other plain);
    within = λ plain most some few. absurd (other plain);
    takes = λ plain. tt;
    registers = λ plain. absurd (other plain);
  }

  taken_moves : (t : Option Transfer) (vector : Vector) → IsMoved t (on_bus bus (taken vector regs))
  unfolding taken
  taken_moves t vector = not_plain t (on_bus bus (taken vector regs)) (λ plain. cc)

  stopped_moves : (t : Option Transfer) (w : Why) → IsMoved t (on_bus bus (stopped w regs))
  unfolding stopped
  stopped_moves t w = not_plain t (on_bus bus (stopped w regs)) (λ plain. cc)

  faulted_moves : (t : Option Transfer) (f : TransferFault) → IsMoved t (faulted f regs bus)
  faulted_moves t fault.DataAbort = taken_moves t _
  faulted_moves t fault.UnsupportedWrite = stopped_moves t _

  choose : (t : Option Transfer) (b : Bool) (m n : Moved) → (b ≡ true → IsMoved t m) → IsMoved t n → IsMoved t (cond b m n)
  choose t true m n h k = h refl
  choose t false m n h k = k

  -- ## Data processing, multiplies and branches

  pub skipped_moves : IsMoved None (on_bus bus (skipped regs))
  unfolding skipped
  skipped_moves = none (skipped regs) (straight_fetches _) (r15_long regs _)

  entered_moves : (sets_flags : Bool) (rd : Register) (out : _) → IsMoved None (on_bus bus (entered sets_flags rd out regs))
  unfolding entered
  entered_moves sets_flags rd out =
      none (entered sets_flags rd out regs) (straight_fetches _) (r15_long (with_register (mode_of (r15_in regs)) (register_number rd) out.value regs) _ ∙ with_long regs (mode_of (r15_in regs)) (register_number rd) out.value)

  jumped_moves : (sets_flags : Bool) (out : _) → IsMoved None (on_bus bus (jumped sets_flags out regs))
  unfolding jumped
  jumped_moves sets_flags out = none (jumped sets_flags out regs) (onward_fetches _ _) (r15_long regs _)

  compared_moves : (rd : Register) (out : _) → IsMoved None (on_bus bus (compared rd out regs))
  unfolding compared
  compared_moves rd out = none (compared rd out regs) (straight_fetches _) (r15_long regs _)

  placed_by : (compares to_pc : Bool) (c j e : Effect) → IsMoved None (on_bus bus c) → IsMoved None (on_bus bus j) → IsMoved None (on_bus bus e) → IsMoved None (on_bus bus (cond compares c (cond to_pc j e)))
  placed_by true to_pc c j e hc hj he = hc
  placed_by false true c j e hc hj he = hj
  placed_by false false c j e hc hj he = he

  placed_moves : (o : Opcode) (sets_flags : Bool) (rd : Register) (out : _) → IsMoved None (on_bus bus (outcome_effect o sets_flags rd out regs))
  unfolding outcome_effect
  placed_moves o sets_flags rd out =
      placed_by (is_compare o) (is_pc rd) (compared rd out regs) (jumped sets_flags out regs) (entered sets_flags rd out regs)
      (compared_moves rd out) (jumped_moves sets_flags out) (entered_moves sets_flags rd out)

  -- internal cycles before
  cycles_no_word : (cycles : ℕ) (accesses : List effect.Access) → TransfersIn class accesses → TransfersIn class (Internal cycles ∷ accesses)
  cycles_no_word cycles accesses all store first x (zero, lt, at) = absurd (cc)
  cycles_no_word cycles accesses all store first x (suc k, lt, at) = all store first x (k, omega (arith, lt), at)

  cycles_within : (most cycles : ℕ) (accesses : List effect.Access) → cycles ≤ most → TakesWithin most accesses → TakesWithin most (Internal cycles ∷ accesses)
  cycles_within most cycles accesses few all n (zero, lt, at) = let same : cycles ≡ n = cc in subst (λ k. k ≤ most) same few
  cycles_within most cycles accesses few all n (suc k, lt, at) = all n (k, omega (arith, lt), at)

  -- a multiplier's, or a single one
  delayed_by : (c : Option ℕ) (cycles : ℕ) (e : Effect) → ((most : ℕ) → 1 ≤ most → IfSome c (λ n. n ≤ most) → cycles ≤ most) → IfSome c (λ n. Contains (Internal cycles ∷ e.accesses) (Internal n))
      → IsMoved None (on_bus bus e) → Moves class regs None c (on_bus bus (delayed cycles e))
  delayed_by c cycles e few there h = record {
    in_class = λ plain no. cycles_no_word cycles e.accesses (h.in_class plain no);
    there = λ plain access has. absurd has;
    first_other = λ plain access has. absurd has;
    within = λ plain most some stated. cycles_within most cycles e.accesses (few most some stated) (h.within plain most some tt);
    takes = λ plain. there;
    registers = λ plain. h.registers plain;
  }

  delayed_moves : (e : Effect) → IsMoved None (on_bus bus e) → IsMoved None (on_bus bus (delayed 1 e))
  delayed_moves e h = delayed_by None 1 e (λ most some few. some) tt h

  multiply_moves : (x : Multiply) → Moves class regs None (multiplier_cycles (operation.Multiply x) regs) (on_bus bus (multiply_effect x regs))
  unfolding multiply_effect
  multiply_moves x =
      let cycles : ℕ = multiply_cycles (current_in x.rs regs) in
      let then : Effect = entered x.sets_flags x.rd (product_of x regs) regs in
      delayed_by (Some cycles) cycles then (λ most some few. few) (here (Internal cycles) then.accesses) (entered_moves x.sets_flags x.rd (product_of x regs))

  branch_moves : (x : Branch) → IsMoved None (on_bus bus (branch_effect x regs))
  unfolding branch_effect
  branch_moves x =
      none (branch_effect x regs) (onward_fetches _ _)
      (r15_long (cond x.link (with_register (mode_of (r15_in regs)) 14 (r15_ahead (r15_in regs) 4) regs) regs) _
      ∙ either_long x.link (with_register (mode_of (r15_in regs)) 14 (r15_ahead (r15_in regs) 4) regs) regs (length regs) (with_long regs (mode_of (r15_in regs)) 14 (r15_ahead (r15_in regs) 4)) refl)

  -- ## Transfers

  -- a word of the transfer, where the accesses have it
  at_word : (store : Bool) (address words : ℕ) (accesses : List effect.Access) → ((k : ℕ) → k < words → Contains accesses (Word store (k == 0) (word_address address k)))
      → (access : Access) → HasOther class (Some (record { address = address; words = words; store = store })) access → (first : Bool) × Contains accesses (Word access.store first access.address)
  at_word store address words accesses each access has =
      let h = has.1 in (
        h.number == 0,
        subst (λ (b : Bool). Contains accesses (Word b (h.number == 0) access.address)) (sym h.store)
            (subst (λ (n : ℕ). Contains accesses (Word store (h.number == 0) n)) (sym h.address_is) (each h.number h.below)),
      )

  -- the first of another class, where the accesses in front of the words are none of the transfer's
  first_word : (store : Bool) (address words : ℕ) (front accesses : List effect.Access) → All (IsIn class) front
      → ((k : ℕ) → k < words → IsSplitAt accesses (front ++ words_at store address k) (Word store (k == 0) (word_address address k)))
      → (access : Access) → HasOther class (Some (record { address = address; words = words; store = store })) access → IsFirstOther class accesses access
  first_word store address words front accesses front_in each access has =
      let h = has.1 in
      let at = each h.number h.below in
      record {
        before = front ++ words_at store address h.number;
        first = h.number == 0;
        after = at.0;
        accesses_are =
            subst (λ (b : Bool). accesses ≡ (front ++ words_at store address h.number) ++ Word b (h.number == 0) access.address ∷ at.0) (sym h.store)
            (subst (λ (n : ℕ). accesses ≡ (front ++ words_at store address h.number) ++ Word store (h.number == 0) n ∷ at.0) (sym h.address_is) at.1);
        before_in =
            transfers_in class (front ++ words_at store address h.number)
            (All-append (IsIn class) front (words_at store address h.number) front_in (words_in class store address h.number h.before));
        other = h.other;
      }

  -- a load or a store from a base below 4000000
  loads : (address words : ℕ) (jumps : Bool) (t : ℕ) (m : Moved) → m.accesses ≡ load_accesses (address_of (r15_in regs)) address words jumps t → length m.regs ≡ length regs → address < 2 ^ 26
      → IsMoved (Some (record { address = address; words = words; store = false })) m
  loads address words jumps t m are long below =
      let all : List effect.Access = load_accesses (address_of (r15_in regs)) address words jumps t in
      record {
        in_class = λ plain no. subst (TransfersIn class) (sym are) (transfers_in class (load_accesses (address_of (r15_in regs)) address words jumps t) (load_in class (address_of (r15_in regs)) address words jumps t (no below)));
        there = λ plain. subst (λ (xs : List effect.Access). (access : Access) → HasOther class (Some (record { address = address; words = words; store = false })) access → (first : Bool) × Contains xs (Word access.store first access.address)) (sym are)
            (at_word false address words (load_accesses (address_of (r15_in regs)) address words jumps t)
            (λ k lt. Contains-append_left (straight (address_of (r15_in regs)) ++ words_at false address words) _ _
            (Contains-append_right (straight (address_of (r15_in regs))) (words_at false address words) _ (words_there false address words k lt))));
        first_other = λ plain. subst (λ (xs : List effect.Access). (access : Access) → HasOther class (Some (record { address = address; words = words; store = false })) access → IsFirstOther class xs access) (sym are)
            (first_word false address words (straight (address_of (r15_in regs))) (load_accesses (address_of (r15_in regs)) address words jumps t) (straight_in class (address_of (r15_in regs)))
            (λ k lt. split_within (straight (address_of (r15_in regs))) (words_at false address words) _ _ _ (words_split false address words k lt)));
        within = λ plain most some few. subst (TakesWithin most) (sym are) (takes_within most all (load_short most (address_of (r15_in regs)) address words jumps t some));
        takes = λ plain. tt;
        registers = λ plain. long;
      }

  stores : (address words : ℕ) (m : Moved) → m.accesses ≡ store_accesses (address_of (r15_in regs)) address words → length m.regs ≡ length regs → address < 2 ^ 26
      → IsMoved (Some (record { address = address; words = words; store = true })) m
  stores address words m are long below = record {
    in_class = λ plain no. subst (TransfersIn class) (sym are) (transfers_in class (store_accesses (address_of (r15_in regs)) address words) (store_in class (address_of (r15_in regs)) address words (no below)));
    there = λ plain. subst (λ (xs : List effect.Access). (access : Access) → HasOther class (Some (record { address = address; words = words; store = true })) access → (first : Bool) × Contains xs (Word access.store first access.address)) (sym are)
        (at_word true address words (store_accesses (address_of (r15_in regs)) address words)
        (λ k lt. Contains-append_right (FetchN (ahead_of (address_of (r15_in regs)) 8) ∷ []) (words_at true address words) _ (words_there true address words k lt)));
    first_other = λ plain. subst (λ (xs : List effect.Access). (access : Access) → HasOther class (Some (record { address = address; words = words; store = true })) access → IsFirstOther class xs access) (sym are)
        (first_word true address words (FetchN (ahead_of (address_of (r15_in regs)) 8) ∷ []) (store_accesses (address_of (r15_in regs)) address words) (fetch_in class (ahead_of (address_of (r15_in regs)) 8))
        (λ k lt. split_after (FetchN (ahead_of (address_of (r15_in regs)) 8) ∷ []) (words_at true address words) _ _ (words_split true address words k lt)));
    within = λ plain most some few. subst (TakesWithin most) (sym are) (takes_within most (store_accesses (address_of (r15_in regs)) address words) (store_short most (address_of (r15_in regs)) address words));
    takes = λ plain. tt;
    registers = λ plain. long;
  }

  -- the test is that of a load
  either : (load : Bool) (address words : ℕ) (m n : Moved) → IsMoved (Some (record { address = address; words = words; store = false })) m → IsMoved (Some (record { address = address; words = words; store = true })) n → IsMoved (Some (record { address = address; words = words; store = not load })) (cond load m n)
  either true address words m n h k = h
  either false address words m n h k = k

  -- ## Single transfers

  base_long : (x : Single) (base : ℕ) → length (base_after x base regs) ≡ length regs
  base_long x base = based_long (passed regs) _ (mode_of (r15_in regs)) x.rn _ ∙ r15_long regs _

  single_loads_move : (x : Single) (base port : ℕ) (spot : Spot) → address_for x base < 2 ^ 26 → IsMoved (Some (record { address = address_for x base; words = 1; store = false })) (single_loads x base port spot regs bus)
  unfolding single_loads single_loaded
  single_loads_move x base port spot below =
      loads (address_for x base) 1 (is_pc x.rd) _ (single_loads x base port spot regs bus) refl
      (loaded_long (base_after x base regs) false (mode_of (r15_in regs)) (r15_in regs) x.rd _ ∙ base_long x base) below

  single_stores_move : (x : Single) (base : ℕ) (spot : Spot) → address_for x base < 2 ^ 26 → IsMoved (Some (record { address = address_for x base; words = 1; store = true })) (single_stores x base spot regs bus)
  unfolding single_stores
  single_stores_move x base spot below =
      stores (address_for x base) 1 (single_stores x base spot regs bus) refl (base_long x base) below

  single_by_moves : (x : Single) (base port : ℕ) (found : Result Spot TransferFault) → address_for x base < 2 ^ 26 → IsMoved (Some (record { address = address_for x base; words = 1; store = not x.load })) (single_by x base port found regs bus)
  unfolding single_by single_carried_out
  single_by_moves x base port (Err f) below = faulted_moves _ f
  single_by_moves x base port (Ok spot) below =
      either x.load (address_for x base) 1 (single_loads x base port spot regs bus) (single_stores x base spot regs bus)
      (single_loads_move x base port spot below) (single_stores_move x base spot below)

  single_moves : (x : Single) (base port : ℕ) → IsMoved (Some (record { address = address_for x base; words = 1; store = not x.load })) (single_at x base port regs bus)
  unfolding single_at
  single_moves x base port =
      choose _ (nat_lt (address_for x base) (2 ^ 26)) _ _
      (λ inside. single_by_moves x base port _ (ltb-true (address_for x base) (2 ^ 26) inside))
      (taken_moves _ _)

  -- ## Block transfers

  block_loads_move : (x : Block) (span : Span) (port : ℕ) (moves : List Move) → span.lowest < 2 ^ 26 → IsMoved (Some (record { address = span.lowest; words = span.words; store = false })) (block_loads x span port moves regs bus)
  unfolding block_loads
  block_loads_move x span port moves below =
      loads span.lowest span.words (is_listed x.list R15) _ (block_loads x span port moves regs bus) refl
      (load_all_long x.user (mode_for x (mode_of (r15_in regs))) (r15_in regs) bus port moves (with_base x.write_back (mode_of (r15_in regs)) x.rn span.base (passed regs))
      ∙ based_long (passed regs) x.write_back (mode_of (r15_in regs)) x.rn span.base ∙ r15_long regs _) below

  block_stores_move : (x : Block) (span : Span) (moves : List Move) → span.lowest < 2 ^ 26 → IsMoved (Some (record { address = span.lowest; words = span.words; store = true })) (block_stores x span moves regs bus)
  unfolding block_stores
  block_stores_move x span moves below =
      stores span.lowest span.words (block_stores x span moves regs bus) refl
      (r15_long (with_base x.write_back (mode_of (r15_in regs)) x.rn span.base regs) _ ∙ based_long regs x.write_back (mode_of (r15_in regs)) x.rn span.base) below

  block_by_moves : (x : Block) (span : Span) (port : ℕ) (verdict : Result (List Move) TransferFault) → span.lowest < 2 ^ 26 → IsMoved (Some (record { address = span.lowest; words = span.words; store = not x.load })) (block_by x span port verdict regs bus)
  unfolding block_by block_carried_out
  block_by_moves x span port (Err f) below = faulted_moves _ f
  block_by_moves x span port (Ok moves) below =
      either x.load span.lowest span.words (block_loads x span port moves regs bus) (block_stores x span moves regs bus)
      (block_loads_move x span port moves below) (block_stores_move x span moves below)

  block_at_moves : (x : Block) (span : Span) (port : ℕ) → IsMoved (Some (record { address = span.lowest; words = span.words; store = not x.load })) (block_at x span port regs bus)
  unfolding block_at
  block_at_moves x span port =
      choose _ (nat_lt span.lowest (2 ^ 26)) _ _
      (λ inside. block_by_moves x span port _ (ltb-true span.lowest (2 ^ 26) inside))
      (taken_moves _ _)

  block_moves : (x : Block) (port : ℕ) → IsMoved (Some (block_words x regs)) (block_moved x port regs bus)
  unfolding block_moved
  block_moves x port =
      let base : ℕ = register_in (mode_of (r15_in regs)) (register_number x.rn) regs in
      block_at_moves x (span_of x base (word_count x.list)) port

  -- ## Any word

  operation_moves : (o : Operation) (port : ℕ) → Moves class regs (words_of o regs) (multiplier_cycles o regs) (operation_moved o port regs bus)
  unfolding operation_effect data_register_effect data_register_shift_effect data_immediate_effect
  operation_moves (operation.Multiply x) port = multiply_moves x
  operation_moves (operation.DataRegister x) port = placed_moves x.opcode x.sets_flags x.rd _
  operation_moves (operation.DataRegisterShift x) port = delayed_moves _ (placed_moves x.opcode x.sets_flags x.rd _)
  operation_moves (operation.DataImmediate x) port = placed_moves x.opcode x.sets_flags x.rd _
  operation_moves (operation.SingleImmediate x) port = single_moves (of_immediate x) _ port
  operation_moves (operation.SingleRegister x) port = single_moves (of_register x regs) _ port
  operation_moves (operation.Block x) port = block_moves x port
  operation_moves (operation.Branch x) port = branch_moves x
  operation_moves (operation.Swi x) port = taken_moves None _
  operation_moves (operation.UndefinedTransfer x) port = taken_moves None _
  operation_moves (operation.CoprocessorTransfer x) port = taken_moves None _
  operation_moves (operation.Coprocessor x) port = taken_moves None _

  either_moves : (holds : Bool) (o : Operation) (m n : Moved) → Moves class regs (words_of o regs) (multiplier_cycles o regs) m → IsMoved None n
      → Moves class regs (transfer_if holds o regs) (cycles_if holds o regs) (cond holds m n)
  either_moves true o m n h k = h
  either_moves false o m n h k = k

  instr_moves : (i : Instr) (port : ℕ) → Moves class regs (transfer_if (holds_in regs i.cond) i.operation regs) (cycles_if (holds_in regs i.cond) i.operation regs) (instruction_moved i port regs bus)
  instr_moves i port =
      either_moves (holds_in regs i.cond) i.operation (operation_moved i.operation port regs bus) (on_bus bus (skipped regs))
      (operation_moves i.operation port) skipped_moves

  unallocated_moves : (u : Unallocated) → IsMoved None (unallocated_moved u regs bus)
  unallocated_moves u =
      choose None (holds_in regs u.cond) (on_bus bus (stopped why.Unallocated regs)) (on_bus bus (skipped regs))
      (λ holds. stopped_moves None why.Unallocated) skipped_moves

  -- what the word does is what is read of it
  abbrev DoesRead : Reading → Moved → Type 0
  DoesRead r m = Moves class regs r.transfer r.cycles m

  pub word_moves : (word : ℕ) (port : ℕ) (r : Reading) (m : Moved) → IsReading word regs r → Obeys word port regs bus m → DoesRead r m
  word_moves word port r m (inl (i, means, r_is)) (inl (j, other, m_is)) =
      let same : j ≡ i = one_instr word j i other means in
      subst (DoesRead r) (sym (m_is ∙ ap (λ (x : Instr). instruction_moved x port regs bus) same))
      (subst (λ (x : Reading). DoesRead x (instruction_moved i port regs bus)) (sym r_is) (instr_moves i port))
  word_moves word port r m (inl (i, means, r_is)) (inr (u, none_is, m_is)) = absurd (never_both word i u means none_is)
  word_moves word port r m (inr (u, none_is, r_is)) (inl (i, means, m_is)) = absurd (never_both word i u means none_is)
  word_moves word port r m (inr (u, is, r_is)) (inr (v, other, m_is)) =
      let same : v ≡ u = one_unallocated word v u other is in
      subst (DoesRead r) (sym (m_is ∙ ap (λ (x : Unallocated). unallocated_moved x regs bus) same))
      (subst (λ (x : Reading). DoesRead x (unallocated_moved u regs bus)) (sym r_is) (unallocated_moves u))
