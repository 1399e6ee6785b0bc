-- What each instruction does, against the kind and the work of its word.
use Rattle.std.proofs.Common.{◌≡◌, ℕ, suc, ◌+◌, ◌*◌, ◌^◌, ◌<◌, ◌≤◌, ◌==◌, ◌&&◌, not, min, nat_lt, Bool, true, false, cond, List, length, Result, Ok, Err, refl, sym, ap, subst, ◌∙◌, arith}
use Rattle.std.proofs.lemmas.Bool.{ltb-true}
use Rattle.bus_ticks.specs.declared.profile.Class.{Class}
use Rattle.bus_ticks.specs.declared.profile.Profile.{Profile}
use Rattle.bus_ticks.specs.declared.profile.RomTimes.{RomTimes}
use Rattle.bus_ticks.specs.Prices.{ahead_of}
use Rattle.arm2_decode.specs.Allowed.{bit_of, single_clash, is_bad_base}
use Rattle.arm2_decode.specs.Names.{is_compare, is_pc, register_number}
use Rattle.arm2_decode.specs.Transfers.{is_listed, word_count, writes_base}
use Rattle.arm2_decode.specs.Writers.{data_writes_pc}
use Rattle.arm2_decode.specs.declared.instr.Block.{Block}
use Rattle.arm2_decode.specs.declared.instr.Branch.{Branch}
use Rattle.arm2_decode.specs.declared.instr.Multiply.{Multiply}
use Rattle.arm2_decode.specs.declared.instr.Operation.{Operation}
use Rattle.arm2_decode.specs.declared.instr.Operation.TheVariants as operation
use Rattle.arm2_decode.specs.declared.names.Opcode.{Opcode}
use Rattle.arm2_decode.specs.declared.names.Register.{Register}
use Rattle.arm2_decode.specs.declared.names.Register.TheVariants.{R15}
use Rattle.memc.specs.declared.spots.Spot.{Spot}
use Rattle.shifter.specs.Shifts.{multiply_cycles}
use Rattle.shifter.proofs.ShiftLemmas.{most_cycles}
use Rattle.arm2_effect.specs.declared.step_end.Kind.TheVariants as ended
use Rattle.arm2_effect.specs.declared.exceptions.Vector.{Vector}
use Rattle.arm2_effect.specs.declared.step_end.Why.{Why}
use Rattle.arm2_effect.specs.Effects.{Effect, Internal, onward, skipped, stopped}
use Rattle.arm2_effect.specs.Exceptions.{taken}
use Rattle.arm2_effect.specs.Modes.{r15_in, register_in, with_r15, with_register, is_user}
use Rattle.arm2_effect.specs.Operations.{branch_effect, compared, data_immediate_effect, data_register_effect, data_register_shift_effect, entered, jumped, multiply_effect, next_r15, operation_effect, outcome_effect, product_of}
use Rattle.arm2_effect.specs.Outcomes as effect
use Rattle.arm2_effect.specs.ProgramCounter.{address_of, branch_target, r15_jumped, mode_of, psr_of, psr_with, r15_ahead, r15_of, r15_restored}
use Rattle.arm2_transfer.specs.declared.bus.Bus.{Bus}
use Rattle.arm2_transfer.specs.declared.single_fields.Single.{Single}
use Rattle.arm2_transfer.specs.declared.span.Span.{Span}
use Rattle.arm2_transfer.specs.declared.words.Move.{Move}
use Rattle.arm2_transfer.specs.declared.words.TransferFault.{TransferFault}
use Rattle.arm2_transfer.specs.declared.words.TransferFault.TheVariants as fault
use Rattle.arm2_transfer.specs.Block.{block_at, block_by, block_carried_out, block_loads, block_moved, block_stores, mode_for, span_of}
use Rattle.arm2_transfer.specs.Moved.{Moved, on_bus, faulted}
use Rattle.arm2_transfer.specs.Operations.{operation_moved}
use Rattle.arm2_transfer.specs.Registers.{moved_by, passed, with_base}
use Rattle.arm2_transfer.specs.Single.{address_for, base_after, of_immediate, of_register, single_at, single_by, single_carried_out, single_loaded, single_loads, single_stores}
use Rattle.control_flow.specs.Edges.{stated_work}
use Rattle.control_flow.specs.Kinds.{IsWork, is_multiply, kind_of, transfer_work, work_of, writer_if}
use Rattle.flow_graph.specs.StepLaw.{TakesWithin, TransfersIn}
use Rattle.statement.specs.Stated.{Stated, cycles_at}
use Rattle.control_flow.proofs.SortedLemmas.{here}
use Rattle.control_flow.specs.declared.actions.Kind.{Kind}
use Rattle.control_flow.specs.declared.actions.Kind.TheVariants as kind
use Rattle.control_flow.specs.declared.actions.Work.{Work}
use Rattle.control_flow.specs.declared.actions.Work.TheVariants as work
use Rattle.flow_graph.proofs.StepRegisters.{IsWordAddress, address_ahead, address_jumped, address_put, address_restored, base_stays, goes, loaded_stays, long_based, long_with, passed_goes, word_address_ahead, word_address_of}
use Rattle.flow_graph.proofs.StepTicks.{Costs, branch_costs, call_costs, delayed_costs, jump_costs, load_block, load_costs, stated_other, store_block, store_costs, straight_costs}
use Rattle.flow_graph.proofs.StepWords.{AllMoveOther, all_stay, verdict_others}

-- ## What the words of the table rule out

pub refused_not : (b : Bool) (m n : ℕ) → ◌≡◌ {A = ℕ} (cond b (suc m) n) 0 → b ≡ false
refused_not true m n e = absurd (omega (arith, e))
refused_not false m n e = refl

pub refused_else : (b : Bool) (m n : ℕ) → ◌≡◌ {A = ℕ} (cond b (suc m) n) 0 → n ≡ 0
refused_else true m n e = absurd (omega (arith, e))
refused_else false m n e = e

base_by : (is_pc before write_back : Bool) → (is_pc && writes_base (bit_of before == 1) (bit_of write_back == 1)) ≡ false → writes_base before write_back ≡ true → is_pc ≡ false
base_by false before write_back h w = refl
base_by true false true h w = absurd (cc)
base_by true false false h w = absurd (cc)
base_by true true true h w = absurd (cc)
base_by true true false h w = absurd (cc)

base_other : (before byte write_back load : Bool) (rn rd : Register) → single_clash (bit_of before) (bit_of byte) (bit_of write_back) (bit_of load) (register_number rn) (register_number rd) ≡ 0 → writes_base before write_back ≡ true → is_pc rn ≡ false
base_other before byte write_back load rn rd h w =
    base_by (is_pc rn) before write_back (refused_not (is_bad_base (bit_of before) (bit_of write_back) (register_number rn)) 5 _ h) w

words_fit : (load : Bool) (words : ℕ) → IsWork (transfer_work load words) → (1 ≤ words) × (words ≤ 16)
words_fit true words h = h
words_fit false words h = h

module _ (st : Stated) (p : Profile) (rom : RomTimes) (class : Class) (regs : List ℕ) (long : 26 < length regs) where
  -- the most cycles of a multiply there
  abbrev most : ℕ
  most = cycles_at st (address_of (r15_in regs))

  -- the effect is one of a word of the kind and the work
  abbrev EffectCosts : Kind → Work → Effect → Type 0
  EffectCosts k w e = Costs p rom class (address_of (r15_in regs)) k w e.accesses (address_of (r15_in e.regs))

  -- so is the transfer, where it ends as other instructions do, its words are of the class, and it takes no more
  -- cycles
  abbrev pub MovedCosts : Kind → Work → Moved → Type 0
  MovedCosts k w m = TransfersIn class m.accesses → TakesWithin most m.accesses → m.kind ≡ ended.Plain → Costs p rom class (address_of (r15_in regs)) k w m.accesses (address_of (r15_in m.regs))

  -- ## Data processing

  next_address : (psr : ℕ) → address_of (r15_of psr (ahead_of (address_of (r15_in regs)) 4) (mode_of (r15_in regs))) ≡ ahead_of (address_of (r15_in regs)) 4
  next_address psr = address_put psr (ahead_of (address_of (r15_in regs)) 4) (mode_of (r15_in regs)) (word_address_ahead (r15_in regs) 1)

  entered_costs : (sets_flags : Bool) (rd : Register) (out : _) → EffectCosts kind.Plain (work.Internal 0) (entered sets_flags rd out regs)
  unfolding entered
  entered_costs sets_flags rd out =
      straight_costs p rom class (address_of (r15_in regs)) _
      (goes (with_register (mode_of (r15_in regs)) (register_number rd) out.value regs) (next_r15 sets_flags out (r15_in regs)) (ahead_of (address_of (r15_in regs)) 4)
      (long_with (mode_of (r15_in regs)) (register_number rd) out.value regs long)
      (next_address (cond sets_flags (psr_with (effect.flags_after out) (psr_of (r15_in regs))) (psr_of (r15_in regs)))))

  either_goes : (b : Bool) (x y t : ℕ) → address_of x ≡ t → address_of y ≡ t → address_of (r15_in (with_r15 (cond b x y) regs)) ≡ t
  either_goes true x y t h k = goes regs x t long h
  either_goes false x y t h k = goes regs y t long k

  compared_costs : (rd : Register) (out : _) → EffectCosts kind.Plain (work.Internal 0) (compared rd out regs)
  unfolding compared
  compared_costs rd out =
      straight_costs p rom class (address_of (r15_in regs)) _
      (either_goes (is_pc rd) (r15_restored (r15_in regs) out.value (ahead_of (address_of (r15_in regs)) 4)) (next_r15 true out (r15_in regs)) (ahead_of (address_of (r15_in regs)) 4)
      (address_restored (r15_in regs) out.value (ahead_of (address_of (r15_in regs)) 4) (word_address_ahead (r15_in regs) 1))
      (next_address (psr_with (effect.flags_after out) (psr_of (r15_in regs)))))

  pub jumped_goes : (sets_flags : Bool) (out : _) → address_of (r15_in (jumped sets_flags out regs).regs) ≡ address_of out.value
  unfolding jumped
  jumped_goes sets_flags out =
      either_goes sets_flags (r15_restored (r15_in regs) out.value (address_of out.value)) (r15_jumped (r15_in regs) out.value) (address_of out.value)
      (address_restored (r15_in regs) out.value (address_of out.value) (word_address_of out.value))
      (address_jumped (r15_in regs) out.value)

  jumped_costs : (sets_flags : Bool) (out : _) → EffectCosts kind.Writer (work.Internal 0) (jumped sets_flags out regs)
  unfolding jumped
  jumped_costs sets_flags out =
      subst (Costs p rom class (address_of (r15_in regs)) kind.Writer (work.Internal 0) (onward (address_of (r15_in regs)) (address_of out.value)))
      (sym (jumped_goes sets_flags out))
      (jump_costs p rom class (address_of (r15_in regs)) (address_of out.value))

  placed_by : (compares to_pc : Bool) (c j e : Effect) → EffectCosts kind.Plain (work.Internal 0) c → EffectCosts kind.Writer (work.Internal 0) j → EffectCosts kind.Plain (work.Internal 0) e →
      EffectCosts (writer_if (to_pc && not compares)) (work.Internal 0) (cond compares c (cond to_pc j e))
  placed_by true true c j e hc hj he = hc
  placed_by true false c j e hc hj he = hc
  placed_by false true c j e hc hj he = hj
  placed_by false false c j e hc hj he = he

  placed_costs : (o : Opcode) (sets_flags : Bool) (rd : Register) (out : _) → EffectCosts (writer_if (data_writes_pc o rd)) (work.Internal 0) (outcome_effect o sets_flags rd out regs)
  unfolding outcome_effect
  placed_costs o sets_flags rd out =
      placed_by (is_compare o) (is_pc rd) (compared rd out regs) (jumped sets_flags out regs) (entered sets_flags rd out regs)
      (compared_costs rd out) (jumped_costs sets_flags out) (entered_costs sets_flags rd out)

  multiply_costs : (x : Multiply) → TakesWithin most (multiply_effect x regs).accesses → EffectCosts kind.Plain (work.Internal (min 16 most)) (multiply_effect x regs)
  unfolding multiply_effect
  multiply_costs x within =
      let number : ℕ = register_in (mode_of (r15_in regs)) (register_number x.rs) regs in
      let stated : multiply_cycles number ≤ most = within (multiply_cycles number) (here (Internal (multiply_cycles number)) _) in
      delayed_costs p rom class (address_of (r15_in regs)) (multiply_cycles number) (min 16 most) kind.Plain _ _ (omega (arith, most_cycles number, stated))
      (entered_costs x.sets_flags x.rd (product_of x regs))

  -- ## Branches

  linked : (link : Bool) → 26 < length (cond link (with_register (mode_of (r15_in regs)) 14 (r15_ahead (r15_in regs) 4) regs) regs)
  linked true = long_with (mode_of (r15_in regs)) 14 (r15_ahead (r15_in regs) 4) regs long
  linked false = long

  pub branch_lands : (x : Branch) → address_of (r15_in (branch_effect x regs).regs) ≡ ahead_of (address_of (r15_in regs)) (8 + 4 * x.offset)
  unfolding branch_effect
  branch_lands x =
      let t : ℕ = branch_target (address_of (r15_in regs)) x.offset in
      let is_word : IsWordAddress t = (omega arith, omega arith) in
      goes (cond x.link (with_register (mode_of (r15_in regs)) 14 (r15_ahead (r15_in regs) 4) regs) regs) (r15_of (psr_of (r15_in regs)) t (mode_of (r15_in regs))) t
      (linked x.link) (address_put (psr_of (r15_in regs)) t (mode_of (r15_in regs)) is_word)

  branch_by : (link : Bool) (offset t : ℕ) → t ≡ branch_target (address_of (r15_in regs)) offset →
      Costs p rom class (address_of (r15_in regs)) (cond link (kind.Call offset) (kind.Branch offset)) (work.Internal 0) (onward (address_of (r15_in regs)) t) t
  branch_by true offset t e = call_costs p rom class (address_of (r15_in regs)) offset t e
  branch_by false offset t e = branch_costs p rom class (address_of (r15_in regs)) offset t e

  branch_goes : (x : Branch) → EffectCosts (cond x.link (kind.Call x.offset) (kind.Branch x.offset)) (work.Internal 0) (branch_effect x regs)
  unfolding branch_effect
  branch_goes x =
      let t : ℕ = branch_target (address_of (r15_in regs)) x.offset in
      subst (Costs p rom class (address_of (r15_in regs)) (cond x.link (kind.Call x.offset) (kind.Branch x.offset)) (work.Internal 0) (onward (address_of (r15_in regs)) t))
      (sym (branch_lands x))
      (branch_by x.link x.offset t refl)

  -- ## What ends in another way

  choose : (k : Kind) (w : Work) (b : Bool) (m n : Moved) → (b ≡ true → MovedCosts k w m) → MovedCosts k w n → MovedCosts k w (cond b m n)
  choose k w true m n h g = h refl
  choose k w false m n h g = g

  taken_costs : (k : Kind) (w : Work) (vector : Vector) (bus : Bus) → MovedCosts k w (on_bus bus (taken vector regs))
  unfolding taken
  taken_costs k w vector bus in_class within plain = absurd (cc)

  faulted_costs : (k : Kind) (w : Work) (why : TransferFault) (bus : Bus) → MovedCosts k w (faulted why regs bus)
  unfolding taken stopped
  faulted_costs k w fault.DataAbort bus in_class within plain = absurd (cc)
  faulted_costs k w fault.UnsupportedWrite bus in_class within plain = absurd (cc)

  -- ## Single transfers

  base_passed : (x : Single) (base : ℕ) → (writes_base x.before x.write_back ≡ true → is_pc x.rn ≡ false) → address_of (r15_in (base_after x base regs)) ≡ ahead_of (address_of (r15_in regs)) 4
  base_passed x base other =
      ap address_of (base_stays (writes_base x.before x.write_back) (mode_of (r15_in regs)) x.rn (moved_by x.up base x.offset) (passed regs) other) ∙ passed_goes regs long

  single_loads_cost : (x : Single) (base port : ℕ) (spot : Spot) (bus : Bus) → (writes_base x.before x.write_back ≡ true → is_pc x.rn ≡ false) → address_for x base < 2 ^ 26 →
      MovedCosts (writer_if (is_pc x.rd)) (work.Load 1) (single_loads x base port spot regs bus)
  unfolding single_loads single_loaded
  single_loads_cost x base port spot bus other below in_class within plain =
      load_costs p rom class (address_of (r15_in regs)) (address_for x base) 1 (is_pc x.rd) _ (omega arith) (omega arith)
      (load_block class rom (address_of (r15_in regs)) (address_for x base) 1 (is_pc x.rd) _ below in_class)
      (λ stays. ap address_of (loaded_stays false (mode_of (r15_in regs)) (r15_in regs) x.rd _ (base_after x base regs) stays) ∙ base_passed x base other)

  single_stores_cost : (x : Single) (base : ℕ) (spot : Spot) (bus : Bus) → (writes_base x.before x.write_back ≡ true → is_pc x.rn ≡ false) → address_for x base < 2 ^ 26 →
      MovedCosts kind.Plain (work.Store 1) (single_stores x base spot regs bus)
  unfolding single_stores
  single_stores_cost x base spot bus other below in_class within plain =
      store_costs p rom class (address_of (r15_in regs)) (address_for x base) 1 _ (omega arith) (omega arith)
      (store_block class rom (address_of (r15_in regs)) (address_for x base) 1 below in_class)
      (base_passed x base other)

  -- a load or a store
  either_costs : (load to_pc : Bool) (words : ℕ) (m n : Moved) → MovedCosts (writer_if to_pc) (work.Load words) m → MovedCosts kind.Plain (work.Store words) n → MovedCosts (writer_if (load && to_pc)) (transfer_work load words) (cond load m n)
  either_costs true to_pc words m n h g = h
  either_costs false to_pc words m n h g = g

  single_by_costs : (x : Single) (base port : ℕ) (found : Result Spot TransferFault) (bus : Bus) → (writes_base x.before x.write_back ≡ true → is_pc x.rn ≡ false) → address_for x base < 2 ^ 26 →
      MovedCosts (writer_if (x.load && is_pc x.rd)) (transfer_work x.load 1) (single_by x base port found regs bus)
  unfolding single_by single_carried_out
  single_by_costs x base port (Err why) bus other below = faulted_costs _ _ why bus
  single_by_costs x base port (Ok spot) bus other below =
      either_costs x.load (is_pc x.rd) 1 (single_loads x base port spot regs bus) (single_stores x base spot regs bus)
      (single_loads_cost x base port spot bus other below)
      (single_stores_cost x base spot bus other below)

  single_costs : (x : Single) (base port : ℕ) (bus : Bus) → (writes_base x.before x.write_back ≡ true → is_pc x.rn ≡ false) → MovedCosts (writer_if (x.load && is_pc x.rd)) (transfer_work x.load 1) (single_at x base port regs bus)
  unfolding single_at
  single_costs x base port bus other =
      choose (writer_if (x.load && is_pc x.rd)) (transfer_work x.load 1) (nat_lt (address_for x base) (2 ^ 26)) _ _
      (λ inside. single_by_costs x base port _ bus other (ltb-true (address_for x base) (2 ^ 26) inside))
      (taken_costs _ _ _ bus)

  -- ## Block transfers

  block_loads_cost : (x : Block) (span : Span) (port : ℕ) (moves : List Move) (bus : Bus) → is_pc x.rn ≡ false → span.lowest < 2 ^ 26 → 1 ≤ span.words → span.words ≤ 16 → (is_listed x.list R15 ≡ false → AllMoveOther moves) →
      MovedCosts (writer_if (is_listed x.list R15)) (work.Load span.words) (block_loads x span port moves regs bus)
  unfolding block_loads
  block_loads_cost x span port moves bus other below some few others in_class within plain =
      load_costs p rom class (address_of (r15_in regs)) span.lowest span.words (is_listed x.list R15) _ some few
      (load_block class rom (address_of (r15_in regs)) span.lowest span.words (is_listed x.list R15) _ below in_class)
      (λ none.
      ap address_of
      (all_stay x.user (mode_for x (mode_of (r15_in regs))) (r15_in regs) bus port moves (with_base x.write_back (mode_of (r15_in regs)) x.rn span.base (passed regs)) (others none)
      ∙ base_stays x.write_back (mode_of (r15_in regs)) x.rn span.base (passed regs) (λ w. other))
      ∙ passed_goes regs long)

  block_stores_cost : (x : Block) (span : Span) (moves : List Move) (bus : Bus) → is_pc x.rn ≡ false → span.lowest < 2 ^ 26 → 1 ≤ span.words → span.words ≤ 16 →
      MovedCosts kind.Plain (work.Store span.words) (block_stores x span moves regs bus)
  unfolding block_stores
  block_stores_cost x span moves bus other below some few in_class within plain =
      store_costs p rom class (address_of (r15_in regs)) span.lowest span.words _ some few
      (store_block class rom (address_of (r15_in regs)) span.lowest span.words below in_class)
      (passed_goes (with_base x.write_back (mode_of (r15_in regs)) x.rn span.base regs) (long_based x.write_back (mode_of (r15_in regs)) x.rn span.base regs long)
      ∙ ap (λ r. ahead_of (address_of r) 4) (base_stays x.write_back (mode_of (r15_in regs)) x.rn span.base regs (λ w. other)))

  block_by_costs : (x : Block) (span : Span) (port : ℕ) (verdict : Result (List Move) TransferFault) (bus : Bus) → is_pc x.rn ≡ false → span.lowest < 2 ^ 26 → 1 ≤ span.words → span.words ≤ 16 →
      ((moves : List Move) → verdict ≡ Ok moves → is_listed x.list R15 ≡ false → AllMoveOther moves) →
      MovedCosts (writer_if (x.load && is_listed x.list R15)) (transfer_work x.load span.words) (block_by x span port verdict regs bus)
  unfolding block_by block_carried_out
  block_by_costs x span port (Err why) bus other below some few others = faulted_costs _ _ why bus
  block_by_costs x span port (Ok moves) bus other below some few others =
      either_costs x.load (is_listed x.list R15) span.words (block_loads x span port moves regs bus) (block_stores x span moves regs bus)
      (block_loads_cost x span port moves bus other below some few (others moves refl))
      (block_stores_cost x span moves bus other below some few)

  block_costs : (x : Block) (span : Span) (port : ℕ) (bus : Bus) → is_pc x.rn ≡ false → 1 ≤ span.words → span.words ≤ 16 →
      MovedCosts (writer_if (x.load && is_listed x.list R15)) (transfer_work x.load span.words) (block_at x span port regs bus)
  unfolding block_at
  block_costs x span port bus other some few =
      choose (writer_if (x.load && is_listed x.list R15)) (transfer_work x.load span.words) (nat_lt span.lowest (2 ^ 26)) _ _
      (λ inside. block_by_costs x span port _ bus other (ltb-true span.lowest (2 ^ 26) inside) some few
      (λ moves e none. verdict_others bus.memc (is_user (mode_of (r15_in regs))) (not x.load) span.lowest x.list moves e none))
      (taken_costs _ _ _ bus)

  block_done : (x : Block) (port : ℕ) (bus : Bus) → IsWork (transfer_work x.load (word_count x.list)) → MovedCosts (writer_if (x.load && is_listed x.list R15)) (transfer_work x.load (word_count x.list)) (block_moved x port regs bus)
  unfolding block_moved
  block_done x port bus fits =
      let fit = words_fit x.load (word_count x.list) fits in
      let other : is_pc x.rn ≡ false = refused_not (is_pc x.rn) 6 _ x.allocated in
      let base : ℕ = register_in (mode_of (r15_in regs)) (register_number x.rn) regs in
      block_costs x (span_of x base (word_count x.list)) port bus other fit.0 fit.1

  -- ## Any instruction

  -- what is stated of multiplies says nothing of another instruction
  stated_costs : (o : Operation) (port : ℕ) (bus : Bus) → is_multiply o ≡ false → MovedCosts (kind_of o) (work_of o) (operation_moved o port regs bus) →
      MovedCosts (kind_of o) (stated_work st (address_of (r15_in regs)) (work_of o)) (operation_moved o port regs bus)
  stated_costs o port bus other = subst (λ w. MovedCosts (kind_of o) w (operation_moved o port regs bus)) (sym (stated_other st (address_of (r15_in regs)) o other))

  pub operation_costs : (o : Operation) (port : ℕ) (bus : Bus) → IsWork (work_of o) → MovedCosts (kind_of o) (stated_work st (address_of (r15_in regs)) (work_of o)) (operation_moved o port regs bus)
  unfolding operation_effect data_register_effect data_register_shift_effect data_immediate_effect
  operation_costs (operation.Multiply x) port bus fits = λ in_class within plain. multiply_costs x within
  operation_costs (operation.DataRegister x) port bus fits =
      stated_costs (operation.DataRegister x) port bus refl (λ in_class within plain. placed_costs x.opcode x.sets_flags x.rd _)
  operation_costs (operation.DataRegisterShift x) port bus fits =
      stated_costs (operation.DataRegisterShift x) port bus refl
      (λ in_class within plain. delayed_costs p rom class (address_of (r15_in regs)) 1 1 (writer_if (data_writes_pc x.opcode x.rd)) _ _ (omega arith) (placed_costs x.opcode x.sets_flags x.rd _))
  operation_costs (operation.DataImmediate x) port bus fits =
      stated_costs (operation.DataImmediate x) port bus refl (λ in_class within plain. placed_costs x.opcode x.sets_flags x.rd _)
  operation_costs (operation.SingleImmediate x) port bus fits =
      stated_costs (operation.SingleImmediate x) port bus refl
      (single_costs (of_immediate x) _ port bus (base_other x.before x.byte x.write_back x.load x.rn x.rd x.allocated))
  operation_costs (operation.SingleRegister x) port bus fits =
      stated_costs (operation.SingleRegister x) port bus refl
      (single_costs (of_register x regs) _ port bus (base_other x.before x.byte x.write_back x.load x.rn x.rd (refused_else (register_number x.rm == 15) 4 _ x.allocated)))
  operation_costs (operation.Block x) port bus fits = stated_costs (operation.Block x) port bus refl (block_done x port bus fits)
  operation_costs (operation.Branch x) port bus fits = stated_costs (operation.Branch x) port bus refl (λ in_class within plain. branch_goes x)
  operation_costs (operation.Swi x) port bus fits = taken_costs _ _ _ bus
  operation_costs (operation.UndefinedTransfer x) port bus fits = taken_costs _ _ _ bus
  operation_costs (operation.CoprocessorTransfer x) port bus fits = taken_costs _ _ _ bus
  operation_costs (operation.Coprocessor x) port bus fits = taken_costs _ _ _ bus

  -- a word that is passed over
  pub skipped_costs : (bus : Bus) → MovedCosts kind.Plain (work.Internal 0) (on_bus bus (skipped regs))
  unfolding skipped
  skipped_costs bus in_class within plain =
      straight_costs p rom class (address_of (r15_in regs)) _
      (goes regs (r15_ahead (r15_in regs) 4) (ahead_of (address_of (r15_in regs)) 4) long (address_ahead (r15_in regs)))

  pub stopped_costs : (k : Kind) (w : Work) (why : Why) (bus : Bus) → MovedCosts k w (on_bus bus (stopped why regs))
  unfolding stopped
  stopped_costs k w why bus in_class within plain = absurd (cc)

  -- a word that is done or passed over
  pub either_done : (holds : Bool) (k : Kind) (w : Work) (m n : Moved) → MovedCosts k w m → MovedCosts kind.Plain (work.Internal 0) n → MovedCosts (cond holds k kind.Plain) (cond holds w (work.Internal 0)) (cond holds m n)
  either_done true k w m n h g = h
  either_done false k w m n h g = g
