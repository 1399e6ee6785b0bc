-- Any instruction for which a machine in SVC mode is set.
use Rattle.std.proofs.Common.{◌≡◌, ℕ, ◌<◌, ◌==◌, ◌&&◌, ◌||◌, not, Bool, true, false, List, length}
use Rattle.std.proofs.Common.{Option, Some, None, refl, sym, ap, subst, ◌∙◌, arith}
use Rattle.std.specs.Prelude.{Contains}
use Rattle.std.proofs.lemmas.Bool.{and_parts, cond-false, false≢true}
use Rattle.bus_ticks.specs.Dearest.{AreDearest}
use Rattle.bus_ticks.specs.declared.profile.Profile.{Profile}
use Rattle.bus_ticks.specs.Prices.{word_address}
use Rattle.arm2_decode.specs.Allowed.{bit_of, is_bad_base, is_bad_byte, is_bad_load}
use Rattle.arm2_decode.specs.Names.{is_pc, register_number}
use Rattle.arm2_decode.specs.Transfers.{asks_for_user, is_listed, word_count}
use Rattle.arm2_decode.specs.Writers.{data_writes_pc}
use Rattle.arm2_decode.specs.declared.instr.Block.{Block}
use Rattle.arm2_decode.specs.declared.instr.Operation.{Operation}
use Rattle.arm2_decode.specs.declared.instr.Operation.TheVariants as operation
use Rattle.arm2_decode.specs.declared.instr.SingleImmediate.{SingleImmediate}
use Rattle.arm2_decode.specs.declared.names.Register.{Register}
use Rattle.arm2_decode.specs.declared.names.Register.TheVariants.{R15}
use Rattle.memc.specs.Memory.{located}
use Rattle.shifter.specs.Shifts.{multiply_cycles}
use Rattle.arm2_effect.specs.declared.modes.Mode.{Mode}
use Rattle.arm2_effect.specs.declared.modes.Mode.TheVariants.{Svc}
use Rattle.arm2_effect.specs.Modes.{r15_in, register_in, is_user}
use Rattle.arm2_effect.specs.Operands.{first_of}
use Rattle.arm2_effect.specs.Operations.{data_immediate_effect, data_register_effect}
use Rattle.arm2_effect.specs.Operations.{data_register_shift_effect, operation_effect}
use Rattle.arm2_effect.specs.ProgramCounter.{address_of, mode_of}
use Rattle.arm2_transfer.specs.declared.span.Span.{Span}
use Rattle.arm2_transfer.specs.Block.{block_moved, lowest_of, span_of}
use Rattle.arm2_transfer.specs.Bus.{made_of, seen}
use Rattle.arm2_transfer.specs.Operations.{operation_moved}
use Rattle.arm2_transfer.specs.Single.{address_for, has_user_rights, of_immediate, single_at}
use Rattle.arm2_exec.specs.State.{State}
use Rattle.arm2_exec.specs.Step.{with_lines}
use Rattle.arm2_exec.specs.declared.machine.Input.{Input}
use Rattle.control_flow.specs.Edges.{landings, stated_work}
use Rattle.control_flow.specs.Kinds.{base_of, is_multiply, kind_of, transfer_work, work_of, writer_if}
use Rattle.control_flow.specs.declared.actions.Work.{Work}
use Rattle.flow_graph.specs.TightWork.{IsDearestTarget, IsSetFor, TransfersDearest}
use Rattle.control_flow.specs.declared.places.Place.{Place}
use Rattle.statement.specs.Stated.{Stated, class_at, cycles_at}
use Rattle.control_flow.proofs.SortedLemmas.{no_member}
use Rattle.flow_graph.proofs.StepOperations.{refused_else, refused_not}
use Rattle.flow_graph.proofs.StepTicks.{some_stated, stated_other}
use Rattle.flow_graph.proofs.TightSetting.{MovedPays, Setting}
use Rattle.flow_graph.proofs.TightData.{branch_pays, delayed_moves, multiply_pays, placed_pays}
use Rattle.flow_graph.proofs.TightTransfers.{block_pays, single_pays}
use Rattle.flow_graph.proofs.TightWords.{made_whole}

-- no byte is loaded into R15
byte_by : (byte last : Bool) → ((bit_of byte == 1) && last) ≡ false → last ≡ true → byte ≡ false
byte_by false last h e = refl
byte_by true true h e = absurd (cc)
byte_by true false h e = absurd (cc)

no_byte : (x : SingleImmediate) → is_pc x.rd ≡ true → x.byte ≡ false
no_byte x last =
    let base = is_bad_base (bit_of x.before) (bit_of x.write_back) (register_number x.rn) in
    let load = is_bad_load (bit_of x.before) (bit_of x.write_back) (bit_of x.load) (register_number x.rn)
    (register_number x.rd) in
    let no_load = refused_else load 8 _ (refused_else base 5 _ x.allocated) in
    let byte = is_bad_byte (bit_of x.byte) (register_number x.rd) in
    byte_by x.byte (is_pc x.rd) (refused_not byte 9 _ no_load) last

module _ (st : Stated) (profile : Profile) (address : ℕ) (to : Place) (s : State) (i : Input)
    (dear : AreDearest profile s.bus.memc.control.rom_times) (long : 26 < length s.regs) where
  -- for a word with that base
  abbrev pub setting : Option Register → Setting
  setting base = record {
    st = st;
    profile = profile;
    rom = s.bus.memc.control.rom_times;
    class = class_at st address base;
    limit = cycles_at st address;
    to = to;
    regs = s.regs;
    bus = with_lines i.lines.0 s.bus;
    port = i.port;
    dear = dear;
    long = long;
    some = some_stated st address;
  }

  -- it pays for that work
  abbrev Pays : Operation → Work → Type 0
  Pays o w =
      MovedPays (setting (base_of o)) (kind_of o) w
      (operation_moved o i.port s.regs (with_lines i.lines.0 s.bus))

  abbrev pub OperationPays : Operation → Type 0
  OperationPays o = Pays o (stated_work st address (work_of o))

  -- what is stated of multiplies says nothing of another instruction
  stated_pays : (o : Operation) → is_multiply o ≡ false → Pays o (work_of o) → OperationPays o
  stated_pays o other = subst (Pays o) (sym (stated_other st address o other))

  module _ (svc : mode_of (r15_in s.regs) ≡ Svc) where
    -- the base of a single transfer, which is not R15
    abbrev base_at : SingleImmediate → ℕ
    base_at x = register_in Svc (register_number x.rn) s.regs

    abbrev lowest_at : SingleImmediate → ℕ
    lowest_at x = address_for (of_immediate x) (base_at x)

    single_set : (x : SingleImmediate) → is_pc x.rn ≡ false → asks_for_user x.before x.write_back ≡ false
        → TransfersDearest st profile address to s i x.rn x.load (is_pc x.rd) 1 (lowest_at x)
        → Pays (operation.SingleImmediate x) (work_of (operation.SingleImmediate x))
    single_set x other not_user h =
        let base_is : first_of 8 x.rn s.regs ≡ base_at x =
        cond-false (is_pc x.rn) _ _ other ∙ ap (λ m. register_in m (register_number x.rn) s.regs) svc in
        let user : has_user_rights (of_immediate x) (mode_of (r15_in s.regs)) ≡ false =
        ap (λ m. is_user m || asks_for_user x.before x.write_back) svc ∙ not_user in
        let below = h.transfer.block.of_class.below in
        let at : word_address (lowest_at x) 0 ≡ lowest_at x = omega (arith, h.transfer.whole, below) in
        let found = ap (λ u. located s.bus.memc (lowest_at x) u (not x.load)) user
        ∙ ap (λ n. located s.bus.memc n false (not x.load)) (sym at)
        ∙ h.transfer.spots 0 (omega arith) in
        let seen_word : ℕ = seen (with_lines i.lines.0 s.bus) i.port (h.spot 0) in
        let made : ℕ = made_of x.byte (lowest_at x) seen_word in
        let whole : is_pc x.rd ≡ true → address_of seen_word ≡ address_of made =
        λ last. sym (made_whole x.byte (lowest_at x) seen_word (no_byte x last) h.transfer.whole) in
        subst
        (λ b. MovedPays (setting (Some x.rn)) (writer_if (x.load && is_pc x.rd)) (transfer_work x.load 1)
        (single_at (of_immediate x) b i.port s.regs (with_lines i.lines.0 s.bus))) (sym base_is)
        (single_pays (setting (Some x.rn)) (of_immediate x) (base_at x) (h.spot 0) found h.transfer.block
        (λ w. subst (IsDearestTarget st profile to) (whole (and_parts x.load (is_pc x.rd) w).1) (h.target w)))

    -- ## Blocks: what one asks for and pays, by its base's mode, its test for R15 and its number of words

    abbrev BlockSet : Block → Mode → Bool → ℕ → Type 0
    BlockSet x m last words =
        TransfersDearest st profile address to s i x.rn x.load last words
        (lowest_of x (register_in m (register_number x.rn) s.regs) words)

    abbrev BlockDone : Block → Bool → ℕ → Type 0
    BlockDone x last words =
        MovedPays (setting (Some x.rn)) (writer_if (x.load && last)) (transfer_work x.load words)
        (block_moved x i.port s.regs (with_lines i.lines.0 s.bus))

    block_set : (x : Block) → BlockSet x (mode_of (r15_in s.regs)) (is_listed x.list R15) (word_count x.list)
        → BlockDone x (is_listed x.list R15) (word_count x.list)
    unfolding block_moved
    block_set x h =
        let span : Span =
        span_of x (register_in (mode_of (r15_in s.regs)) (register_number x.rn) s.regs) (word_count x.list) in
        let privileged : (j : ℕ)
        → located s.bus.memc (word_address span.lowest j) (is_user (mode_of (r15_in s.regs))) (not x.load)
        ≡ located s.bus.memc (word_address span.lowest j) false (not x.load) =
        λ j. ap (λ m. located s.bus.memc (word_address span.lowest j) (is_user m) (not x.load)) svc in
        block_pays (setting (Some x.rn)) x span h.spot (λ j less. privileged j ∙ h.transfer.spots j less) h.transfer.block
        h.target

    block_done : (x : Block) → BlockSet x Svc (is_listed x.list R15) (word_count x.list)
        → Pays (operation.Block x) (work_of (operation.Block x))
    block_done x =
        let all = word_count x.list in
        let last = is_listed x.list R15 in
        subst (λ m. BlockSet x m last all → BlockDone x last all) svc (block_set x)

    -- a trap leads to no place
    pub operation_set : (o : Operation) (calls : List ℕ) (a : ℕ)
        → Contains (landings st calls a (kind_of o)) to → IsSetFor st profile address to s i o
        → OperationPays o
    unfolding operation_effect data_register_effect data_register_shift_effect data_immediate_effect
    operation_set (operation.Multiply x) calls a lands h =
        multiply_pays (setting None) x
        (ap (λ m. multiply_cycles (register_in m (register_number x.rs) s.regs)) svc ∙ h)
    operation_set (operation.DataRegister x) calls a lands h =
        stated_pays (operation.DataRegister x) refl
        (placed_pays (setting None) x.opcode x.sets_flags x.rd _ _ _ h)
    operation_set (operation.DataRegisterShift x) calls a lands h =
        stated_pays (operation.DataRegisterShift x) refl
        (delayed_moves (setting None) 1 1 (writer_if (data_writes_pc x.opcode x.rd)) _ refl (some_stated st address)
        (placed_pays (setting None) x.opcode x.sets_flags x.rd _ _ _ (λ w. absurd (false≢true (sym h ∙ w)))))
    operation_set (operation.DataImmediate x) calls a lands h =
        stated_pays (operation.DataImmediate x) refl
        (placed_pays (setting None) x.opcode x.sets_flags x.rd _ _ _ h)
    operation_set (operation.SingleImmediate x) calls a lands h =
        stated_pays (operation.SingleImmediate x) refl (single_set x h.0 h.1 h.2)
    operation_set (operation.SingleRegister x) calls a lands h = absurd h
    operation_set (operation.Block x) calls a lands h = stated_pays (operation.Block x) refl (block_done x h)
    operation_set (operation.Branch x) calls a lands h =
        stated_pays (operation.Branch x) refl (branch_pays (setting None) x)
    operation_set (operation.Swi x) calls a lands h = absurd (no_member to lands)
    operation_set (operation.UndefinedTransfer x) calls a lands h = absurd (no_member to lands)
    operation_set (operation.CoprocessorTransfer x) calls a lands h = absurd (no_member to lands)
    operation_set (operation.Coprocessor x) calls a lands h = absurd (no_member to lands)
