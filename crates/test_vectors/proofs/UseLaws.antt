-- What a step does on the bus is what was planned, as its kind settles it.
use Rattle.std.proofs.Common.{◌≡◌, ◌∙◌, ℕ, ◌+◌, ◌*◌, ◌/◌, ◌%◌, ◌^◌, ◌<◌, ◌==◌, ◌&&◌, Bool, true, false, true≢false, cond, not, nat_lt, List, [], ◌∷◌, ◌++◌, Option, Some, None, Result, Ok, Err, refl, sym, ap, inl, inr, subst, length, arith}
use Rattle.std.proofs.lemmas.Bool.{cases_Bool}
use Rattle.std.proofs.lemmas.List.{get_or-set_same, length-set}
use Rattle.bus_ticks.specs.declared.space.TheConstants.{SPACE_END}
use Rattle.bus_ticks.specs.Prices.{ahead_of}
use Rattle.memc.specs.declared.spots.Spot.{Spot}
use Rattle.memc.specs.Memory.{located}
use Rattle.arm2_decode.specs.Conditions.{condition_holds}
use Rattle.arm2_decode.specs.Names.{is_compare, is_pc, register_number}
use Rattle.arm2_decode.specs.Table.{IsUnallocated, Means}
use Rattle.arm2_decode.specs.Transfers.{is_listed, registers_in, word_count}
use Rattle.arm2_decode.specs.declared.instr.Block.{Block}
use Rattle.arm2_decode.specs.declared.instr.Branch.{Branch}
use Rattle.arm2_decode.specs.declared.instr.Instr.{Instr}
use Rattle.arm2_decode.specs.declared.instr.Operation.{Operation}
use Rattle.arm2_decode.specs.declared.instr.Operation.TheVariants as operation
use Rattle.arm2_decode.specs.declared.instr.Unallocated.{Unallocated}
use Rattle.arm2_decode.specs.declared.names.Opcode.{Opcode}
use Rattle.arm2_decode.specs.declared.names.Register.{Register}
use Rattle.arm2_decode.specs.declared.names.Register.TheVariants.{R15}
use Rattle.arm2_decode.proofs.Unique.{never_both, one_instr}
use Rattle.arm2_effect.specs.declared.exceptions.Vector.{Vector}
use Rattle.arm2_effect.specs.declared.exceptions.Vector.TheVariants as vector
use Rattle.arm2_effect.specs.declared.modes.Mode.{Mode}
use Rattle.arm2_effect.specs.declared.modes.Mode.TheVariants as mode
use Rattle.arm2_effect.specs.declared.step_end.Kind.{Kind}
use Rattle.arm2_effect.specs.declared.step_end.Kind.TheVariants as kind
use Rattle.arm2_effect.specs.declared.step_end.Why.{Why}
use Rattle.arm2_effect.specs.declared.step_end.Why.TheVariants as why
use Rattle.arm2_effect.specs.Effects.{Access, FetchS, Internal, Effect, is_stopped, refill, skipped, straight, stopped}
use Rattle.arm2_effect.specs.Exceptions.{entry_at, masked, taken}
use Rattle.arm2_effect.specs.Modes.{is_user, mode_number, r15_in, register_in, slot_of, with_r15, with_register}
use Rattle.arm2_effect.specs.Operands.{current_mode, first_of}
use Rattle.arm2_effect.specs.Operations.{branch_effect, compared, data_immediate_effect, data_register_effect, data_register_shift_effect, delayed, entered, jumped, multiply_effect, operation_effect, outcome_effect}
use Rattle.arm2_effect.specs.ProgramCounter.{address_of, branch_target, flags_of, mode_of, psr_of, r15_ahead, r15_jumped, r15_of, r15_restored}
use Rattle.arm2_transfer.specs.declared.bus.Bus.{Bus}
use Rattle.arm2_transfer.specs.declared.single_fields.Single.{Single}
use Rattle.arm2_transfer.specs.declared.span.Span.{Span}
use Rattle.arm2_transfer.specs.declared.words.Move.{Move}
use Rattle.arm2_transfer.specs.declared.words.TransferFault.{TransferFault}
use Rattle.arm2_transfer.specs.declared.words.TransferFault.TheVariants as fault
use Rattle.arm2_transfer.specs.Block.{block_at, block_by, block_carried_out, block_loads, block_moved, block_stores, span_of}
use Rattle.arm2_transfer.specs.Moved.{Moved, on_bus, out_of_space}
use Rattle.arm2_transfer.specs.Operations.{operation_moved}
use Rattle.arm2_transfer.specs.Single.{address_for, has_user_rights, of_immediate, of_register, single_at, single_by, single_carried_out, single_loaded, single_loads, single_stores}
use Rattle.arm2_transfer.specs.Words.{or_fault, verdict_of, words_from as located_words}
use Rattle.arm2_exec.specs.declared.machine.Input.{Input}
use Rattle.arm2_exec.specs.declared.machine.Stepped.{Stepped}
use Rattle.arm2_exec.specs.State.{State}
use Rattle.arm2_exec.specs.Step.{Obeys, ObeysFetched, Step, Works, address_in, answer_of, fetched, instruction_moved, interrupt_due, state_after, unallocated_moved, with_lines}
use Rattle.json_trace.specs.Planned.{words_in_space}
use Rattle.json_trace.specs.declared.moved_words.Transfers.{Transfers}
use Rattle.test_vectors.specs.declared.bus_use.BusUse.{BusUse}
use Rattle.test_vectors.specs.declared.bus_use.BusUse.TheVariants.{Nothing, Fetches, Loads, Stores}
use Rattle.test_vectors.specs.Shape.{IsUseOf, internal, is_store, jumping, moving, settled, shape, straight_on, use_by, use_if}

-- ## Addresses in R15

abbrev IsWordAddress : ℕ → Type 0
IsWordAddress t = (t < 2 ^ 26) × (t % 4 ≡ 0)

mode_small : (m : Mode) → mode_number m < 4
mode_small mode.User = omega arith
mode_small mode.Fiq = omega arith
mode_small mode.Irq = omega arith
mode_small mode.Svc = omega arith

address_put : (psr t : ℕ) (m : Mode) → IsWordAddress t → address_of (r15_of psr t m) ≡ t
address_put psr t m h = omega (arith, h.0, h.1, mode_small m)

address_cond : (b : Bool) (x y t : ℕ) → address_of x ≡ t → address_of y ≡ t → address_of (cond b x y) ≡ t
address_cond true x y t p q = p
address_cond false x y t p q = q

word_address_of : (r : ℕ) → IsWordAddress (address_of r)
word_address_of r = (omega arith, omega arith)

address_restored : (r value t : ℕ) → IsWordAddress t → address_of (r15_restored r value t) ≡ t
address_restored r value t h =
    address_cond (r % 4 == 0) (r15_of (value / 2 ^ 28 * 4 + psr_of r % 4) t mode.User) (r15_of (psr_of value) t (mode_of value)) t
    (address_put (value / 2 ^ 28 * 4 + psr_of r % 4) t mode.User h)
    (address_put (psr_of value) t (mode_of value) h)

address_jumped : (r value : ℕ) → address_of (r15_jumped r value) ≡ address_of value
address_jumped r value = address_put (psr_of r) (address_of value) (mode_of r) (word_address_of value)

entry_word : (v : Vector) → IsWordAddress (entry_at v).address
entry_word vector.Undefined = (omega arith, refl)
entry_word vector.Swi = (omega arith, refl)
entry_word vector.PrefetchAbort = (omega arith, refl)
entry_word vector.DataAbort = (omega arith, refl)
entry_word vector.AddressException = (omega arith, refl)
entry_word vector.Irq = (omega arith, refl)
entry_word vector.Fiq = (omega arith, refl)

goes : (regs : List ℕ) (value t : ℕ) → 26 < length regs → address_of value ≡ t → address_of (r15_in (with_r15 value regs)) ≡ t
goes regs value t long e = ap address_of (get_or-set_same regs 26 value 0 long) ∙ e

long_with : (mode : Mode) (n value : ℕ) (regs : List ℕ) → 26 < length regs → 26 < length (with_register mode n value regs)
long_with mode n value regs long = omega (arith, length-set regs (slot_of mode n) value, long)

-- ## What is done

-- the accesses are those of the use, and where it is no store memory stays
record Fits (m : Moved) (regs : List ℕ) (bus : Bus) (u : BusUse) : Type 0 where
  accesses : shape (settled m.kind u) (address_of (r15_in regs)) (address_of (r15_in m.regs)) ≡ m.accesses
  kept : is_store (settled m.kind u) ≡ false → m.bus.memc ≡ bus.memc

-- the accesses of a jump
jump_to : (delay : Option ℕ) (a t u : ℕ) → t ≡ u
    → shape (Fetches delay true) a t ≡ internal delay ++ (FetchS (ahead_of a 8) ∷ refill u)
jump_to delay a t u e = ap (λ (n : ℕ). internal delay ++ (FetchS (ahead_of a 8) ∷ refill n)) e

module _ (regs : List ℕ) (long : 26 < length regs) (bus : Bus) where
  taken_fits : (v : Vector) (u : BusUse) → Fits (on_bus bus (taken v regs)) regs bus u
  unfolding taken
  taken_fits v u =
      let e = entry_at v in
      let value = r15_of (masked e.masks_fiq (psr_of (r15_in regs))) e.address e.mode in
      let inner = with_register e.mode 14 (r15_ahead (r15_in regs) e.return_offset) regs in
      record {
        accesses =
            jump_to None (address_of (r15_in regs)) (address_of (r15_in (with_r15 value inner))) e.address
            (goes inner value e.address (long_with e.mode 14 (r15_ahead (r15_in regs) e.return_offset) regs long)
            (address_put (masked e.masks_fiq (psr_of (r15_in regs))) e.address e.mode (entry_word v)));
        kept = λ other. refl;
      }

  stopped_fits : (w : Why) (u : BusUse) → Fits (on_bus bus (stopped w regs)) regs bus u
  unfolding stopped
  stopped_fits w u = record { accesses = refl; kept = λ other. refl }

  skipped_fits : Fits (on_bus bus (skipped regs)) regs bus straight_on
  unfolding skipped
  skipped_fits = record { accesses = refl; kept = λ other. refl }

  -- ## Data processing

  entered_fits : (sets : Bool) (rd : Register) (out : _) → Fits (on_bus bus (entered sets rd out regs)) regs bus straight_on
  unfolding entered
  entered_fits sets rd out = record { accesses = refl; kept = λ other. refl }

  compared_fits : (rd : Register) (out : _) → Fits (on_bus bus (compared rd out regs)) regs bus straight_on
  unfolding compared
  compared_fits rd out = record { accesses = refl; kept = λ other. refl }

  jumped_fits : (sets : Bool) (out : _) → Fits (on_bus bus (jumped sets out regs)) regs bus (Fetches None true)
  unfolding jumped
  jumped_fits sets out =
      let r = r15_in regs in
      let t = address_of out.value in
      let value = cond sets (r15_restored r out.value t) (r15_jumped r out.value) in
      record {
        accesses =
            jump_to None (address_of r) (address_of (r15_in (with_r15 value regs))) t
            (goes regs value t long
            (address_cond sets (r15_restored r out.value t) (r15_jumped r out.value) t
            (address_restored r out.value t (word_address_of out.value)) (address_jumped r out.value)));
        kept = λ other. refl;
      }

  -- one of three
  chosen_fits : (c p : Bool) (x y z : Effect) → Fits (on_bus bus x) regs bus straight_on
      → Fits (on_bus bus y) regs bus (Fetches None true) → Fits (on_bus bus z) regs bus straight_on
      → Fits (on_bus bus (cond c x (cond p y z))) regs bus (Fetches None (not c && p))
  chosen_fits true p x y z h g k = h
  chosen_fits false true x y z h g k = g
  chosen_fits false false x y z h g k = k

  outcome_fits : (opcode : Opcode) (sets : Bool) (rd : Register) (out : _)
      → Fits (on_bus bus (outcome_effect opcode sets rd out regs)) regs bus (jumping None opcode rd)
  unfolding outcome_effect
  outcome_fits opcode sets rd out =
      chosen_fits (is_compare opcode) (is_pc rd) (compared rd out regs) (jumped sets out regs) (entered sets rd out regs)
      (compared_fits rd out) (jumped_fits sets out) (entered_fits sets rd out)

  -- some internal cycles more, of an effect that goes on
  delayed_fits : (n : ℕ) (e : Effect) (jumps : Bool) → e.kind ≡ kind.Plain → Fits (on_bus bus e) regs bus (Fetches None jumps)
      → Fits (on_bus bus (delayed n e)) regs bus (Fetches (Some n) jumps)
  delayed_fits n e jumps plain fits =
      let a = address_of (r15_in regs) in
      let t = address_of (r15_in e.regs) in
      let short : shape (Fetches None jumps) a t ≡ e.accesses =
      subst (λ (k : Kind). shape (settled k (Fetches None jumps)) a t ≡ e.accesses) plain fits.accesses in
      record {
        accesses =
            ap (λ (k : Kind). shape (settled k (Fetches (Some n) jumps)) a t) plain
            ∙ ap (λ (xs : List Access). Internal n ∷ xs) short;
        kept = λ other. refl;
      }

  -- which of three effects it is, it goes on
  chosen_plain : (c p : Bool) (x y z : Effect) → x.kind ≡ kind.Plain → y.kind ≡ kind.Plain → z.kind ≡ kind.Plain
      → (cond c x (cond p y z)).kind ≡ kind.Plain
  chosen_plain true p x y z h g k = h
  chosen_plain false true x y z h g k = g
  chosen_plain false false x y z h g k = k

  outcome_plain : (opcode : Opcode) (sets : Bool) (rd : Register) (out : _)
      → (outcome_effect opcode sets rd out regs).kind ≡ kind.Plain
  unfolding outcome_effect compared jumped entered
  outcome_plain opcode sets rd out =
      chosen_plain (is_compare opcode) (is_pc rd) (compared rd out regs) (jumped sets out regs) (entered sets rd out regs)
      refl refl refl

  branch_fits : (x : Branch) → Fits (on_bus bus (branch_effect x regs)) regs bus (Fetches None true)
  unfolding branch_effect
  branch_fits x =
      let r = r15_in regs in
      let t = branch_target (address_of r) x.offset in
      let inner = cond x.link (with_register (mode_of r) 14 (r15_ahead r 4) regs) regs in
      let value = r15_of (psr_of r) t (mode_of r) in
      let word : IsWordAddress t = (omega arith, omega arith) in
      let inner_long : 26 < length inner =
      elim (cases_Bool x.link) [
        | inl links ↦ rw links (long_with (mode_of r) 14 (r15_ahead r 4) regs long)
        | inr other ↦ rw other long
      ] in
      record {
        accesses =
            jump_to None (address_of r) (address_of (r15_in (with_r15 value inner))) t
            (goes inner value t inner_long (address_put (psr_of r) t (mode_of r) word));
        kept = λ other. refl;
      }

  -- ## Loads and stores

  loads_or : (load jumps : Bool) (l s : Moved) (address k : ℕ)
      → Fits l regs bus (Loads (record { store = false; address = address; words = k }) jumps)
      → Fits s regs bus (Stores (record { store = true; address = address; words = k }))
      → Fits (cond load l s) regs bus (moving (Some (record { store = not load; address = address; words = k })) jumps)
  loads_or true jumps l s address k h g = h
  loads_or false jumps l s address k h g = g

  in_space : (b jumps : Bool) (m out : Moved) (t : Transfers) → Fits out regs bus (moving None jumps)
      → Fits m regs bus (moving (Some t) jumps)
      → Fits (cond b m out) regs bus (moving (cond b (Some t) None) jumps)
  in_space true jumps m out t past here = here
  in_space false jumps m out t past here = past

  single_fits : (x : Single) (base port : ℕ) (verdict : Result Spot TransferFault)
      → Fits (single_by x base port verdict regs bus) regs bus
      (moving (Some (record { store = not x.load; address = address_for x base; words = 1 })) (is_pc x.rd))
  unfolding single_by single_carried_out single_loads single_stores
  single_fits x base port (Err fault.DataAbort) = taken_fits vector.DataAbort _
  single_fits x base port (Err fault.UnsupportedWrite) = stopped_fits why.UnsupportedWrite _
  single_fits x base port (Ok spot) =
      loads_or x.load (is_pc x.rd) (single_loads x base port spot regs bus) (single_stores x base spot regs bus)
      (address_for x base) 1
      (record { accesses = refl; kept = λ other. refl })
      (record { accesses = refl; kept = λ other. absurd (true≢false other) })

  single_law : (x : Single) (base port : ℕ)
      → Fits (single_at x base port regs bus) regs bus (moving (words_in_space (not x.load) (address_for x base) 1) (is_pc x.rd))
  unfolding single_at
  single_law x base port =
      let verdict = or_fault (located bus.memc (address_for x base) (has_user_rights x (current_mode regs)) (not x.load)) in
      in_space (nat_lt (address_for x base) SPACE_END) (is_pc x.rd) (single_by x base port verdict regs bus) (out_of_space regs bus)
      (record { store = not x.load; address = address_for x base; words = 1 })
      (taken_fits vector.AddressException (moving None (is_pc x.rd))) (single_fits x base port verdict)

  block_fits : (x : Block) (span : Span) (port : ℕ) (verdict : Result (List Move) TransferFault)
      → Fits (block_by x span port verdict regs bus) regs bus
      (moving (Some (record { store = not x.load; address = span.lowest; words = span.words })) (is_listed x.list R15))
  unfolding block_by block_carried_out block_loads block_stores
  block_fits x span port (Err fault.DataAbort) = taken_fits vector.DataAbort _
  block_fits x span port (Err fault.UnsupportedWrite) = stopped_fits why.UnsupportedWrite _
  block_fits x span port (Ok moves) =
      loads_or x.load (is_listed x.list R15) (block_loads x span port moves regs bus) (block_stores x span moves regs bus)
      span.lowest span.words
      (record { accesses = refl; kept = λ other. refl })
      (record { accesses = refl; kept = λ other. absurd (true≢false other) })

  block_law : (x : Block) (port : ℕ) → Fits (block_moved x port regs bus) regs bus (use_by (operation.Block x) regs)
  unfolding block_moved block_at
  block_law x port =
      let span = span_of x (register_in (current_mode regs) (register_number x.rn) regs) (word_count x.list) in
      let verdict = verdict_of (located_words bus.memc (is_user (current_mode regs)) (not x.load) span.lowest 0 (registers_in x.list)) in
      in_space (nat_lt span.lowest SPACE_END) (is_listed x.list R15) (block_by x span port verdict regs bus) (out_of_space regs bus)
      (record { store = not x.load; address = span.lowest; words = span.words })
      (taken_fits vector.AddressException (moving None (is_listed x.list R15))) (block_fits x span port verdict)

  -- ## Any operation

  operation_law : (o : Operation) (port : ℕ) → Fits (operation_moved o port regs bus) regs bus (use_by o regs)
  unfolding operation_effect multiply_effect entered data_immediate_effect data_register_effect data_register_shift_effect
  operation_law (operation.Multiply x) port = record { accesses = refl; kept = λ other. refl }
  operation_law (operation.DataRegister x) port = outcome_fits x.opcode x.sets_flags x.rd _
  operation_law (operation.DataRegisterShift x) port =
      delayed_fits 1 _ (not (is_compare x.opcode) && is_pc x.rd) (outcome_plain x.opcode x.sets_flags x.rd _)
      (outcome_fits x.opcode x.sets_flags x.rd _)
  operation_law (operation.DataImmediate x) port = outcome_fits x.opcode x.sets_flags x.rd _
  operation_law (operation.SingleImmediate x) port = single_law (of_immediate x) (first_of 8 x.rn regs) port
  operation_law (operation.SingleRegister x) port = single_law (of_register x regs) (first_of 8 x.rn regs) port
  operation_law (operation.Block x) port = block_law x port
  operation_law (operation.Branch x) port = branch_fits x
  operation_law (operation.Swi x) port = taken_fits vector.Swi straight_on
  operation_law (operation.UndefinedTransfer x) port = taken_fits vector.Undefined straight_on
  operation_law (operation.CoprocessorTransfer x) port = taken_fits vector.Undefined straight_on
  operation_law (operation.Coprocessor x) port = taken_fits vector.Undefined straight_on

  instruction_law : (b : Bool) (o : Operation) (port : ℕ)
      → Fits (cond b (operation_moved o port regs bus) (on_bus bus (skipped regs))) regs bus (cond b (use_by o regs) straight_on)
  instruction_law true o port = operation_law o port
  instruction_law false o port = skipped_fits

  unallocated_law : (b : Bool) → Fits (cond b (on_bus bus (stopped why.Unallocated regs)) (on_bus bus (skipped regs))) regs bus straight_on
  unallocated_law true = stopped_fits why.Unallocated straight_on
  unallocated_law false = skipped_fits

-- ## A step

answer_kind : (s : State) (m : Moved) → (answer_of s m).kind ≡ m.kind
unfolding answer_of
answer_kind s m = elim (cases_Bool (is_stopped m.kind)) [
  | inl stops ↦ rw stops refl
  | inr goes ↦ rw goes refl
]

-- the registers of a step that goes on are those of what was done, and one that stops has no accesses
shape_after : (s : State) (i : Input) (m : Moved) (u : BusUse) (a : ℕ)
    → shape (settled m.kind u) a (address_in (state_after s i m).regs) ≡ shape (settled m.kind u) a (address_of (r15_in m.regs))
unfolding state_after
shape_after s i m u a = go m.kind refl
  where
    go : (k : Kind) → m.kind ≡ k
        → shape (settled m.kind u) a (address_in (state_after s i m).regs) ≡ shape (settled m.kind u) a (address_of (r15_in m.regs))
    go kind.Plain is = rw is refl
    go (kind.Taken v) is = rw is refl
    go (kind.Stopped w) is = rw is refl

-- time does not change memory
memory_after : (s : State) (i : Input) (m : Moved) → m.bus.memc ≡ s.bus.memc → (state_after s i m).bus.memc ≡ s.bus.memc
unfolding state_after
memory_after s i m e = go m.kind refl
  where
    go : (k : Kind) → m.kind ≡ k → (state_after s i m).bus.memc ≡ s.bus.memc
    go kind.Plain is = rw is e
    go (kind.Taken v) is = rw is e
    go (kind.Stopped w) is = rw is refl

module _ (s : State) (i : Input) (stepped : Stepped) (after : State) (step : Step s i stepped after) (long : 26 < length s.regs) where
  abbrev bus : Bus
  bus = with_lines i.lines.0 s.bus

  abbrev pub IsUse : BusUse → Type 0
  IsUse u = IsUseOf u s i stepped after step

  by_moved : (u : BusUse) → Fits step.moved s.regs bus u → IsUse u
  by_moved u fits =
      let kind_is : stepped.kind ≡ step.moved.kind = ap (λ (x : Stepped). x.kind) step.stepped_is ∙ answer_kind s step.moved in
      record {
        accesses =
            ap (λ (k : Kind). shape (settled k u) (address_in s.regs) (address_in after.regs)) kind_is
            ∙ ap (λ (x : State). shape (settled step.moved.kind u) (address_in s.regs) (address_in x.regs)) step.after_is
            ∙ shape_after s i step.moved u (address_in s.regs) ∙ fits.accesses;
        kept = λ other.
            ap (λ (x : State). x.bus.memc) step.after_is
            ∙ memory_after s i step.moved
            (fits.kept (sym (ap (λ (k : Kind). is_store (settled k u)) kind_is) ∙ other));
      }

  unless_interrupt : (v : Option Vector) (m : Moved) (u : BusUse) → Works v i.port s.regs bus m
      → (ObeysFetched (fetched s.bus.memc (r15_in s.regs)) i.port s.regs bus m → Fits m s.regs bus u) → Fits m s.regs bus u
  unless_interrupt None m u works by = by works
  unless_interrupt (Some v) m u works by =
      subst (λ (x : Moved). Fits x s.regs bus u) (sym works) (taken_fits s.regs long bus v u)

  by_word : (u : BusUse)
      → (ObeysFetched (fetched s.bus.memc (r15_in s.regs)) i.port s.regs bus step.moved → Fits step.moved s.regs bus u)
      → IsUse u
  by_word u by =
      by_moved u (unless_interrupt (interrupt_due bus (r15_in s.regs)) step.moved u step.works by)

  -- no word is fetched
  pub none_used : fetched s.bus.memc (r15_in s.regs) ≡ None → IsUse straight_on
  none_used none = by_word straight_on (λ obeys.
      let is : step.moved ≡ on_bus bus (taken vector.PrefetchAbort s.regs) =
      subst (λ (w : Option ℕ). ObeysFetched w i.port s.regs bus step.moved) none obeys in
      subst (λ (x : Moved). Fits x s.regs bus straight_on) (sym is) (taken_fits s.regs long bus vector.PrefetchAbort straight_on))

  module _ (word : ℕ) (is : fetched s.bus.memc (r15_in s.regs) ≡ Some word) where
    obeyed : ObeysFetched (fetched s.bus.memc (r15_in s.regs)) i.port s.regs bus step.moved
        → Obeys word i.port s.regs bus step.moved
    obeyed obeys = subst (λ (w : Option ℕ). ObeysFetched w i.port s.regs bus step.moved) is obeys

    of_unallocated : (u : Unallocated) → step.moved ≡ unallocated_moved u s.regs bus → Fits step.moved s.regs bus straight_on
    of_unallocated u same =
        subst (λ (x : Moved). Fits x s.regs bus straight_on) (sym same)
        (unallocated_law s.regs long bus (condition_holds u.cond (flags_of (r15_in s.regs))))

    -- it is no instruction
    pub unallocated_used : (u : Unallocated) → IsUnallocated word u → IsUse straight_on
    unallocated_used u bars = by_word straight_on (λ obeys. elim (obeyed obeys) [
      | inl (x, means, same) ↦ absurd (never_both word x u means bars)
      | inr (v, barred, same) ↦ of_unallocated v same
    ])

    of_instruction : (x : Instr) → step.moved ≡ instruction_moved x i.port s.regs bus
        → Fits step.moved s.regs bus (use_if x s.regs)
    of_instruction x same =
        subst (λ (m : Moved). Fits m s.regs bus (use_if x s.regs))
        (sym same) (instruction_law s.regs long bus (condition_holds x.cond (flags_of (r15_in s.regs))) x.operation i.port)

    -- it is one
    pub instruction_used : (x : Instr) → Means word x → IsUse (use_if x s.regs)
    instruction_used x means = by_word _ (λ obeys. elim (obeyed obeys) [
      | inl (y, other, same) ↦
          of_instruction x
          (subst (λ (z : Instr). step.moved ≡ instruction_moved z i.port s.regs bus) (one_instr word y x other means) same)
      | inr (v, barred, same) ↦ absurd (never_both word x v means barred)
    ])
