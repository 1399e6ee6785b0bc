-- What a step moves is what was planned.
use Rattle.std.proofs.Common.{◌≡◌, ◌∙◌, ℕ, zero, suc, Bool, true, false, cond, not, nat_lt, List, [], ◌∷◌, ◌++◌, Option, Some, None, Result, Ok, Err, refl, sym, ap, inl, inr, subst}
use Rattle.std.proofs.lemmas.Bool.{cases_Bool}
use Rattle.std.proofs.lemmas.List.{append-nil}
use Rattle.bus_ticks.specs.declared.space.TheConstants.{SPACE_END}
use Rattle.bus_ticks.specs.Prices.{word_address}
use Rattle.memc.specs.declared.spots.Spot.{Spot}
use Rattle.memc.specs.Memory.{located}
use Rattle.arm2_decode.specs.Conditions.{condition_holds}
use Rattle.arm2_decode.specs.Names.{is_compare, is_pc, register_number}
use Rattle.arm2_decode.specs.Table.{IsUnallocated, Means}
use Rattle.arm2_decode.specs.Transfers.{is_listed, registers_in, word_count}
use Rattle.arm2_decode.specs.declared.instr.Block.{Block}
use Rattle.arm2_decode.specs.declared.instr.Instr.{Instr}
use Rattle.arm2_decode.specs.declared.instr.Operation.{Operation}
use Rattle.arm2_decode.specs.declared.instr.Operation.TheVariants as operation
use Rattle.arm2_decode.specs.declared.instr.Unallocated.{Unallocated}
use Rattle.arm2_decode.specs.declared.names.Register.TheVariants.{R15}
use Rattle.arm2_decode.proofs.Unique.{never_both, one_instr}
use Rattle.arm2_effect.specs.declared.exceptions.Vector.{Vector}
use Rattle.arm2_effect.specs.declared.exceptions.Vector.TheVariants as vector
use Rattle.arm2_effect.specs.declared.step_end.Kind.{Kind}
use Rattle.arm2_effect.specs.declared.step_end.Kind.TheVariants.{Plain}
use Rattle.arm2_effect.specs.declared.step_end.Why.TheVariants as why
use Rattle.arm2_effect.specs.Effects.{Access, FetchN, FetchS, Word, Internal, Effect, is_stopped, refill, skipped, straight, stopped}
use Rattle.arm2_effect.specs.Exceptions.{taken}
use Rattle.arm2_effect.specs.Modes.{is_user, r15_in, register_in}
use Rattle.arm2_effect.specs.Operands.{current_mode, first_of}
use Rattle.arm2_effect.specs.Operations.{branch_effect, compared, data_immediate_effect, data_register_effect, data_register_shift_effect, entered, jumped, multiply_effect, operation_effect, outcome_effect}
use Rattle.arm2_effect.specs.ProgramCounter.{address_of, flags_of}
use Rattle.arm2_transfer.specs.declared.bus.Bus.{Bus}
use Rattle.arm2_transfer.specs.declared.single_fields.Single.{Single}
use Rattle.arm2_transfer.specs.declared.span.Span.{Span}
use Rattle.arm2_transfer.specs.declared.words.Move.{Move}
use Rattle.arm2_transfer.specs.declared.words.TransferFault.{TransferFault}
use Rattle.arm2_transfer.specs.declared.words.TransferFault.TheVariants as fault
use Rattle.arm2_transfer.specs.Block.{block_at, block_by, block_carried_out, block_loads, block_moved, block_stores, span_of}
use Rattle.arm2_transfer.specs.Moved.{Moved, load_accesses, on_bus, out_of_space, store_accesses, words_at}
use Rattle.arm2_transfer.specs.Operations.{operation_moved}
use Rattle.arm2_transfer.specs.Single.{address_for, has_user_rights, of_immediate, of_register, single_at, single_by, single_carried_out, single_loaded, single_loads, single_stores}
use Rattle.arm2_transfer.specs.Words.{or_fault, verdict_of, words_from as located_words}
use Rattle.arm2_exec.specs.declared.machine.Input.{Input}
use Rattle.arm2_exec.specs.declared.machine.Stepped.{Stepped}
use Rattle.arm2_exec.specs.State.{State}
use Rattle.arm2_exec.specs.Step.{Obeys, ObeysFetched, Step, Works, answer_of, fetched, instruction_moved, interrupt_due, unallocated_moved, with_lines}
use Rattle.json_trace.specs.Facts.{carried}
use Rattle.json_trace.specs.Planned.{planned_by, words_from, words_in_space}
use Rattle.json_trace.specs.StepLine.{Transfer, transfers_in}
use Rattle.json_trace.specs.declared.moved_words.Transfers.{Transfers}

-- ## Accesses

transfers_append : (xs ys : List Access) → transfers_in (xs ++ ys) ≡ transfers_in xs ++ transfers_in ys
transfers_append [] ys = refl
transfers_append (FetchN a ∷ xs) ys = transfers_append xs ys
transfers_append (FetchS a ∷ xs) ys = transfers_append xs ys
transfers_append (Word store first a ∷ xs) ys =
    ap (λ (t : List Transfer). (store, a) ∷ t) (transfers_append xs ys)
transfers_append (Internal cycles ∷ xs) ys = transfers_append xs ys

words_are : (store : Bool) (address k : ℕ) → transfers_in (words_at store address k) ≡ words_from store address k
unfolding words_at
words_are store address zero = refl
words_are store address (suc k) =
    transfers_append (words_at store address k) _
    ∙ ap (λ (t : List Transfer). t ++ (store, word_address address k) ∷ []) (words_are store address k)

refill_none : (jumps : Bool) (t : ℕ) → transfers_in (cond jumps (refill t) []) ≡ []
refill_none true t = refl
refill_none false t = refl

loads_are : (a address k : ℕ) (jumps : Bool) (t : ℕ) → transfers_in (load_accesses a address k jumps t) ≡ words_from false address k
loads_are a address k jumps t =
    transfers_append (straight a ++ words_at false address k) (Internal 1 ∷ cond jumps (refill t) [])
    ∙ ap (λ (x : List Transfer). transfers_in (straight a ++ words_at false address k) ++ x) (refill_none jumps t)
    ∙ append-nil (transfers_in (straight a ++ words_at false address k)) ∙ words_are false address k

stores_are : (a address k : ℕ) → transfers_in (store_accesses a address k) ≡ words_from true address k
stores_are a address k = words_are true address k

-- ## Choices

-- what is planned is moved by a plain step, and nothing by any other
abbrev Moves : Moved → Option Transfers → Type 0
Moves m planned = transfers_in m.accesses ≡ carried m.kind planned

-- a load or a store
loads_or : (load : Bool) (l s : Moved) (address k : ℕ) → l.kind ≡ Plain → s.kind ≡ Plain
    → transfers_in l.accesses ≡ words_from false address k → transfers_in s.accesses ≡ words_from true address k
    → Moves (cond load l s) (Some (record { store = not load; address = address; words = k }))
loads_or true l s address k is other h g =
    h ∙ ap (λ (kind : Kind). carried kind (Some (record { store = false; address = address; words = k }))) (sym is)
loads_or false l s address k other is h g =
    g ∙ ap (λ (kind : Kind). carried kind (Some (record { store = true; address = address; words = k }))) (sym is)

-- an address in space or past it
in_space : (b : Bool) (m out : Moved) (t : Transfers) → Moves out None → Moves m (Some t)
    → Moves (cond b m out) (cond b (Some t) None)
in_space true m out t past here = here
in_space false m out t past here = past

taken_moves : (v : Vector) (regs : List ℕ) (bus : Bus) (planned : Option Transfers) → Moves (on_bus bus (taken v regs)) planned
unfolding taken
taken_moves v regs bus planned = refl

-- ## Single transfers

single_moves : (x : Single) (base port : ℕ) (verdict : Result Spot TransferFault) (regs : List ℕ) (bus : Bus)
    → Moves (single_by x base port verdict regs bus)
    (Some (record { store = not x.load; address = address_for x base; words = 1 }))
unfolding single_by single_carried_out single_loads single_stores taken stopped
single_moves x base port (Err fault.DataAbort) regs bus = refl
single_moves x base port (Err fault.UnsupportedWrite) regs bus = refl
single_moves x base port (Ok spot) regs bus =
    loads_or x.load (single_loads x base port spot regs bus) (single_stores x base spot regs bus) (address_for x base) 1 refl refl
    (loads_are (address_of (r15_in regs)) (address_for x base) 1 (is_pc x.rd) (address_of (r15_in (single_loaded x base port spot regs bus))))
    (stores_are (address_of (r15_in regs)) (address_for x base) 1)

single_law : (x : Single) (base port : ℕ) (regs : List ℕ) (bus : Bus)
    → Moves (single_at x base port regs bus) (words_in_space (not x.load) (address_for x base) 1)
unfolding single_at
single_law x base port regs bus =
    let verdict = or_fault (located bus.memc (address_for x base) (has_user_rights x (current_mode regs)) (not x.load)) in
    in_space (nat_lt (address_for x base) SPACE_END) (single_by x base port verdict regs bus) (out_of_space regs bus)
    (record { store = not x.load; address = address_for x base; words = 1 })
    (taken_moves vector.AddressException regs bus None) (single_moves x base port verdict regs bus)

-- ## Blocks

block_moves : (x : Block) (span : Span) (port : ℕ) (verdict : Result (List Move) TransferFault) (regs : List ℕ) (bus : Bus)
    → Moves (block_by x span port verdict regs bus)
    (Some (record { store = not x.load; address = span.lowest; words = span.words }))
unfolding block_by block_carried_out block_loads block_stores taken stopped
block_moves x span port (Err fault.DataAbort) regs bus = refl
block_moves x span port (Err fault.UnsupportedWrite) regs bus = refl
block_moves x span port (Ok moves) regs bus =
    loads_or x.load (block_loads x span port moves regs bus) (block_stores x span moves regs bus) span.lowest span.words refl refl
    (loads_are (address_of (r15_in regs)) span.lowest span.words (is_listed x.list R15) _)
    (stores_are (address_of (r15_in regs)) span.lowest span.words)

block_law : (x : Block) (port : ℕ) (regs : List ℕ) (bus : Bus)
    → Moves (block_moved x port regs bus) (planned_by (operation.Block x) regs)
unfolding block_moved block_at
block_law x port regs bus =
    let span = span_of x (register_in (current_mode regs) (register_number x.rn) regs) (word_count x.list) in
    let verdict = verdict_of (located_words bus.memc (is_user (current_mode regs)) (not x.load) span.lowest 0 (registers_in x.list)) in
    in_space (nat_lt span.lowest SPACE_END) (block_by x span port verdict regs bus) (out_of_space regs bus)
    (record { store = not x.load; address = span.lowest; words = span.words })
    (taken_moves vector.AddressException regs bus None) (block_moves x span port verdict regs bus)

-- ## Any operation

-- one of three effects
choice_none : (a b : Bool) (x y z : Effect) (bus : Bus) → Moves (on_bus bus x) None → Moves (on_bus bus y) None
    → Moves (on_bus bus z) None → Moves (on_bus bus (cond a x (cond b y z))) None
choice_none true b x y z bus h g k = h
choice_none false true x y z bus h g k = g
choice_none false false x y z bus h g k = k

operation_law : (o : Operation) (port : ℕ) (regs : List ℕ) (bus : Bus) → Moves (operation_moved o port regs bus) (planned_by o regs)
unfolding operation_effect multiply_effect entered jumped compared outcome_effect data_immediate_effect data_register_effect data_register_shift_effect branch_effect taken
operation_law (operation.Multiply x) port regs bus = refl
operation_law (operation.DataRegister x) port regs bus =
    choice_none (is_compare x.opcode) (is_pc x.rd) _ _ _ bus refl refl refl
operation_law (operation.DataRegisterShift x) port regs bus =
    choice_none (is_compare x.opcode) (is_pc x.rd) _ _ _ bus refl refl refl
operation_law (operation.DataImmediate x) port regs bus =
    choice_none (is_compare x.opcode) (is_pc x.rd) _ _ _ bus refl refl refl
operation_law (operation.SingleImmediate x) port regs bus = single_law (of_immediate x) (first_of 8 x.rn regs) port regs bus
operation_law (operation.SingleRegister x) port regs bus = single_law (of_register x regs) (first_of 8 x.rn regs) port regs bus
operation_law (operation.Block x) port regs bus = block_law x port regs bus
operation_law (operation.Branch x) port regs bus = refl
operation_law (operation.Swi x) port regs bus = refl
operation_law (operation.UndefinedTransfer x) port regs bus = refl
operation_law (operation.CoprocessorTransfer x) port regs bus = refl
operation_law (operation.Coprocessor x) port regs bus = refl

-- ## Words

skipped_none : (regs : List ℕ) (bus : Bus) → Moves (on_bus bus (skipped regs)) None
unfolding skipped
skipped_none regs bus = refl

instruction_law : (b : Bool) (o : Operation) (port : ℕ) (regs : List ℕ) (bus : Bus)
    → Moves (cond b (operation_moved o port regs bus) (on_bus bus (skipped regs))) (cond b (planned_by o regs) None)
instruction_law true o port regs bus = operation_law o port regs bus
instruction_law false o port regs bus = skipped_none regs bus

unallocated_law : (b : Bool) (regs : List ℕ) (bus : Bus)
    → Moves (cond b (on_bus bus (stopped why.Unallocated regs)) (on_bus bus (skipped regs))) None
unfolding stopped
unallocated_law true regs bus = refl
unallocated_law false regs bus = skipped_none regs bus

answer_kind : (s : State) (m : Moved) → (answer_of s m).kind ≡ m.kind
unfolding answer_of
answer_kind s m = elim (cases_Bool (is_stopped m.kind)) [
  | inl stops ↦ rw stops refl
  | inr goes ↦ rw goes refl
]

module _ (s : State) (i : Input) (stepped : Stepped) (after : State) (step : Step s i stepped after) where
  abbrev bus : Bus
  bus = with_lines i.lines.0 s.bus

  abbrev pub AreMoved : Option Transfers → Type 0
  AreMoved planned = transfers_in step.moved.accesses ≡ carried stepped.kind planned

  by_moved : (planned : Option Transfers) → Moves step.moved planned → AreMoved planned
  by_moved planned moves =
      moves ∙ ap (λ (kind : Kind). carried kind planned)
      (sym (ap (λ (x : Stepped). x.kind) step.stepped_is ∙ answer_kind s step.moved))

  unless_interrupt : (v : Option Vector) (m : Moved) (planned : Option Transfers) → Works v i.port s.regs bus m
      → (ObeysFetched (fetched s.bus.memc (r15_in s.regs)) i.port s.regs bus m → Moves m planned) → Moves m planned
  unless_interrupt None m planned works by = by works
  unless_interrupt (Some v) m planned works by =
      subst (λ (x : Moved). Moves x planned) (sym works) (taken_moves v s.regs bus planned)

  by_word : (planned : Option Transfers)
      → (ObeysFetched (fetched s.bus.memc (r15_in s.regs)) i.port s.regs bus step.moved → Moves step.moved planned)
      → AreMoved planned
  by_word planned by =
      by_moved planned (unless_interrupt (interrupt_due bus (r15_in s.regs)) step.moved planned step.works by)

  -- no word is fetched
  pub none_moves : fetched s.bus.memc (r15_in s.regs) ≡ None → AreMoved None
  none_moves none = by_word None (λ obeys.
      let is : step.moved ≡ on_bus bus (taken vector.PrefetchAbort s.regs) =
      subst (λ (w : Option ℕ). ObeysFetched w i.port s.regs bus step.moved) none obeys in
      subst (λ (x : Moved). Moves x None) (sym is) (taken_moves vector.PrefetchAbort s.regs bus None))

  module _ (word : ℕ) (is : fetched s.bus.memc (r15_in s.regs) ≡ Some word) where
    obeyed : ObeysFetched (fetched s.bus.memc (r15_in s.regs)) i.port s.regs bus step.moved
        → Obeys word i.port s.regs bus step.moved
    obeyed obeys = subst (λ (w : Option ℕ). ObeysFetched w i.port s.regs bus step.moved) is obeys

    of_unallocated : (u : Unallocated) → step.moved ≡ unallocated_moved u s.regs bus → Moves step.moved None
    of_unallocated u same =
        subst (λ (x : Moved). Moves x None) (sym same)
        (unallocated_law (condition_holds u.cond (flags_of (r15_in s.regs))) s.regs bus)

    -- it is no instruction
    pub unallocated_moves : (u : Unallocated) → IsUnallocated word u → AreMoved None
    unallocated_moves u bars = by_word None (λ obeys. elim (obeyed obeys) [
      | inl (x, means, same) ↦ absurd (never_both word x u means bars)
      | inr (v, barred, same) ↦ of_unallocated v same
    ])

    of_instruction : (x : Instr) → step.moved ≡ instruction_moved x i.port s.regs bus
        → Moves step.moved (cond (condition_holds x.cond (flags_of (r15_in s.regs))) (planned_by x.operation s.regs) None)
    of_instruction x same =
        subst
        (λ (m : Moved). Moves m (cond (condition_holds x.cond (flags_of (r15_in s.regs))) (planned_by x.operation s.regs) None))
        (sym same) (instruction_law (condition_holds x.cond (flags_of (r15_in s.regs))) x.operation i.port s.regs bus)

    -- it is one
    pub instruction_moves : (x : Instr) → Means word x
        → AreMoved (cond (condition_holds x.cond (flags_of (r15_in s.regs))) (planned_by x.operation s.regs) None)
    instruction_moves x means = by_word _ (λ obeys. elim (obeyed obeys) [
      | inl (y, other, same) ↦
          of_instruction x
          (subst (λ (z : Instr). step.moved ≡ instruction_moved z i.port s.regs bus) (one_instr word y x other means) same)
      | inr (v, barred, same) ↦ absurd (never_both word x v means barred)
    ])
