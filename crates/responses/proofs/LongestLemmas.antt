-- No step takes more than the longest.
use Rattle.std.proofs.Common.{◌≡◌, ◌∙◌, ℕ, ◌+◌, ◌-◌, ◌*◌, ◌%◌, ◌^◌, ◌<◌, ◌≤◌, ◌⊎◌, inl, inr, Bool, true}
use Rattle.std.proofs.Common.{false, cond, nat_lt, ◌&&◌, List, [], length, Option, Some, None, refl, sym, ap}
use Rattle.std.proofs.Common.{subst, arith, eqb, max}
use Rattle.std.specs.Prelude.{IfSome}
use Rattle.std.proofs.Math.Nat.{pow-le-pow_right}
use Rattle.std.proofs.lemmas.Bool.{cases_lt, cond-false, le-leb, le-ltb, lt-ltb}
use Rattle.std.proofs.lemmas.Nat.{mul-le}
use Rattle.bus_ticks.specs.declared.profile.Class.TheVariants.{Ram, Rom, Any}
use Rattle.bus_ticks.specs.declared.profile.Profile.{Profile}
use Rattle.bus_ticks.specs.declared.profile.RomTimes.{RomTimes}
use Rattle.bus_ticks.specs.Prices.{ahead_of, by_class, class_of, fetch_n, fetch_s, ram_price}
use Rattle.bus_ticks.specs.Worst.{worst_fetch_n, worst_fetch_s, worst_io, worst_leave, worst_rom}
use Rattle.bus_ticks.proofs.LeaveLemmas.{class_cases, s_ram_le}
use Rattle.memc.specs.Memory.{Memory, located, physical_at}
use Rattle.memc.specs.Paged.{fitted_bytes}
use Rattle.arm2_decode.specs.declared.instr.Operation.{Operation}
use Rattle.arm2_decode.specs.declared.instr.Operation.TheVariants as operation
use Rattle.arm2_decode.specs.Names.{is_pc}
use Rattle.arm2_decode.specs.Transfers.{is_listed, word_count}
use Rattle.arm2_decode.specs.declared.names.Register.TheVariants.{R15}
use Rattle.shifter.proofs.ShiftLemmas.{most_cycles}
use Rattle.arm2_effect.specs.declared.exceptions.Vector.{Vector}
use Rattle.arm2_effect.specs.declared.exceptions.Vector.TheVariants as vector
use Rattle.arm2_effect.specs.declared.step_end.Kind.{Kind}
use Rattle.arm2_effect.specs.declared.step_end.Kind.TheVariants as ended
use Rattle.arm2_effect.specs.declared.step_end.Why.{Why}
use Rattle.arm2_effect.specs.declared.step_end.Why.TheVariants as why
use Rattle.arm2_effect.specs.Operands.{current_in}
use Rattle.arm2_effect.specs.Effects.{is_stopped, skipped, stopped, ticks_of}
use Rattle.arm2_effect.specs.Exceptions.{entry_at, taken}
use Rattle.arm2_effect.specs.Modes.{is_user, r15_in}
use Rattle.arm2_effect.specs.ProgramCounter.{address_of, mode_of}
use Rattle.arm2_transfer.specs.declared.bus.Bus.{Bus}
use Rattle.arm2_transfer.specs.Moved.{Moved, on_bus}
use Rattle.arm2_transfer.specs.Operations.{operation_moved}
use Rattle.arm2_exec.specs.Run.{why_stopped}
use Rattle.arm2_exec.specs.State.{State}
use Rattle.arm2_exec.specs.Step.{Obeys, ObeysFetched, address_in, answer_of, fetched, fetched_at}
use Rattle.arm2_exec.specs.Step.{interrupt_due, ticks_in, with_lines}
use Rattle.arm2_exec.specs.declared.machine.Input.{Input}
use Rattle.arm2_exec.specs.declared.machine.Stepped.{Stepped}
use Rattle.arm2_exec.proofs.TakenLemmas.{took}
use Rattle.control_flow.specs.Edges.{arrival_ticks, fetch_ticks, stated_work, work_ticks}
use Rattle.control_flow.specs.Kinds.{IsWork, instr_action, kind_of, transfer_work, work_of, writer_if}
use Rattle.control_flow.specs.declared.actions.Kind.{Kind as FlowKind}
use Rattle.control_flow.specs.declared.actions.Kind.TheVariants as kind
use Rattle.control_flow.specs.declared.actions.Work.{Work}
use Rattle.control_flow.specs.declared.actions.Work.TheVariants as work
use Rattle.control_flow.specs.declared.places.Place.TheVariants.{Exit}
use Rattle.control_flow.proofs.WorkLemmas.{action_fits}
use Rattle.flow_graph.specs.StepLaw.{TakesWithin, holds_in}
use Rattle.flow_graph.proofs.StepEdges.{arrives}
use Rattle.flow_graph.proofs.StepLemmas.{plain_step, works_plain}
use Rattle.flow_graph.proofs.StepOperations.{operation_costs, skipped_costs}
use Rattle.flow_graph.proofs.StepRegisters.{word_address_of}
use Rattle.flow_graph.proofs.StepTicks.{jump_price}
use Rattle.kept_runs.specs.Reading.{cycles_if, instr_reading, multiplier_cycles, unallocated_reading}
use Rattle.kept_runs.proofs.MovedLemmas.{word_moves}
use Rattle.statement.specs.Stated.{Stated}
use Rattle.statement.specs.declared.stated.Returns.TheVariants.{Assumed}
use Rattle.responses.specs.Longest.{IsStepAt, longest_step}
use Rattle.responses.proofs.EntryLemmas.{following_le}

-- ## Where words are fetched

pub past : {A : Type 0} (a limit : ℕ) (x y : A) → limit ≤ a → cond (nat_lt a limit) x y ≡ y
past a limit x y h = rw (le-ltb a limit h) refl

pub before : {A : Type 0} (a limit : ℕ) (x y : A) → a < limit → cond (nat_lt a limit) x y ≡ x
before a limit x y h = rw (lt-ltb a limit h) refl

-- no word past the RAM that the largest pages give
past_ram : (m : Memory) (place : ℕ) (user : Bool) → m.shift ≤ 15 → 0x400000 ≤ place
    → fetched_at m (physical_at (fitted_bytes m.shift) place user) ≡ None
past_ram m place user few high =
    let size : 2 ^ m.shift ≤ 2 ^ 15 = pow-le-pow_right {n = 2} (omega arith) {i = m.shift} {j = 15} few in
    rw (le-leb (fitted_bytes m.shift) place (omega (arith, size))) refl

among_devices : (m : Memory) (a : ℕ) (user : Bool) → 0x3000000 ≤ a → a < 0x3400000
    → fetched_at m (located m a user false) ≡ None
among_devices m a true low high =
    ap (fetched_at m) (past a 0x2000000 _ _ (omega arith) ∙ past a 0x3000000 _ _ low
    ∙ before a 0x3400000 _ _ high)
among_devices m a false low high =
    ap (fetched_at m) (past a 0x2000000 _ _ (omega arith) ∙ past a 0x3000000 _ _ low
    ∙ before a 0x3400000 _ _ high)

unfetched : (m : Memory) (a : ℕ) (user : Bool) → m.shift ≤ 15 → 0x2400000 ≤ a → a < 0x3400000
    → fetched_at m (located m a user false) ≡ None
unfetched m a user few low high =
    elim (cases_lt a 0x3000000) [
      | inl below ↦
          ap (fetched_at m) (past a 0x2000000 _ _ (omega arith) ∙ before a 0x3000000 _ _ below)
          ∙ past_ram m (a - 0x2000000) user few (omega (arith, low))
      | inr above ↦ among_devices m a user above high
    ]

-- an instruction is in RAM or in ROM, and the word after the next one too
pub record IsFetchedAt (a : ℕ) : Type 0 where
  pub small : a < 2 ^ 26
  pub where_ : (a < 0x2400000) ⊎ (0x3400000 ≤ a)

fetched_where : (m : Memory) (r15 word : ℕ) → m.shift ≤ 15 → fetched m r15 ≡ Some word
    → IsFetchedAt (address_of r15)
fetched_where m r15 word few is =
    let a = address_of r15 in
    record {
      small = (word_address_of r15).0;
      where_ = elim (cases_lt a 0x2400000) [
        | inl low ↦ inl low
        | inr high ↦ elim (cases_lt a 0x3400000) [
          | inl below ↦
              let none : None ≡ Some word = sym (unfetched m a (is_user (mode_of r15)) few high below) ∙ is in
              absurd (cc)
          | inr above ↦ inr above
        ]
      ];
    }

module _ (p : Profile) where
  abbrev pub first_fetch : ℕ
  first_fetch = max p.quad (worst_rom p)

  by_at : (ram : ℕ) (x : ℕ) → ((class_of x ≡ Ram) ⊎ (class_of x ≡ Rom))
      → by_class (class_of x) ram (worst_rom p) p.unfitted ≤ max ram (worst_rom p)
  by_at ram x (inl is) = rw is (omega arith)
  by_at ram x (inr is) = rw is (omega arith)

  next_class : (a : ℕ) → IsFetchedAt a → (class_of (ahead_of a 8) ≡ Ram) ⊎ (class_of (ahead_of a 8) ≡ Rom)
  next_class a at =
      let small : a < 2 ^ 26 = at.small in
      elim (class_cases (ahead_of a 8)) [
        | inl r ↦ inl r.0
        | inr (inl r) ↦ absurd (elim at.where_ [
          | inl low ↦ omega (arith, r.1, low)
          | inr high ↦ omega (arith, r.1, r.2, high, small)
        ])
        | inr (inr r) ↦ inr r.0
      ]

  s_fetch : (a : ℕ) → IsFetchedAt a → worst_fetch_s p (ahead_of a 8) ≤ first_fetch
  s_fetch a at =
      let next = ahead_of a 8 in
      let most : worst_fetch_s p next ≤ max (ram_price p next) (worst_rom p) =
      by_at (ram_price p next) next (next_class a at) in
      omega (arith, most, s_ram_le p (eqb (next % 16) 0))

  n_fetch : (a : ℕ) → IsFetchedAt a → worst_fetch_n p (ahead_of a 8) ≤ max p.n (worst_rom p)
  n_fetch a at = by_at p.n (ahead_of a 8) (next_class a at)

-- ## Sums

sum_taken : (quad rom unfitted n io internal leave f last : ℕ) → f ≤ max quad (max rom unfitted) → quad ≤ n
    → n ≤ io → unfitted ≤ leave → last ≤ quad
    → f + n + last ≤ max quad rom + max (16 * io + internal + leave) (16 * internal)
sum_taken quad rom unfitted n io internal leave f last fetch second n_below jump s = omega arith

sum_internal : (first io internal leave f j w : ℕ) → f ≤ first → w ≤ internal → j ≤ leave
    → f + w + j ≤ first + max (16 * io + internal + leave) (16 * internal)
sum_internal first io internal leave f j w fetch few jump = omega arith

sum_multiply : (first io internal leave f : ℕ) → f ≤ first
    → f + 16 * internal ≤ first + max (16 * io + internal + leave) (16 * internal)
sum_multiply first io internal leave f fetch = omega arith

sum_load : (first io internal leave f w j : ℕ) → f ≤ first → w ≤ 16 * io → j ≤ leave
    → f + (w + internal) + j ≤ first + max (16 * io + internal + leave) (16 * internal)
sum_load first io internal leave f w j fetch words jump = omega arith

sum_store : (quad rom n io internal leave f w : ℕ) → f ≤ max n rom → n ≤ leave → w ≤ 16 * io
    → f + w ≤ max quad rom + max (16 * io + internal + leave) (16 * internal)
sum_store quad rom n io internal leave f w fetch jump words = omega arith

leave_most : (n unfitted a b c : ℕ) → (n ≤ max (max (n + a) b) (unfitted + c))
    × (unfitted ≤ max (max (n + a) b) (unfitted + c))
leave_most n unfitted a b c = (omega arith, omega arith)

-- ## What words cost

abbrev pub stated : Stated
stated = record {
  entry = 0;
  leave = Any;
  returns = Assumed;
  loops = record { list = []; apart = [] };
  targets = [];
  accesses = [];
  rules = [];
  multiplies = [];
  branches = [];
}

leaves_any : (p : Profile) (k : FlowKind) → arrival_ticks p Any k Exit ≤ worst_leave p Any
leaves_any p kind.Plain = omega arith
leaves_any p (kind.Branch offset) = omega arith
leaves_any p (kind.Call offset) = omega arith
leaves_any p kind.Writer = omega arith
leaves_any p kind.Trap = omega arith
leaves_any p kind.Unallocated = omega arith

module _ (p : Profile) (rom : RomTimes) (a t : ℕ) (at : IsFetchedAt a) (small : t < 2 ^ 26) where
  abbrev jump : FlowKind → ℕ
  jump k = jump_price p rom Any a k t

  jump_most : (k : FlowKind) → jump k ≤ worst_leave p Any
  jump_most k = omega (arith, arrives stated p rom Any a k Exit t small tt, leaves_any p k)

  abbrev price : FlowKind → Work → ℕ
  price k w = fetch_ticks p a w + work_ticks p Any w + jump k

  internal_most : (k : FlowKind) (cycles : ℕ) → cycles ≤ 1 → price k (work.Internal cycles) ≤ longest_step p
  internal_most k cycles few =
      let product : cycles * p.internal ≤ 1 * p.internal =
      mul-le cycles p.internal 1 p.internal few (omega arith) in
      let one : cycles * p.internal ≤ p.internal = omega (arith, product) in
      sum_internal (first_fetch p) (worst_io p) p.internal (worst_leave p Any)
      (worst_fetch_s p (ahead_of a 8)) (jump k) (cycles * p.internal) (s_fetch p a at) one (jump_most k)

  words_most : (words : ℕ) → words ≤ 16 → words * worst_io p ≤ 16 * worst_io p
  words_most words few = mul-le words (worst_io p) 16 (worst_io p) few (omega arith)

  load_most : (k : FlowKind) (words : ℕ) → words ≤ 16 → price k (work.Load words) ≤ longest_step p
  load_most k words few =
      sum_load (first_fetch p) (worst_io p) p.internal (worst_leave p Any) (worst_fetch_s p (ahead_of a 8))
      (words * worst_io p) (jump k) (s_fetch p a at) (words_most words few) (jump_most k)

  store_most : (words : ℕ) → words ≤ 16 → price kind.Plain (work.Store words) ≤ longest_step p
  store_most words few =
      let all : worst_fetch_n p (ahead_of a 8) + words * worst_io p ≤ longest_step p =
      sum_store p.quad (worst_rom p) p.n (worst_io p) p.internal (worst_leave p Any)
      (worst_fetch_n p (ahead_of a 8)) (words * worst_io p) (n_fetch p a at)
      (leave_most p.n p.unfitted _ _ _).0 (words_most words few) in
      let zero : price kind.Plain (work.Store words) ≡ worst_fetch_n p (ahead_of a 8) + words * worst_io
      p + 0 = refl in
      omega (arith, all, zero)

  multiply_most : price kind.Plain (work.Internal 16) ≤ longest_step p
  multiply_most =
      let all = sum_multiply (first_fetch p) (worst_io p) p.internal (worst_leave p Any)
      (worst_fetch_s p (ahead_of a 8)) (s_fetch p a at) in
      let zero : price kind.Plain (work.Internal 16) ≡ worst_fetch_s p (ahead_of a 8) + 16 * p.internal + 0 =
      refl in
      omega (arith, all, zero)

  transfer_most : (load jumps : Bool) (words : ℕ) → IsWork (transfer_work load words)
      → price (writer_if (load && jumps)) (stated_work stated a (transfer_work load words)) ≤ longest_step p
  transfer_most true jumps words few = load_most (writer_if jumps) words few.1
  transfer_most false jumps words few = store_most words few.1

  operation_most : (o : Operation) → IsWork (work_of o)
      → price (kind_of o) (stated_work stated a (work_of o)) ≤ longest_step p
  operation_most (operation.Multiply x) fits = multiply_most
  operation_most (operation.DataRegister x) fits =
      internal_most (kind_of (operation.DataRegister x)) 0 (omega arith)
  operation_most (operation.DataRegisterShift x) fits =
      internal_most (kind_of (operation.DataRegisterShift x)) 1 (omega arith)
  operation_most (operation.DataImmediate x) fits =
      internal_most (kind_of (operation.DataImmediate x)) 0 (omega arith)
  operation_most (operation.SingleImmediate x) fits = transfer_most x.load (is_pc x.rd) 1 fits
  operation_most (operation.SingleRegister x) fits = transfer_most x.load (is_pc x.rd) 1 fits
  operation_most (operation.Block x) fits =
      transfer_most x.load (is_listed x.list R15) (word_count x.list) fits
  operation_most (operation.Branch x) fits = internal_most (kind_of (operation.Branch x)) 0 (omega arith)
  operation_most (operation.Swi x) fits = internal_most kind.Trap 0 (omega arith)
  operation_most (operation.UndefinedTransfer x) fits = internal_most kind.Trap 0 (omega arith)
  operation_most (operation.CoprocessorTransfer x) fits = internal_most kind.Trap 0 (omega arith)
  operation_most (operation.Coprocessor x) fits = internal_most kind.Trap 0 (omega arith)

-- ## Cycles

few_cycles : (o : Operation) (regs : List ℕ) → IfSome (multiplier_cycles o regs) (λ cycles. cycles ≤ 16)
few_cycles (operation.Multiply x) regs = most_cycles (current_in x.rs regs)
few_cycles (operation.DataRegister x) regs = tt
few_cycles (operation.DataRegisterShift x) regs = tt
few_cycles (operation.DataImmediate x) regs = tt
few_cycles (operation.SingleImmediate x) regs = tt
few_cycles (operation.SingleRegister x) regs = tt
few_cycles (operation.Block x) regs = tt
few_cycles (operation.Branch x) regs = tt
few_cycles (operation.Swi x) regs = tt
few_cycles (operation.UndefinedTransfer x) regs = tt
few_cycles (operation.CoprocessorTransfer x) regs = tt
few_cycles (operation.Coprocessor x) regs = tt

few_if : (holds : Bool) (o : Operation) (regs : List ℕ)
    → IfSome (cycles_if holds o regs) (λ cycles. cycles ≤ 16)
few_if true o regs = few_cycles o regs
few_if false o regs = tt

-- ## Steps

module _ (p : Profile) (s : State) (i : Input) (stepped : Stepped) (after : State)
    (is : IsStepAt p s i stepped after) where
  abbrev rom : RomTimes
  rom = s.bus.memc.control.rom_times

  abbrev bus : Bus
  bus = with_lines i.lines.0 s.bus

  abbrev at_ : ℕ
  at_ = address_in s.regs

  long : 26 < length s.regs
  long = omega (arith, is.registers)

  -- a step that ends as other instructions do costs no more than the longest
  abbrev Costs_ : Moved → Type 0
  Costs_ m = TakesWithin 16 m.accesses → m.kind ≡ ended.Plain
      → ticks_of (record { profile = p; rom = rom }) m.accesses ≤ longest_step p

  either_most : (holds : Bool) (x y : Moved) → Costs_ x → Costs_ y → Costs_ (cond holds x y)
  either_most true x y h k = h
  either_most false x y h k = k

  small : (m : Moved) → address_of (r15_in m.regs) < 2 ^ 26
  small m = (word_address_of (r15_in m.regs)).0

  done_most : IsFetchedAt at_ → (o : Operation) → IsWork (work_of o)
      → Costs_ (operation_moved o i.port s.regs bus)
  done_most at o fits within plain =
      let m : Moved = operation_moved o i.port s.regs bus in
      let costs = operation_costs stated p rom Any s.regs long o i.port bus fits
      (λ store first address there. tt) within plain in
      omega (arith, costs.most, operation_most p rom at_ (address_of (r15_in m.regs)) at (small m) o fits)

  skipped_most : IsFetchedAt at_ → Costs_ (on_bus bus (skipped s.regs))
  skipped_most at within plain =
      let m : Moved = on_bus bus (skipped s.regs) in
      let costs =
      skipped_costs stated p rom Any s.regs long bus (λ store first address there. tt) within plain in
      omega (
        arith,
        costs.most,
        internal_most p rom at_ (address_of (r15_in m.regs)) at (small m) kind.Plain 0
            (omega arith),
      )

  stopped_most : (w : Why) → Costs_ (on_bus bus (stopped w s.regs))
  unfolding stopped
  stopped_most w within plain = absurd (cc)

  obeys_most : (word : ℕ) → IsFetchedAt at_ → (m : Moved) → Obeys word i.port s.regs bus m
      → m.kind ≡ ended.Plain → ticks_of (record { profile = p; rom = rom }) m.accesses ≤ longest_step p
  obeys_most word at m (inl (x, means, e)) plain =
      let moves = word_moves Any s.regs bus word i.port (instr_reading x s.regs) m (inl (x, means, refl))
      (inl (x, means, e)) in
      let within : TakesWithin 16 m.accesses =
      moves.within plain 16 (omega arith) (few_if (holds_in s.regs x.cond) x.operation s.regs) in
      let fits : IsWork (work_of x.operation) = action_fits word (instr_action x) (inl (x, means, refl)) in
      subst Costs_ (sym e) (either_most (holds_in s.regs x.cond)
      (operation_moved x.operation i.port s.regs bus) (on_bus bus (skipped s.regs))
      (done_most at x.operation fits) (skipped_most at)) within plain
  obeys_most word at m (inr (u, none, e)) plain =
      let moves = word_moves Any s.regs bus word i.port (unallocated_reading u s.regs) m (inr (u, none, refl))
      (inr (u, none, e)) in
      let within : TakesWithin 16 m.accesses = moves.within plain 16 (omega arith) tt in
      subst Costs_ (sym e) (either_most (holds_in s.regs u.cond) (on_bus bus (stopped why.Unallocated s.regs))
      (on_bus bus (skipped s.regs)) (stopped_most why.Unallocated) (skipped_most at)) within plain

  fetched_most : (word : Option ℕ) → fetched s.bus.memc (r15_in s.regs) ≡ word → (m : Moved)
      → ObeysFetched word i.port s.regs bus m → m.kind ≡ ended.Plain
      → ticks_of (record { profile = p; rom = rom }) m.accesses ≤ longest_step p
  unfolding taken
  fetched_most None fetches m obeys plain = absurd (let kind = ap (λ (x : Moved). x.kind) obeys in cc)
  fetched_most (Some word) fetches m obeys plain =
      obeys_most word (fetched_where s.bus.memc (r15_in s.regs) word is.pages.1 fetches) m obeys plain

  plain_most : stepped.kind ≡ ended.Plain → stepped.ticks ≤ longest_step p
  plain_most plain =
      let m : Moved = is.step.moved in
      let does = plain_step s m stepped is.step.stepped_is plain in
      let ticks : stepped.ticks ≡ ticks_of (record { profile = p; rom = rom }) m.accesses = does.ticks
      ∙ ap (λ (q : Profile). ticks_of (record { profile = q; rom = rom }) m.accesses) is.prices in
      let obeyed : ObeysFetched (fetched bus.memc (r15_in s.regs)) i.port s.regs bus m =
      works_plain (interrupt_due bus (r15_in s.regs)) i.port s.regs bus m is.step.works does.kind in
      omega (arith, ticks, fetched_most (fetched s.bus.memc (r15_in s.regs)) refl m obeyed does.kind)

  -- ## Exceptions

  entry_n : (v : Vector) → fetch_n p (entry_at v).address rom ≡ p.n
  entry_n vector.Undefined = refl
  entry_n vector.Swi = refl
  entry_n vector.PrefetchAbort = refl
  entry_n vector.DataAbort = refl
  entry_n vector.AddressException = refl
  entry_n vector.Irq = refl
  entry_n vector.Fiq = refl

  entry_s : (v : Vector) → fetch_s p (ahead_of (entry_at v).address 4) rom ≤ p.quad
  entry_s vector.Undefined = p.s_first
  entry_s vector.Swi = p.s_first
  entry_s vector.PrefetchAbort = omega arith
  entry_s vector.DataAbort = p.s_first
  entry_s vector.AddressException = p.s_first
  entry_s vector.Irq = p.s_first
  entry_s vector.Fiq = omega arith

  taken_ticks : (v : Vector)
      → ticks_of (record { profile = p; rom = rom }) (taken v s.regs).accesses ≡ 0 + fetch_s p
      (ahead_of at_ 8) rom + fetch_n p (entry_at v).address rom + fetch_s p (ahead_of (entry_at v).address 4)
      rom
  unfolding taken
  taken_ticks v = refl

  taken_most : (v : Vector) → stepped.kind ≡ ended.Taken v → stepped.ticks ≤ longest_step p
  unfolding answer_of
  taken_most v kind =
      let m : Moved = is.step.moved in
      let done = took s i stepped after v is.step kind in
      let ticks : stepped.ticks ≡ ticks_of (record { profile = p; rom = rom }) (taken v s.regs).accesses =
      ap (λ (t : Stepped). t.ticks) (is.step.stepped_is ∙ cond-false (is_stopped m.kind) _ _ done.1)
      ∙ ap (λ (x : Moved). ticks_in s x) done.0
      ∙ ap (λ (q : Profile). ticks_of (record { profile = q; rom = rom }) (taken v s.regs).accesses)
      is.prices in
      let first = fetch_s p (ahead_of at_ 8) rom in
      let last = fetch_s p (ahead_of (entry_at v).address 4) rom in
      let most : first + p.n + last ≤ longest_step p =
      sum_taken p.quad (worst_rom p) p.unfitted p.n (worst_io p) p.internal (worst_leave p Any) first last
      (following_le p rom (ahead_of at_ 8)) p.quad_second p.n_below (leave_most p.n p.unfitted _ _ _).1
      (entry_s v) in
      omega (arith, ticks, taken_ticks v, entry_n v, most)

  by_kind : (k : Kind) → stepped.kind ≡ k → stepped.ticks ≤ longest_step p
  by_kind ended.Plain kind = plain_most kind
  by_kind (ended.Taken v) kind = taken_most v kind
  by_kind (ended.Stopped w) kind =
      let some : why_stopped stepped.kind ≡ Some w = ap why_stopped kind in
      let none : Some w ≡ None = sym some ∙ is.goes_on in
      absurd (cc)

  pub none_above : stepped.ticks ≤ longest_step p
  none_above = by_kind stepped.kind refl
