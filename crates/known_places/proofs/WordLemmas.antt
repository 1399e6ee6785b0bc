-- What is known after a word, and of what class its transfers are.
use Rattle.std.proofs.Common.{◌≡◌, ◌∙◌, ℕ, inl, inr, Bool, true, false, cond, List, Option, Some, None, ◌≤◌, refl, sym, ap, subst, arith}
use Rattle.std.specs.Prelude.{IfSome}
use Rattle.bus_ticks.specs.Prices.{word_address}
use Rattle.bus_ticks.specs.Worst.{IsOf}
use Rattle.bus_ticks.specs.declared.profile.Class.{Class}
use Rattle.arm2_decode.specs.Conditions.{condition_holds}
use Rattle.arm2_decode.specs.Table.{IsUnallocated, Means}
use Rattle.arm2_decode.specs.declared.instr.Instr.{Instr}
use Rattle.arm2_decode.specs.declared.instr.Operation.{Operation}
use Rattle.arm2_decode.specs.declared.instr.Unallocated.{Unallocated}
use Rattle.arm2_decode.specs.Writers.{data_writes_pc}
use Rattle.arm2_decode.specs.declared.names.Opcode.{Opcode}
use Rattle.arm2_decode.specs.declared.names.Register.{Register}
use Rattle.shifter.specs.declared.shifts.Shifted.{Shifted}
use Rattle.operation_laws.specs.Leaves.{LeavesData}
use Rattle.std.proofs.lemmas.Bool.{cond-true}
use Rattle.arm2_decode.proofs.Unique.{never_both, one_instr}
use Rattle.arm2_effect.specs.declared.step_end.Kind.TheVariants as ended
use Rattle.arm2_effect.specs.declared.step_end.Why.TheVariants as why
use Rattle.arm2_effect.specs.Effects.{skipped, stopped}
use Rattle.arm2_effect.specs.Modes.{r15_in}
use Rattle.arm2_effect.specs.Operands.{first_of}
use Rattle.arm2_effect.specs.Outcomes.{outcome_of}
use Rattle.arm2_effect.specs.ProgramCounter.{address_of, flags_of}
use Rattle.arm2_transfer.specs.Moved.{Moved, on_bus}
use Rattle.arm2_transfer.specs.Operations.{operation_moved}
use Rattle.arm2_transfer.specs.declared.bus.Bus.{Bus}
use Rattle.arm2_exec.specs.Step.{Obeys, address_in, instruction_moved}
use Rattle.control_flow.specs.Kinds.{IsAction}
use Rattle.control_flow.specs.declared.actions.Action.{Action}
use Rattle.control_flow.specs.declared.edges.Label.{Label}
use Rattle.control_flow.specs.declared.edges.Label.TheVariants.{Do, Skip}
use Rattle.flow_graph.specs.StepLaw.{holds_in}
use Rattle.kept_runs.specs.Reading.{instr_reading, transfer_if, unallocated_reading}
use Rattle.kept_runs.specs.Transfers.{HasNoOther, HasOther, words_of}
use Rattle.kept_runs.specs.declared.transfers.Access as wanted
use Rattle.kept_runs.specs.declared.transfers.Transfer.{Transfer}
use Rattle.kept_runs.proofs.MovedLemmas.{word_moves}
use Rattle.known_words.specs.After.{After}
use Rattle.known_words.specs.Knowledge.{Holds}
use Rattle.known_words.specs.declared.knowledge.Knowledge.{Knowledge}
use Rattle.known_words.specs.declared.words.Range.{Range}
use Rattle.known_words.proofs.ForgetLemmas.{skipped_holds}
use Rattle.known_places.specs.Words.{Carries, MovesIn, StaysIn}
use Rattle.known_places.specs.Destinations.{IsDestination, JumpsTo, WordGoesTo}
use Rattle.known_places.specs.Endless.{NeverHolds, WordNeverGoes}
use Rattle.known_places.specs.Outside.{BeginsOutside, HasOutside, MovesOutside, WordGoesOutside}
use Rattle.known_places.specs.declared.destination.Destination.{Destination}

-- ## Labels

done_only : (b : Bool) → cond b Do Skip ≡ Do → b ≡ true
done_only true is = refl
done_only false is = absurd (cc)

skipped_only : (b : Bool) → cond b Do Skip ≡ Skip → b ≡ false
skipped_only false is = refl
skipped_only true is = absurd (cc)

-- an instruction's action has its condition
action_cond : (word : ℕ) (i : Instr) (action : Action) → Means word i → IsAction word action → action.cond ≡ i.cond
action_cond word i action means (inl (j, other, is)) =
    ap (λ (a : Action). a.cond) is ∙ ap (λ (x : Instr). x.cond) (one_instr word j i other means)
action_cond word i action means (inr (u, none, is)) = absurd (never_both word i u means none)

-- ## What the word does

-- what an instruction does
obeyed : (word port : ℕ) (regs : List ℕ) (bus : Bus) (m : Moved) (i : Instr) → Means word i → Obeys word port regs bus m
    → m ≡ instruction_moved i port regs bus
obeyed word port regs bus m i means (inl (j, other, is)) =
    is ∙ ap (λ (x : Instr). instruction_moved x port regs bus) (one_instr word j i other means)
obeyed word port regs bus m i means (inr (u, none, is)) = absurd (never_both word i u means none)

-- what is known along the edges of an instruction
pub instr_done : (i : Instr) (address : ℕ) (before there result : Knowledge)
    → ((entry turns now : List ℕ) → condition_holds i.cond (flags_of (r15_in now)) ≡ true → Holds entry turns before now → Holds entry turns there now)
    → After i.operation address there result → (word : ℕ) → Means word i → Carries word address Do before result
instr_done i address before there result narrows after word means entry turns regs port bus m action long at is label obeys plain holds =
    let does : holds_in regs i.cond ≡ true =
    ap (holds_in regs) (sym (action_cond word i action means is)) ∙ done_only (holds_in regs action.cond) label in
    let moved : m ≡ operation_moved i.operation port regs bus =
    obeyed word port regs bus m i means obeys
    ∙ ap (λ (b : Bool). cond b (operation_moved i.operation port regs bus) (on_bus bus (skipped regs))) does in
    subst (λ (x : Moved). Holds entry turns result x.regs) (sym moved)
    (after entry turns regs port bus long at (ap (λ (x : Moved). x.kind) (sym moved) ∙ plain) (narrows entry turns regs does holds))

pub instr_skipped : (i : Instr) (address : ℕ) (before result : Knowledge)
    → ((entry turns now : List ℕ) → condition_holds i.cond (flags_of (r15_in now)) ≡ false → Holds entry turns before now → Holds entry turns result now)
    → (word : ℕ) → Means word i → Carries word address Skip before result
instr_skipped i address before result narrows word means entry turns regs port bus m action long at is label obeys plain holds =
    let fails : holds_in regs i.cond ≡ false =
    ap (holds_in regs) (sym (action_cond word i action means is)) ∙ skipped_only (holds_in regs action.cond) label in
    let moved : m ≡ on_bus bus (skipped regs) =
    obeyed word port regs bus m i means obeys
    ∙ ap (λ (b : Bool). cond b (operation_moved i.operation port regs bus) (on_bus bus (skipped regs))) fails in
    subst (λ (x : Moved). Holds entry turns result x.regs) (sym moved)
    (skipped_holds entry turns regs result long (narrows entry turns regs fails holds))

-- an instruction that is not done, or not passed over
module _ (i : Instr) (before there : Knowledge) where
  pub instr_not_done : ((entry turns now : List ℕ) → condition_holds i.cond (flags_of (r15_in now)) ≡ true → Holds entry turns before now → Holds entry turns there now)
      → NeverHolds there → (word : ℕ) → Means word i → WordNeverGoes word Do before
  instr_not_done narrows none word means entry turns regs action is label holds =
      let does : holds_in regs i.cond ≡ true =
      ap (holds_in regs) (sym (action_cond word i action means is)) ∙ done_only (holds_in regs action.cond) label in
      none entry turns regs (narrows entry turns regs does holds)

  pub instr_not_skipped : ((entry turns now : List ℕ) → condition_holds i.cond (flags_of (r15_in now)) ≡ false → Holds entry turns before now → Holds entry turns there now)
      → NeverHolds there → (word : ℕ) → Means word i → WordNeverGoes word Skip before
  instr_not_skipped narrows none word means entry turns regs action is label holds =
      let fails : holds_in regs i.cond ≡ false =
      ap (holds_in regs) (sym (action_cond word i action means is)) ∙ skipped_only (holds_in regs action.cond) label in
      none entry turns regs (narrows entry turns regs fails holds)

-- ## Unallocated words

not_stopped : (b : Bool) (regs : List ℕ) (bus : Bus) (m : Moved) → m ≡ cond b (on_bus bus (stopped why.Unallocated regs)) (on_bus bus (skipped regs))
    → m.kind ≡ ended.Plain → m ≡ on_bus bus (skipped regs)
unfolding stopped
not_stopped true regs bus m is plain =
    let both : ended.Stopped why.Unallocated ≡ ended.Plain = sym (ap (λ (x : Moved). x.kind) is) ∙ plain in
    absurd (cc)
not_stopped false regs bus m is plain = is

unallocated_skipped : (word port : ℕ) (regs : List ℕ) (bus : Bus) (m : Moved) (u : Unallocated) → IsUnallocated word u
    → Obeys word port regs bus m → m.kind ≡ ended.Plain → m ≡ on_bus bus (skipped regs)
unallocated_skipped word port regs bus m u none (inl (i, means, is)) plain = absurd (never_both word i u means none)
unallocated_skipped word port regs bus m u none (inr (v, also, is)) plain = not_stopped (holds_in regs v.cond) regs bus m is plain

pub unallocated_carries : (word address : ℕ) (label : Label) (known : Knowledge) (u : Unallocated) → IsUnallocated word u
    → Carries word address label known known
unallocated_carries word address label known u none entry turns regs port bus m action long at is labelled obeys plain holds =
    subst (λ (x : Moved). Holds entry turns known x.regs) (sym (unallocated_skipped word port regs bus m u none obeys plain))
    (skipped_holds entry turns regs known long holds)

-- ## Classes

no_other_if : (class : Class) (b : Bool) (o : Operation) (regs : List ℕ) → (b ≡ true → HasNoOther class (words_of o regs))
    → HasNoOther class (transfer_if b o regs)
no_other_if class true o regs none = none refl
no_other_if class false o regs none = tt

pub instr_stays : (class : Class) (i : Instr) (address : ℕ) (before there : Knowledge)
    → ((entry turns now : List ℕ) → condition_holds i.cond (flags_of (r15_in now)) ≡ true → Holds entry turns before now → Holds entry turns there now)
    → MovesIn class i.operation address there → (word : ℕ) → Means word i → StaysIn class word address before
instr_stays class i address before there narrows moves word means entry turns regs port bus m long at obeys plain holds =
    (word_moves class regs bus word port (instr_reading i regs) m (inl (i, means, refl)) obeys).in_class plain
    (no_other_if class (holds_in regs i.cond) i.operation regs (λ does. moves entry turns regs at (narrows entry turns regs does holds)))

pub unallocated_stays : (class : Class) (word address : ℕ) (known : Knowledge) (u : Unallocated) → IsUnallocated word u
    → StaysIn class word address known
unallocated_stays class word address known u none entry turns regs port bus m long at obeys plain holds =
    (word_moves class regs bus word port (unallocated_reading u regs) m (inr (u, none, refl)) obeys).in_class plain tt

-- ## Outside of a class

other_of : (class : Class) (t : Option Transfer) (access : wanted.Access) → HasOther class t access → IsOf class access.address → ⊥
other_of class None access has of = has
other_of class (Some t) access has of = has.1.other of

-- a transfer of some words that begins outside
pub begins_outside : (class : Class) (range : Range) (t : Transfer) → 1 ≤ t.words → BeginsOutside class range t.address → HasOutside class range (Some t)
begins_outside class range t some b = record {
  access = record { address = word_address t.address 0; store = t.store };
  has = (
    b.below,
    record {
      number = 0;
      below = some;
      address_is = refl;
      store = refl;
      before = λ i lt. absurd (omega (arith, lt));
      other = b.other;
    },
  );
  inside = b.inside;
}

pub instr_outside : (class : Class) (i : Instr) (address : ℕ) (before there : Knowledge) (range : Range)
    → ((entry turns now : List ℕ) → condition_holds i.cond (flags_of (r15_in now)) ≡ true → Holds entry turns before now → Holds entry turns there now)
    → MovesOutside class i.operation address there range → (word : ℕ) → Means word i → WordGoesOutside class word address before range
instr_outside class i address before there range narrows moves word means entry turns regs port bus m action long at is label obeys plain holds =
    let does : holds_in regs i.cond ≡ true =
    ap (holds_in regs) (sym (action_cond word i action means is)) ∙ done_only (holds_in regs action.cond) label in
    let h = moves entry turns regs at (narrows entry turns regs does holds) in
    let has : HasOther class (transfer_if (holds_in regs i.cond) i.operation regs) h.access =
    subst (λ (b : Bool). HasOther class (transfer_if b i.operation regs) h.access) (sym does) h.has in
    let among = (word_moves class regs bus word port (instr_reading i regs) m (inl (i, means, refl)) obeys).there plain h.access has in
    record {
      store = h.access.store;
      first = among.0;
      address = h.access.address;
      transferred = among.1;
      inside = h.inside;
      other = other_of class (words_of i.operation regs) h.access h.has;
    }

-- ## Destinations

pub data_jumps : (opcode : Opcode) (sets_flags : Bool) (rn rd : Register) (by : ℕ) (operand : Shifted) (before after entry : List ℕ)
    (destination : Destination) → data_writes_pc opcode rd ≡ true → LeavesData opcode sets_flags rn rd by operand before after
    → IsDestination entry destination (address_of (outcome_of opcode (first_of by rn before) operand (flags_of (r15_in before))).value)
    → IsDestination entry destination (address_in after)
data_jumps opcode sets_flags rn rd by operand before after entry destination writes left is =
    subst (IsDestination entry destination)
    (sym (left.r15.address ∙ cond-true (data_writes_pc opcode rd) _ _ writes)) is

pub instr_goes : (i : Instr) (address : ℕ) (before there : Knowledge) (destination : Destination)
    → ((entry turns now : List ℕ) → condition_holds i.cond (flags_of (r15_in now)) ≡ true → Holds entry turns before now → Holds entry turns there now)
    → JumpsTo i.operation address there destination → (word : ℕ) → Means word i → WordGoesTo word address before destination
instr_goes i address before there destination narrows jumps word means entry turns regs port bus m action long at is label obeys plain holds =
    let does : holds_in regs i.cond ≡ true =
    ap (holds_in regs) (sym (action_cond word i action means is)) ∙ done_only (holds_in regs action.cond) label in
    let moved : m ≡ operation_moved i.operation port regs bus =
    obeyed word port regs bus m i means obeys
    ∙ ap (λ (b : Bool). cond b (operation_moved i.operation port regs bus) (on_bus bus (skipped regs))) does in
    subst (λ (x : Moved). IsDestination entry destination (address_in x.regs)) (sym moved)
    (jumps entry turns regs port bus long at (ap (λ (x : Moved). x.kind) (sym moved) ∙ plain) (narrows entry turns regs does holds))

-- ## Options

pub done_known : (i : Instr) (address : ℕ) (before there : Knowledge)
    → ((entry turns now : List ℕ) → condition_holds i.cond (flags_of (r15_in now)) ≡ true → Holds entry turns before now → Holds entry turns there now)
    → (result : Option Knowledge) → IfSome result (λ known. After i.operation address there known) → (word : ℕ) → Means word i
    → IfSome result (λ known. Carries word address Do before known)
done_known i address before there narrows None after word means = tt
done_known i address before there narrows (Some known) after word means = instr_done i address before there known narrows after word means
