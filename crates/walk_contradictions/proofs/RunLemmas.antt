-- No run takes a walk with a contradiction: from the first word to the second the flags stay.
use Rattle.std.proofs.Common.{◌≡◌, ◌∙◌, ℕ, inl, inr, Bool, true, false, cond, List, [], ◌∷◌, ◌++◌, append_assoc, length, refl, sym, ap, subst}
use Rattle.std.specs.Prelude.{◌&&◌}
use Rattle.std.proofs.lemmas.List.Elements.{All-head, All-tail}
use Rattle.arm2_decode.specs.Table.{Means}
use Rattle.arm2_decode.specs.declared.flags.Flags.{Flags}
use Rattle.arm2_decode.specs.declared.instr.Instr.{Instr}
use Rattle.arm2_decode.specs.declared.instr.Operation.{Operation}
use Rattle.arm2_decode.specs.declared.instr.Operation.TheVariants as row
use Rattle.arm2_decode.specs.declared.names.Register.TheVariants.{R15}
use Rattle.arm2_decode.specs.Transfers.{is_listed}
use Rattle.arm2_effect.specs.declared.step_end.Kind.TheVariants as ended
use Rattle.arm2_effect.specs.declared.step_end.Why.TheVariants as why
use Rattle.arm2_effect.specs.Effects.{is_stopped, skipped, stopped}
use Rattle.arm2_effect.specs.Modes.{r15_in}
use Rattle.arm2_effect.specs.ProgramCounter.{flags_of}
use Rattle.arm2_transfer.specs.Moved.{Moved, on_bus}
use Rattle.arm2_transfer.specs.Operations.{operation_moved}
use Rattle.arm2_transfer.specs.declared.bus.Bus.{Bus}
use Rattle.arm2_exec.specs.State.{State}
use Rattle.arm2_exec.specs.Step.{Obeys, ObeysFetched, address_in, fetched, interrupt_due, state_after, with_lines}
use Rattle.arm2_exec.specs.declared.machine.Input.{Input}
use Rattle.arm2_exec.specs.declared.machine.Stepped.{Stepped}
use Rattle.bus_ticks.specs.declared.profile.Profile.{Profile}
use Rattle.control_flow.specs.Edges.{HasAction}
use Rattle.control_flow.specs.Kinds.{instr_action}
use Rattle.control_flow.specs.Places.{place_address}
use Rattle.control_flow.specs.declared.actions.Action.{Action}
use Rattle.control_flow.specs.declared.edges.Edge.{Edge}
use Rattle.control_flow.specs.declared.edges.Label.TheVariants.{Do, Skip}
use Rattle.control_flow.proofs.EdgeLemmas.{one_action, one_action_at}
use Rattle.control_flow.proofs.SortedLemmas.{here}
use Rattle.flow_graph.specs.StepLaw.{Executes, Follows, IsEdgeOf, holds_in}
use Rattle.flow_graph.proofs.StepLemmas.{IsPlainStep, plain_step, works_plain}
use Rattle.image.specs.Image.{Words, word_of}
use Rattle.operation_laws.specs.Left.{Psr, Kept, flags_left}
use Rattle.operation_laws.proofs.OperationLaws.{operation_law, skip_law}
use Rattle.statement.specs.Stated.{Stated}
use Rattle.text_explained.specs.Leaving.{is_done}
use Rattle.walk_contradictions.specs.Contradictions.{Contradicts, IsContradicted}
use Rattle.walk_contradictions.specs.NotTaken.{ContradictionLaw, NamedLaw}
use Rattle.walk_contradictions.specs.Outcomes.{Gives, MaySet, NoneSets, Tells, may_set_flags}
use Rattle.walk_contradictions.specs.declared.outcomes.Outcome.{Outcome}

abbrev flags_in : List ℕ → Flags
flags_in regs = flags_of (r15_in regs)

-- ## Words

psr_by : (b : Bool) (psr : Psr) (r : ℕ) → b ≡ false → flags_left (cond b psr Kept) r ≡ flags_of r
psr_by true psr r is = absurd (cc)
psr_by false psr r is = refl

swapped : (x y : Bool) → (x && y) ≡ false → (y && x) ≡ false
swapped true true is = is
swapped true false is = refl
swapped false true is = refl
swapped false false is = refl

skipped_stays : (regs : List ℕ) → length regs ≡ 27 → flags_in (skipped regs).regs ≡ flags_in regs
skipped_stays regs long = (skip_law regs long).r15.flags

-- what may not set the flags leaves them
operation_stays : (o : Operation) (port : ℕ) (regs : List ℕ) (bus : Bus) → length regs ≡ 27 → may_set_flags o ≡ false → (operation_moved o port regs bus).kind ≡ ended.Plain
    → flags_in (operation_moved o port regs bus).regs ≡ flags_in regs
operation_stays (row.Multiply x) port regs bus long none plain = (operation_law (row.Multiply x) port regs bus long plain).0.r15.flags ∙ psr_by x.sets_flags _ (r15_in regs) none
operation_stays (row.DataRegister x) port regs bus long none plain = (operation_law (row.DataRegister x) port regs bus long plain).0.r15.flags ∙ psr_by x.sets_flags _ (r15_in regs) none
operation_stays (row.DataRegisterShift x) port regs bus long none plain = (operation_law (row.DataRegisterShift x) port regs bus long plain).0.r15.flags ∙ psr_by x.sets_flags _ (r15_in regs) none
operation_stays (row.DataImmediate x) port regs bus long none plain = (operation_law (row.DataImmediate x) port regs bus long plain).0.r15.flags ∙ psr_by x.sets_flags _ (r15_in regs) none
operation_stays (row.SingleImmediate x) port regs bus long none plain = (operation_law (row.SingleImmediate x) port regs bus long plain).registers.r15.flags
operation_stays (row.SingleRegister x) port regs bus long none plain = (operation_law (row.SingleRegister x) port regs bus long plain).registers.r15.flags
operation_stays (row.Block x) port regs bus long none plain =
    (operation_law (row.Block x) port regs bus long plain).registers.r15.flags ∙ psr_by _ _ (r15_in regs) (swapped x.user (x.load && is_listed x.list R15) none)
operation_stays (row.Branch x) port regs bus long none plain = (operation_law (row.Branch x) port regs bus long plain).0.r15.flags
operation_stays (row.Swi x) port regs bus long none plain = absurd (operation_law (row.Swi x) port regs bus long plain)
operation_stays (row.UndefinedTransfer x) port regs bus long none plain = absurd (operation_law (row.UndefinedTransfer x) port regs bus long plain)
operation_stays (row.CoprocessorTransfer x) port regs bus long none plain = absurd (operation_law (row.CoprocessorTransfer x) port regs bus long plain)
operation_stays (row.Coprocessor x) port regs bus long none plain = absurd (operation_law (row.Coprocessor x) port regs bus long plain)

-- which is not done, or may not set the flags
abbrev Leaves : Instr → List ℕ → Type 0
Leaves i regs = holds_in regs i.cond ≡ true → may_set_flags i.operation ≡ false

instr_by : (i : Instr) (port : ℕ) (regs : List ℕ) (bus : Bus) (m : Moved) (b : Bool) → holds_in regs i.cond ≡ b → length regs ≡ 27 → Leaves i regs
    → m ≡ cond b (operation_moved i.operation port regs bus) (on_bus bus (skipped regs)) → m.kind ≡ ended.Plain → flags_in m.regs ≡ flags_in regs
instr_by i port regs bus m true holds long leaves is plain =
    ap (λ (x : Moved). flags_in x.regs) is ∙ operation_stays i.operation port regs bus long (leaves holds) (ap (λ (x : Moved). x.kind) (sym is) ∙ plain)
instr_by i port regs bus m false holds long leaves is plain = ap (λ (x : Moved). flags_in x.regs) is ∙ skipped_stays regs long

unallocated_by : (b : Bool) (regs : List ℕ) (bus : Bus) (m : Moved) → length regs ≡ 27 → m ≡ cond b (on_bus bus (stopped why.Unallocated regs)) (on_bus bus (skipped regs)) → m.kind ≡ ended.Plain
    → flags_in m.regs ≡ flags_in regs
unfolding stopped
unallocated_by true regs bus m long is plain =
    let both : ended.Stopped why.Unallocated ≡ ended.Plain = sym (ap (λ (x : Moved). x.kind) is) ∙ plain in
    absurd (cc)
unallocated_by false regs bus m long is plain = ap (λ (x : Moved). flags_in x.regs) is ∙ skipped_stays regs long

obeys_stays : (word port : ℕ) (regs : List ℕ) (bus : Bus) (m : Moved) → length regs ≡ 27 → ((i : Instr) → Means word i → Leaves i regs) → Obeys word port regs bus m → m.kind ≡ ended.Plain
    → flags_in m.regs ≡ flags_in regs
obeys_stays word port regs bus m long leaves (inl (i, means, is)) plain = instr_by i port regs bus m (holds_in regs i.cond) refl long (leaves i means) is plain
obeys_stays word port regs bus m long leaves (inr (u, none, is)) plain = unallocated_by (holds_in regs u.cond) regs bus m long is plain

-- ## Steps

regs_by : (stops : Bool) (s a : State) → stops ≡ false → (cond stops s a).regs ≡ a.regs
regs_by true s a is = absurd (cc)
regs_by false s a is = refl

regs_after : (s : State) (i : Input) (m : Moved) → m.kind ≡ ended.Plain → (state_after s i m).regs ≡ m.regs
unfolding state_after
regs_after s i m plain = regs_by (is_stopped m.kind) s _ (ap is_stopped plain)

label_done : (b : Bool) → is_done (cond b Do Skip) ≡ b
label_done true = refl
label_done false = refl

not_true : (b : Bool) → (b ≡ true → ⊥) → b ≡ false
not_true true never = absurd (never refl)
not_true false never = refl

module _ (words : Words) (st : Stated) (profile : Profile) (s : State) (i : Input) (stepped : Stepped) (after : State) (e : Edge) (edge : IsEdgeOf words st profile s i stepped after e) where
  abbrev x : Executes words st profile edge.action s i stepped after
  x = edge.executes

  place_is : place_address e.from ≡ address_in s.regs
  place_is = ap place_address edge.taken.from

  done_is : is_done e.label ≡ holds_in s.regs edge.action.cond
  done_is = ap is_done edge.taken.label ∙ label_done (holds_in s.regs edge.action.cond)

  -- the flags before the step give what the edge tells
  tells_gives : (o : Outcome) → Tells words e o → Gives (flags_in s.regs) o
  tells_gives o tells =
      let same : tells.action ≡ edge.action = one_action_at words (address_in s.regs) tells.action edge.action (subst (λ a. HasAction words a tells.action) place_is tells.has) x.has in
      ap (holds_in s.regs) (tells.cond ∙ ap (λ (a : Action). a.cond) same) ∙ sym (tells.holds ∙ done_is)

  -- an instruction that is done there, if its edge may not set the flags, may not
  may_not : (MaySet words e → ⊥) → (j : Instr) → Means x.has.word j → Leaves j s.regs
  may_not none j means holds =
      let same : edge.action ≡ instr_action j = one_action x.has.word edge.action (instr_action j) x.has.is (inl (j, means, refl)) in
      let done : is_done e.label ≡ true = done_is ∙ ap (λ (a : Action). holds_in s.regs a.cond) same ∙ holds in
      not_true (may_set_flags j.operation) (λ sets. none (record {
        done = done;
        instr = j;
        has = record { word = x.has.word; has_word = ap (word_of words) place_is ∙ x.has.word_is; means = means };
        sets = sets;
      }))

  step_stays : (MaySet words e → ⊥) → flags_in after.regs ≡ flags_in s.regs
  step_stays none =
      let m = x.step.moved in
      let bus = with_lines i.lines.0 s.bus in
      let plain : IsPlainStep s m stepped = plain_step s m stepped x.step.stepped_is x.plain in
      let works : ObeysFetched (fetched s.bus.memc (r15_in s.regs)) i.port s.regs bus m = works_plain (interrupt_due bus (r15_in s.regs)) i.port s.regs bus m x.step.works plain.kind in
      let obeys : Obeys x.has.word i.port s.regs bus m = subst (λ w. ObeysFetched w i.port s.regs bus m) (x.fetches ∙ x.has.word_is) works in
      ap (λ (t : State). flags_in t.regs) x.step.after_is ∙ ap flags_in (regs_after s i m plain.kind)
      ∙ obeys_stays x.has.word i.port s.regs bus m x.registers (may_not none) obeys plain.kind

-- ## Walks

module _ (words : Words) (st : Stated) (profile : Profile) where
  -- behind some edges the run follows the rest, from some state
  behind_of : (before rest : List Edge) (s : State) (inputs : List Input) → ((t : State) (others : List Input) → Follows words st profile t others rest → ⊥)
      → Follows words st profile s inputs (before ++ rest) → ⊥
  behind_of [] rest s inputs none follows = none s inputs follows
  behind_of (e ∷ before) rest s [] none follows = absurd follows
  behind_of (e ∷ before) rest s (i ∷ inputs) none follows = behind_of before rest follows.1 inputs none follows.3

  -- behind edges that set no flags these give what the next edge tells
  next_gives : (between behind : List Edge) (second : Edge) (other : Outcome) (flags : Flags) (s : State) (inputs : List Input) → NoneSets words between → Tells words second other
      → flags_in s.regs ≡ flags → Follows words st profile s inputs (between ++ second ∷ behind) → Gives flags other
  next_gives [] behind second other flags s [] none tells is follows = absurd follows
  next_gives [] behind second other flags s (i ∷ inputs) none tells is follows =
      subst (λ f. Gives f other) is (tells_gives words st profile s i follows.0 follows.1 second follows.2 other tells)
  next_gives (e ∷ between) behind second other flags s [] none tells is follows = absurd follows
  next_gives (e ∷ between) behind second other flags s (i ∷ inputs) none tells is follows =
      next_gives between behind second other flags follows.1 inputs (All-tail (λ (y : Edge). MaySet words y → ⊥) e between none) tells
      (step_stays words st profile s i follows.0 follows.1 e follows.2 (All-head (λ (y : Edge). MaySet words y → ⊥) e between none) ∙ is) follows.3

  not_followed : (walk : List Edge) (first second : Edge) → (c : Contradicts words walk first second) → (s : State) (inputs : List Input) → Follows words st profile s inputs walk → ⊥
  not_followed walk first second c s inputs follows =
      behind_of c.before ((first ∷ c.between) ++ second ∷ c.behind) s inputs clash
      (subst (Follows words st profile s inputs) (c.walk_is ∙ append_assoc c.before (first ∷ c.between) (second ∷ c.behind)) follows)
    where
      clash : (t : State) (others : List Input) → Follows words st profile t others ((first ∷ c.between) ++ second ∷ c.behind) → ⊥
      clash t [] follows = absurd follows
      clash t (i ∷ others) follows = c.excluded (flags_in t.regs)
          (tells_gives words st profile t i follows.0 follows.1 first follows.2 c.one c.tells_one)
          (next_gives (first ∷ c.between) c.behind second c.other (flags_in t.regs) t (i ∷ others) c.none_sets c.tells_other refl follows)

pub contradiction_law : ContradictionLaw
contradiction_law words walk first second c st profile s inputs follows = not_followed words st profile walk first second c s inputs follows

pub named_law : NamedLaw
named_law words walk a named are st profile s inputs follows =
    let c : IsContradicted words walk a = (are.each a).0 (here a named) in
    not_followed words st profile walk c.first c.second c.contradicts s inputs follows
