-- A run that keeps two statements, with two visits of FIQ: both handlers are the one word SUBS PC,R14,#4,
-- FIQ's at its vector and the interrupted one in ROM, in IRQ mode.
use Rattle.std.proofs.Common.{◌≡◌, ◌++◌, ℕ, List, [], ◌∷◌, Bool, true, false, None, Some, replicate, refl, ap, subst}
use Rattle.std.specs.Prelude.{◌&&◌, if◌then◌else◌}
use Rattle.bus_ticks.specs.declared.profile.Profile.{Profile}
use Rattle.image.specs.Image.{Words, word_of}
use Rattle.memc.specs.Memory.{Memory, control_of}
use Rattle.ioc.specs.Interrupts as ioc
use Rattle.ioc.specs.declared.timers.Timers.{Timers}
use Rattle.vidc.specs.Video as vidc
use Rattle.arm2_effect.specs.declared.step_end.Kind.TheVariants.{Plain, Taken}
use Rattle.arm2_effect.specs.declared.exceptions.Vector.TheVariants.{Fiq, Irq}
use Rattle.arm2_effect.specs.Exceptions.{taken}
use Rattle.shifter.specs.Word.{bits_from}
use Rattle.arm2_effect.specs.Operands as operands
use Rattle.arm2_effect.specs.Operations.{data_immediate_effect, jumped, operation_effect, outcome_effect}
use Rattle.arm2_transfer.specs.declared.bus.Bus.{Bus}
use Rattle.arm2_transfer.specs.Moved.{Moved, on_bus}
use Rattle.arm2_exec.specs.Run.{Runs, at_rest, counted, why_stopped}
use Rattle.arm2_exec.specs.State.{State}
use Rattle.arm2_exec.specs.Step.{Step, answer_of, state_after, with_lines}
use Rattle.arm2_exec.specs.declared.machine.Input.{Input}
use Rattle.arm2_exec.specs.declared.machine.Ran.{Ran}
use Rattle.arm2_exec.specs.declared.machine.Stepped.{Stepped}
use Rattle.flow_graph.specs.StepLaw.{IsEdgeOf}
use Rattle.handlers.specs.Keeping.{KeepsStatement}
use Rattle.kept_runs.specs.Visited.{IsVisit, MainStep, Visit, inputs_of}
use Rattle.handlers.specs.Visits.{HasVisitedRun, KeepsVisited}
use Rattle.arcwcet.proofs.OneWord as one
use Rattle.arcwcet.proofs.OneWord.{goes_before, quiet}

abbrev main_entry : ℕ
main_entry = 0x3800000

abbrev vector : ℕ
vector = 0x1C

words : Words
words = (vector, one.word) ∷ (main_entry, one.word) ∷ []

fiq_stands : word_of words vector ≡ Some one.word
unfolding words
fiq_stands = refl

main_stands : word_of words main_entry ≡ Some one.word
unfolding words
main_stands = refl

-- RAM's eighth word and ROM's word hold the handlers
memory : Memory
memory = record {
  shift = 12;
  paged = record { words = replicate 7 0 ++ one.word ∷ []; pages = Some (record { physical = 0; level = 0 }) ∷ [] };
  control = control_of 0;
  rom = (main_entry, one.word) ∷ [];
}

-- FIQ's line F0 is the one that is not masked
bus : ℕ → Timers → Bus
bus lines timers = record {
  memc = memory;
  ioc = record { lines = lines; a2_rose = false; flyback_rose = false; mask_a = 0; mask_b = 0; mask_f = 1; timers = timers };
  vidc = vidc.fresh;
}

-- R14 of FIQ leads back to the entry, with I set and IRQ mode; R15 is the entry
regs : List ℕ
regs = replicate 21 0 ++ 0x0B800006 ∷ 0 ∷ 8 ∷ 0 ∷ 0 ∷ 0x0B800002 ∷ []

-- in FIQ's handler
fiq_regs : List ℕ
fiq_regs = replicate 21 0 ++ 0x0B800006 ∷ 0 ∷ 8 ∷ 0 ∷ 0 ∷ 0x0C00001D ∷ []

abbrev asking : Input
asking = record { bursts = 0; lines = record { 0 = 0x10000 }; port = 0 }

abbrev visit : Visit
visit = record { taking = asking; handling = quiet ∷ [] }

-- IRQ is masked
masked : (asserted : Bool) → (if asserted && false then Some Irq else None) ≡ None
masked true = refl
masked false = refl

module _ (profile : Profile) where
  ready : Timers → State
  ready timers = record { regs = regs; bus = bus 0 timers; profile = profile }

  inside : Timers → State
  inside timers = record { regs = fiq_regs; bus = bus 0x10000 timers; profile = profile }

  -- ## FIQ is taken

  took : Timers → Moved
  took timers = on_bus (with_lines 0x10000 (bus 0 timers)) (taken Fiq regs)

  stepped_taking : Timers → Stepped
  stepped_taking timers = answer_of (ready timers) (took timers)

  entered : Timers → State
  entered timers = state_after (ready timers) asking (took timers)

  step_taking : (timers : Timers) → Step (ready timers) asking (stepped_taking timers) (entered timers)
  unfolding ready bus regs memory took stepped_taking entered
  step_taking timers = record { moved = took timers; works = refl; stepped_is = refl; after_is = refl }

  takes_fiq : (timers : Timers) → (stepped_taking timers).kind ≡ Taken Fiq
  unfolding stepped_taking took taken answer_of
  takes_fiq timers = refl

  first_timers : Timers → Timers
  first_timers timers = (entered timers).bus.ioc.timers

  entered_is : (timers : Timers) → entered timers ≡ inside (first_timers timers)
  unfolding first_timers entered took taken inside ready bus regs fiq_regs memory state_after
  entered_is timers = refl

  -- ## FIQ's handler returns

  module _ (timers : Timers) where
    fiq_ready : one.IsAtWord vector profile (inside timers) quiet
    unfolding inside bus fiq_regs memory
    fiq_ready = record { registers = refl; at = refl; prices = refl; fetches = refl; none_due = masked (ioc.irq_of (with_lines 0 (bus 0x10000 timers)).ioc) }

    fiq_stepped : Stepped
    fiq_stepped = one.stepped words vector fiq_stands profile (inside timers) quiet fiq_ready

    returned : State
    returned = one.after words vector fiq_stands profile (inside timers) quiet fiq_ready

    fiq_step : Step (inside timers) quiet fiq_stepped returned
    unfolding fiq_stepped returned
    fiq_step = one.step words vector fiq_stands profile (inside timers) quiet fiq_ready

    fiq_plain : fiq_stepped.kind ≡ Plain
    unfolding fiq_stepped
    fiq_plain = one.plain words vector fiq_stands profile (inside timers) quiet fiq_ready

    second_timers : Timers
    second_timers = returned.bus.ioc.timers

    returned_is : returned ≡ ready second_timers
    unfolding second_timers returned one.after one.moved one.instr inside ready bus regs fiq_regs memory state_after operation_effect data_immediate_effect outcome_effect jumped operands.word_of bits_from
    returned_is = refl

    fiq_keeps : KeepsStatement words (one.stated words vector fiq_stands profile) profile (one.flow words vector fiq_stands profile) (inside timers) (quiet ∷ [])
    fiq_keeps = record {
      walk = one.edge words vector fiq_stands profile ∷ [];
      complete = one.complete words vector fiq_stands profile;
      kept = one.keeps_bounds words vector fiq_stands profile;
      follows = one.follows words vector fiq_stands profile (inside timers) quiet fiq_ready;
    }

  -- ## The interrupted handler returns

  module _ (timers : Timers) where
    main_ready : one.IsAtWord main_entry profile (ready timers) quiet
    unfolding ready bus regs memory
    main_ready = record { registers = refl; at = refl; prices = refl; fetches = refl; none_due = masked (ioc.irq_of (with_lines 0 (bus 0 timers)).ioc) }

    main_stepped : Stepped
    main_stepped = one.stepped words main_entry main_stands profile (ready timers) quiet main_ready

    left : State
    left = one.after words main_entry main_stands profile (ready timers) quiet main_ready

    main_step : Step (ready timers) quiet main_stepped left
    unfolding main_stepped left
    main_step = one.step words main_entry main_stands profile (ready timers) quiet main_ready

    main_plain : main_stepped.kind ≡ Plain
    unfolding main_stepped
    main_plain = one.plain words main_entry main_stands profile (ready timers) quiet main_ready

    main_edge : IsEdgeOf words (one.stated words main_entry main_stands profile) profile (ready timers) quiet main_stepped left (one.edge words main_entry main_stands profile)
    unfolding main_stepped left
    main_edge = one.is_edge_of words main_entry main_stands profile (ready timers) quiet main_ready

  -- ## A visit

  next_timers : Timers → Timers
  next_timers timers = second_timers (first_timers timers)

  step_in : (timers : Timers) → Step (ready timers) asking (stepped_taking timers) (inside (first_timers timers))
  step_in timers = subst (λ n. Step (ready timers) asking (stepped_taking timers) n) (entered_is timers) (step_taking timers)

  step_back : (timers : Timers) → Step (inside timers) quiet (fiq_stepped timers) (ready (second_timers timers))
  step_back timers = subst (λ n. Step (inside timers) quiet (fiq_stepped timers) n) (returned_is timers) (fiq_step timers)

  handler_ran : Timers → Ran → Ran
  handler_ran timers more = counted (inside timers).profile.burst quiet (fiq_stepped timers) more

  handler_runs : (timers : Timers) (rest : List Input) (more : Ran) (after : State) → Runs (ready (second_timers timers)) rest more after → Runs (inside timers) (quiet ∷ rest) (handler_ran timers more) after
  unfolding handler_ran
  handler_runs timers rest more after runs =
      goes_before (inside timers) quiet rest (fiq_stepped timers) (ready (second_timers timers)) more after (step_back timers) (ap why_stopped (fiq_plain timers)) runs

  visit_ran : Timers → Ran → Ran
  visit_ran timers more = counted (ready timers).profile.burst asking (stepped_taking timers) (handler_ran (first_timers timers) more)

  visit_runs : (timers : Timers) (rest : List Input) (more : Ran) (after : State) → Runs (ready (next_timers timers)) rest more after → Runs (ready timers) (asking ∷ quiet ∷ rest) (visit_ran timers more) after
  unfolding visit_ran next_timers
  visit_runs timers rest more after runs =
      goes_before (ready timers) asking (quiet ∷ rest) (stepped_taking timers) (inside (first_timers timers)) (handler_ran (first_timers timers) more) after
      (step_in timers) (ap why_stopped (takes_fiq timers)) (handler_runs (first_timers timers) rest more after runs)

  is_visit : (timers : Timers) → IsVisit (KeepsStatement words (one.stated words vector fiq_stands profile) profile (one.flow words vector fiq_stands profile)) profile (ready timers) visit (ready (next_timers timers))
  unfolding next_timers ready
  is_visit timers =
      let t = first_timers timers in
      record {
        stepped = stepped_taking timers;
        entered = inside t;
        step = step_in timers;
        takes_fiq = takes_fiq timers;
        prices = refl;
        keeps = fiq_keeps t;
        ran = handler_ran t (at_rest None);
        runs = handler_runs t [] (at_rest None) (ready (second_timers t)) (refl, refl);
        back = refl;
      }

  -- ## The run

  first : Timers
  first = ioc.fresh.timers

  last : Timers
  last = next_timers (next_timers first)

  abbrev steps : List MainStep
  steps = record { visits = visit ∷ visit ∷ []; input = quiet } ∷ []

  keeps : KeepsVisited words words (one.stated words vector fiq_stands profile) profile (one.flow words vector fiq_stands profile)
      (one.stated words main_entry main_stands profile) (one.flow words main_entry main_stands profile) (ready first) steps
  unfolding last
  keeps = record {
    walk = one.edge words main_entry main_stands profile ∷ [];
    complete = one.complete words main_entry main_stands profile;
    kept = one.keeps_bounds words main_entry main_stands profile;
    follows = (ready last, (ready (next_timers first), is_visit first, (ready last, is_visit (next_timers first), refl)), (main_stepped last, left last, main_edge last, tt));
  }

  main_ran : Ran
  main_ran = counted (ready last).profile.burst quiet (main_stepped last) (at_rest None)

  ran : Ran
  ran = visit_ran first (visit_ran (next_timers first) main_ran)

  runs : Runs (ready first) (inputs_of steps) ran (left last)
  unfolding ran main_ran last
  runs =
      visit_runs first (asking ∷ quiet ∷ quiet ∷ []) (visit_ran (next_timers first) main_ran) (left last)
      (visit_runs (next_timers first) (quiet ∷ []) main_ran (left last)
      (goes_before (ready last) quiet [] (main_stepped last) (left last) (at_rest None) (left last) (main_step last) (ap why_stopped (main_plain last)) (refl, refl)))

pub visited : (profile : Profile) → HasVisitedRun profile
visited profile = record {
  words = words;
  irq = one.stated words main_entry main_stands profile;
  fiq = one.stated words vector fiq_stands profile;
  irq_flow = one.flow words main_entry main_stands profile;
  fiq_flow = one.flow words vector fiq_stands profile;
  irq_graph_is = one.graph_is words main_entry main_stands profile;
  fiq_graph_is = one.graph_is words vector fiq_stands profile;
  fiq_entry_is = refl;
  s = ready profile (first profile);
  steps = steps profile;
  two = refl;
  keeps = keeps profile;
  ran = ran profile;
  after = left profile (last profile);
  runs = runs profile;
}
