-- Some step takes as much as the longest: one that loads 16 words, R15 among them, or one that multiplies.
use Rattle.std.proofs.Common.{◌≡◌, ◌∙◌, ◌++◌, ℕ, ◌+◌, ◌*◌, ◌/◌, ◌<◌, ◌≤◌, inl, inr, true, false, List, []}
use Rattle.std.proofs.Common.{◌∷◌, Some, Ok, replicate, refl, sym, ap, subst, arith, max, lit<}
use Rattle.std.proofs.lemmas.Bool.{cases_lt, cond-false, eq-eqb, ne_eqb}
use Rattle.bus_ticks.specs.declared.profile.Class.TheVariants.{Any, Io, Ram, Rom}
use Rattle.bus_ticks.specs.declared.profile.Profile.{Profile}
use Rattle.bus_ticks.specs.declared.profile.RomTimes.{RomTimes}
use Rattle.bus_ticks.specs.Dearest.{AreDearest, IsDearestLeave}
use Rattle.bus_ticks.specs.Prices.{ahead_of, choice, word_address}
use Rattle.bus_ticks.specs.Ranges.{greatest}
use Rattle.bus_ticks.specs.Worst.{worst_io, worst_leave, worst_rom}
use Rattle.bus_ticks.proofs.LeaveLemmas.{any_of, io_far, io_near, ram_far, ram_near, rom_far, rom_near}
use Rattle.bus_ticks.proofs.WorstLemmas.{any_block, dearest_times, io_block}
use Rattle.image.specs.Image.{Words, word_of}
use Rattle.memc.specs.Memory.{Memory, located}
use Rattle.memc.specs.Paged.{IsShift}
use Rattle.memc.specs.declared.spots.Spot.{Spot}
use Rattle.memc.specs.declared.spots.Spot.TheVariants as spot
use Rattle.ioc.specs.Interrupts as ioc
use Rattle.ioc.specs.Registers.{is_register, read_at}
use Rattle.vidc.specs.Video as vidc
use Rattle.arm2_decode.specs.Table.{Means}
use Rattle.arm2_decode.specs.Transfers.{all_registers}
use Rattle.arm2_decode.specs.declared.flags.Flags.{Flags}
use Rattle.arm2_decode.specs.declared.instr.Instr.{Instr}
use Rattle.arm2_decode.specs.declared.instr.Operation.TheVariants as operation
use Rattle.arm2_decode.specs.declared.names.Cond.TheVariants.{Al}
use Rattle.arm2_decode.specs.declared.names.Register.TheVariants.{R0, R1, R2}
use Rattle.shifter.proofs.ShiftLemmas.{greatest_cycles}
use Rattle.arm2_effect.specs.ProgramCounter.{address_of}
use Rattle.arm2_transfer.specs.Bus.{seen}
use Rattle.arm2_exec.specs.Run.{why_stopped}
use Rattle.arm2_exec.specs.State.{State}
use Rattle.arm2_exec.specs.Step.{with_lines}
use Rattle.arm2_exec.specs.declared.machine.Input.{Input}
use Rattle.control_flow.specs.Edges.{IsEdge, do_edge}
use Rattle.control_flow.specs.Kinds.{instr_action}
use Rattle.control_flow.specs.declared.edges.Edge.{Edge}
use Rattle.control_flow.specs.declared.places.Place.TheVariants.{At, Exit}
use Rattle.flow_graph.specs.Tight.{IsTight}
use Rattle.flow_graph.specs.TightWork.{FetchesAt, IsDearestTarget, IsDearestTransfer, IsSetFor, IsSetForEdge}
use Rattle.flow_graph.specs.TightWork.{TransfersDearest}
use Rattle.flow_graph.proofs.TightStep.{law}
use Rattle.responses.specs.Longest.{HasStepOf, longest_step}
use Rattle.responses.proofs.LongestLemmas.{before, past, stated}

-- ## Two words

-- LDMIA R0,{R0-R15}
abbrev load_word : ℕ
load_word = 0xE890FFFF

unfoldable load : Instr
load = record {
  cond = Al;
  operation =
      operation.Block (record {
        before = false;
        up = true;
        user = false;
        write_back = false;
        load = true;
        rn = R0;
        list = 0xFFFF;
        allocated = refl;
        list_fits = lit< tt;
      });
}

load_means : Means load_word load
unfolding load
load_means = record { fixed = refl; fields = refl }

-- MUL R0,R1,R2
abbrev multiply_word : ℕ
multiply_word = 0xE0000291

unfoldable multiply : Instr
multiply = record {
  cond = Al;
  operation =
      operation.Multiply (record {
        accumulate = false;
        sets_flags = false;
        rd = R0;
        rn = R0;
        rs = R2;
        rm = R1;
        allocated = refl;
      });
}

multiply_means : Means multiply_word multiply
unfolding multiply
multiply_means = record { fixed = refl; fields = refl }

abbrev no_flags : Flags
no_flags = record { negative = false; zero = false; carry = false; overflow = false }

-- ## A machine at a word

-- R0 is a base, R2 a multiplier that takes 16 cycles
abbrev regs : (base r15 : ℕ) → List ℕ
regs base r15 = base ∷ 0 ∷ 0xFFFFFFFF ∷ (replicate 23 0 ++ r15 ∷ [])

-- by ROM's time fields at their dearest
abbrev start : Profile → Memory → (base r15 : ℕ) → State
start p memory base r15 =
    record {
      regs = regs base r15;
      bus = record { memc = memory; ioc = ioc.fresh; vidc = vidc.fresh };
      profile = p;
    }

abbrev input : ℕ → Input
input port = record { bursts = 0; lines = record { 0 = 0 }; port = port }

-- a word in ROM
abbrev in_rom : RomTimes → ℕ → Memory
in_rom times word = record {
  shift = 12;
  paged = record { words = []; pages = [] };
  control = record { rom_times = times; video_dma = false; sound_dma = false; system = false };
  rom = (0x3800000, word) ∷ [];
}

-- a word at 8, in RAM
abbrev in_ram : RomTimes → ℕ → Memory
in_ram times word = record {
  shift = 12;
  paged = record { words = 0 ∷ 0 ∷ word ∷ []; pages = Some (record { physical = 0; level = 0 }) ∷ [] };
  control = record { rom_times = times; video_dma = false; sound_dma = false; system = false };
  rom = [];
}

rom_fetches : (p : Profile) (times : RomTimes) (word base : ℕ) → AreDearest p times
    → FetchesAt p word 0x3800000 no_flags (start p (in_rom times word) base 0xF800003)
rom_fetches p times word base dear = record {
  registers = refl;
  whole = refl;
  below = lit< tt;
  r15 = refl;
  prices = refl;
  dearest = dear;
  fetches = refl;
}

ram_fetches : (p : Profile) (times : RomTimes) (word base : ℕ) → AreDearest p times
    → FetchesAt p word 8 no_flags (start p (in_ram times word) base 0xC00000B)
ram_fetches p times word base dear = record {
  registers = refl;
  whole = refl;
  below = lit< tt;
  r15 = refl;
  prices = refl;
  dearest = dear;
  fetches = refl;
}

-- ## A step of a word at its price

module _ (p : Profile) (x : ℕ) (s : State) (i : Input) (pages : IsShift s.bus.memc.shift) where
  abbrev words : ℕ → Words
  words word = (x, word) ∷ []

  there : (word : ℕ) → word_of (words word) x ≡ Some word
  there word = rw (eq-eqb x x refl) refl

  has_step : (word : ℕ) (e : Edge) → IsSetForEdge (words word) stated p e s i → HasStepOf p e.cost
  has_step word e is =
      let tight : IsTight (words word) stated p e s i = law (words word) stated p e s i is in
      record {
        s = s;
        i = i;
        stepped = tight.stepped;
        after = tight.after;
        is = record {
          registers = tight.takes.executes.registers;
          pages = pages;
          prices = tight.takes.executes.prices;
          step = tight.takes.executes.step;
          goes_on = ap why_stopped tight.takes.executes.plain;
        };
        ticks_are = tight.exact;
      }

  abbrev loads : Edge
  loads = do_edge stated p [] x (instr_action load) Exit

  loads_edge : IsEdge (words load_word) stated p loads
  unfolding load
  loads_edge = (
    loads ∷ [],
    (
      instr_action load,
      record {
        word = load_word;
        word_is = there load_word;
        is = inl (load, load_means, refl);
      },
      refl,
    ),
    (0, lit< tt, refl),
  )

  load_step : FetchesAt p load_word x no_flags s → IsSetFor stated p x Exit s i load.operation
      → HasStepOf p loads.cost
  unfolding load
  load_step begins is_set = has_step load_word loads (record {
    calls = [];
    address = x;
    word = load_word;
    action = instr_action load;
    flags = no_flags;
    is_edge = loads_edge;
    from = refl;
    has = there load_word;
    is = inl (load, load_means, refl);
    label = refl;
    begins = begins;
    skipped_or_set = inr (load, load_means, is_set);
  })

  abbrev multiplies : Edge
  multiplies = do_edge stated p [] x (instr_action multiply) (At [] (ahead_of x 4))

  multiplies_edge : IsEdge (words multiply_word) stated p multiplies
  unfolding multiply
  multiplies_edge = (
    multiplies ∷ [],
    (
      instr_action multiply,
      record {
        word = multiply_word;
        word_is = there multiply_word;
        is = inl (multiply, multiply_means, refl);
      },
      refl,
    ),
    (0, lit< tt, refl),
  )

  multiply_step : FetchesAt p multiply_word x no_flags s
      → IsSetFor stated p x (At [] (ahead_of x 4)) s i multiply.operation → HasStepOf p multiplies.cost
  unfolding multiply
  multiply_step begins is_set = has_step multiply_word multiplies (record {
    calls = [];
    address = x;
    word = multiply_word;
    action = instr_action multiply;
    flags = no_flags;
    is_edge = multiplies_edge;
    from = refl;
    has = there multiply_word;
    is = inl (multiply, multiply_means, refl);
    label = refl;
    begins = begins;
    skipped_or_set = inr (multiply, multiply_means, is_set);
  })

-- ## The dearest jump

-- to RAM, to ROM or to a device
leave_to_ram : (p : Profile) → (x : ℕ) × IsDearestLeave p Ram x
leave_to_ram p = elim (cases_lt p.quad p.unfitted) [
  | inl h ↦ (0x2FFFFFC, ram_far p h)
  | inr h ↦ (12, ram_near p h)
]

leave_to_rom : (p : Profile) → (x : ℕ) × IsDearestLeave p Rom x
leave_to_rom p = elim (cases_lt (worst_rom p) p.quad) [
  | inl h ↦ (0x3FFFFFC, rom_far p h)
  | inr h ↦ (0x3400000, rom_near p h)
]

leave_to_io : (p : Profile) → (x : ℕ) × IsDearestLeave p Io x
leave_to_io p = elim (cases_lt (worst_rom p) p.unfitted) [
  | inl h ↦ (0x3000000, io_near p h)
  | inr h ↦ (0x33FFFFC, io_far p h)
]

dearest_leave : (p : Profile) → (x : ℕ) × IsDearestLeave p Any x
dearest_leave p =
    elim (cases_lt (max (worst_leave p Ram) (worst_leave p Rom)) (worst_leave p Io)) [
      | inl h ↦ let best = leave_to_io p in (best.0, any_of p Io best.0 (omega arith) best.1)
      | inr g ↦ elim (cases_lt (worst_leave p Ram) (worst_leave p Rom)) [
        | inl h ↦ let best = leave_to_rom p in (best.0, any_of p Rom best.0 (omega arith) best.1)
        | inr h ↦ let best = leave_to_ram p in (best.0, any_of p Ram best.0 (omega arith) best.1)
      ]
    ]

-- ## Words of the dearest devices

located_io : (m : Memory) (a : ℕ) → 0x3000000 ≤ a → a < 0x3400000 → located m a false false ≡ Ok (spot.Io a)
located_io m a low high = past a 0x2000000 _ _ (omega arith) ∙ past a 0x3000000 _ _ low
    ∙ before a 0x3400000 _ _ high

some_greatest : (a b c d : ℕ) → (k : ℕ) × (k < 4) × (choice k a b c d ≡ greatest a b c d)
some_greatest a b c d =
    elim (cases_lt (max a b) (max c d)) [
      | inl low ↦ elim (cases_lt c d) [
        | inl h ↦ (3, omega arith, omega arith)
        | inr h ↦ (2, omega arith, omega arith)
      ]
      | inr high ↦ elim (cases_lt a b) [
        | inl h ↦ (1, omega arith, omega arith)
        | inr h ↦ (0, omega arith, omega arith)
      ]
    ]

-- a page of them, whose words the memory controller finds, and a jump from the last one's word
module _ (p : Profile) (x r15 : ℕ) (memory : Memory) (k : ℕ) (few : k < 4)
    (dear : choice k p.slow p.medium p.fast p.synchronous ≡ worst_io p) (t : ℕ)
    (leave : IsDearestLeave p Any t) where
  abbrev base : ℕ
  base = 0x3000000 + 0x80000 * k

  abbrev s_ : State
  s_ = start p memory base r15

  abbrev spots : ℕ → Spot
  spots n = spot.Io (word_address base n)

  found : (n : ℕ) → n < 16 → located memory (word_address base n) false false ≡ Ok (spots n)
  found n small = located_io memory (word_address base n) (omega (arith, few, small))
      (omega (arith, few, small))

  transfer : IsDearestTransfer p Any false 16 memory spots base
  transfer = record {
    whole = omega arith;
    block = any_block p 16 false _ (io_block p k few dear 16 (omega arith) false memory.control.rom_times);
    spots = found;
  }

  seen_last : seen (with_lines 0 s_.bus) t (spots 15) ≡ t
  seen_last =
      let other : is_register (word_address base 15) ≡ false =
      ne_eqb (word_address base 15 / 0x80) 0x64000 (λ e. omega (arith, e, few)) in
      cond-false (is_register (word_address base 15)) (read_at (word_address base 15) ioc.fresh) t other

  target : IsDearestTarget stated p Exit (address_of (seen (with_lines 0 s_.bus) t (spots 15)))
  target =
      let at : address_of (seen (with_lines 0 s_.bus) t (spots 15)) ≡ t = ap address_of seen_last
      ∙ omega (arith, leave.whole, leave.below) in
      subst (IsDearestTarget stated p Exit) (sym at)
      (record { whole = leave.whole; below = leave.below; is_place = tt; price = leave.price })

  loads_dearest : (lowest : ℕ) → lowest ≡ base
      → TransfersDearest stated p x Exit s_ (input t) R0 true true 16 lowest
  loads_dearest lowest is = rw is (record { spot = spots; transfer = transfer; target = λ yes. target })

  load_set : IsSetFor stated p x Exit s_ (input t) load.operation
  unfolding load all_registers
  load_set = loads_dearest (base / 4 * 4) (omega arith)

-- ## The longest step

module _ (p : Profile) where
  abbrev by_load : ℕ → ℕ
  by_load fetch = fetch + (16 * worst_io p + p.internal) + worst_leave p Any

  abbrev by_multiply : ℕ → ℕ
  by_multiply fetch = fetch + 16 * p.internal + 0

  rom_load : HasStepOf p (by_load (worst_rom p))
  unfolding load all_registers
  rom_load =
      let times = dearest_times p in
      let device = some_greatest p.slow p.medium p.fast p.synchronous in
      let leave = dearest_leave p in
      load_step p 0x3800000 (start p (in_rom times.0 load_word) (0x3000000 + 0x80000 * device.0) 0xF800003)
      (input leave.0) (omega arith, omega arith)
      (rom_fetches p times.0 load_word (0x3000000 + 0x80000 * device.0) times.1)
      (load_set p 0x3800000 0xF800003 (in_rom times.0 load_word) device.0 device.1 device.2 leave.0 leave.1)

  ram_load : HasStepOf p (by_load p.quad)
  unfolding load all_registers
  ram_load =
      let times = dearest_times p in
      let device = some_greatest p.slow p.medium p.fast p.synchronous in
      let leave = dearest_leave p in
      load_step p 8 (start p (in_ram times.0 load_word) (0x3000000 + 0x80000 * device.0) 0xC00000B)
      (input leave.0) (omega arith, omega arith)
      (ram_fetches p times.0 load_word (0x3000000 + 0x80000 * device.0) times.1)
      (load_set p 8 0xC00000B (in_ram times.0 load_word) device.0 device.1 device.2 leave.0 leave.1)

  rom_multiply : HasStepOf p (by_multiply (worst_rom p))
  unfolding multiply
  rom_multiply =
      let times = dearest_times p in
      multiply_step p 0x3800000 (start p (in_rom times.0 multiply_word) 0 0xF800003) (input 0)
      (omega arith, omega arith) (rom_fetches p times.0 multiply_word 0 times.1) greatest_cycles

  ram_multiply : HasStepOf p (by_multiply p.quad)
  unfolding multiply
  ram_multiply =
      let times = dearest_times p in
      multiply_step p 8 (start p (in_ram times.0 multiply_word) 0 0xC00000B) (input 0)
      (omega arith, omega arith) (ram_fetches p times.0 multiply_word 0 times.1) greatest_cycles

  pub reached : HasStepOf p (longest_step p)
  reached =
      let load_ticks = 16 * worst_io p + p.internal + worst_leave p Any in
      let multiply_ticks = 16 * p.internal in
      elim (cases_lt load_ticks multiply_ticks) [
        | inl long ↦ elim (cases_lt (worst_rom p) p.quad) [
          | inl dear ↦ subst (HasStepOf p)
              (sum_second p.quad (worst_rom p) load_ticks multiply_ticks (omega (arith, long))
              (omega (arith, dear))) ram_multiply
          | inr cheap ↦ subst (HasStepOf p)
              (sum_second (worst_rom p) p.quad load_ticks multiply_ticks (omega (arith, long)) cheap
              ∙ ap (λ f. f + max load_ticks multiply_ticks) (max_same (worst_rom p) p.quad)) rom_multiply
        ]
        | inr short ↦ elim (cases_lt (worst_rom p) p.quad) [
          | inl dear ↦ subst (HasStepOf p) (sum_first p.quad (worst_rom p) (16 * worst_io p) p.internal
              (worst_leave p Any) multiply_ticks short (omega (arith, dear))) ram_load
          | inr cheap ↦ subst (HasStepOf p) (sum_first (worst_rom p) p.quad (16 * worst_io p) p.internal
              (worst_leave p Any) multiply_ticks short cheap
              ∙ ap (λ f. f + max load_ticks multiply_ticks) (max_same (worst_rom p) p.quad)) rom_load
        ]
      ]
    where
      max_same : (a b : ℕ) → max a b ≡ max b a
      max_same a b = omega arith

      sum_first : (first other io internal leave multiply_ : ℕ) → multiply_ ≤ io + internal + leave
          → other ≤ first → first + (io + internal) + leave ≡ max first other + max
          (io + internal + leave) multiply_
      sum_first first other io internal leave multiply_ le below = omega arith

      sum_second : (first other load_ multiply_ : ℕ) → load_ ≤ multiply_ → other ≤ first
          → first + multiply_ + 0 ≡ max first other + max load_ multiply_
      sum_second first other load_ multiply_ le below = omega arith
