-- The machine of an edge's file takes the edge at its price.
use Rattle.std.proofs.Common.{◌≡◌, ℕ, ◌+◌, ◌*◌, ◌/◌, ◌%◌, ◌^◌, ◌<◌, ◌≤◌, ◌⊎◌, inl, inr, true, false, Option, Some, None, Result, Ok, List, [], ◌∷◌, ◌++◌, length, get_or, IsTrue, replicate, refl, sym, ap, subst, ◌∙◌, arith}
use Rattle.std.specs.Prelude.{All, Contains, IfSome, IsSome, is_some}
use Rattle.std.proofs.lemmas.Bool.{eqb-false, eq-eqb, lt-ltb}
use Rattle.std.proofs.lemmas.List.{get_or-set_same, get_or_append_left, get_or_push, length-append, length-replicate, length-set}
use Rattle.std.proofs.lemmas.List.Elements.{All-from_recursion, recursion_from_All}
use Rattle.std.proofs.lemmas.Option.{same_Some}
use Rattle.std.specs.Option.{option_to_list}
use Rattle.bus_ticks.specs.declared.profile.Profile.{Profile}
use Rattle.bus_ticks.specs.declared.profile.RomTimes.{RomTimes}
use Rattle.bus_ticks.specs.Dearest.{AreDearest}
use Rattle.bus_ticks.specs.Prices.{rom_price}
use Rattle.image.specs.Image.{Words, is_past_ram, may_hold, word_of, AreOf, IsFitted}
use Rattle.image.specs.Inside.{AreWhole}
use Rattle.loader.specs.Loading.{HasWord, lacks_page, loaded, put_words, spot_of}
use Rattle.image.specs.Pages.{page_of}
use Rattle.loader.specs.PagePlan.{IsPagePlan, physical_page}
use Rattle.loader.specs.Planned.{IsBeside, IsMapped}
use Rattle.loader.specs.declared.plan.PlacedPage.{PlacedPage}
use Rattle.loader.proofs.MemoryLemmas.{same_spot}
use Rattle.image.proofs.PlaceLemmas.{may_within}
use Rattle.loader.proofs.PlannedLemmas.{InRam, InRom, beside_given, found, gives_at, image_fits, image_given, image_stays, mapped_stays, parts}
use Rattle.memc.specs.Memory.{Memory as Memc, located, word_at}
use Rattle.memc.specs.declared.spots.Spot.{Spot}
use Rattle.memc.specs.declared.spots.Spot.TheVariants.{Ram, Rom}
use Rattle.arm2_decode.specs.Names.{is_pc, register_number}
use Rattle.arm2_decode.specs.declared.flags.Flags.{Flags}
use Rattle.arm2_effect.specs.declared.modes.Mode.TheVariants.{Svc}
use Rattle.arm2_effect.specs.Modes.{mode_named, r15_in, register_in, slot_of, is_user}
use Rattle.arm2_effect.specs.ProgramCounter.{address_of, mode_of, psr_with, r15_of}
use Rattle.arm2_transfer.proofs.Slots.{below_15, slot_below}
use Rattle.arm2_exec.specs.State.{State}
use Rattle.arm2_exec.specs.Step.{fetched, fetched_at}
use Rattle.arm2_exec.specs.declared.machine.Input.{Input}
use Rattle.std.specs.Map.{keys_of}
use Rattle.toml_reading.specs.Documents.{are_distinct}
use Rattle.machine_file.specs.Parts.{IsInRange, HasNoneTwice}
use Rattle.machine_file.specs.Started.{IsStarted, psr_number}
use Rattle.machine_file.specs.Started as started
use Rattle.control_flow.specs.Edges.{AreEdgesOf, IsEdge}
use Rattle.control_flow.specs.Flow.{Flow, HasEdge}
use Rattle.control_flow.specs.Graph.{IsFlowGraph}
use Rattle.control_flow.specs.Places.{place_address, place_at}
use Rattle.control_flow.specs.Free.{IsFree}
use Rattle.flow_graph.specs.Setting.{HasSetting, IsData}
use Rattle.flow_graph.specs.Tight.{IsTight}
use Rattle.flow_graph.specs.TightFile.{CanPlace, HasOwnWord, HasPlaceWord, HasWordAt, IsPlaceWord, IsPlaced, IsSetUp, IsTightFile, file_of, masked_flags, registers_with}
use Rattle.flow_graph.specs.TightWork.{FetchesAt, IsSetForEdge, masked}
use Rattle.control_flow.specs.declared.edges.Edge.{Edge}
use Rattle.control_flow.specs.declared.places.Place.{Place}
use Rattle.control_flow.specs.declared.places.Place.TheVariants.{At, Exit}
use Rattle.flow_graph.specs.declared.tight_setting.Held.{Held}
use Rattle.flow_graph.specs.declared.tight.SetUp.{SetUp}
use Rattle.statement.specs.Stated.{Stated, class_at}
use Rattle.control_flow.specs.Kinds.{instr_action}
use Rattle.control_flow.specs.declared.actions.Action.{Action}
use Rattle.control_flow.proofs.EdgeLemmas.{one_action}
use Rattle.std.proofs.lemmas.List.{get_or_read}
use Rattle.std.specs.Cmp.Derive.{both_true}
use Rattle.control_flow.proofs.FlowLemmas.{ends_in, part_of}
use Rattle.control_flow.proofs.SortedLemmas.{here, no_member}
use Rattle.flow_graph.proofs.StepRegisters.{address_put}
use Rattle.flow_graph.proofs.TightPages.{all_mappable, all_single, is_mapped}
use Rattle.flow_graph.proofs.TightStep as step

-- ## Registers

pub length_with : (o : Option Held) → length (registers_with o) ≡ 26
length_with None = length-replicate {A = ℕ} 26 0
length_with (Some held) = length-set (replicate 26 0) (slot_of Svc (register_number held.register)) held.word ∙ length-replicate {A = ℕ} 26 0

with_last : (o : Option Held) (r : ℕ) → length (registers_with o ++ r ∷ []) ≡ 27
with_last o r = length-append (registers_with o) (r ∷ []) ∙ ap (λ n. n + 1) (length_with o)

last_is : (o : Option Held) (r : ℕ) → r15_in (registers_with o ++ r ∷ []) ≡ r
last_is o r = get_or_push (registers_with o) r 0 26 (length_with o)

-- the held register has its word
held_is : (held : Held) (r : ℕ) → is_pc held.register ≡ false → register_in Svc (register_number held.register) (registers_with (Some held) ++ r ∷ []) ≡ held.word
held_is held r other =
    let n : ℕ = slot_of Svc (register_number held.register) in
    let below : n < 26 = slot_below Svc (register_number held.register) (below_15 held.register (eqb-false (register_number held.register) 15 other)) in
    get_or_append_left (registers_with (Some held)) (r ∷ []) 0 n (let long = length_with (Some held) in omega (arith, below, long))
    ∙ get_or-set_same (replicate 26 0) n held.word 0 (let long : length {A = ℕ} (replicate 26 0) ≡ 26 = length-replicate {A = ℕ} 26 0 in omega (arith, below, long))

psr_is : (f : Flags) → psr_number (masked_flags f) ≡ psr_with f masked
psr_is f = omega arith

-- the mode of such a R15
svc_of : (psr a : ℕ) → a % 4 ≡ 0 → mode_of (r15_of psr a Svc) ≡ Svc
svc_of psr a whole = ap mode_named (let e : (psr * 2 ^ 26 + a + 3) % 4 ≡ 3 = omega (arith, whole) in e)

-- ## Memory

-- a word in memory besides the image's is on the spare page or in ROM, and not the one that is executed
apart_of : (words : Words) (pages : List PlacedPage) (spare a at : ℕ) → IsPagePlan words pages spare → IsSome (word_of words a) → IsData spare a at → IsBeside spare at × (at ≡ a → ⊥)
apart_of words pages spare a at plan some has = by_place has.1
  where
    by_place : (page_of at ≡ physical_page spare) ⊎ ((0x3400000 ≤ at) × (at < 2 ^ 26) × (at ≡ a → ⊥)) → IsBeside spare at × (at ≡ a → ⊥)
    by_place (inl ram) = (
      (has.0, inl ram),
      λ e. plan.spare_free.unnamed (a, some, ap page_of (sym e) ∙ ram),
    )
    by_place (inr rom) = ((has.0, inr (rom.0, omega (arith, rom.1))), rom.2)

-- a fetch takes the word that a load takes, in RAM or in ROM
fetched_word : (m : Memc) (a w : ℕ) (r : Result Spot _) → HasWord m a w → spot_of m a ≡ r → InRam m a ⊎ InRom m a → fetched_at m r ≡ Some w
fetched_word m a w r gives is (inl ram) = subst (λ x. fetched_at m x ≡ Some w) (sym ram.at ∙ is) (ap Some (gives_at m a w (Ram ram.place) gives ram.at))
fetched_word m a w r gives is (inr rom) = subst (λ x. fetched_at m x ≡ Some w) (sym rom.at ∙ is) (ap Some (gives_at m a w (Rom a) gives rom.at))

-- ## The machine

module _ (words : Words) (st : Stated) (profile : Profile) (e : Edge) (spare : ℕ) (pages : List PlacedPage) (set_up : SetUp) (rom : RomTimes)
    (h : IsSetUp words st profile e spare set_up) (whole : AreWhole words) (plan : IsPagePlan words pages spare) (dear : AreDearest profile rom) (free : IsFree words e) where
  some_word : IsSome (word_of words set_up.address)
  some_word = ap is_some h.has

  place : (set_up.address % 4 ≡ 0) × (set_up.address < 0x4000000) × ((set_up.address < 0x3000000) ⊎ (0x3400000 ≤ set_up.address))
  place = parts words set_up.address whole some_word

  fits : IsFitted set_up.address
  fits = subst (λ n. is_past_ram n ≡ false) (ap place_address (sym free.from ∙ h.from)) free.not_past_ram

  besides : All (λ x. IsBeside spare x.0 × (x.0 ≡ set_up.address → ⊥)) (option_to_list set_up.setting.word)
  besides = by_word set_up.setting.word h.setting.word_apart
    where
      by_word : (o : Option (ℕ × ℕ)) → IfSome o (λ x. IsData spare set_up.address x.0) → All (λ x. IsBeside spare x.0 × (x.0 ≡ set_up.address → ⊥)) (option_to_list o)
      by_word None has = All-from_recursion (λ x. IsBeside spare x.0 × (x.0 ≡ set_up.address → ⊥)) [] tt
      by_word (Some x) has = All-from_recursion (λ y. IsBeside spare y.0 × (y.0 ≡ set_up.address → ⊥)) (x ∷ []) (apart_of words pages spare set_up.address x.0 plan some_word has, tt)

  module _ (some : Words) (start : State) (i : Input) (of : AreOf words some) (has_place : HasPlaceWord words e.from some)
      (begun : IsStarted (file_of set_up pages rom) profile start) (port : i.port ≡ set_up.setting.port) where
    abbrev s : State
    s = put_words (option_to_list set_up.setting.word) (put_words some start)

    abbrev m : Memc
    m = loaded (option_to_list set_up.setting.word) (loaded some start.bus.memc)

    mapped : IsMapped pages start.bus.memc
    mapped = is_mapped words pages spare rom.low rom.high plan start.bus.memc begun.memory

    mapped_then : IsMapped pages (loaded some start.bus.memc)
    mapped_then = mapped_stays pages start.bus.memc some mapped

    mapped_last : IsMapped pages m
    mapped_last = mapped_stays pages (loaded some start.bus.memc) (option_to_list set_up.setting.word) mapped_then

    gives : HasWord m set_up.address h.word
    gives =
        image_stays words (option_to_list set_up.setting.word) pages spare (loaded some start.bus.memc) set_up.address h.word whole plan mapped_then some_word
        (image_given words some pages spare start.bus.memc set_up.address h.word whole plan mapped of (has_place h.calls set_up.address h.word h.from h.has) fits) besides

    r15_is : r15_in s.regs ≡ r15_of (psr_with set_up.flags masked) set_up.address Svc
    r15_is = ap r15_in begun.registers ∙ last_is set_up.setting.register _ ∙ ap (λ n. r15_of n set_up.address Svc) (psr_is set_up.flags)

    svc : mode_of (r15_in s.regs) ≡ Svc
    svc = ap mode_of r15_is ∙ svc_of (psr_with set_up.flags masked) set_up.address place.0

    at : address_of (r15_in s.regs) ≡ set_up.address
    at = ap address_of r15_is ∙ address_put (psr_with set_up.flags masked) set_up.address Svc (place.1, place.0)

    fetches : fetched m (r15_in s.regs) ≡ Some h.word
    fetches =
        fetched_word m set_up.address h.word _ gives
        (ap (λ n. located m n false false) (sym at) ∙ ap (λ b. located m (address_of (r15_in s.regs)) b false) (sym (ap is_user svc)))
        (found words pages spare m set_up.address (record { whole = whole; plan = plan; mapped = mapped_last }) some_word fits)

    dearest : AreDearest profile m.control.rom_times
    dearest = by_fields (start.bus.memc.control.rom_times) (ap (λ c. c.rom_times.low) begun.memory.control ∙ low_is) (ap (λ c. c.rom_times.high) begun.memory.control ∙ high_is)
      where
        low_is : (rom.low * 2 ^ 4 + rom.high * 2 ^ 6) / 2 ^ 4 % 2 ^ 2 ≡ rom.low
        low_is = let small = rom.low_in_range in omega (arith, small)

        high_is : (rom.low * 2 ^ 4 + rom.high * 2 ^ 6) / 2 ^ 6 % 2 ^ 2 ≡ rom.high
        high_is = let small = rom.low_in_range in let small_too = rom.high_in_range in omega (arith, small, small_too)

        rom_same : (r : RomTimes) → r.low ≡ rom.low → r.high ≡ rom.high → (x : ℕ) → rom_price profile x r ≡ rom_price profile x rom
        rom_same r low high x = rw (low, high) refl

        by_fields : (r : RomTimes) → r.low ≡ rom.low → r.high ≡ rom.high → AreDearest profile r
        by_fields r low high x = rom_same r low high x ∙ dear x

    begins : FetchesAt profile h.word set_up.address set_up.flags s
    begins = record {
      registers = ap length begun.registers ∙ with_last set_up.setting.register _;
      whole = place.0;
      below = place.1;
      r15 = r15_is;
      prices = begun.prices;
      dearest = dearest;
      fetches = fetches;
    }

    setting : HasSetting profile set_up.setting s i
    setting = record {
      mode = svc;
      shift = mapped_last.size;
      dearest = dearest;
      register = by_register set_up.setting.register h.setting.register_other begun.registers;
      port = port;
      word = by_word set_up.setting.word besides;
    }
      where
        by_register : (o : Option Held) → IfSome o (λ held. is_pc held.register ≡ false) → s.regs ≡ registers_with o ++ started.r15_in (file_of set_up pages rom).processor ∷ [] → IfSome o (λ held. register_in Svc (register_number held.register) s.regs ≡ held.word)
        by_register None other is = tt
        by_register (Some held) other is = ap (register_in Svc (register_number held.register)) is ∙ held_is held (started.r15_in (file_of set_up pages rom).processor) other

        by_word : (o : Option (ℕ × ℕ)) → All (λ x. IsBeside spare x.0 × (x.0 ≡ set_up.address → ⊥)) (option_to_list o)
            → IfSome o (λ x. (spot : Spot) → located (loaded (option_to_list o) (loaded some start.bus.memc)) x.0 false false ≡ Ok spot → word_at (loaded (option_to_list o) (loaded some start.bus.memc)) spot ≡ x.1)
        by_word None all = tt
        by_word (Some x) all = λ spot at_spot.
            gives_at (loaded (x ∷ []) (loaded some start.bus.memc)) x.0 x.1 spot
            (beside_given (x ∷ []) pages spare (loaded some start.bus.memc) x.0 x.1 mapped_then plan.spare_free.below
            (All-from_recursion (λ y. IsBeside spare y.0 × (y.0 ≡ x.0 → y.1 ≡ x.1)) (x ∷ []) (((recursion_from_All (λ y. IsBeside spare y.0 × (y.0 ≡ set_up.address → ⊥)) (x ∷ []) all).0.0, λ same. refl), tt))
            (here x [])) at_spot

    -- the machine is set for the edge
    pub is_set : IsSetForEdge words st profile e s i
    is_set = record {
      calls = h.calls;
      address = set_up.address;
      word = h.word;
      action = h.action;
      flags = set_up.flags;
      is_edge = h.is_edge;
      from = h.from;
      has = h.has;
      is = h.is;
      label = h.label;
      begins = begins;
      skipped_or_set = elim h.setting.skipped_or_set [
        | inl skip ↦ inl skip
        | inr (x, means, sets) ↦
            let action_is : h.action ≡ instr_action x = one_action h.word h.action (instr_action x) h.is (inl (x, means, refl)) in
            let class_is = ap (λ (a : Action). class_at st set_up.address a.base) action_is in
            inr (x, means, sets.set st e.to s i class_is refl h.leads setting)
      ];
    }

    is_tight : IsTight words st profile e s i
    is_tight = step.law words st profile e s i is_set

  image_has_places : (some : Words) (start : State) → AreOf words some → IsStarted (file_of set_up pages rom) profile start → All (λ x. IsFitted x.0) some → lacks_page start.bus.memc some ≡ false
  image_has_places some start of begun fit =
      (image_fits words some pages spare start.bus.memc whole plan (is_mapped words pages spare rom.low rom.high plan start.bus.memc begun.memory) of).1 fit

  words_have_places : (some : Words) (start : State) → IsStarted (file_of set_up pages rom) profile start → lacks_page (put_words some start).bus.memc (option_to_list set_up.setting.word) ≡ false
  words_have_places some start begun = by_word set_up.setting.word besides
    where
      m : Memc
      m = loaded some start.bus.memc

      mapped_m : IsMapped pages m
      mapped_m = mapped_stays pages start.bus.memc some (is_mapped words pages spare rom.low rom.high plan start.bus.memc begun.memory)

      led : (x : ℕ × ℕ) → IsBeside spare x.0 → (s : Spot) × (spot_of m x.0 ≡ Ok s)
      led x beside =
          let g : HasWord (loaded (x ∷ []) m) x.0 x.1 =
          beside_given (x ∷ []) pages spare m x.0 x.1 mapped_m plan.spare_free.below
          (All-from_recursion (λ y. IsBeside spare y.0 × (y.0 ≡ x.0 → y.1 ≡ x.1)) (x ∷ []) ((beside, λ same. refl), tt)) (here x []) in
          (g.spot, sym (same_spot (x ∷ []) m x.0) ∙ g.leads)

      by_word : (o : Option (ℕ × ℕ)) → All (λ x. IsBeside spare x.0 × (x.0 ≡ set_up.address → ⊥)) (option_to_list o) → lacks_page m (option_to_list o) ≡ false
      by_word None all = refl
      by_word (Some x) all =
          let l = led x ((recursion_from_All (λ y. IsBeside spare y.0 × (y.0 ≡ set_up.address → ⊥)) (x ∷ []) all).0.0) in
          rw (l.1) refl

  pub is_tight_file : IsTightFile words st profile e (file_of set_up pages rom)
  is_tight_file = record {
    pages = pages;
    spare = spare;
    plan = plan;
    size = refl;
    pages_are = refl;
    one_step = refl;
    no_events = refl;
    image_fits = image_has_places;
    words_fit = words_have_places;
    tight = λ some start i of has_place begun port. is_tight some start i of has_place begun port;
  }

-- ## What the file meets

pub in_range : (words : Words) (st : Stated) (profile : Profile) (e : Edge) (spare : ℕ) (pages : List PlacedPage) (set_up : SetUp) (rom : RomTimes) → IsSetUp words st profile e spare set_up → AreWhole words → IsPagePlan words pages spare
    → IsInRange (file_of set_up pages rom)
in_range words st profile e spare pages set_up rom h whole plan =
    let at = parts words set_up.address whole (ap is_some h.has) in
    record {
      pc = both_true (eq-eqb (set_up.address % 4) 0 at.0) (lt-ltb set_up.address 0x4000000 at.1);
      low_rom = let small = rom.low_in_range in omega (arith, small);
      high_rom = let small = rom.high_in_range in omega (arith, small);
      mappable = all_mappable words pages spare plan;
      steps = omega arith;
      held = by_word set_up.setting.word h.setting.word_apart;
    }
  where
    may_be : (a : ℕ) → IsData spare set_up.address a → spare < 128 → IsTrue (may_hold a)
    may_be a has below = elim has.1 [
      | inl ram ↦ may_within 0 0x3000000 a refl has.0 (omega arith) (omega (arith, ram, below))
      | inr rom_at ↦ may_within 0x3400000 0x4000000 a refl has.0 rom_at.0 (omega (arith, rom_at.1, has.0))
    ]

    by_word : (o : Option (ℕ × ℕ)) → IfSome o (λ x. IsData spare set_up.address x.0) → All (λ x. IsTrue (may_hold x.0)) (option_to_list o)
    by_word None has = All-from_recursion (λ y. IsTrue (may_hold y.0)) [] tt
    by_word (Some x) has = All-from_recursion (λ y. IsTrue (may_hold y.0)) (x ∷ []) (may_be x.0 has plan.spare_free.below, tt)

pub none_twice : (words : Words) (pages : List PlacedPage) (spare : ℕ) (set_up : SetUp) (rom : RomTimes) → IsPagePlan words pages spare → HasNoneTwice (file_of set_up pages rom)
none_twice words pages spare set_up rom plan = record { pages_once = all_single words pages spare plan; words_once = by_word set_up.setting.word }
  where
    by_word : (o : Option (ℕ × ℕ)) → are_distinct (keys_of (option_to_list o)) ≡ true
    by_word None = refl
    by_word (Some x) = refl

-- ## The machine with the word at the edge's place

pub one_word : (words : Words) (x : ℕ × ℕ) → word_of words x.0 ≡ Some x.1 → AreOf words (x ∷ [])
one_word words x has = All-from_recursion (λ y. word_of words y.0 ≡ Some y.1) (x ∷ []) (has, tt)

pub same_pair : (words : Words) (from : Place) (x : ℕ × ℕ) → IsPlaceWord words from x → HasPlaceWord words from (x ∷ [])
same_pair words from x h calls address word at has =
    let here_at : x.0 ≡ address = ap place_address (sym h.is ∙ at) in
    let same : x.1 ≡ word = same_Some _ _ (sym h.has ∙ ap (word_of words) here_at ∙ has) in
    subst (Contains (x ∷ [])) (ap (λ a. (a, x.1)) here_at ∙ ap (λ w. (address, w)) same) (here x [])

free_fits : (words : Words) (e : Edge) (x : ℕ × ℕ) → IsPlaceWord words e.from x → IsFree words e → IsFitted x.0
free_fits words e x h free = subst (λ n. is_past_ram n ≡ false) (ap place_address (sym free.from ∙ h.is)) free.not_past_ram

pub can_place : (words : Words) (st : Stated) (profile : Profile) (e : Edge) (f : _) (x : ℕ × ℕ) → IsTightFile words st profile e f → IsPlaceWord words e.from x → IsFree words e → CanPlace profile f x
can_place words st profile e f x file h free = record {
  below = h.below;
  fits = λ start begun. file.image_fits (x ∷ []) start (one_word words x h.has) begun (All-from_recursion (λ y. IsFitted y.0) (x ∷ []) (free_fits words e x h free, tt));
  all_fit = λ start begun. file.words_fit (x ∷ []) start begun;
}

pub placed_takes : (words : Words) (st : Stated) (profile : Profile) (e : Edge) (f : _) (x : ℕ × ℕ) (s : State) (i : Input) → IsTightFile words st profile e f → IsPlaceWord words e.from x → IsPlaced profile f x s → i.port ≡ f.schedule.port
    → IsTight words st profile e s i
placed_takes words st profile e f x s i file h placed port =
    subst (λ m. IsTight words st profile e m i) (sym placed.is)
    (file.tight (x ∷ []) placed.start i (one_word words x h.has) (same_pair words e.from x h) placed.begun port)

-- an edge's place has a word
pub edge_entry : (words : Words) (st : Stated) (profile : Profile) (e : Edge) → IsEdge words st profile e → HasOwnWord words e.from
edge_entry words st profile e is = by_place e.from is.0 is.1 is.2
  where
    by_place : (p : Place) (edges : List Edge) → AreEdgesOf words st profile p edges → Contains edges e → HasOwnWord words p
    by_place (At calls address) edges are among = (are.1.word, are.1.word_is)
    by_place Exit edges are among = absurd (no_member e (subst (λ es. Contains es e) are among))

-- and so has the place to which it leads, unless that is Exit
pub edge_lands : (words : Words) (st : Stated) (profile : Profile) (flow : Flow) → IsFlowGraph words st profile flow → (e : Edge) → HasEdge flow e → HasWordAt words e.to
edge_lands words st profile flow g e has = by_place e.to (ends_in words st profile flow g e has)
  where
    edges_entry : (address : ℕ) (calls : List ℕ) (edges : List Edge) → AreEdgesOf words st profile (At calls address) edges → HasWordAt words (At calls address)
    edges_entry address calls edges are = (are.1.word, are.1.word_is)

    of_place : (p : Place) → (v : ℕ) × (v < length flow.places) × (place_at flow.places v ≡ p) → HasWordAt words p
    of_place Exit w = tt
    of_place (At calls address) w =
        edges_entry address calls (get_or g.parts w.0 []) (subst (λ q. AreEdgesOf words st profile q (get_or g.parts w.0 [])) w.2 (part_of words st profile flow g w.0 w.1))

    by_place : (p : Place) → (p ≡ Exit) ⊎ Contains flow.places p → HasWordAt words p
    by_place p (inl exit) = subst (HasWordAt words) (sym exit) tt
    by_place p (inr among) = of_place p (among.0, among.1, sym (get_or_read flow.places among.0 p among.1 (sym among.2) Exit))
