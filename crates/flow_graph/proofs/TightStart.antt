-- The machine that an edge's file states, as a value.
use Rattle.std.proofs.Common.{◌≡◌, ◌∙◌, ℕ, ◌+◌, ◌*◌, ◌^◌, ◌<◌, ◌≤◌, inl, inr, cond, nat_lt, Option, Some, None, List, [], ◌∷◌, ◌++◌, length, map, replicate, refl, sym, arith}
use Rattle.std.specs.Prelude.{All, slice_index_or}
use Rattle.std.specs.List.{range_with_len}
use Rattle.std.proofs.lemmas.Bool.{cases_lt, le-ltb, lt-ltb}
use Rattle.std.proofs.lemmas.List.{get_or_past, length-replicate}
use Rattle.std.proofs.lemmas.List.Elements.{All-replicate}
use Rattle.std.proofs.lemmas.List.FromFn.{get_or-map-range_with_len, length-map-range_with_len}
use Rattle.bus_ticks.specs.declared.profile.Profile.{Profile}
use Rattle.bus_ticks.specs.declared.profile.RomTimes.{RomTimes}
use Rattle.ioc.specs.Interrupts as ioc
use Rattle.image.specs.Image.{Words}
use Rattle.loader.specs.PagePlan.{IsPagePlan}
use Rattle.loader.specs.declared.plan.PlacedPage.{PlacedPage}
use Rattle.memc.specs.Memory.{Memory, control_of}
use Rattle.memc.specs.Paged.{Paged}
use Rattle.memc.specs.declared.pages.Entry.{Entry}
use Rattle.arm2_exec.specs.State.{State}
use Rattle.machine_file.specs.Started.{IsController, IsMap, IsStarted, stated_at}
use Rattle.machine_file.specs.Started as started
use Rattle.flow_graph.specs.TightFile.{file_of, open_page, registers_with}
use Rattle.flow_graph.specs.declared.tight.SetUp.{SetUp}
use Rattle.control_flow.proofs.LabelLemmas.{into_map}
use Rattle.flow_graph.proofs.TightPages.{stated_page}

-- ## RAM

zeros : ℕ → List ℕ
zeros n = replicate n 0

zeros_long : (n : ℕ) → length (zeros n) ≡ n
unfolding zeros
zeros_long n = length-replicate {A = ℕ} n 0

all_zero : (n : ℕ) → All (λ w. w ≡ 0) (zeros n)
unfolding zeros
all_zero n = All-replicate (λ (w : ℕ). w ≡ 0) n 0 refl

-- ## The page map

-- where a logical page lies: as the file says, or as after a reset
entry : List PlacedPage → ℕ → Option Entry
entry [] l = cond (nat_lt l 128) (Some (record { physical = l; level = 0 })) None
entry (p ∷ ps) l = stated_at (map open_page (p ∷ ps)) l

table : (ℕ → Option Entry) → ℕ → List (Option Entry)
table f n = map f (range_with_len 0 n)

table_long : (f : ℕ → Option Entry) (n : ℕ) → length (table f n) ≡ n
unfolding table
table_long f n = length-map-range_with_len f 0 n

table_at : (f : ℕ → Option Entry) (n l : ℕ) → l < n → slice_index_or (table f n) l None ≡ f l
unfolding table
table_at f n l lt = get_or-map-range_with_len f 0 n l l None lt (let same : 0 + l ≡ l = omega arith in same)

table_past : (f : ℕ → Option Entry) (n l : ℕ) → n ≤ l → slice_index_or (table f n) l None ≡ None
table_past f n l le = get_or_past (table f n) l None (let long = table_long f n in omega (arith, long, le))

paged : List PlacedPage → Paged
paged pages = record { words = zeros (2 ^ 20); pages = table (entry pages) 1024 }

no_entry : {A : Type 0} (e : Entry) → (let o : Option Entry = Some e in o) ≡ None → A
no_entry e h = absurd (cc)

module _ (words : Words) (spare : ℕ) where
  -- no page past the logical ones is stated
  none_stated : (pages : List PlacedPage) → IsPagePlan words pages spare → (l : ℕ) → 1024 ≤ l → (o : Option Entry) → stated_at (map open_page pages) l ≡ o → o ≡ None
  none_stated pages plan l past None is = refl
  none_stated pages plan l past (Some e) is =
      let r = stated_page pages l e is in
      let low = ((plan.logical (r.0).logical).0 (into_map (λ x. x.logical) pages r.0 r.1)).0 in
      let same = r.2 in
      absurd (omega (arith, past, low, same))

  maps : (pages : List PlacedPage) → IsPagePlan words pages spare → IsMap (map open_page pages) (paged pages)
  unfolding paged entry
  maps [] plan = record {
    low = λ l lt. table_at (entry []) 1024 l (omega (arith, lt)) ∙ (rw (lt-ltb l 128 lt) refl);
    high = λ l le. elim (cases_lt l 1024) [
      | inl lt ↦ table_at (entry []) 1024 l lt ∙ (rw (le-ltb l 128 le) refl)
      | inr past ↦ table_past (entry []) 1024 l past
    ];
  }
  maps (p ∷ ps) plan = λ l. elim (cases_lt l 1024) [
    | inl lt ↦ table_at (entry (p ∷ ps)) 1024 l lt
    | inr past ↦ table_past (entry (p ∷ ps)) 1024 l past ∙ sym (none_stated (p ∷ ps) plan l past (stated_at (map open_page (p ∷ ps)) l) refl)
  ]

-- ## The machine

module _ (set_up : SetUp) (pages : List PlacedPage) (rom : RomTimes) where
  memory : Memory
  memory = record {
    shift = 15;
    paged = paged pages;
    control = control_of (rom.low * 2 ^ 4 + rom.high * 2 ^ 6);
    rom = [];
  }

  controls : (words : Words) (spare : ℕ) → IsPagePlan words pages spare → IsController (file_of set_up pages rom).controller memory
  unfolding memory paged
  controls words spare plan = record {
    size = refl;
    words = zeros_long (2 ^ 20);
    zero_words = all_zero (2 ^ 20);
    count = let long = table_long (entry pages) 1024 in omega (arith, long);
    map = maps words spare pages plan;
    control = refl;
    no_rom = refl;
  }

  -- the machine of the file
  pub begun : (words : Words) (spare : ℕ) (profile : Profile) → IsPagePlan words pages spare → (s : State) × IsStarted (file_of set_up pages rom) profile s
  begun words spare profile plan = (
    record {
      regs = registers_with set_up.setting.register ++ started.r15_in (file_of set_up pages rom).processor ∷ [];
      bus = record { memc = memory; ioc = ioc.fresh; vidc = _ };
      profile = profile;
    },
    record { registers = refl; memory = controls words spare plan; ioc = refl; vidc = refl; prices = refl },
  )
