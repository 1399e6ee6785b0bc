-- A machine file states one machine, and what the refusals of a run say.
use Rattle.std.proofs.Common.{◌≡◌, ◌≢◌, ◌∙◌, ◌⊎◌, ◌*◌, ◌^◌, ◌||◌, ℕ, Bool, true, false, List, [], ◌∷◌, length}
use Rattle.std.proofs.Common.{Option, None, Result, Ok, Err, refl, sym, ap, subst, inl, inr, ⊎_elim, arith}
use Rattle.std.specs.Prelude.{is_err}
use Rattle.std.proofs.lemmas.Bool.{cases_lt}
use Rattle.std.proofs.lemmas.List.{ext_get_or}
use Rattle.bus_ticks.specs.declared.profile.Profile.{Profile}
use Rattle.toml_reading.proofs.Unique.{one_answer}
use Rattle.arm2_exec.specs.State.{State}
use Rattle.image.specs.Image.{Words}
use Rattle.loader.specs.Loading.{lacks_page, put_words, spot_of}
use Rattle.loader.specs.declared.loading.LoadFault.{LoadFault}
use Rattle.loader.specs.declared.loading.LoadFault.TheVariants as load_fault
use Rattle.memc.specs.Memory.{Memory, shift_of_size}
use Rattle.memc.specs.Paged.{page_at}
use Rattle.memc.specs.declared.pages.Entry.{Entry}
use Rattle.memc.specs.declared.memory.ControlFields.{ControlFields}
use Rattle.memc.specs.declared.spots.PageSize.{PageSize}
use Rattle.memc.specs.declared.spots.PageSize.TheVariants.{K4, K8, K16, K32}
use Rattle.machine_file.specs.MachineFile.{IsMachineFile, machine_in}
use Rattle.machine_file.specs.Started.{IsController, IsMap, IsStarted}
use Rattle.machine_file.specs.Stated.{Controller, Stated}
use Rattle.machine_file.specs.declared.machine_faults.MachineFileFault.{MachineFileFault}
use Rattle.machine_file.specs.declared.machine_faults.MachineFileFault.TheVariants as machine_fault
use Rattle.machine_file.specs.declared.pages.MappedPage.{MappedPage}
use Rattle.handlers.specs.Faults.{of_load, of_machine_file}
use Rattle.handlers.specs.Placing.{IsFileRefused, IsRunRefused, IsRunnable, IsStated, LacksPage}
use Rattle.handlers.specs.Report.{BeforeOutput}
use Rattle.sources.specs.Source.{Said, source_of}
use Rattle.sources.specs.declared.fault.SourceFault.TheVariants as source_fault
use Rattle.image.specs.Labels.{Names}
use Rattle.handlers.specs.declared.fault.ReportFault.{ReportFault}
use Rattle.handlers.specs.declared.fault.ReportFault.TheVariants.{Memory as OfMemory, Source, Image}
use Rattle.handlers.specs.declared.fault.ReportFault.TheVariants.{Dialect, MachineFile, Load, Device}
use Rattle.sources.specs.File.{File}

-- ## A text has one answer

pub one_machine_file : (text : List ℕ) (answer other : Result Stated MachineFileFault)
    → IsMachineFile text answer → IsMachineFile text other → answer ≡ other
one_machine_file text answer other h k = one_answer machine_fault.NotToml machine_in text answer other h k

-- ## A file states one map

abbrev Pages : Type 0
Pages = List (Option Entry)

same_count : (size : PageSize) (n m : ℕ) → n * 2 ^ shift_of_size size ≡ 2 ^ 25
    → m * 2 ^ shift_of_size size ≡ 2 ^ 25 → n ≡ m
same_count K4 n m h k = omega (arith, h, k)
same_count K8 n m h k = omega (arith, h, k)
same_count K16 n m h k = omega (arith, h, k)
same_count K32 n m h k = omega (arith, h, k)

same_entry : (pages : List MappedPage) (c d : Memory) (i : ℕ) → IsMap pages c.paged → IsMap pages d.paged
    → page_at c.paged i ≡ page_at d.paged i
same_entry [] c d i h k =
    elim (cases_lt i 128) [
      | inl below ↦ h.low i below ∙ sym (k.low i below)
      | inr above ↦ h.high i above ∙ sym (k.high i above)
    ]
same_entry (p ∷ ps) c d i h k = h i ∙ sym (k i)

-- the part of a memory that says where a load goes
abbrev plain : ℕ → Pages → ControlFields → Memory
plain shift pages control = record {
  shift = shift;
  paged = record { words = []; pages = pages };
  control = control;
  rom = [];
}

lacks_plain : (m : Memory) (words : Words)
    → lacks_page m words ≡ lacks_page (plain m.shift m.paged.pages m.control) words
lacks_plain m [] = refl
lacks_plain m (e ∷ rest) = ap (λ (b : Bool). is_err (spot_of m e.0) || b) (lacks_plain m rest)

-- words that are put into memory do not change where a load goes
pub lacks_after : (start after : State) (put words : Words) → after ≡ put_words put start
    → lacks_page after.bus.memc words ≡ lacks_page start.bus.memc words
lacks_after start after put words is =
    ap (λ (s : State). lacks_page s.bus.memc words) is ∙ lacks_plain (put_words put start).bus.memc words
    ∙ sym (lacks_plain start.bus.memc words)

-- a word of the file lacks its page, where those of the image were put
pub file_lacks : (start after : State) (words own : Words) (file : Stated) → after ≡ put_words words start
    → own ≡ file.words → (f : LoadFault)
    → (f ≡ load_fault.Memory) ⊎ ((f ≡ load_fault.NoPage) × (lacks_page after.bus.memc own ≡ true))
    → (f ≡ load_fault.Memory) ⊎ ((f ≡ load_fault.NoPage) × LacksPage start words file)
file_lacks start after words own file is same f (inl h) = inl h
file_lacks start after words own file is same f (inr h) =
    inr (
      h.0,
      inr (ap (lacks_page start.bus.memc) (sym same) ∙ sym (lacks_after start after words own is)
          ∙ h.1),
    )

same_memory : (file : Controller) (c d : Memory) (words : Words) → IsController file c → IsController file d
    → lacks_page c words ≡ lacks_page d words
same_memory file c d words h k =
    let lengths : length c.paged.pages ≡ length d.paged.pages =
    same_count file.size (length c.paged.pages) (length d.paged.pages) h.count k.count in
    let pages : c.paged.pages ≡ d.paged.pages =
    ext_get_or None c.paged.pages d.paged.pages lengths
    (λ i within. same_entry file.pages c d i h.map k.map) in
    lacks_plain c words
    ∙ ap (λ (s : ℕ). lacks_page (plain s c.paged.pages c.control) words) (h.size ∙ sym k.size)
    ∙ ap (λ (p : Pages). lacks_page (plain d.shift p c.control) words) pages
    ∙ ap (λ (f : ControlFields). lacks_page (plain d.shift d.paged.pages f) words) (h.control ∙ sym k.control)
    ∙ sym (lacks_plain d words)

-- ## Refusals

module _ (source : File) (machine : List ℕ) (profile : Profile) where
  -- two readings of the same texts
  record AreSame (words others : Words) (file other : Stated) : Type 0 where
    same_words : words ≡ others
    same_file : file ≡ other

  one_stated : (words others : Words) (file other : Stated) → IsStated source machine words file
      → IsStated source machine others other → AreSame words others file other
  one_stated words others file other h k =
      let said : Ok (words, h.names) ≡ Ok (others, k.names) = sym h.source_is ∙ k.source_is in
      let pairs : (words, h.names) ≡ (others, k.names) = cc said in
      let files : Ok file ≡ Ok other = one_machine_file machine (Ok file) (Ok other) h.file_is k.file_is in
      record { same_words = ap (λ (s : Said). s.0) pairs; same_file = cc files }

  -- a run that can be made is refused for lack of memory alone, or as the output fails
  pub runnable_refusals : (e : ReportFault) → IsRunnable source machine profile
      → IsRunRefused source machine profile e → (e ≡ OfMemory) ⊎ (e ≡ Device)
  runnable_refusals OfMemory a r = inl refl
  runnable_refusals Device a r = inr refl
  runnable_refusals (Source f) a r =
      absurd (let both : Ok (a.placed.words, a.placed.stated.names) ≡ Err
      (source_fault.Text f) = sym a.placed.stated.source_is ∙ r in cc both)
  runnable_refusals (Image f) a r =
      absurd (let both : Ok (a.placed.words, a.placed.stated.names) ≡ Err
      (source_fault.Image f) = sym a.placed.stated.source_is ∙ r in cc both)
  runnable_refusals (Dialect f) a r =
      absurd (let both : Ok (a.placed.words, a.placed.stated.names) ≡ Err
      (source_fault.Dialect f) = sym a.placed.stated.source_is ∙ r in cc both)
  runnable_refusals (MachineFile f) a r =
      absurd (let both : Ok a.file ≡ Err f = one_machine_file machine (Ok a.file)
      (Err f) a.placed.stated.file_is r.file_is in cc both)
  runnable_refusals (Load f) a r =
      let p = a.placed in
      let same = one_stated r.words p.words r.file a.file r.stated p.stated in
      let started : IsStarted a.file profile r.start =
      subst (λ (s : Stated). IsStarted s profile r.start) same.same_file r.started in
      absurd (elim r.lacks [
        | inl image ↦
            let lacks : lacks_page r.start.bus.memc p.words ≡ true =
            ap (lacks_page r.start.bus.memc) (sym same.same_words) ∙ image in
            let both : true ≡ false =
            sym lacks ∙ same_memory a.file.controller r.start.bus.memc p.start.bus.memc p.words
            started.memory p.started.memory ∙ p.fits in
            cc both
        | inr own ↦
            let lacks : lacks_page r.start.bus.memc a.file.words ≡ true =
            ap (λ (s : Stated). lacks_page r.start.bus.memc s.words) (sym same.same_file) ∙ own in
            let both : true ≡ false =
            sym lacks ∙ same_memory a.file.controller r.start.bus.memc p.start.bus.memc a.file.words
            started.memory p.started.memory ∙ p.file_fits in
            cc both
      ])
  runnable_refusals e a r = absurd r

  -- .. for lack of memory alone where the output has not failed
  pub runnable_memory : (e : ReportFault) → BeforeOutput (IsRunRefused source machine profile) e
      → IsRunnable source machine profile → e ≡ OfMemory
  runnable_memory e h a = ⊎_elim (λ m. m) (λ d. absurd (h.0 d)) (runnable_refusals e a h.1)

  abbrev pub Refused : ReportFault → Type 0
  Refused = BeforeOutput (IsRunRefused source machine profile)

  module _ (words : Words) (names : Names) (said : source_of source ≡ Ok (words, names)) where
    fault_only : (f : MachineFileFault) → f ≢ machine_fault.Memory → IsMachineFile machine (Err f)
        → IsFileRefused source machine f
    fault_only f other h = record {
      words = words;
      names = names;
      source_is = said;
      not_memory = other;
      file_is = h;
    }

    pub file_refuses : (f : MachineFileFault) → (f ≢ machine_fault.Memory → IsMachineFile machine (Err f))
        → Refused (of_machine_file f)
    file_refuses machine_fault.Memory h = (λ e. cc e, tt)
    file_refuses f h = (λ e. cc e, fault_only f (λ e. cc e) (h (λ e. cc e)))

    module _ (file : Stated) (read : IsMachineFile machine (Ok file)) (start : State)
        (started : IsStarted file profile start) where
      pub load_refuses : (f : LoadFault) → (f ≡ load_fault.Memory)
          ⊎ ((f ≡ load_fault.NoPage) × LacksPage start words file) → Refused (of_load f)
      load_refuses load_fault.Memory h = (λ e. cc e, tt)
      load_refuses load_fault.NoPage (inl h) = absurd (cc h)
      load_refuses load_fault.NoPage (inr h) = (
        λ e. cc e,
        record {
          words = words;
          file = file;
          start = start;
          stated = record { names = names; source_is = said; file_is = read };
          started = started;
          fault_is = h.0;
          lacks = h.1;
        },
      )
