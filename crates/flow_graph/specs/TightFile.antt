-- The machine file of a machine that takes an edge at its price. Of such machines we choose this: SVC mode,
-- pages of 32 KB, both interrupts masked, one register and at most one word in memory that is put after the
-- image's.
use Rattle.std.specs.Prelude.{◌≡◌, ◌<◌, ◌^◌, ◌⊎◌, ℕ, true, false, [], ◌∷◌, replicate, slice_set, map, All}
use Rattle.std.specs.Prelude.{List, Option, Contains}
use Rattle.std.specs.Prelude.{Some, None, IfSome}
use Rattle.std.specs.Option.{option_to_list}
use Rattle.bus_ticks.specs.declared.space.TheConstants.{SPACE_END}
use Rattle.bus_ticks.specs.declared.profile.Profile.{Profile}
use Rattle.bus_ticks.specs.declared.profile.RomTimes.{RomTimes}
use Rattle.memc.specs.declared.spots.PageSize.TheVariants.{K32}
use Rattle.arm2_decode.specs.Names.{is_pc, register_number}
use Rattle.arm2_decode.specs.Table.{Means}
use Rattle.arm2_decode.specs.declared.flags.Flags.{Flags}
use Rattle.arm2_decode.specs.declared.instr.Instr.{Instr}
use Rattle.arm2_effect.specs.declared.modes.Mode.TheVariants.{Svc}
use Rattle.arm2_effect.specs.Modes.{slot_of}
use Rattle.image.specs.Image.{Words, word_of, AreOf, IsFitted}
use Rattle.loader.specs.declared.plan.PlacedPage.{PlacedPage}
use Rattle.image.specs.Inside.{AreWhole}
use Rattle.loader.specs.Loading.{lacks_page, put_words}
use Rattle.loader.specs.PagePlan.{IsPagePlan}
use Rattle.arm2_exec.specs.State.{State}
use Rattle.arm2_exec.specs.declared.machine.Input.{Input}
use Rattle.machine_file.specs.Parts.{AreWords, HasNoneTwice, IsInRange}
use Rattle.machine_file.specs.Stated as file
use Rattle.machine_file.specs.Started.{IsStarted}
use Rattle.machine_file.specs.declared.flags.PsrFlags.{PsrFlags}
use Rattle.machine_file.specs.declared.pages.MappedPage.{MappedPage}
use Rattle.control_flow.specs.Edges.{IsEdge}
use Rattle.control_flow.specs.Flow.{Flow, HasEdge}
use Rattle.control_flow.specs.Free.{IsFree}
use Rattle.control_flow.specs.Graph.{IsFlowGraph}
use Rattle.control_flow.specs.Kinds.{IsAction}
use Rattle.flow_graph.specs.Setting.{IsData, Sets}
use Rattle.flow_graph.specs.StepLaw.{label_by}
use Rattle.flow_graph.specs.Tight.{IsTight}
use Rattle.flow_graph.specs.TightWork.{IsDearestTarget, IsSetForEdge}
use Rattle.control_flow.specs.declared.edges.Edge.{Edge}
use Rattle.control_flow.specs.declared.edges.Label.{Label}
use Rattle.control_flow.specs.declared.edges.Label.TheVariants.{Skip}
use Rattle.control_flow.specs.declared.actions.Action.{Action}
use Rattle.control_flow.specs.declared.places.Place.{Place}
use Rattle.control_flow.specs.declared.places.Place.TheVariants.{At, Exit}
use Rattle.flow_graph.specs.declared.tight_setting.Aim.{Aim}
use Rattle.flow_graph.specs.declared.tight_setting.Held.{Held}
use Rattle.flow_graph.specs.declared.tight_setting.Setting.{Setting}
use Rattle.flow_graph.specs.declared.tight.SetUp.{SetUp}
use Rattle.flow_graph.specs.declared.tight.Tight.{Tight}
use Rattle.statement.specs.Stated.{Stated, class_at, cycles_at}

-- ## What a word needs

-- the register is not R15, the word in memory is apart, and a word that is done has all that it needs
pub record IsSettingOf (aim : Aim) (word : ℕ) (label : Label) (setting : Setting) : Type 0 where
  pub register_other : IfSome setting.register (λ held. is_pc held.register ≡ false)
  pub word_apart : IfSome setting.word (λ e. IsData aim.spare aim.address e.0)
  pub skipped_or_set : (label ≡ Skip) ⊎ ((x : Instr) × Means word x × Sets aim x.operation setting)

-- the image has a word at a place, but for Exit
abbrev pub HasWordAt : Words → Place → Type 0
HasWordAt words (At calls address) = (word : ℕ) × (word_of words address ≡ Some word)
HasWordAt words Exit = Unit {0}

module _ (words : Words) (st : Stated) (profile : Profile) (e : Edge) where
  -- at the edge's place, with flags by its label, and with a setting to lead to its target
  pub record IsSetUp (spare : ℕ) (set_up : SetUp) : Type 0 where
    pub calls : List ℕ
    pub word : ℕ
    pub action : Action
    pub target : ℕ
    pub is_edge : IsEdge words st profile e
    pub from : e.from ≡ At calls set_up.address
    pub has : word_of words set_up.address ≡ Some word
    pub is : IsAction word action
    pub label : label_by set_up.flags action.cond ≡ e.label
    pub leads : IsDearestTarget st profile e.to target
    pub setting : IsSettingOf
        (record {
          profile = profile;
          class = class_at st set_up.address action.base;
          cycles = cycles_at st set_up.address;
          address = set_up.address;
          target = target;
          spare = spare;
        }) word e.label set_up.setting

-- ## The file

-- the register's word in its place among the 26, by SVC mode, and 0 elsewhere
abbrev pub registers_with : Option Held → List ℕ
registers_with None = replicate 26 0
registers_with (Some held) =
    slice_set (replicate 26 0) (slot_of Svc (register_number held.register)) held.word

abbrev pub masked_flags : Flags → PsrFlags
masked_flags f =
    record {
      negative = f.negative;
      zero = f.zero;
      carry = f.carry;
      overflow = f.overflow;
      irq_masked = true;
      fiq_masked = true;
    }

abbrev pub open_page : PlacedPage → MappedPage
open_page p = record { logical = p.logical; physical = p.physical; level = 0 }

-- one step from there
abbrev pub file_of : SetUp → List PlacedPage → RomTimes → file.Stated
file_of set_up pages rom =
    record {
      processor =
          record {
            pc = set_up.address;
            mode = Svc;
            flags = masked_flags set_up.flags;
            registers = registers_with set_up.setting.register;
          };
      controller = record { size = K32; low_rom = rom.low; high_rom = rom.high; pages = map open_page pages };
      schedule = record { steps = 1; port = set_up.setting.port; events = [] };
      words = option_to_list set_up.setting.word;
      ioc = file.no_ioc;
      vidc = file.no_vidc;
    }

-- ## What such a file is for

-- the image's word at the place is among the words
abbrev pub HasPlaceWord : Words → Place → Words → Type 0
HasPlaceWord words place some =
    (calls : List ℕ) (address word : ℕ) → place ≡ At calls address → word_of words address ≡ Some word
    → Contains some (address, word)

-- Of the file: its pages are those of a plan for the image. Into the machine that it states words of the
-- image are put, in whatever order, that at the edge's place among them, and then those of the file; each has
-- a place, but those of the image where no RAM is fitted. In the file's one step the machine takes the edge
-- at its price.
pub record IsTightFile (words : Words) (st : Stated) (profile : Profile) (e : Edge)
    (f : file.Stated) : Type 0 where
  pub pages : List PlacedPage
  pub spare : ℕ
  pub plan : IsPagePlan words pages spare
  pub size : f.controller.size ≡ K32
  pub pages_are : f.controller.pages ≡ map open_page pages
  pub one_step : f.schedule.steps ≡ 1
  pub no_events : f.schedule.events ≡ []
  pub image_fits : (some : Words) (start : State) → AreOf words some → IsStarted f profile start
      → All (λ x. IsFitted x.0) some → lacks_page start.bus.memc some ≡ false
  pub words_fit : (some : Words) (start : State) → IsStarted f profile start
      → lacks_page (put_words some start).bus.memc f.words ≡ false
  pub tight : (some : Words) (start : State) (i : Input) → AreOf words some → HasPlaceWord words e.from some
      → IsStarted f profile start → i.port ≡ f.schedule.port
      → IsTight words st profile e (put_words f.words (put_words some start)) i

-- ## Where its words go

-- the image has a word at the place, which is not Exit
abbrev pub HasOwnWord : Words → Place → Type 0
HasOwnWord words (At calls address) = (word : ℕ) × (word_of words address ≡ Some word)
HasOwnWord words Exit = ⊥

-- the image's word at the place, with its address
pub record IsPlaceWord (words : Words) (place : Place) (e : ℕ × ℕ) : Type 0 where
  pub calls : List ℕ
  pub is : place ≡ At calls e.0
  pub has : word_of words e.0 ≡ Some e.1
  pub below : e.0 < SPACE_END

-- in the file's machine there is a place for the word, and for those of the file
pub record CanPlace (profile : Profile) (f : file.Stated) (word : ℕ × ℕ) : Type 0 where
  pub below : word.0 < SPACE_END
  pub fits : (start : State) → IsStarted f profile start → lacks_page start.bus.memc (word ∷ []) ≡ false
  pub all_fit : (start : State) → IsStarted f profile start
      → lacks_page (put_words (word ∷ []) start).bus.memc f.words ≡ false

-- the file's machine with the word, and then with those of the file
pub record IsPlaced (profile : Profile) (f : file.Stated) (word : ℕ × ℕ) (s : State) : Type 0 where
  pub start : State
  pub begun : IsStarted f profile start
  pub is : s ≡ put_words f.words (put_words (word ∷ []) start)

-- ## What is returned

-- such a file, and a machine and an input that take the edge: the file's machine, with the image's word at
-- the edge's place and then with the words of the file, and the input of the file's step
pub record IsTightAt (words : Words) (st : Stated) (profile : Profile) (e : Edge) (t : Tight) : Type 0 where
  pub takes : IsTight words st profile e t.machine t.input
  pub file : IsTightFile words st profile e t.file
  pub word : ℕ × ℕ
  pub word_is : IsPlaceWord words e.from word
  pub made : IsPlaced profile t.file word t.machine
  pub quiet : t.input.bursts ≡ 0
  pub no_lines : t.input.lines.0 ≡ 0
  pub port : t.input.port ≡ t.file.schedule.port

-- ## Each free edge has them

-- such a file, machine and input: the machine is set for the edge, and the file is one that parts can state,
-- all of whose words are of 32 bits
pub record HasTight (words : Words) (st : Stated) (profile : Profile) (e : Edge) : Type 0 where
  pub tight : Tight
  pub at : IsTightAt words st profile e tight
  pub is_set : IsSetForEdge words st profile e tight.machine tight.input
  pub in_range : IsInRange tight.file
  pub once : HasNoneTwice tight.file
  pub are_words : AreWords tight.file
  pub words_small : All (λ e. e.1 < 2 ^ 32) tight.file.words

-- Each free edge of an image's flow graph has them, whether or not memory is found for them.
abbrev pub FreeEdgesAreTight : Type 0
FreeEdgesAreTight =
    (words : Words) (st : Stated) (profile : Profile) (flow : Flow) (e : Edge) →
    AreWhole words → IsFlowGraph words st profile flow → HasEdge flow e → IsFree words e
    → HasTight words st profile e
