-- Each free edge of a flow graph has a machine whose one step takes it at exactly its price.
use Rattle.std.proofs.Common.{◌≡◌, ℕ, ◌^◌, ◌<◌, ◌≤◌, ◌⊎◌, inl, inr, Option, Some, None, List, [], ◌∷◌, replicate, refl, ap, arith}
use Rattle.std.specs.Prelude.{All, IfSome, is_some}
use Rattle.std.specs.Option.{option_to_list}
use Rattle.std.proofs.lemmas.List.Elements.{All-from_recursion, All-replicate, All-set}
use Rattle.bus_ticks.specs.Dearest.{AreDearest}
use Rattle.bus_ticks.specs.declared.profile.Profile.{Profile}
use Rattle.bus_ticks.specs.declared.profile.RomTimes.{RomTimes}
use Rattle.bus_ticks.proofs.WorstLemmas.{dearest_times}
use Rattle.image.specs.Image.{Words}
use Rattle.image.specs.Inside.{AreWhole}
use Rattle.loader.specs.Loading.{put_words}
use Rattle.loader.specs.PagePlan.{IsPagePlan}
use Rattle.loader.specs.declared.plan.PlacedPage.{PlacedPage}
use Rattle.image.proofs.PlaceLemmas.{may_parts}
use Rattle.image.proofs.WordLemmas.{held}
use Rattle.arm2_decode.specs.Names.{register_number}
use Rattle.arm2_effect.specs.declared.modes.Mode.TheVariants.{Svc}
use Rattle.arm2_effect.specs.Modes.{slot_of}
use Rattle.arm2_exec.specs.State.{State}
use Rattle.machine_file.specs.Parts.{AreWords}
use Rattle.machine_file.specs.Started.{IsStarted}
use Rattle.control_flow.specs.Edges.{IsEdge}
use Rattle.control_flow.specs.Free.{IsFree, IsFreeWord}
use Rattle.flow_graph.specs.TightFile.{FreeEdgesAreTight, HasTight, HasWordAt, IsPlaceWord, IsPlaced, IsSettingOf, IsSetUp, file_of, registers_with}
use Rattle.flow_graph.specs.TightWork.{IsDearestTarget}
use Rattle.control_flow.specs.declared.edges.Edge.{Edge}
use Rattle.control_flow.specs.declared.edges.Label.{Label}
use Rattle.control_flow.specs.declared.edges.Label.TheVariants.{Skip}
use Rattle.control_flow.specs.declared.places.Place.{Place}
use Rattle.control_flow.specs.declared.places.Place.TheVariants.{At, Exit}
use Rattle.flow_graph.specs.declared.tight_setting.Aim.{Aim}
use Rattle.flow_graph.specs.declared.tight_setting.Held.{Held}
use Rattle.flow_graph.specs.declared.tight_setting.Setting.{Setting}
use Rattle.flow_graph.specs.declared.tight.SetUp.{SetUp}
use Rattle.flow_graph.specs.declared.tight.Tight.{Tight}
use Rattle.statement.specs.Stated.{Stated, class_at, cycles_at}
use Rattle.control_flow.proofs.FlowLemmas.{has_edge_is_edge}
use Rattle.flow_graph.proofs.StepTicks.{few_stated, some_stated}
use Rattle.flow_graph.proofs.TightChoice.{IsSmall, choose, dearest_leave, nothing_small}
use Rattle.flow_graph.proofs.TightMade.{edge_lands, in_range, is_set, is_tight_file, length_with, none_twice, one_word, placed_takes, same_pair}
use Rattle.flow_graph.proofs.TightPlan.{planned}
use Rattle.flow_graph.proofs.TightSetUp.{at_target, edge_word, set_by, some_flags, word_free}
use Rattle.flow_graph.proofs.TightStart.{begun}

-- ## How a machine is set

-- an address of the place to which a jump costs the most
target : (words : Words) (st : Stated) (profile : Profile) → AreWhole words → (to : Place) → HasWordAt words to → (t : ℕ) × IsDearestTarget st profile to t
target words st profile whole (At calls address) has = (address, at_target st profile calls address (held words address whole.allowed (ap is_some has.1)))
target words st profile whole Exit has =
    let best = dearest_leave profile st.leave in
    (best.0, record { whole = best.1.whole; below = best.1.below; is_place = best.1.is_of; price = best.1.price })

-- what the word needs besides its address
record SettingOf (aim : Aim) (word : ℕ) (label : Label) : Type 0 where
  setting : Setting
  is : IsSettingOf aim word label setting
  small : IsSmall setting

setting_of : (aim : Aim) (word : ℕ) (label : Label) → aim.spare < 128 → aim.target < 2 ^ 26 → 1 ≤ aim.cycles → aim.cycles ≤ 16 → (label ≡ Skip) ⊎ IsFreeWord word → SettingOf aim word label
setting_of aim word label spare small some few (inl skip) = record {
  setting = record { register = None; port = 0; word = None };
  is = record { register_other = tt; word_apart = tt; skipped_or_set = inl skip };
  small = nothing_small;
}
setting_of aim word label spare small some few (inr (x, means, free)) =
    let chosen = choose aim spare small some few x.operation free in
    record {
      setting = chosen.setting;
      is = set_by aim word label x chosen.setting means chosen.sets;
      small = chosen.small;
    }

-- a set-up of the edge
record SetUpOf (words : Words) (st : Stated) (profile : Profile) (e : Edge) (spare : ℕ) : Type 0 where
  set_up : SetUp
  is : IsSetUp words st profile e spare set_up
  small : IsSmall set_up.setting

set_up_of : (words : Words) (st : Stated) (profile : Profile) (e : Edge) (spare : ℕ) → AreWhole words → spare < 128 → IsEdge words st profile e → HasWordAt words e.to → IsFree words e → SetUpOf words st profile e spare
set_up_of words st profile e spare whole below is_edge lands free =
    let w = edge_word words st profile e free.calls free.address is_edge free.from in
    let f = some_flags words st profile e free.calls free.address w.has.word w.action is_edge free.from w.has.word_is w.has.is in
    let t = target words st profile whole e.to lands in
    let aim : Aim =
    record {
      profile = profile;
      class = class_at st free.address w.action.base;
      cycles = cycles_at st free.address;
      address = free.address;
      target = t.0;
      spare = spare;
    } in
    let s =
    setting_of aim w.has.word e.label below t.1.below (some_stated st free.address) (few_stated st free.address)
    (word_free words e free.calls free.address w.has.word free free.from w.has.word_is) in
    record {
      set_up = record { address = free.address; flags = f.0; setting = s.setting };
      is = record {
        calls = free.calls;
        word = w.has.word;
        action = w.action;
        target = t.0;
        is_edge = is_edge;
        from = free.from;
        has = w.has.word_is;
        is = w.has.is;
        label = f.1;
        leads = t.1;
        setting = s.is;
      };
      small = s.small;
    }

-- ## The file

registers_small : (o : Option Held) → IfSome o (λ held. held.word < 2 ^ 32) → All (λ w. w < 2 ^ 32) (registers_with o)
registers_small None small = All-replicate (λ (w : ℕ). w < 2 ^ 32) 26 0 (omega arith)
registers_small (Some held) small =
    All-set (λ (w : ℕ). w < 2 ^ 32) (replicate 26 0) (slot_of Svc (register_number held.register)) held.word small
    (All-replicate (λ (w : ℕ). w < 2 ^ 32) 26 0 (omega arith))

are_words : (set_up : SetUp) (pages : List PlacedPage) (rom : RomTimes) → IsSmall set_up.setting → AreWords (file_of set_up pages rom)
are_words set_up pages rom small = record {
  count = length_with set_up.setting.register;
  registers = registers_small set_up.setting.register small.register;
  port = small.port;
}

word_small : (o : Option (ℕ × ℕ)) → IfSome o (λ e. e.1 < 2 ^ 32) → All (λ e. e.1 < 2 ^ 32) (option_to_list o)
word_small None small = All-from_recursion (λ (e : ℕ × ℕ). e.1 < 2 ^ 32) [] tt
word_small (Some x) small = All-from_recursion (λ (e : ℕ × ℕ). e.1 < 2 ^ 32) (x ∷ []) (small, tt)

-- ## The machine

module _ (words : Words) (st : Stated) (profile : Profile) (e : Edge) (spare : ℕ) (pages : List PlacedPage) (set_up : SetUp) (rom : RomTimes)
    (h : IsSetUp words st profile e spare set_up) (whole : AreWhole words) (plan : IsPagePlan words pages spare) (dear : AreDearest profile rom) (free : IsFree words e) where
  begin : (s : State) × IsStarted (file_of set_up pages rom) profile s
  begin = begun set_up pages rom words spare profile plan

  word : ℕ × ℕ
  word = (set_up.address, h.word)

  word_is : IsPlaceWord words e.from word
  unfolding word
  word_is = record {
    calls = h.calls;
    is = h.from;
    has = h.has;
    below = (may_parts set_up.address (held words set_up.address whole.allowed (ap is_some h.has))).1;
  }

  tight : Tight
  tight = record {
    machine = put_words (option_to_list set_up.setting.word) (put_words (word ∷ []) begin.0);
    input = record { bursts = 0; lines = record { 0 = 0 }; port = set_up.setting.port };
    file = file_of set_up pages rom;
  }

  made : IsPlaced profile tight.file word tight.machine
  unfolding tight
  made = record { start = begin.0; begun = begin.1; is = refl }

  has_tight : IsSmall set_up.setting → HasTight words st profile e
  unfolding tight
  has_tight small =
      let its_file = is_tight_file words st profile e spare pages set_up rom h whole plan dear free in
      record {
        tight = tight;
        at = record {
          takes = placed_takes words st profile e tight.file word tight.machine tight.input its_file word_is made refl;
          file = its_file;
          word = word;
          word_is = word_is;
          made = made;
          quiet = refl;
          no_lines = refl;
          port = refl;
        };
        is_set =
            is_set words st profile e spare pages set_up rom h whole plan dear free (word ∷ []) begin.0 tight.input (one_word words word word_is.has) (same_pair words e.from word word_is) begin.1 refl;
        in_range = in_range words st profile e spare pages set_up rom h whole plan;
        once = none_twice words pages spare set_up rom plan;
        are_words = are_words set_up pages rom small;
        words_small = word_small set_up.setting.word small.word;
      }

pub law : FreeEdgesAreTight
law words st profile flow e whole graph has free =
    let plan = planned words whole in
    let rom = dearest_times profile in
    let s =
    set_up_of words st profile e plan.spare whole plan.plan.spare_free.below (has_edge_is_edge words st profile flow graph e has) (edge_lands words st profile flow graph e has) free in
    has_tight words st profile e plan.spare plan.pages s.set_up rom.0 s.is whole plan.plan rom.1 free s.small
