-- How a machine is set for an edge.
use Rattle.std.proofs.Common.{◌≡◌, ℕ, ◌⊎◌, inl, inr, Bool, true, false, not, Option, Some, List, IsTrue, refl, sym, ap, subst, ◌∙◌}
use Rattle.std.specs.Prelude.{Contains}
use Rattle.std.proofs.lemmas.Bool.{and_parts, false≢true, not-true}
use Rattle.std.proofs.lemmas.Option.{same_Some}
use Rattle.arm2_decode.specs.Names.{is_always, is_never}
use Rattle.bus_ticks.specs.declared.profile.Class.TheVariants.{Any}
use Rattle.bus_ticks.specs.declared.profile.Profile.{Profile}
use Rattle.bus_ticks.specs.Prices.{ahead_of}
use Rattle.image.specs.Image.{Words, may_hold, word_of}
use Rattle.image.proofs.PlaceLemmas.{may_parts}
use Rattle.arm2_decode.specs.Table.{Means}
use Rattle.arm2_decode.specs.declared.flags.Flags.{Flags}
use Rattle.arm2_decode.specs.declared.instr.Instr.{Instr}
use Rattle.arm2_decode.specs.declared.names.Cond.{Cond}
use Rattle.arm2_decode.specs.declared.names.Cond.TheVariants as condition
use Rattle.control_flow.specs.Edges.{AreEdgesOf, HasAction, IsEdge, may_go, word_edges}
use Rattle.control_flow.specs.Free.{HasFreeWord, IsFree, IsFreeWord}
use Rattle.control_flow.specs.Kinds.{IsAction}
use Rattle.flow_graph.specs.Setting.{Sets}
use Rattle.flow_graph.specs.StepLaw.{label_by}
use Rattle.flow_graph.specs.TightFile.{IsSettingOf}
use Rattle.flow_graph.specs.TightWork.{IsDearestTarget}
use Rattle.control_flow.specs.declared.edges.Edge.{Edge}
use Rattle.control_flow.specs.declared.edges.Label.{Label}
use Rattle.control_flow.specs.declared.edges.Label.TheVariants.{Skip, Do}
use Rattle.control_flow.specs.declared.actions.Action.{Action}
use Rattle.control_flow.specs.declared.places.Place.TheVariants.{At}
use Rattle.flow_graph.specs.declared.tight_setting.Aim.{Aim}
use Rattle.flow_graph.specs.declared.tight_setting.Setting.{Setting}
use Rattle.control_flow.specs.Places.{place_address}
use Rattle.statement.specs.Stated.{Stated, taken_at}
use Rattle.statement.specs.declared.stated.Taken.{Taken}
use Rattle.control_flow.proofs.EdgeLemmas.{one_action}
use Rattle.flow_graph.proofs.StepEdges.{edge_goes}
use Rattle.flow_graph.proofs.TightTicks.{n_worst, s_worst}

-- ## Targets

pub at_target : (st : Stated) (profile : Profile) (calls : List ℕ) (a : ℕ) → IsTrue (may_hold a) → IsDearestTarget st profile (At calls a) a
at_target st profile calls a may =
    let parts = may_parts a may in
    record {
      whole = parts.0;
      below = parts.1;
      is_place = refl;
      price = λ rom dear. rw (n_worst profile rom Any 0 dear a, s_worst profile rom Any 0 dear (ahead_of a 4)) refl;
    }

-- ## The edge's word

-- the action of the word at the edge's place, and the edge among those of the place
pub record EdgeWord (words : Words) (st : Stated) (profile : Profile) (e : Edge) (calls : List ℕ) (address : ℕ) : Type 0 where
  pub action : Action
  pub has : HasAction words address action
  pub among : Contains (word_edges st profile calls address action) e

pub edge_word : (words : Words) (st : Stated) (profile : Profile) (e : Edge) (calls : List ℕ) (address : ℕ) → IsEdge words st profile e → e.from ≡ At calls address → EdgeWord words st profile e calls address
edge_word words st profile e calls address is from =
    let here : AreEdgesOf words st profile (At calls address) is.0 = subst (λ p. AreEdgesOf words st profile p is.0) from is.1 in
    record { action = here.0; has = here.1; among = subst (λ es. Contains es e) here.2 is.2 }

abbrev flags : Bool → Bool → Bool → Bool → Flags
flags n z c v = record { negative = n; zero = z; carry = c; overflow = v }

abbrev none_set : Flags
none_set = flags false false false false

abbrev all_set : Flags
all_set = flags true true true true

abbrev n_and_c : Flags
n_and_c = flags true false true false

-- by some flags an instruction of the condition has the label
abbrev Reaches : Label → Cond → Type 0
Reaches label c = (f : Flags) × (label_by f c ≡ label)

-- some flags pass a condition over unless it always holds, and some fulfil it unless it never does
reached : (c : Cond) → (is_always c ≡ false → Reaches Skip c) × (is_never c ≡ false → Reaches Do c)
reached condition.Eq = (λ h. (none_set, refl), λ h. (all_set, refl))
reached condition.Ne = (λ h. (all_set, refl), λ h. (none_set, refl))
reached condition.Cs = (λ h. (none_set, refl), λ h. (all_set, refl))
reached condition.Cc = (λ h. (all_set, refl), λ h. (none_set, refl))
reached condition.Mi = (λ h. (none_set, refl), λ h. (all_set, refl))
reached condition.Pl = (λ h. (all_set, refl), λ h. (none_set, refl))
reached condition.Vs = (λ h. (none_set, refl), λ h. (all_set, refl))
reached condition.Vc = (λ h. (all_set, refl), λ h. (none_set, refl))
reached condition.Hi = (λ h. (none_set, refl), λ h. (n_and_c, refl))
reached condition.Ls = (λ h. (n_and_c, refl), λ h. (none_set, refl))
reached condition.Ge = (λ h. (n_and_c, refl), λ h. (none_set, refl))
reached condition.Lt = (λ h. (none_set, refl), λ h. (n_and_c, refl))
reached condition.Gt = (λ h. (all_set, refl), λ h. (none_set, refl))
reached condition.Le = (λ h. (none_set, refl), λ h. (all_set, refl))
reached condition.Al = (λ h. absurd (false≢true (sym h)), λ h. (none_set, refl))
reached condition.Nv = (λ h. (none_set, refl), λ h. absurd (false≢true (sym h)))

-- some flags take a word each way that it may go
flags_for : (label : Label) (c : Cond) (taken : Option Taken) → may_go label c taken ≡ true → Reaches label c
flags_for Skip c taken may = (reached c).0 (not-true (is_always c) (and_parts (not (is_always c)) _ may).0)
flags_for Do c taken may = (reached c).1 (not-true (is_never c) (and_parts (not (is_never c)) _ may).0)

pub some_flags : (words : Words) (st : Stated) (profile : Profile) (e : Edge) (calls : List ℕ) (address word : ℕ) (action : Action) → IsEdge words st profile e → e.from ≡ At calls address → word_of words address ≡ Some word → IsAction word action
    → (f : Flags) × (label_by f action.cond ≡ e.label)
some_flags words st profile e calls address word action is from has is_action =
    let w = edge_word words st profile e calls address is from in
    let same : w.has.word ≡ word = same_Some _ _ (sym w.has.word_is ∙ has) in
    let one : w.action ≡ action = one_action word w.action action (subst (λ n. IsAction n w.action) same w.has.is) is_action in
    subst (λ (a : Action). (f : Flags) × (label_by f a.cond ≡ e.label)) one
    (flags_for e.label w.action.cond (taken_at st address) (edge_goes st profile calls address w.action e w.among))

-- ## Settings

pub set_by : (aim : Aim) (word : ℕ) (label : Label) (x : Instr) (setting : Setting) → Means word x → Sets aim x.operation setting → IsSettingOf aim word label setting
set_by aim word label x setting means sets = record { register_other = sets.register_other; word_apart = sets.word_apart; skipped_or_set = inr (x, means, sets) }

-- the word at a free edge's place is free, unless it is passed over
pub word_free : (words : Words) (e : Edge) (calls : List ℕ) (address word : ℕ) → IsFree words e → e.from ≡ At calls address → word_of words address ≡ Some word → (e.label ≡ Skip) ⊎ IsFreeWord word
word_free words e calls address word free from has = by_label free.skipped_or_free
  where
    same_address : free.address ≡ address
    same_address = at_same (sym free.from ∙ from)
      where
        at_same : At free.calls free.address ≡ At calls address → free.address ≡ address
        at_same h = ap place_address h

    by_label : (e.label ≡ Skip) ⊎ HasFreeWord words free.address → (e.label ≡ Skip) ⊎ IsFreeWord word
    by_label (inl skip) = inl skip
    by_label (inr w) = inr (subst IsFreeWord (same_Some _ _ (sym w.1 ∙ ap (word_of words) same_address ∙ has)) w.2)
