-- What is printed of a flow graph or of loops that are refused: what shows why.
use Rattle.std.specs.Prelude.{◌≡◌, ◌⊎◌, ℕ, List, []}
use Rattle.asm_text.specs.Appended.{Appends}
use Rattle.bus_ticks.specs.declared.profile.Profile.{Profile}
use Rattle.control_flow.specs.Faulty.{AreSound, IsFaultyPlace}
use Rattle.control_flow.specs.Flow.{Flow}
use Rattle.control_flow.specs.Graph.{IsCrowd}
use Rattle.control_flow.specs.declared.edges.Edge.{Edge}
use Rattle.control_flow.specs.declared.faults.BuildFault.{BuildFault}
use Rattle.control_flow.specs.declared.faults.BuildFault.TheVariants as build
use Rattle.loop_bounds.specs.Nest.{HasCrossing, HasDeepPlace, HasMidEntry, HasSharedHeader}
use Rattle.loop_bounds.specs.Nest.{HasUnboundedCycle}
use Rattle.loop_bounds.specs.declared.fault.NestFault.{NestFault}
use Rattle.loop_bounds.specs.declared.fault.NestFault.TheVariants as nest
use Rattle.statement.specs.Stated.{Stated, StatedLoops}
use Rattle.statement.specs.declared.stated.Loop.{Loop}
use Rattle.text_refusals.specs.Crossings.{IsCrossing}
use Rattle.text_refusals.specs.Cycles.{IsCycleOf, IsOnceRound}
use Rattle.text_refusals.specs.Entries.{IsMidEntry}
use Rattle.text_refusals.specs.Extents.{IsExtentOf}
use Rattle.text_refusals.specs.Mends.{IsEntryReason}
use Rattle.text_refusals.specs.Nested.{IsDeep}
use Rattle.text_refusals.specs.Rows.{IsRow}
use Rattle.text_refusals.specs.SharedHeaders.{IsSharedBy}
use Rattle.text_refusals.specs.Texts.{IsCrossingText, IsCycleText, IsDeepText, IsFaultText}
use Rattle.text_refusals.specs.Texts.{shared_text}
use Rattle.text_refusals.specs.declared.extents.CycleExtent.{CycleExtent}
use Rattle.text_refusals.specs.declared.word_lines.WordLines.{WordLines}

-- something that shows why, and the text of it; or there is no such thing, and nothing is printed
abbrev pub Shows : {A : Type 0} → (A → Type 0) → (A → List ℕ → Type 0) → Type 0 → List ℕ → Type 0
Shows {A} Is IsText IsNone text = ((a : A) × Is a × IsText a text) ⊎ (IsNone × (text ≡ []))

-- ## Loops

-- a cycle, and the extent of the loop that would bound it
pub record IsUnbounded (flow : Flow) (loops : StatedLoops) (found : List Edge × CycleExtent) : Type 0 where
  pub cycle : IsCycleOf flow loops found.0
  pub once : IsOnceRound found.0
  pub extent : IsExtentOf found.0 found.1

module _ (words : WordLines) (flow : Flow) (loops : StatedLoops) where
  abbrev pub IsLoopsReason : NestFault → List ℕ → Type 0
  IsLoopsReason nest.UnboundedCycle text =
      Shows
      (IsUnbounded flow loops)
      (λ found. IsCycleText words found.0 found.1)
      (HasUnboundedCycle flow loops → ⊥)
      text
  IsLoopsReason nest.LoopsCross text =
      Shows (IsCrossing flow loops) (IsCrossingText words) (HasCrossing flow loops → ⊥) text
  IsLoopsReason nest.SharedHeader text =
      Shows
      (λ (pair : Loop × Loop). IsSharedBy loops.list pair.0 pair.1)
      (λ pair text. text ≡ shared_text words.lines pair.0 pair.1)
      (HasSharedHeader loops.list → ⊥)
      text
  IsLoopsReason nest.EntersMidLoop text =
      Shows (IsMidEntry flow loops) (IsEntryReason words flow loops) (HasMidEntry flow loops → ⊥) text
  IsLoopsReason nest.NestedTooDeep text =
      Shows (IsDeep flow loops) (IsDeepText words) (HasDeepPlace flow loops → ⊥) text
  IsLoopsReason nest.Memory text = text ≡ []

-- ## Flow graphs

module _ (words : WordLines) (stated : Stated) (profile : Profile) where
  -- The word of a target that cannot be one; else the place that has no edges. Of too many places none is
  -- shown, whether or not one of them has no edges.
  abbrev pub IsGraphReason : BuildFault → List ℕ → Type 0
  IsGraphReason (build.TargetNotWriter at) text = Appends (IsRow words at) [] text
  IsGraphReason fault text =
      Shows
      (IsFaultyPlace words.image.now stated profile)
      (λ faulty. IsFaultText words faulty faulty.fault)
      (AreSound words.image.now stated profile ⊎ IsCrowd words.image.now stated profile)
      text
