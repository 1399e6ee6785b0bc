-- The longest step of a handler, and how long its own words mask interrupts, as text.
use Rattle.std.specs.Prelude.{◌≡◌, ◌↔◌, ℕ, true, List, [], ◌∷◌, ◌++◌, Contains, codes, decimal}
use Rattle.std.specs.List.Sorted.{IsStrictlySortedBy}
use Rattle.std.specs.Ordering.{nat_cmp}
use Rattle.control_flow.specs.Flow.{Flow, HasEdge}
use Rattle.control_flow.specs.declared.edges.Edge.{Edge}
use Rattle.image.specs.Image.{Words}
use Rattle.sources.specs.declared.read.Source.{Source}
use Rattle.statement.specs.Stated.{StatedLoops}
use Rattle.text_explained.specs.Assumed.{AreNamedRows, IsSection}
use Rattle.text_explained.specs.Taken.{is_at}
use Rattle.text_masked.specs.Masked.{IsMaskedTime}
use Rattle.text_masked.specs.Shown.{SetsMask}
use Rattle.text_masked.specs.Steps.{AreLongestSteps, longest_ticks}
use Rattle.text_masked.specs.declared.shown.Mask.{Mask}
use Rattle.text_masked.specs.declared.shown.Mask.TheVariants.{Irq, Fiq}
use Rattle.text_masked.specs.declared.stretches.MaskedTime.{MaskedTime}
use Rattle.text_masked.specs.declared.stretches.MaskedTime.TheVariants.{AtMost, TooLong, GoesRound}

-- ## The longest step

abbrev pub step_heading : (ticks : ℕ) → List ℕ
step_heading ticks = codes "\nThe longest step, " ++ (decimal ticks ++ codes " ticks:\n")

-- the words that take it under their heading, by the lines of a source
abbrev pub IsStepSection : Source → Flow → (text : List ℕ) → Type 0
IsStepSection source flow =
    IsSection source (step_heading (longest_ticks flow.edges)) (AreLongestSteps flow.edges)

-- ## Masked stretches

-- an edge that leaves the address sets the mask
pub record IsSetAt (words : Words) (flow : Flow) (mask : Mask) (a : ℕ) : Type 0 where
  pub edge : Edge
  pub is_edge : HasEdge flow edge
  pub leaves : is_at a edge.from ≡ true
  pub sets : SetsMask words mask edge

-- exactly the addresses of the words that set the mask, ascending
pub record AreSetters (words : Words) (flow : Flow) (mask : Mask) (named : List ℕ) : Type 0 where
  pub ascending : IsStrictlySortedBy nat_cmp named
  pub each : (a : ℕ) → Contains named a ↔ IsSetAt words flow mask a

abbrev pub mask_name : Mask → List ℕ
mask_name Irq = codes "\nI"
mask_name Fiq = codes "\nF"

abbrev pub most_text : (ticks : ℕ) → List ℕ
most_text ticks = codes " is set here, at most " ++ (decimal ticks ++ codes " ticks at a time:\n")

abbrev pub time_text : MaskedTime → List ℕ
time_text (AtMost ticks) = most_text ticks
time_text TooLong = codes " is set here, maybe 2^63 ticks or more at a time:\n"
time_text GoesRound =
    codes " is set here, and a loop goes on while it is set; bound the stretch by a\n"
    ++ codes "statement of its own (respond --masked-by):\n"

-- under how long it is set the words that set it, by the lines of a source; nothing where there are none
abbrev pub IsMaskText : Source → Words → StatedLoops → Flow → Mask → (named text : List ℕ) → Type 0
IsMaskText source words loops flow mask [] text = text ≡ []
IsMaskText source words loops flow mask (a ∷ named) text =
    (time : MaskedTime) × (rows : List ℕ) × IsMaskedTime words loops flow mask time
    × AreNamedRows source (a ∷ named) rows × (text ≡ mask_name mask ++ (time_text time ++ rows))

pub record IsMaskSection (source : Source) (words : Words) (loops : StatedLoops) (flow : Flow) (mask : Mask)
    (text : List ℕ) : Type 0 where
  pub named : List ℕ
  pub are_named : AreSetters words flow mask named
  pub text_is : IsMaskText source words loops flow mask named text

-- the longest step, then where I is set, and then where F is
pub record AreMaskSections (source : Source) (words : Words) (loops : StatedLoops) (flow : Flow)
    (text : List ℕ) : Type 0 where
  pub step : List ℕ
  pub irq : List ℕ
  pub fiq : List ℕ
  pub is_step : IsStepSection source flow step
  pub is_irq : IsMaskSection source words loops flow Irq irq
  pub is_fiq : IsMaskSection source words loops flow Fiq fiq
  pub text_is : text ≡ step ++ (irq ++ fiq)
