-- What is known after a word, and of what it transfers, by what is known before it.
use Rattle.std.specs.Prelude.{◌≡◌, ℕ, List, length}
use Rattle.bus_ticks.specs.declared.profile.Class.{Class}
use Rattle.arm2_decode.specs.declared.instr.Operation.{Operation}
use Rattle.arm2_effect.specs.declared.step_end.Kind.TheVariants.{Plain}
use Rattle.arm2_transfer.specs.Moved.{Moved}
use Rattle.arm2_transfer.specs.declared.bus.Bus.{Bus}
use Rattle.arm2_exec.specs.Step.{Obeys, address_in}
use Rattle.control_flow.specs.Kinds.{IsAction}
use Rattle.control_flow.specs.declared.actions.Action.{Action}
use Rattle.control_flow.specs.declared.edges.Label.{Label}
use Rattle.flow_graph.specs.StepLaw.{TransfersIn, label_in}
use Rattle.kept_runs.specs.Transfers.{HasNoOther, words_of}
use Rattle.numbered_walks.specs.declared.span.NumberedEdge.{NumberedEdge}
use Rattle.numbered_walks.specs.declared.span.Span.{Span}
use Rattle.known_words.specs.Knowledge.{Holds}
use Rattle.known_words.specs.Turning.{AreTurned}
use Rattle.known_words.specs.declared.knowledge.Knowledge.{Knowledge}
use Rattle.known_words.specs.declared.turning.Turns.{Turns}
use Rattle.known_places.specs.Around.{turns_in}
use Rattle.known_places.specs.Limits.{KeepsSpans}
use Rattle.known_places.specs.declared.around.Around.{Around}

-- Wherever the word at the address is done, or passed over, as the label says, with neither an exception nor
-- a stop, and the first is known of the registers before it, the second is known of those after it.
abbrev pub Carries : (word address : ℕ) → Label → (before result : Knowledge) → Type 0
Carries word address label before result =
    (entry turns regs : List ℕ) (port : ℕ) (bus : Bus) (m : Moved) (action : Action) → length regs ≡ 27
    → address_in regs ≡ address → IsAction word action → label_in regs action.cond ≡ label
    → Obeys word port regs bus m → m.kind ≡ Plain → Holds entry turns before regs
    → Holds entry turns result m.regs

-- the same along an edge on which the loops around turn so
abbrev pub CarriesAlong : (word address : ℕ) → Label → Turns → (before result : Knowledge) → Type 0
CarriesAlong word address label turned before result =
    (entry old new regs : List ℕ) (port : ℕ) (bus : Bus) (m : Moved) (action : Action) → length regs ≡ 27
    → address_in regs ≡ address → IsAction word action → label_in regs action.cond ≡ label
    → Obeys word port regs bus m → m.kind ≡ Plain → AreTurned turned old new → Holds entry old before regs
    → Holds entry new result m.regs

-- Wherever the word at the address is done or passed over, with neither an exception nor a stop, and this is
-- known before it, the words that it transfers are of the class.
abbrev pub StaysIn : Class → (word address : ℕ) → Knowledge → Type 0
StaysIn class word address known =
    (entry turns regs : List ℕ) (port : ℕ) (bus : Bus) (m : Moved) → length regs ≡ 27
    → address_in regs ≡ address → Obeys word port regs bus m → m.kind ≡ Plain → Holds entry turns known regs
    → TransfersIn class m.accesses

-- the same after a walk that keeps the bounds of the spans, where the loops that are counted there have
-- turned as the walk turned them
abbrev pub StaysWithin : List Span → Around → Class → (word address : ℕ) → Knowledge → Type 0
StaysWithin spans around class word address known =
    (entry regs : List ℕ) (walk : List NumberedEdge) (port : ℕ) (bus : Bus) (m : Moved) → KeepsSpans spans walk
    → length regs ≡ 27 → address_in regs ≡ address → Obeys word port regs bus m → m.kind ≡ Plain
    → Holds entry (turns_in spans around walk) known regs → TransfersIn class m.accesses

-- of the instruction at the address alone: none of the words that it would transfer is of another class
abbrev pub MovesIn : Class → Operation → (address : ℕ) → Knowledge → Type 0
MovesIn class o address known =
    (entry turns regs : List ℕ) → address_in regs ≡ address → Holds entry turns known regs
    → HasNoOther class (words_of o regs)
