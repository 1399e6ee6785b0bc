-- Instances of loops that no run leaves while it keeps the bounds of all loops.
use Rattle.std.specs.Prelude.{◌≡◌, ◌<◌, ℕ, Bool, true, false, List, [], length, Contains, Some}
use Rattle.std.specs.Prelude.{slice_index_or}
use Rattle.walks.specs.Rows.{is_left}
use Rattle.walks.specs.Walk.{Leads}
use Rattle.image.specs.Image.{Words, word_of}
use Rattle.statement.specs.Stated.{Stated}
use Rattle.arm2_exec.specs.State.{State}
use Rattle.arm2_exec.specs.declared.machine.Input.{Input}
use Rattle.arm2_exec.specs.declared.machine.Stepped.{Stepped}
use Rattle.control_flow.specs.Flow.{Flow, HasEdge, edge_shape}
use Rattle.control_flow.specs.Kinds.{IsAction}
use Rattle.control_flow.specs.declared.actions.Action.{Action}
use Rattle.control_flow.specs.declared.edges.Edge.{Edge}
use Rattle.control_flow.specs.declared.edges.Label.{Label}
use Rattle.control_flow.specs.declared.places.Place.{Place}
use Rattle.control_flow.specs.declared.places.Place.TheVariants.{At}
use Rattle.flow_graph.specs.StepLaw.{Follows, label_in}
use Rattle.loop_bounds.specs.Bounds.{IsCompleteWalk, KeepsTheBounds}
use Rattle.loop_bounds.specs.Instance.{Instance, is_member, place_loops}
use Rattle.loop_bounds.specs.Tree.{Tree}
use Rattle.longest_walk.specs.Built.{step_at}
use Rattle.numbered_walks.specs.Index.{edge_at}
use Rattle.numbered_walks.specs.Ordered.{is_in}
use Rattle.numbered_walks.specs.declared.span.NumberedEdge.{NumberedEdge}
use Rattle.numbered_walks.specs.declared.span.Span.{Span}
use Rattle.known_words.specs.Given.{AreGiven}
use Rattle.known_words.specs.Known.{IsKnown}
use Rattle.known_words.specs.Knowledge.{AreWords, Holds}
use Rattle.known_words.specs.declared.given.Given.{Given}
use Rattle.known_words.specs.declared.knowledge.Knowledge.{Knowledge}
use Rattle.known_words.specs.declared.words.Known.{Known}
use Rattle.known_places.specs.Around.{around_at, known_at, turns_in}
use Rattle.known_places.specs.Destinations.{ComesOnTrust}
use Rattle.known_places.specs.Limits.{KeepsSpans}
use Rattle.known_places.specs.OnTrust.{IsEdgeOnTrust}
use Rattle.known_places.specs.declared.around.Around.{Around}

-- ## Runs

-- No run from the entry whose registers of the entry's mode but R15 are words of 32 bits and as given at the
-- start, that keeps the bounds of all loops, and keeps the statement step by step but for its classes, goes
-- on by one more such step along an edge that leaves the instance.
abbrev pub IsEndless : Words → Stated → Flow → List Given → Instance → Type 0
IsEndless words st flow given instance =
    (s now after : State) (inputs : List Input) (walk : List Edge) (i : Input) (stepped : Stepped) (e : Edge)
    → AreWords s.regs → AreGiven given s.regs → Leads edge_shape (HasEdge flow) flow.entry walk e.from
    → KeepsTheBounds flow st.loops walk → ComesOnTrust words st flow.profile [] s inputs walk now
    → HasEdge flow e → IsEdgeOnTrust words st flow.profile [] now i stepped after e
    → is_left edge_shape place_loops e instance ≡ true → ⊥

-- of the instance of a number: not said past the end
abbrev pub endless_at : List Bool → ℕ → Bool
endless_at endless number = slice_index_or endless number false

-- where it is said of the number of an instance, it is so of that
abbrev pub AreEndless : Words → Stated → Flow → Tree → List Given → List Bool → Type 0
AreEndless words st flow tree given endless =
    (number : ℕ) (i : Instance) → number < length tree.instances → endless_at endless number ≡ true
    → IsEndless words st flow given (slice_index_or tree.instances number i)

-- No run from the entry that begins as given and keeps the statement, as far as it goes, leaves the
-- instance.
abbrev pub NoneKeptLeaves : Words → Stated → Flow → List Given → Instance → Type 0
NoneKeptLeaves words st flow given instance =
    (s : State) (inputs : List Input) (walk : List Edge) (end : Place) → AreWords s.regs → AreGiven given s.regs
    → Leads edge_shape (HasEdge flow) flow.entry walk end → KeepsTheBounds flow st.loops walk
    → Follows words st flow.profile s inputs walk
    → (e : Edge) → Contains walk e → is_left edge_shape place_loops e instance ≡ true → ⊥

-- No run from the entry to Exit that begins as given and keeps the statement comes to a place of the
-- instance.
abbrev pub NoneKeptEnters : Words → Stated → Flow → List Given → Instance → Type 0
NoneKeptEnters words st flow given instance =
    (s : State) (inputs : List Input) (walk : List Edge) → AreWords s.regs → AreGiven given s.regs
    → IsCompleteWalk flow walk → KeepsTheBounds flow st.loops walk
    → Follows words st flow.profile s inputs walk
    → (e : Edge) → Contains walk e → is_member instance e.from ≡ true → ⊥

-- ## What is known

-- no word is so known
abbrev pub HasNone : Known → Type 0
HasNone known = (entry turns : List ℕ) (word : ℕ) → IsKnown entry turns known word → ⊥

-- of no registers this is known
abbrev pub NeverHolds : Knowledge → Type 0
NeverHolds known = (entry turns now : List ℕ) → Holds entry turns known now → ⊥

-- where this is known, the word is not done, or not passed over, as the label says
abbrev pub WordNeverGoes : (word : ℕ) → Label → Knowledge → Type 0
WordNeverGoes word label known =
    (entry turns regs : List ℕ) (action : Action) → IsAction word action → label_in regs action.cond ≡ label
    → Holds entry turns known regs → ⊥

-- the same after a walk that keeps the bounds of the spans, where the loops that are counted there have
-- turned as the walk turned them
abbrev pub NeverGoesWithin : List Span → Around → (word : ℕ) → Label → Knowledge → Type 0
NeverGoesWithin spans around word label known =
    (entry regs : List ℕ) (walk : List NumberedEdge) (action : Action) → KeepsSpans spans walk
    → IsAction word action → label_in regs action.cond ≡ label
    → Holds entry (turns_in spans around walk) known regs → ⊥

-- ## Edges

-- the word that the edge leaves is never done, or never passed over, as the edge's label says
abbrev pub EdgeNeverTaken : Words → List Span → List Around → List Knowledge → Edge → NumberedEdge → Type 0
EdgeNeverTaken words spans around known edge numbered =
    (calls : List ℕ) (address word : ℕ) → edge.from ≡ At calls address → word_of words address ≡ Some word
    → NeverGoesWithin spans (around_at around numbered.from) word edge.label (known_at known numbered.from)

-- the edge of the number ends in the span, or is never taken
abbrev pub StaysInSpan : Words → Flow → Tree → List Around → List Knowledge → Span → (number : ℕ) → Type 0
StaysInSpan words flow tree around known s k =
    is_in s (edge_at tree.edges k).to ≡ false
    → EdgeNeverTaken words tree.spans around known (step_at flow.edges k) (edge_at tree.edges k)

-- so it is of each edge from a number of the span
abbrev pub IsClosed : Words → Flow → Tree → List Around → List Knowledge → Span → Type 0
IsClosed words flow tree around known s =
    (k : ℕ) → k < length flow.edges → is_in s (edge_at tree.edges k).from ≡ true
    → StaysInSpan words flow tree around known s k
