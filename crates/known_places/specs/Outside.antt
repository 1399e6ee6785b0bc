-- Words that load or store outside of the class that is stated of them.
use Rattle.std.specs.Prelude.{◌≡◌, ◌<◌, ℕ, Bool, List, [], length, Contains, IfSome, Option, Some, None}
use Rattle.std.specs.Prelude.{slice_index_or}
use Rattle.walks.specs.Walk.{Leads}
use Rattle.bus_ticks.specs.Prices.{word_address}
use Rattle.bus_ticks.specs.Worst.{IsOf}
use Rattle.bus_ticks.specs.declared.profile.Class.{Class}
use Rattle.bus_ticks.specs.declared.space.TheConstants.{SPACE_END}
use Rattle.image.specs.Image.{Words, word_of}
use Rattle.statement.specs.Stated.{Stated, class_at}
use Rattle.arm2_decode.specs.declared.instr.Operation.{Operation}
use Rattle.arm2_effect.specs.Effects.{Access, Word}
use Rattle.arm2_effect.specs.declared.step_end.Kind.TheVariants.{Plain}
use Rattle.arm2_transfer.specs.Moved.{Moved}
use Rattle.arm2_transfer.specs.declared.bus.Bus.{Bus}
use Rattle.arm2_exec.specs.State.{State}
use Rattle.arm2_exec.specs.Step.{Obeys, address_in}
use Rattle.arm2_exec.specs.declared.machine.Input.{Input}
use Rattle.arm2_exec.specs.declared.machine.Stepped.{Stepped}
use Rattle.control_flow.specs.Flow.{Flow, HasEdge, edge_shape}
use Rattle.control_flow.specs.Kinds.{IsAction}
use Rattle.control_flow.specs.declared.actions.Action.{Action}
use Rattle.control_flow.specs.declared.edges.Edge.{Edge}
use Rattle.control_flow.specs.declared.edges.Label.TheVariants.{Do}
use Rattle.control_flow.specs.declared.places.Place.{Place}
use Rattle.control_flow.specs.declared.places.Place.TheVariants.{At}
use Rattle.flow_graph.specs.StepLaw.{Follows, label_in}
use Rattle.kept_runs.specs.Transfers.{HasOther, words_of}
use Rattle.kept_runs.specs.declared.transfers.Access as wanted
use Rattle.kept_runs.specs.declared.transfers.Transfer.{Transfer}
use Rattle.loop_bounds.specs.Bounds.{KeepsTheBounds}
use Rattle.loop_bounds.specs.Tree.{Tree, place_in}
use Rattle.numbered_walks.specs.declared.span.NumberedEdge.{NumberedEdge}
use Rattle.numbered_walks.specs.declared.span.Span.{Span}
use Rattle.known_words.specs.Given.{AreGiven}
use Rattle.known_words.specs.Known.{IsIn, IsKnown}
use Rattle.known_words.specs.Knowledge.{AreWords, Holds}
use Rattle.known_words.specs.declared.given.Given.{Given}
use Rattle.known_words.specs.declared.knowledge.Knowledge.{Knowledge}
use Rattle.known_words.specs.declared.words.Known.{Known}
use Rattle.known_words.specs.declared.words.Range.{Range}
use Rattle.known_places.specs.Around.{around_at, known_at, turns_in}
use Rattle.known_places.specs.Destinations.{ComesOnTrust}
use Rattle.known_places.specs.Limits.{KeepsSpans}
use Rattle.known_places.specs.OnTrust.{ExecutesOnTrust}
use Rattle.known_places.specs.declared.around.Around.{Around}

-- it loads or stores a word at an address that is in the range and not of the class
pub record TransfersOutside (class : Class) (range : Range) (accesses : List Access) : Type 0 where
  pub store : Bool
  pub first : Bool
  pub address : ℕ
  pub transferred : Contains accesses (Word store first address)
  pub inside : IsIn range address
  pub other : IsOf class address → ⊥

-- ## One word

-- the first word of a transfer, from an address below 4000000, is in the range and not of the class
pub record BeginsOutside (class : Class) (range : Range) (address : ℕ) : Type 0 where
  pub below : address < SPACE_END
  pub inside : IsIn range (word_address address 0)
  pub other : IsOf class (word_address address 0) → ⊥

-- of each word that is known so
abbrev pub IsKnownOutside : Class → Known → Range → Type 0
IsKnownOutside class lowest range =
    (entry turns : List ℕ) (address : ℕ) → IsKnown entry turns lowest address
    → BeginsOutside class range address

-- the access is one of the transfer's that is not of the class, at an address of the range
pub record HasOutside (class : Class) (range : Range) (transfer : Option Transfer) : Type 0 where
  pub access : wanted.Access
  pub has : HasOther class transfer access
  pub inside : IsIn range access.address

-- of the instruction at the address alone
abbrev pub MovesOutside : Class → Operation → (address : ℕ) → Knowledge → Range → Type 0
MovesOutside class o address known range =
    (entry turns regs : List ℕ) → address_in regs ≡ address → Holds entry turns known regs
    → HasOutside class range (words_of o regs)

-- Wherever the word at the address is done, with neither an exception nor a stop, and this is known before
-- it, it loads or stores outside of the class.
abbrev pub WordGoesOutside : Class → (word address : ℕ) → Knowledge → Range → Type 0
WordGoesOutside class word address known range =
    (entry turns regs : List ℕ) (port : ℕ) (bus : Bus) (m : Moved) (action : Action) → length regs ≡ 27
    → address_in regs ≡ address → IsAction word action → label_in regs action.cond ≡ Do
    → Obeys word port regs bus m → m.kind ≡ Plain → Holds entry turns known regs
    → TransfersOutside class range m.accesses

-- the same after a walk that keeps the bounds of the spans, where the loops that are counted there have
-- turned as the walk turned them
abbrev pub GoesOutsideWithin : List Span → Around → Class → (word address : ℕ) → Action → Knowledge → Range
    → Type 0
GoesOutsideWithin spans around class word address action known range =
    (entry regs : List ℕ) (walk : List NumberedEdge) (port : ℕ) (bus : Bus) (m : Moved) → KeepsSpans spans walk
    → length regs ≡ 27 → address_in regs ≡ address → label_in regs action.cond ≡ Do → Obeys word port regs bus m
    → m.kind ≡ Plain → Holds entry (turns_in spans around walk) known regs
    → TransfersOutside class range m.accesses

-- of the word at the place of a number, by the class that is stated of it
abbrev pub PlaceGoesOutside : Words → Stated → Flow → Tree → List Around → List Knowledge → (number : ℕ) → Range
    → Type 0
PlaceGoesOutside words st flow tree around known number range =
    (calls : List ℕ) (address word : ℕ) (action : Action) → place_in flow tree number ≡ At calls address
    → word_of words address ≡ Some word → IsAction word action
    → GoesOutsideWithin tree.spans (around_at around number) (class_at st address action.base) word address action
    (known_at known number) range

-- ## Runs

-- Each run from the entry whose registers of the entry's mode but R15 are words of 32 bits and as given at
-- the start, that keeps the bounds of all loops, and keeps the statement step by step but for its classes:
-- wherever it comes to the place and then does the word there, it loads or stores a word at an address of the
-- range, which is not of the class stated of it.
abbrev pub GoesOutside : Words → Stated → Flow → List Given → Place → Range → Type 0
GoesOutside words st flow given place range =
    (s now after : State) (inputs : List Input) (walk : List Edge) (calls : List ℕ) (action : Action)
    (i : Input) (stepped : Stepped) → AreWords s.regs → AreGiven given s.regs
    → Leads edge_shape (HasEdge flow) flow.entry walk place → KeepsTheBounds flow st.loops walk
    → ComesOnTrust words st flow.profile [] s inputs walk now
    → place ≡ At calls (address_in now.regs)
    → (x : ExecutesOnTrust words st flow.profile [] action now i stepped after)
    → label_in now.regs action.cond ≡ Do
    → TransfersOutside (class_at st (address_in now.regs) action.base) range x.step.moved.accesses

-- of the place of a number: none past the end
abbrev pub outside_at : List (Option Range) → ℕ → Option Range
outside_at outside number = slice_index_or outside number None

-- where there is a range, it is where the word at the place of its number goes outside of its class
abbrev pub AreOutside : Words → Stated → Flow → Tree → List Given → List (Option Range) → Type 0
AreOutside words st flow tree given outside =
    (number : ℕ) → number < length flow.places
    → IfSome (outside_at outside number) (GoesOutside words st flow given (place_in flow tree number))

-- No run from the entry that begins as given and keeps the statement, as far as it goes, does the word at the
-- place.
abbrev pub NoneKeptDoes : Words → Stated → Flow → List Given → Place → Type 0
NoneKeptDoes words st flow given place =
    (s : State) (inputs : List Input) (walk : List Edge) (end : Place) → AreWords s.regs → AreGiven given s.regs
    → Leads edge_shape (HasEdge flow) flow.entry walk end → KeepsTheBounds flow st.loops walk
    → Follows words st flow.profile s inputs walk
    → (e : Edge) → Contains walk e → e.from ≡ place → e.label ≡ Do → ⊥
