-- Where words that write R15 go, by the registers at the entry.
use Rattle.std.specs.Prelude.{◌≡◌, ◌<◌, ◌+◌, ◌-◌, ◌%◌, ◌^◌, ℕ, List, [], ◌∷◌, length, Some, slice_index_or}
use Rattle.walks.specs.Walk.{Leads}
use Rattle.bus_ticks.specs.declared.profile.Profile.{Profile}
use Rattle.image.specs.Image.{Words, word_of}
use Rattle.statement.specs.Stated.{Stated}
use Rattle.arm2_decode.specs.declared.instr.Operation.{Operation}
use Rattle.arm2_decode.specs.declared.names.Register.TheVariants.{R14}
use Rattle.arm2_effect.specs.Operands.{current_in}
use Rattle.arm2_effect.specs.ProgramCounter.{address_of}
use Rattle.arm2_effect.specs.declared.step_end.Kind.TheVariants.{Plain}
use Rattle.arm2_transfer.specs.Moved.{Moved}
use Rattle.arm2_transfer.specs.Operations.{operation_moved}
use Rattle.arm2_transfer.specs.declared.bus.Bus.{Bus}
use Rattle.arm2_exec.specs.State.{State}
use Rattle.arm2_exec.specs.Step.{Obeys, address_in}
use Rattle.arm2_exec.specs.declared.machine.Input.{Input}
use Rattle.arm2_exec.specs.declared.machine.Stepped.{Stepped}
use Rattle.control_flow.specs.Flow.{Flow, HasEdge, edge_shape}
use Rattle.control_flow.specs.Kinds.{IsAction}
use Rattle.control_flow.specs.declared.actions.Action.{Action}
use Rattle.control_flow.specs.declared.edges.Edge.{Edge}
use Rattle.control_flow.specs.declared.edges.Label.TheVariants.{Do}
use Rattle.control_flow.specs.declared.places.Place.{Place}
use Rattle.control_flow.specs.declared.places.Place.TheVariants.{At}
use Rattle.flow_graph.specs.StepLaw.{label_in}
use Rattle.loop_bounds.specs.Tree.{Tree, place_in}
use Rattle.known_words.specs.Given.{AreGiven}
use Rattle.known_words.specs.Known.{IsKnown}
use Rattle.known_words.specs.Knowledge.{AreWords, Holds}
use Rattle.known_words.specs.declared.given.Given.{Given}
use Rattle.known_words.specs.declared.knowledge.Knowledge.{Knowledge}
use Rattle.known_words.specs.declared.words.Known.{Known}
use Rattle.known_places.specs.Around.{known_at}
use Rattle.known_places.specs.OnTrust.{ExecutesOnTrust, IsEdgeOnTrust}
use Rattle.known_places.specs.declared.destination.Destination.{Destination}
use Rattle.known_places.specs.declared.destination.Destination.TheVariants.{LinkLess, To, Unknown}

-- the address is that one, or the one in R14 of the entry's mode at the entry, less so many bytes
abbrev pub IsDestination : (entry : List ℕ) → Destination → (address : ℕ) → Type 0
IsDestination entry Unknown address = Unit {0}
IsDestination entry (To exact) address = address ≡ exact
IsDestination entry (LinkLess bytes) address =
    address ≡ address_of ((current_in R14 entry + (2 ^ 32 - bytes)) % 2 ^ 32)

-- ## One word

-- the address bits of each word that is known so are at the destination
abbrev pub IsKnownTo : Known → Destination → Type 0
IsKnownTo known destination =
    (entry turns : List ℕ) (word : ℕ) → IsKnown entry turns known word
    → IsDestination entry destination (address_of word)

-- Whenever the instruction at the address is carried out, with neither an exception nor a stop, and this is
-- known before it, it goes on at the destination.
abbrev pub JumpsTo : Operation → (address : ℕ) → Knowledge → Destination → Type 0
JumpsTo o address known destination =
    (entry turns regs : List ℕ) (port : ℕ) (bus : Bus) → length regs ≡ 27 → address_in regs ≡ address
    → (operation_moved o port regs bus).kind ≡ Plain → Holds entry turns known regs
    → IsDestination entry destination (address_in (operation_moved o port regs bus).regs)

-- the same wherever the word at the address is done
abbrev pub WordGoesTo : (word address : ℕ) → Knowledge → Destination → Type 0
WordGoesTo word address known destination =
    (entry turns regs : List ℕ) (port : ℕ) (bus : Bus) (m : Moved) (action : Action) → length regs ≡ 27
    → address_in regs ≡ address → IsAction word action → label_in regs action.cond ≡ Do
    → Obeys word port regs bus m → m.kind ≡ Plain → Holds entry turns known regs
    → IsDestination entry destination (address_in m.regs)

-- of the word at the place of a number
abbrev pub PlaceGoesTo : Words → Flow → Tree → List Knowledge → (number : ℕ) → Destination → Type 0
PlaceGoesTo words flow tree known number destination =
    (calls : List ℕ) (address word : ℕ) → place_in flow tree number ≡ At calls address
    → word_of words address ≡ Some word → WordGoesTo word address (known_at known number) destination

-- ## Runs

module _ (words : Words) (st : Stated) (profile : Profile) (trusted : List ℕ) where
  -- the steps by the inputs go along the edges of the walk, one each and in order, and end in the state now
  abbrev pub ComesOnTrust : State → List Input → List Edge → (now : State) → Type 0
  ComesOnTrust s [] [] now = now ≡ s
  ComesOnTrust s [] (e ∷ walk) now = ⊥
  ComesOnTrust s (i ∷ inputs) [] now = ⊥
  ComesOnTrust s (i ∷ inputs) (e ∷ walk) now =
      (stepped : Stepped) × (next : State) × IsEdgeOnTrust words st profile trusted s i stepped next e
      × ComesOnTrust next inputs walk now

-- Each run from the entry whose registers of the entry's mode but R15 are words of 32 bits and as given at
-- the start, and that keeps the statement step by step but for its classes and its loops' bounds: wherever it
-- comes to the place and then does the word there, the next instruction's address is the destination.
abbrev pub GoesTo : Words → Stated → Flow → List Given → Place → Destination → Type 0
GoesTo words st flow given place destination =
    (s now after : State) (inputs : List Input) (walk : List Edge) (calls : List ℕ) (action : Action)
    (i : Input) (stepped : Stepped) → AreWords s.regs → AreGiven given s.regs
    → Leads edge_shape (HasEdge flow) flow.entry walk place
    → ComesOnTrust words st flow.profile [] s inputs walk now
    → place ≡ At calls (address_in now.regs)
    → ExecutesOnTrust words st flow.profile [] action now i stepped after
    → label_in now.regs action.cond ≡ Do → IsDestination s.regs destination stepped.to

-- of the place of a number: unknown past the end
abbrev pub destination_at : List Destination → ℕ → Destination
destination_at destinations number = slice_index_or destinations number Unknown

-- each is where the word at the place of its number goes
abbrev pub AreDestinations : Words → Stated → Flow → Tree → List Given → List Destination → Type 0
AreDestinations words st flow tree given destinations =
    (number : ℕ) → number < length flow.places
    → GoesTo words st flow given (place_in flow tree number) (destination_at destinations number)
