-- A table of what is known at each place of a handler.
use Rattle.std.specs.Prelude.{◌≡◌, ◌<◌, ◌⊎◌, ℕ, Some, List, [], length, Contains}
use Rattle.image.specs.Image.{Words, word_of}
use Rattle.statement.specs.Stated.{Stated, class_at}
use Rattle.control_flow.specs.Flow.{Flow}
use Rattle.control_flow.specs.Kinds.{IsAction}
use Rattle.control_flow.specs.declared.actions.Action.{Action}
use Rattle.control_flow.specs.declared.edges.Edge.{Edge}
use Rattle.control_flow.specs.declared.places.Place.TheVariants.{At}
use Rattle.loop_bounds.specs.Tree.{Tree, place_in}
use Rattle.longest_walk.specs.Built.{step_at}
use Rattle.numbered_walks.specs.Index.{edge_at}
use Rattle.numbered_walks.specs.declared.span.NumberedEdge.{NumberedEdge}
use Rattle.numbered_walks.specs.declared.span.Span.{Span}
use Rattle.known_words.specs.Given.{AreGiven}
use Rattle.known_words.specs.Knowledge.{AreWords, Holds}
use Rattle.known_words.specs.declared.given.Given.{Given}
use Rattle.known_words.specs.declared.knowledge.Knowledge.{Knowledge}
use Rattle.known_words.specs.declared.turning.Turns.{Turns}
use Rattle.known_places.specs.Around.{BoundFollows, TurnsAlong, around_at, known_at, turns_in}
use Rattle.known_places.specs.OnTrust.{OnTrust}
use Rattle.known_places.specs.Words.{CarriesAlong, StaysWithin}
use Rattle.known_places.specs.declared.around.Around.{Around}

-- what is known at the first place holds of any registers at the entry whose words are of 32 bits and as
-- given
abbrev pub BeginsKnown : List Span → List Around → List Given → List Knowledge → Type 0
BeginsKnown spans around given known =
    (entry : List ℕ) → AreWords entry → AreGiven given entry
    → Holds entry (turns_in spans (around_at around 0) []) (known_at known 0) entry

-- what is known before the edge gives what is known after it, unless it leaves the handler
abbrev pub EdgeKeeps : Words → List Span → List Around → List Knowledge → Edge → NumberedEdge → Type 0
EdgeKeeps words spans around known edge numbered =
    numbered.to < length known
    → (turned : Turns)
    × TurnsAlong spans numbered (around_at around numbered.from) (around_at around numbered.to) turned
    × ((calls : List ℕ) (address word : ℕ) → edge.from ≡ At calls address → word_of words address ≡ Some word
    → CarriesAlong word address edge.label turned (known_at known numbered.from) (known_at known numbered.to))

-- of the edge of the number
abbrev pub KeepsAlong : Words → Flow → Tree → List Around → List Knowledge → ℕ → Type 0
KeepsAlong words flow tree around known k =
    EdgeKeeps words tree.spans around known (step_at flow.edges k) (edge_at tree.edges k)

-- at the place of the number, unless its address is trusted, the stated class of its word follows where all
-- loops keep their bounds
abbrev pub StaysAt : Words → Stated → Flow → Tree → List Around → List Knowledge → (trusted : List ℕ) → ℕ → Type 0
StaysAt words st flow tree around known trusted number =
    (calls : List ℕ) (address word : ℕ) (action : Action)
    → place_in flow tree number ≡ At calls address → word_of words address ≡ Some word → IsAction word action
    → Contains trusted address
    ⊎ StaysWithin tree.spans (around_at around number) (class_at st address action.base) word address
    (known_at known number)

-- a row for each place; what is known holds at the entry and along each edge
pub record HoldsAlong (words : Words) (flow : Flow) (tree : Tree) (given : List Given) (around : List Around)
    (known : List Knowledge) : Type 0 where
  pub whole : length known ≡ length flow.places
  pub begins : BeginsKnown tree.spans around given known
  pub keeps : (k : ℕ) → k < length flow.edges → KeepsAlong words flow tree around known k

-- the table holds, and each class and each bound follows from it or is on trust
pub record IsProof (words : Words) (st : Stated) (flow : Flow) (tree : Tree) (given : List Given)
    (around : List Around) (known : List Knowledge) (trusted : OnTrust) : Type 0 where
  pub table : HoldsAlong words flow tree given around known
  pub stays : (number : ℕ) → number < length flow.places
      → StaysAt words st flow tree around known trusted.classes number
  pub bounds : (k : ℕ) → k < length tree.spans → BoundFollows flow tree around known trusted.loops k
