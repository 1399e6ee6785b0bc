-- The loops around places, and how often a walk has turned in them.
use Rattle.std.specs.Prelude.{◌≡◌, ◌⊎◌, ℕ, ◌+◌, Bool, true, List, [], ◌∷◌, ◌++◌, Option, Some, None}
use Rattle.std.specs.Prelude.{slice_index_or, Contains}
use Rattle.control_flow.specs.Flow.{Flow}
use Rattle.control_flow.specs.declared.places.Place.TheVariants.{At}
use Rattle.numbered_walks.specs.Index.{span_at}
use Rattle.numbered_walks.specs.Ordered.{IsOrdered}
use Rattle.numbered_walks.specs.declared.span.NumberedEdge.{NumberedEdge}
use Rattle.numbered_walks.specs.declared.span.Span.{Span}
use Rattle.walk_counts.specs.Spans.{turns_at_end}
use Rattle.loop_bounds.specs.Tree.{Tree, place_in}
use Rattle.known_words.specs.Knowledge.{Holds}
use Rattle.known_words.specs.Turning.{AreTurned, IsTurned}
use Rattle.known_words.specs.declared.knowledge.Compared.TheVariants.{Nothing}
use Rattle.known_words.specs.declared.knowledge.Knowledge.{Knowledge}
use Rattle.known_words.specs.declared.turning.Depth.{Depth}
use Rattle.known_words.specs.declared.turning.Depth.TheVariants.{Fourth, Outermost, Second, Third}
use Rattle.known_words.specs.declared.turning.Turn.{Turn}
use Rattle.known_words.specs.declared.turning.Turns.{Turns}
use Rattle.known_places.specs.declared.around.Around.{Around}

-- ## One place

-- the instance that is counted at the depth
abbrev pub loop_at : Depth → Around → Option ℕ
loop_at Outermost around = around.outermost
loop_at Second around = around.second
loop_at Third around = around.third
loop_at Fourth around = around.fourth

-- the back edges of the walk's last stay in the instance; none where there is no instance
abbrev pub turns_of : List Span → Option ℕ → List NumberedEdge → ℕ
turns_of spans None walk = 0
turns_of spans (Some k) walk = turns_at_end (span_at spans k) walk

abbrev pub turns_in : List Span → Around → List NumberedEdge → List ℕ
turns_in spans around walk =
    turns_of spans around.outermost walk ∷ turns_of spans around.second walk ∷ turns_of spans around.third walk
    ∷ turns_of spans around.fourth walk ∷ []

-- ## One edge

-- the turns of a span after the edge, by those before it where they are counted
abbrev pub TurnsSpan : Span → (counted : Bool) → NumberedEdge → Turn → Type 0
TurnsSpan span counted edge turn =
    (exit : ℕ) (edges walk : List NumberedEdge) (spans : List Span) (old : ℕ) → IsOrdered exit edges spans
    → Contains edges edge → Contains spans span → (counted ≡ true → old ≡ turns_at_end span walk)
    → IsTurned turn old (turns_at_end span (walk ++ edge ∷ []))

-- whatever walk comes before the edge, the one instance has turned so after it, by the other's turns before
abbrev pub TurnsOne : List Span → NumberedEdge → (before after : Option ℕ) → Turn → Type 0
TurnsOne spans edge before after turn =
    (exit : ℕ) (edges walk : List NumberedEdge) → IsOrdered exit edges spans → Contains edges edge
    → IsTurned turn (turns_of spans before walk) (turns_of spans after (walk ++ edge ∷ []))

-- and the four
abbrev pub TurnsAlong : List Span → NumberedEdge → (before after : Around) → Turns → Type 0
TurnsAlong spans edge before after turns =
    (exit : ℕ) (edges walk : List NumberedEdge) → IsOrdered exit edges spans → Contains edges edge
    → AreTurned turns (turns_in spans before walk) (turns_in spans after (walk ++ edge ∷ []))

-- ## All places

-- what is counted at the place of a number: nothing past the end
abbrev pub around_at : List Around → ℕ → Around
around_at around number =
    slice_index_or around number (record { outermost = None; second = None; third = None; fourth = None })

-- what is known at the place of a number: nothing past the end
abbrev pub known_at : List Knowledge → ℕ → Knowledge
known_at known number = slice_index_or known number (record { registers = []; compared = Nothing })

-- no walk comes to the header with one turn more than the bound
abbrev pub NeverOver : List Span → List Around → List Knowledge → Span → Type 0
NeverOver spans around known s =
    (entry now : List ℕ) (walk : List NumberedEdge) → turns_at_end s walk ≡ s.bound + 1
    → Holds entry (turns_in spans (around_at around s.header) walk) (known_at known s.header) now → ⊥

-- of the instance of the number, unless the address of its header is trusted
abbrev pub BoundFollows : Flow → Tree → List Around → List Knowledge → (trusted : List ℕ) → ℕ → Type 0
BoundFollows flow tree around known trusted k =
    (calls : List ℕ) (address : ℕ) → place_in flow tree (span_at tree.spans k).header ≡ At calls address
    → Contains trusted address ⊎ NeverOver tree.spans around known (span_at tree.spans k)
