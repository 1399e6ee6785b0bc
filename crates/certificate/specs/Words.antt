-- How the lines of a certificate are spelled.
use Rattle.std.specs.Prelude.{◌≡◌, ◌≢◌, ℕ, ◌<◌, ◌≤◌, List, [], ◌∷◌, ◌++◌, length, map, codes}
use Rattle.std.specs.Prelude.{All, ⊤}
use Rattle.std.specs.Coded.{Unit-prop, le_prop}
use Rattle.std.specs.Fmt.{decimal}
use Rattle.std.specs.List.{flat_map, join_with_byte}
use Rattle.bus_ticks.specs.declared.space.TheConstants.{SPACE_END}
use Rattle.walks.specs.declared.limits.TheConstants.{COST_LIMIT}
use Rattle.asm_text.specs.Hex.{hex}
use Rattle.bus_ticks.specs.Numbers.{profile_one}
use Rattle.bus_ticks.specs.Ranges.{AreInRange, AreOrdered}
use Rattle.control_flow.specs.declared.edges.Label.{Label}
use Rattle.control_flow.specs.declared.edges.Label.TheVariants.{Skip, Do}
use Rattle.control_flow.specs.Places.{IsInRange}
use Rattle.longest_walk.specs.Folded.{IsCount}
use Rattle.longest_walk.specs.declared.rows.PlaceRow.{PlaceRow}
use Rattle.longest_walk.specs.declared.rows.InstanceRow.{InstanceRow}
use Rattle.certificate.specs.declared.walk.To.{To}
use Rattle.certificate.specs.declared.walk.To.TheVariants.{At, Exit}
use Rattle.certificate.specs.declared.walk.StepLine.{StepLine}
use Rattle.certificate.specs.declared.line.Version.{Version}
use Rattle.certificate.specs.declared.line.Version.TheVariants.{One, Two}
use Rattle.certificate.specs.declared.line.WalkLine.{WalkLine}
use Rattle.certificate.specs.declared.line.WalkLine.TheVariants as w
use Rattle.certificate.specs.declared.line.Line.{Line}
use Rattle.certificate.specs.declared.line.Line.TheVariants as l

-- ## Fields

-- call addresses from the outermost call on, joined by `/`, or `-`
abbrev pub list_words : List ℕ → List ℕ
list_words [] = codes "-"
list_words (a ∷ calls) = join_with_byte 47 (map hex (a ∷ calls))

abbrev pub label_words : Label → List ℕ
label_words Do = codes "do"
label_words Skip = codes "skip"

abbrev pub to_words : To → List ℕ
to_words (At a) = hex a
to_words Exit = codes "exit"

-- ## Lines, without their ends

abbrev pub title_words : Version → List ℕ
title_words One = codes "arcwcet certificate 1"
title_words Two = codes "arcwcet certificate 2"

abbrev pub profile_words : List ℕ → List ℕ
profile_words numbers = codes "profile " ++ join_with_byte 32 (map decimal numbers)

-- an edge by its address, label, target and cost
abbrev pub edge_words : StepLine → List ℕ
edge_words s = hex s.address ++ 32 ∷ (label_words s.label ++ 32 ∷ (to_words s.to ++ 32 ∷ decimal s.cost))

abbrev pub step_words : StepLine → List ℕ
step_words s = codes "step " ++ edge_words s

abbrev pub walk_words : WalkLine → List ℕ
walk_words (w.Step s) = step_words s
walk_words (w.Repeat k) = codes "repeat " ++ decimal k
walk_words w.End = codes "end"

abbrev pub place_words : PlaceRow → List ℕ
place_words r = codes "place " ++ (list_words r.list ++ 32 ∷ (hex r.address ++ 32 ∷ decimal r.distance))

abbrev pub instance_words : InstanceRow → List ℕ
instance_words r =
    codes "instance "
    ++ (list_words r.list ++ 32 ∷ (hex r.header ++ 32 ∷ (decimal r.arrival ++ 32 ∷ decimal r.round)))

abbrev pub line_words : Line → List ℕ
line_words (l.Title v) = title_words v
line_words (l.Profile numbers) = profile_words numbers
line_words (l.Bound n) = codes "bound " ++ decimal n
line_words (l.Walk w) = walk_words w
line_words l.Close = codes "close"
line_words (l.Place r) = place_words r
line_words (l.Instance r) = instance_words r
line_words l.Stop = codes "stop"

-- each line ends with a line feed
abbrev pub ended : List ℕ → List ℕ
ended words = words ++ 10 ∷ []

abbrev pub text_of : List Line → List ℕ
text_of lines = flat_map (λ x. ended (line_words x)) lines

-- ## What a line may say

-- calls nest at most eight deep
abbrev pub AreCalls : List ℕ → Type 0
AreCalls calls = (length calls ≤ 8) × All (λ c. c < SPACE_END) calls

abbrev pub ToFits : To → Type 0
ToFits (At a) = a < SPACE_END
ToFits Exit = ⊤

-- it is one fact, which a row can keep
pub ToFits-prop : (to : To) → IsProp (ToFits to)
ToFits-prop (At a) = le_prop
ToFits-prop Exit = Unit-prop

pub record StepFits (s : StepLine) : Type 0 where
  pub address : s.address < SPACE_END
  pub to : ToFits s.to
  pub some : 0 < s.cost
  pub cost : s.cost < COST_LIMIT

abbrev pub WalkFits : WalkLine → Type 0
WalkFits (w.Step s) = StepFits s
WalkFits (w.Repeat k) = IsCount k
WalkFits w.End = ⊤

pub record PlaceFits (r : PlaceRow) : Type 0 where
  pub place : IsInRange r.list r.address
  pub distance : r.distance < COST_LIMIT

pub record InstanceFits (r : InstanceRow) : Type 0 where
  pub header : IsInRange r.list r.header
  pub arrival : r.arrival < COST_LIMIT
  pub round : r.round < COST_LIMIT

-- the numbers of a cycle profile
pub record IsProfile (numbers : List ℕ) : Type 0 where
  pub whole : length numbers ≡ 15
  pub ranges : AreInRange numbers
  pub ordered : AreOrdered numbers

abbrev pub LineFits : Line → Type 0
LineFits (l.Title v) = ⊤
LineFits (l.Profile numbers) = IsProfile numbers × (numbers ≢ profile_one)
LineFits (l.Bound n) = n < COST_LIMIT
LineFits (l.Walk w) = WalkFits w
LineFits l.Close = ⊤
LineFits (l.Place r) = PlaceFits r
LineFits (l.Instance r) = InstanceFits r
LineFits l.Stop = ⊤
