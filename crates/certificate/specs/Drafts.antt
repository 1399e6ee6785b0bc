-- What is in a certificate of which some lines are read.
use Rattle.std.specs.Prelude.{◌≡◌, List, [], ◌∷◌, ◌++◌, length, map, Bool, true, false, Some, None}
use Rattle.std.specs.List.{flat_map}
use Rattle.bus_ticks.specs.Numbers.{numbers_of}
use Rattle.certificate.specs.declared.walk.CertItem.{CertItem}
use Rattle.certificate.specs.declared.open_walk.OpenRepeat.{OpenRepeat}
use Rattle.certificate.specs.declared.open_walk.OpenWalk.{OpenWalk}
use Rattle.certificate.specs.declared.draft.Draft.{Draft}
use Rattle.certificate.specs.declared.draft.Stage.{Stage}
use Rattle.certificate.specs.declared.draft.Stage.TheVariants as s
use Rattle.certificate.specs.declared.line.Version.TheVariants.{Two}
use Rattle.certificate.specs.declared.line.WalkLine.{WalkLine}
use Rattle.certificate.specs.declared.line.WalkLine.TheVariants.{Repeat}
use Rattle.certificate.specs.declared.line.Line.{Line}
use Rattle.certificate.specs.declared.line.Line.TheVariants as l
use Rattle.certificate.specs.Follows.{Reached, follows}
use Rattle.certificate.specs.Lines.{head_lines}
use Rattle.certificate.specs.Walk.{Nest, cert_walk_lines, nest_after, outside}

-- ## The walk

-- the lines of what comes before an open repeat, and the repeat's first
abbrev pub open_lines : OpenRepeat → List WalkLine
open_lines o = cert_walk_lines o.before.items ++ Repeat o.count ∷ []

abbrev pub front_lines : List OpenRepeat → List CertItem → List WalkLine
front_lines opened items = flat_map open_lines opened ++ cert_walk_lines items

abbrev pub walk_so_far : OpenWalk → List WalkLine
walk_so_far walk = front_lines walk.opened.items walk.items.items

abbrev pub is_some_item : List CertItem → Bool
is_some_item [] = false
is_some_item (x ∷ xs) = true

abbrev pub nest_of : OpenWalk → Nest
nest_of walk = record { opened = length walk.opened.items; some = is_some_item walk.items.items }

-- a line is added where it may follow
abbrev pub TakesWalk : OpenWalk → OpenWalk → WalkLine → Bool → Type 0
TakesWalk old new line true =
    (nest_after (nest_of old) line ≡ Some (nest_of new)) × (walk_so_far new ≡ walk_so_far old ++ line ∷ [])
TakesWalk old new line false = nest_after (nest_of old) line ≡ None

-- ## The whole

abbrev pub bound_lines : Draft → List Line
bound_lines d = head_lines (numbers_of d.profile) ++ l.Bound d.bound ∷ []

abbrev pub walked_lines : Draft → List Line
walked_lines d = bound_lines d ++ map l.Walk (walk_so_far d.walk)

abbrev pub place_lines : Draft → List Line
place_lines d = (walked_lines d ++ l.Close ∷ []) ++ map l.Place d.places

abbrev pub instance_lines : Draft → List Line
instance_lines d = place_lines d ++ map l.Instance d.instances

abbrev pub lines_at : Stage → Draft → List Line
lines_at s.Title d = []
lines_at s.Numbers d = l.Title Two ∷ []
lines_at s.Bound d = head_lines (numbers_of d.profile)
lines_at s.Walk d = walked_lines d
lines_at (s.Places last) d = place_lines d
lines_at (s.Instances last) d = instance_lines d
lines_at s.Done d = instance_lines d ++ l.Stop ∷ []

-- the lines that are read
abbrev pub lines_of : Draft → List Line
lines_of d = lines_at d.stage d

abbrev pub reached_of : Draft → Reached
reached_of d = record { stage = d.stage; nest = nest_of d.walk }

-- what is still to come is empty
abbrev pub HasNoRows : Draft → Type 0
HasNoRows d = (d.places ≡ []) × (d.instances ≡ [])

abbrev pub HasNoWalk : Draft → Type 0
HasNoWalk d = (walk_so_far d.walk ≡ []) × (nest_of d.walk ≡ outside) × HasNoRows d

abbrev pub IsDraftAt : Stage → Draft → Type 0
IsDraftAt s.Title d = HasNoWalk d
IsDraftAt s.Numbers d = HasNoWalk d
IsDraftAt s.Bound d = HasNoWalk d
IsDraftAt s.Walk d = HasNoRows d
IsDraftAt (s.Places last) d = (d.instances ≡ []) × ((nest_of d.walk).opened ≡ 0)
IsDraftAt (s.Instances last) d = (nest_of d.walk).opened ≡ 0
IsDraftAt s.Done d = (nest_of d.walk).opened ≡ 0

abbrev pub IsDraft : Draft → Type 0
IsDraft d = IsDraftAt d.stage d

-- a line is added where it may follow
pub record Took (old new : Draft) (line : Line) : Type 0 where
  pub draft : IsDraft new
  pub goes_on : follows (reached_of old) line ≡ Some (reached_of new)
  pub lines : lines_of new ≡ lines_of old ++ line ∷ []

abbrev pub Takes : Draft → Draft → Line → Bool → Type 0
Takes old new line true = Took old new line
Takes old new line false = follows (reached_of old) line ≡ None
