-- The lines of a walk that is written with repeats.
use Rattle.std.specs.Prelude.{◌≡◌, ℕ, zero, suc, List, [], ◌∷◌, ◌++◌, Bool, true, false, Option, Some, None}
use Rattle.std.specs.Prelude.{option_and_then, nat_lt, if◌then◌else◌}
use Rattle.std.specs.List.{flat_map}
use Rattle.control_flow.specs.declared.places.Place.{Place}
use Rattle.control_flow.specs.declared.places.Place.TheVariants as place
use Rattle.control_flow.specs.declared.edges.Edge.{Edge}
use Rattle.control_flow.specs.Places.{place_address}
use Rattle.longest_walk.specs.Folded.{most_nested}
use Rattle.longest_walk.specs.declared.folded.Item.{Item}
use Rattle.longest_walk.specs.declared.folded.Item.TheOpen.{Item-F}
use Rattle.longest_walk.specs.declared.folded.Item.TheFolds.{fold-Item}
use Rattle.certificate.specs.declared.walk.To.{To}
use Rattle.certificate.specs.declared.walk.To.TheVariants as to
use Rattle.certificate.specs.declared.walk.StepLine.{StepLine}
use Rattle.certificate.specs.declared.walk.CertItem.{CertItem}
use Rattle.certificate.specs.declared.walk.CertItem.TheOpen.{CertItem-F}
use Rattle.certificate.specs.declared.walk.CertItem.TheFolds.{fold-CertItem}
use Rattle.certificate.specs.declared.line.WalkLine.{WalkLine}
use Rattle.certificate.specs.declared.line.WalkLine.TheVariants.{Step, Repeat, End}

-- a repeat's lines come between its first and its last
abbrev pub repeated_lines : ℕ → List WalkLine → List WalkLine
repeated_lines k body = Repeat k ∷ (body ++ End ∷ [])

-- ## Of a certificate's walk

abbrev pub cert_item_step : CertItem-F (List WalkLine) → List WalkLine
cert_item_step (CertItem-F.Step s) = Step s ∷ []
cert_item_step (CertItem-F.Repeat k body) = repeated_lines k (flat_map (λ x. x) body.items)

abbrev pub cert_item_lines : CertItem → List WalkLine
cert_item_lines = fold-CertItem (List WalkLine) cert_item_step

abbrev pub cert_walk_lines : List CertItem → List WalkLine
cert_walk_lines items = flat_map cert_item_lines items

-- ## Of a greatest walk, whose edges are shown by their addresses

abbrev pub to_of : Place → To
to_of (place.At calls a) = to.At a
to_of place.Exit = to.Exit

-- no edge leads from Exit
abbrev pub step_of : Edge → StepLine
step_of e = record { address = place_address e.from; label = e.label; to = to_of e.to; cost = e.cost }

abbrev pub item_step : Item-F (List WalkLine) → List WalkLine
item_step (Item-F.Step e) = Step (step_of e) ∷ []
item_step (Item-F.Repeat k body) = repeated_lines k (flat_map (λ x. x) body.value.items)

abbrev pub item_lines : Item → List WalkLine
item_lines = fold-Item (List WalkLine) item_step

abbrev pub walk_lines : List Item → List WalkLine
walk_lines items = flat_map item_lines items

-- ## Nesting

-- how many repeats are open, and whether something is in the innermost
pub record Nest : Type 0 where
  pub opened : ℕ
  pub some : Bool

abbrev pub outside : Nest
outside = record { opened = 0; some = false }

abbrev pub closed : ℕ → Option Nest
closed zero = None
closed (suc depth) = Some (record { opened = depth; some = true })

-- at most sixteen repeats are open, and one ends only with something in it
abbrev pub nest_after : Nest → WalkLine → Option Nest
nest_after n (Step s) = Some (record { opened = n.opened; some = true })
nest_after n (Repeat k) =
    if nat_lt n.opened most_nested then Some (record { opened = suc n.opened; some = false }) else None
nest_after n End = if n.some then closed n.opened else None

-- one after the other, each from where the one before led
abbrev pub follow_all : {S L : Type 0} → (S → L → Option S) → S → List L → Option S
follow_all next s [] = Some s
follow_all next s (x ∷ xs) = option_and_then (λ t. follow_all next t xs) (next s x)

-- the lines nest, and no repeat is left open
pub record AreNested (lines : List WalkLine) : Type 0 where
  pub some : Bool
  pub ends : follow_all nest_after outside lines ≡ Some (record { opened = 0; some = some })
