-- The edges that a certificate's walk stands for. Its lines name no calls: those follow from where the walk
-- begins.
use Rattle.std.specs.Prelude.{ℕ, Bool, true, false, ◌&&◌, ◌==◌, List, [], ◌∷◌, Option, Some, option_and_then}
use Rattle.std.specs.Prelude.{option_map, map}
use Rattle.std.specs.List.{find}
use Rattle.control_flow.specs.declared.places.Place.{Place}
use Rattle.control_flow.specs.declared.places.Place.TheVariants as place
use Rattle.control_flow.specs.declared.edges.Edge.{Edge}
use Rattle.control_flow.specs.Flow.{Flow}
use Rattle.longest_walk.specs.Folded.{Opened, one_edge, turned, joined}
use Rattle.longest_walk.specs.Rows.{is_at}
use Rattle.walk_counts.specs.Counts.{is_same_label}
use Rattle.certificate.specs.declared.walk.To.{To}
use Rattle.certificate.specs.declared.walk.To.TheVariants as to
use Rattle.certificate.specs.declared.walk.StepLine.{StepLine}
use Rattle.certificate.specs.declared.walk.CertItem.{CertItem}
use Rattle.certificate.specs.declared.walk.CertItem.TheOpen.{CertItem-F}
use Rattle.certificate.specs.declared.walk.CertItem.TheFolds.{fold-CertItem}

-- ## One step

abbrev pub leads_to : Place → To → Bool
leads_to (place.At calls a) (to.At b) = a == b
leads_to place.Exit to.Exit = true
leads_to (place.At calls a) to.Exit = false
leads_to place.Exit (to.At b) = false

-- the edge leaves the place, and has what the line says of it
abbrev pub is_named : Place → StepLine → Edge → Bool
is_named (place.At calls a) s e =
    is_at calls a e.from && (a == s.address) && is_same_label e.label s.label && leads_to e.to s.to
    && (e.cost == s.cost)
is_named place.Exit s e = false

-- the edge that a line names at a place
abbrev pub edge_named : Flow → Place → StepLine → Option Edge
edge_named flow p s = find (is_named p s) flow.edges

-- ## A walk

-- where the walk ends, and its edges, repeats opened
pub record Followed : Type 0 where
  pub at : Place
  pub opened : Opened

abbrev pub follow_edge : Edge → Followed
follow_edge e = record { at = e.to; opened = one_edge e }

-- the body is followed once
abbrev pub follow_turns : ℕ → Followed → Followed
follow_turns k body = record { at = body.at; opened = turned k body.opened }

abbrev pub nothing_at : Place → Followed
nothing_at p = record { at = p; opened = joined [] }

-- one walk, and another from where it ends
abbrev pub follow_both : Opened → Followed → Followed
follow_both first rest = record { at = rest.at; opened = joined (first ∷ rest.opened ∷ []) }

-- walks in a row, each from where the one before ends
abbrev pub follow_row : List (Place → Option Followed) → Place → Option Followed
follow_row [] p = Some (nothing_at p)
follow_row (walk ∷ walks) p =
    option_and_then (λ first. option_map (follow_both first.opened) (follow_row walks first.at)) (walk p)

abbrev pub follow_step : Flow → CertItem-F (Place → Option Followed) → Place → Option Followed
follow_step flow (CertItem-F.Step s) p = option_map follow_edge (edge_named flow p s)
follow_step flow (CertItem-F.Repeat k body) p = option_map (follow_turns k) (follow_row body.items p)

abbrev pub follow_item : Flow → CertItem → Place → Option Followed
follow_item flow = fold-CertItem (Place → Option Followed) (follow_step flow)

-- what a certificate's walk stands for from a place, if each of its lines names an edge from where it is
abbrev pub followed : Flow → List CertItem → Place → Option Followed
followed flow items p = follow_row (map (follow_item flow) items) p
