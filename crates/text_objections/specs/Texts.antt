-- What is printed of what fails in a certificate.
use Rattle.std.specs.Prelude.{ℕ, ◌++◌, List, codes, cond, decimal, nat_lt}
use Rattle.asm_text.specs.Hex.{hex}
use Rattle.control_flow.specs.declared.edges.Edge.{Edge}
use Rattle.control_flow.specs.declared.places.Place.{Place}
use Rattle.control_flow.specs.declared.places.Place.TheVariants.{At, Exit}
use Rattle.certificate.specs.Words.{label_words, list_words}
use Rattle.cert_check.specs.declared.failing.FailingRow.{FailingRow}
use Rattle.cert_check.specs.declared.failing.FailingRow.TheVariants as f
use Rattle.cert_check.specs.declared.failing.HeavyRow.{HeavyRow}
use Rattle.cert_check.specs.declared.walker.TheConstants.{COST_CAP}

-- ## Places and edges

-- as a certificate has it: its calls and its address
abbrev pub place_name : Place → List ℕ
place_name (At calls address) = list_words calls ++ (codes " " ++ hex address)
place_name Exit = codes "exit"

-- a place after a word
abbrev pub place_line : List ℕ → Place → List ℕ
place_line word p = codes "  " ++ (word ++ (codes " " ++ (place_name p ++ codes "\n")))

abbrev pub at_line : Place → List ℕ
at_line p = place_line (codes "at") p

-- a loop by its header
abbrev pub header_line : Place → List ℕ
header_line p = place_line (codes "header") p

-- its ends, and then its label and its cost
abbrev pub edge_lines : Edge → List ℕ
edge_lines e =
    place_line (codes "from") e.from
    ++ (place_line (codes "to") e.to
    ++ (codes "  " ++ (label_words e.label ++ (codes " " ++ (decimal e.cost ++ codes "\n")))))

-- what is stated, and what the row asks for
abbrev pub numbers_line : HeavyRow → List ℕ
numbers_line h =
    codes "  " ++ (decimal h.stated ++ (codes " is less than " ++ (decimal h.needed ++ codes "\n")))

abbrev pub heavy_lines : HeavyRow → List ℕ
heavy_lines h = edge_lines h.edge ++ numbers_line h

-- ## The walk

abbrev pub item_line : ℕ → List ℕ
item_line index =
    codes "Item " ++ (decimal index ++ codes " of the walk, counted from 0, cannot be followed.\n")

abbrev pub bound_heading : ℕ → List ℕ
bound_heading bound =
    codes "The walk turns back more than "
    ++ (decimal bound ++ codes " times in a stay in this loop:\n")

-- a cost that is capped
abbrev pub cost_words : ℕ → List ℕ
cost_words cost = cond (nat_lt cost COST_CAP) (decimal cost) (codes "2^64 or more")

abbrev pub cost_line : ℕ → List ℕ
cost_line cost = codes "The walk costs " ++ (cost_words cost ++ codes " ticks, which is not the bound.\n")

-- ## What fails

abbrev pub objection_text : FailingRow → List ℕ
objection_text f.WrongProfile = codes "The certificate's prices are not those of the handler's graph.\n"
objection_text (f.MissingPlace p) = codes "No row is about this place:\n" ++ at_line p
objection_text (f.MissingInstance p) = codes "No row is about this loop:\n" ++ header_line p
objection_text (f.ExtraPlace p) =
    codes "A row is about this, which is no place of the handler:\n" ++ at_line p
objection_text (f.ExtraInstance p) =
    codes "A row is about this, which is no loop of the handler:\n" ++ header_line p
objection_text (f.NumberTooLarge e) =
    codes "The row of this edge asks for 2^63 ticks or more:\n" ++ edge_lines e
objection_text (f.EdgeTooHeavy h) = codes "The row of this edge does not hold:\n" ++ heavy_lines h
objection_text (f.RoundTooHeavy h) =
    codes "The row of this edge, which goes back, does not hold:\n" ++ heavy_lines h
objection_text (f.LeaveTooHeavy h) =
    codes "The row of this edge, which leaves a loop, does not hold:\n" ++ heavy_lines h
objection_text (f.BrokenWalk index) = item_line index
objection_text (f.OpenWalk p) = codes "The walk ends here, inside the handler:\n" ++ at_line p
objection_text (f.WalkOverBound header bound) = bound_heading bound ++ header_line header
objection_text (f.WalkCost cost) = cost_line cost
