-- Rows under their lines.
use Rattle.std.proofs.Common.{◌≡◌, ◌∙◌, ℕ, List, ◌++◌, Option, Some, codes, refl, sym, ap, subst, append_assoc}
use Rattle.control_flow.specs.declared.edges.Edge.{Edge}
use Rattle.control_flow.specs.declared.places.Place.{Place}
use Rattle.asm_text.specs.Appended.{Appends}
use Rattle.text_refusals.specs.Texts.{IsEntryFront, IsUnder}
use Rattle.text_refusals.specs.declared.word_lines.WordLines.{WordLines}

pub entered : (words : WordLines) (place : Place) (edge : Option Edge) (e : Edge) (old mid new : List ℕ) → edge ≡ Some e
    → Appends (IsUnder words (codes "A loop is entered elsewhere than at its header. From here:\n") e.from) old mid
    → Appends (IsUnder words (codes "To here:\n") place) mid new → Appends (IsEntryFront words place edge) old new
entered words place edge e old mid new is a b =
    subst (λ (o : Option Edge). Appends (IsEntryFront words place o) old new) (sym is)
    (a.0 ++ b.0, (a.0, b.0, a.1, b.1, refl), b.2 ∙ ap (λ xs. xs ++ b.0) a.2 ∙ append_assoc old a.0 b.0)
