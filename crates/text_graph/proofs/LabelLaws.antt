-- The label of one place more.
use Rattle.std.proofs.Common.{◌≡◌, ◌∙◌, ℕ, ◌+◌, ◌<◌, List, [], ◌∷◌, ◌++◌, length, take, get_or, Vec, sym, ap, subst}
use Rattle.std.specs.Global.{Global}
use Rattle.std.specs.List.{AllZip}
use Rattle.std.proofs.lemmas.List.{take_more}
use Rattle.std.proofs.lemmas.Slice.Zip.{all_zipped_more}
use Rattle.control_flow.specs.Places.{place_address}
use Rattle.control_flow.specs.declared.places.Place.{Place}
use Rattle.sources.specs.declared.read.Source.{Source}
use Rattle.text_graph.specs.Labels.{AreLabels, IsLabel}

pub labels_more : (source : Source) (places : List Place) (i : ℕ) (p : Place) (labels new : List (Vec ℕ Global)) (label : Vec ℕ Global)
    → AreLabels source (take i places) labels → i < length places → p ≡ get_or places i p → IsLabel source (place_address p) label.items → new ≡ labels ++ label ∷ []
    → AreLabels source (take (i + 1) places) new
labels_more source places i p labels new label before lt at here is =
    let R = λ (q : Place) (l : Vec ℕ Global). IsLabel source (place_address q) l.items in
    let one : take (i + 1) places ≡ take i places ++ p ∷ [] = take_more places i p lt ∙ ap (λ (q : Place). take i places ++ q ∷ []) (sym at) in
    subst (λ (ps : List Place). AllZip R ps new) (sym one)
    (subst (λ (ls : List (Vec ℕ Global)). AllZip R (take i places ++ p ∷ []) ls) (sym is) (all_zipped_more R (take i places) labels p label before here))
