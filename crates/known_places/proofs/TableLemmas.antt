-- What is shown of one edge or one place, for all that stand there.
use Rattle.std.proofs.Common.{◌≡◌, ◌∙◌, ℕ, ◌+◌, ◌<◌, ◌≤◌, arith, ◌⊎◌, ⊎_elim, inl, inr, List, [], ◌∷◌, ◌++◌, length, length-append, Some, sym, ap, subst}
use Rattle.std.proofs.Math.Seq.{get_or-append_seam}
use Rattle.std.proofs.lemmas.Bool.{cases_lt}
use Rattle.std.proofs.lemmas.List.{get_or_append_left}
use Rattle.std.specs.Prelude.{Contains, slice_index_or}
use Rattle.std.proofs.lemmas.List.Elements.{Contains-append_left, Contains-append_right}
use Rattle.std.proofs.lemmas.Option.{same_Some}
use Rattle.image.specs.Image.{Words, word_of}
use Rattle.statement.specs.Stated.{Stated, class_at}
use Rattle.control_flow.specs.Flow.{Flow}
use Rattle.control_flow.specs.Kinds.{IsAction}
use Rattle.control_flow.specs.Places.{place_address}
use Rattle.control_flow.specs.declared.actions.Action.{Action}
use Rattle.control_flow.specs.declared.edges.Edge.{Edge}
use Rattle.control_flow.specs.declared.edges.Label.{Label}
use Rattle.control_flow.specs.declared.places.Place.{Place}
use Rattle.control_flow.specs.declared.places.Place.TheVariants.{At}
use Rattle.loop_bounds.specs.Tree.{Tree, place_in}
use Rattle.longest_walk.specs.Built.{step_at}
use Rattle.numbered_walks.specs.Index.{edge_at}
use Rattle.numbered_walks.specs.declared.span.NumberedEdge.{NumberedEdge}
use Rattle.known_words.specs.declared.knowledge.Knowledge.{Knowledge}
use Rattle.known_words.specs.declared.words.Range.{Range}
use Rattle.known_places.specs.Around.{around_at, known_at}
use Rattle.known_places.specs.Destinations.{PlaceGoesTo, WordGoesTo}
use Rattle.known_places.specs.Outside.{GoesOutsideWithin, PlaceGoesOutside}
use Rattle.known_places.specs.declared.destination.Destination.{Destination}
use Rattle.known_places.specs.Table.{EdgeKeeps, KeepsAlong, StaysAt}
use Rattle.known_places.specs.declared.around.Around.{Around}
use Rattle.known_places.specs.Words.{Carries, StaysWithin}

-- one address has one word
pub one_word : (words : Words) (a b v w : ℕ) → a ≡ b → word_of words a ≡ Some v → word_of words b ≡ Some w → v ≡ w
one_word words a b v w same first second = same_Some v w (sym first ∙ ap (word_of words) same ∙ second)

pub carried_there : (words : Words) (from : Place) (label : Label) (before next : Knowledge) (calls : List ℕ) (address word : ℕ)
    → from ≡ At calls address → word_of words address ≡ Some word → Carries word address label before next
    → (others : List ℕ) (a w : ℕ) → from ≡ At others a → word_of words a ≡ Some w → Carries w a label before next
carried_there words from label before next calls address word place has carries others a w is also =
    let at : address ≡ a = ap place_address (sym place ∙ is) in
    subst (λ n. Carries w n label before next) at
    (subst (λ v. Carries v address label before next) (one_word words address a word w at has also) carries)

-- by an edge that is that of the graph, and a list that is that of the tree
pub along_edge : (words : Words) (flow : Flow) (tree : Tree) (around : List Around) (known : List Knowledge) (k : ℕ) (edge : Edge)
    (numbered : List NumberedEdge) → edge ≡ step_at flow.edges k → numbered ≡ tree.edges
    → EdgeKeeps words tree.spans around known edge (edge_at numbered k) → KeepsAlong words flow tree around known k
along_edge words flow tree around known k edge numbered e n keeps =
    subst (λ (d : Edge). EdgeKeeps words tree.spans around known d (edge_at tree.edges k)) e
    (subst (λ ns. EdgeKeeps words tree.spans around known edge (edge_at ns k)) n keeps)

module _ (words : Words) (flow : Flow) (tree : Tree) (around : List Around) (table : List Knowledge) where
  module _ (st : Stated) where
    pub stays_known : (trusted : List ℕ) (number : ℕ) (calls : List ℕ) (address word : ℕ) → place_in flow tree number ≡ At calls address
        → word_of words address ≡ Some word
        → ((action : Action) → IsAction word action → StaysWithin tree.spans (around_at around number) (class_at st address action.base) word address (known_at table number))
        → StaysAt words st flow tree around table trusted number
    stays_known trusted number calls address word place has stays others a w action is also acts =
        let at : address ≡ a = ap place_address (sym place ∙ is) in
        let same : w ≡ word = sym (one_word words address a word w at has also) in
        inr (subst (λ n. StaysWithin tree.spans (around_at around number) (class_at st n action.base) w n (known_at table number)) at
        (subst (λ v. StaysWithin tree.spans (around_at around number) (class_at st address action.base) v address (known_at table number)) (sym same)
        (stays action (subst (λ v. IsAction v action) same acts))))

    pub stays_before : (trusted more : List ℕ) (number : ℕ) → StaysAt words st flow tree around table trusted number
        → StaysAt words st flow tree around table (trusted ++ more) number
    stays_before trusted more number stays calls a w action is also acts = by_case (stays calls a w action is also acts)
      where
        by_case : Contains trusted a ⊎ StaysWithin tree.spans (around_at around number) (class_at st a action.base) w a (known_at table number)
            → Contains (trusted ++ more) a ⊎ StaysWithin tree.spans (around_at around number) (class_at st a action.base) w a (known_at table number)
        by_case (inl has) = inl (Contains-append_left trusted more a has)
        by_case (inr other) = inr other

    pub stays_after : (trusted more : List ℕ) (number : ℕ) → StaysAt words st flow tree around table more number
        → StaysAt words st flow tree around table (trusted ++ more) number
    stays_after trusted more number stays calls a w action is also acts = by_case (stays calls a w action is also acts)
      where
        by_case : Contains more a ⊎ StaysWithin tree.spans (around_at around number) (class_at st a action.base) w a (known_at table number)
            → Contains (trusted ++ more) a ⊎ StaysWithin tree.spans (around_at around number) (class_at st a action.base) w a (known_at table number)
        by_case (inl has) = inl (Contains-append_right trusted more a has)
        by_case (inr other) = inr other

    pub outside_known : (number : ℕ) (calls : List ℕ) (address word : ℕ) (range : Range) → place_in flow tree number ≡ At calls address
        → word_of words address ≡ Some word
        → ((action : Action) → IsAction word action
        → GoesOutsideWithin tree.spans (around_at around number) (class_at st address action.base) word address action (known_at table number) range)
        → PlaceGoesOutside words st flow tree around table number range
    outside_known number calls address word range place has goes others a w action is also acts =
        let at : address ≡ a = ap place_address (sym place ∙ is) in
        let same : w ≡ word = sym (one_word words address a word w at has also) in
        subst (λ n. GoesOutsideWithin tree.spans (around_at around number) (class_at st n action.base) w n action (known_at table number) range) at
        (subst (λ v. GoesOutsideWithin tree.spans (around_at around number) (class_at st address action.base) v address action (known_at table number) range) (sym same)
        (goes action (subst (λ v. IsAction v action) same acts)))

pub goes_there : (words : Words) (flow : Flow) (tree : Tree) (table : List Knowledge) (number : ℕ) (calls : List ℕ) (address word : ℕ)
    → place_in flow tree number ≡ At calls address → word_of words address ≡ Some word → (d : Destination)
    → WordGoesTo word address (known_at table number) d → PlaceGoesTo words flow tree table number d
goes_there words flow tree table number calls address word place has d goes others a w is also =
    let at : address ≡ a = ap place_address (sym place ∙ is) in
    subst (λ n. WordGoesTo w n (known_at table number) d) at
    (subst (λ v. WordGoesTo v address (known_at table number) d) (one_word words address a word w at has also) goes)

-- one more of a list by numbers
pub one_more : {X : Type 0} (default : X) (Goes : ℕ → X → Type 0) (old new : List X) (number : ℕ) (x : X) → length old ≡ number
    → ((k : ℕ) → k < number → Goes k (slice_index_or old k default)) → new ≡ old ++ x ∷ [] → Goes number x
    → (length new ≡ number + 1) × ((k : ℕ) → k < number + 1 → Goes k (slice_index_or new k default))
one_more {X} default Goes old new number x whole goes is there =
    let longer : length new ≡ length (old ++ x ∷ []) = ap (λ (xs : List X). length xs) is in
    let at_end : slice_index_or (old ++ x ∷ []) number default ≡ x =
    ap (λ n. slice_index_or (old ++ x ∷ []) n default) (sym whole) ∙ get_or-append_seam old x [] default in (
      omega (arith, longer, length-append old (x ∷ []), whole),
      λ k lt. subst (λ (xs : List X). Goes k (slice_index_or xs k default)) (sym is)
          (⊎_elim
          (λ (less : k < number).
          subst (Goes k) (sym (get_or_append_left old (x ∷ []) default k (omega (arith, less, whole)))) (goes k less))
          (λ (more : number ≤ k).
          let same : number ≡ k = omega (arith, lt, more) in
          subst (λ n. Goes n (slice_index_or (old ++ x ∷ []) n default)) same (subst (Goes number) (sym at_end) there))
          (cases_lt k number)),
    )
