-- A certificate's walk with the lines of a walk is followed along that walk.
use Rattle.std.proofs.Common.{◌≡◌, ◌∙◌, ℕ, List, [], ◌∷◌, ◌++◌, append_assoc, map, Option, Some, sym, ap, subst}
use Rattle.std.specs.Prelude.{option_map}
use Rattle.std.specs.List.{AllByRecursion}
use Rattle.std.proofs.lemmas.List.Folds.{flat_map-map}
use Rattle.walks.specs.Walk.{Leads}
use Rattle.control_flow.specs.declared.places.Place.{Place}
use Rattle.control_flow.specs.declared.edges.Edge.{Edge}
use Rattle.control_flow.specs.Flow.{Flow, HasEdge, edge_shape}
use Rattle.loop_bounds.specs.Tree.{Tree}
use Rattle.longest_walk.specs.Folded.{Opened, one_edge, open_item, open_items, open_step, turned, unfolded}
use Rattle.longest_walk.specs.declared.folded.Item.{Item}
use Rattle.longest_walk.specs.declared.folded.Item.TheOpen.{Item-F}
use Rattle.longest_walk.specs.declared.folded.Item.TheViews.{roll-Item}
use Rattle.longest_walk.specs.declared.folded.Item.TheFolds.{fold-roll-Item, ind-Item, map-Item}
use Rattle.certificate.specs.declared.walk.CertItem.{CertItem}
use Rattle.certificate.specs.declared.walk.CertItem.TheOpen.{CertItem-F}
use Rattle.certificate.specs.declared.walk.CertItem.TheViews.{roll-CertItem}
use Rattle.certificate.specs.declared.walk.CertItem.TheFolds.{fold-roll-CertItem, ind-CertItem}
use Rattle.certificate.specs.declared.line.WalkLine.{WalkLine}
use Rattle.certificate.specs.declared.line.WalkLine.TheVariants as w
use Rattle.certificate.specs.Walk.{cert_item_lines, cert_item_step, cert_walk_lines, item_lines, item_step, repeated_lines, step_of, walk_lines}
use Rattle.cert_check.specs.Followed.{Followed, edge_named, follow_edge, follow_item, follow_row, follow_step, follow_turns, followed}
use Rattle.cert_check.proofs.FollowLemmas.{Follows, IsSound, arrived, followed_both, followed_edge, followed_none, followed_turns}

-- no item's lines begin so
abbrev EndsRow : List WalkLine → Type 0
EndsRow [] = Unit {0}
EndsRow (w.Step s ∷ rest) = ⊥
EndsRow (w.Repeat k ∷ rest) = ⊥
EndsRow (w.End ∷ rest) = Unit {0}

-- ## One layer of a certificate's item

abbrev lines_in : CertItem-F CertItem → List WalkLine
lines_in (CertItem-F.Step s) = w.Step s ∷ []
lines_in (CertItem-F.Repeat k body) = repeated_lines k (cert_walk_lines body.items)

lines_are : (x : CertItem-F CertItem) → cert_item_lines (roll-CertItem x) ≡ lines_in x
lines_are (CertItem-F.Step s) = fold-roll-CertItem (List WalkLine) cert_item_step (CertItem-F.Step s)
lines_are (CertItem-F.Repeat k body) = fold-roll-CertItem (List WalkLine) cert_item_step (CertItem-F.Repeat k body) ∙ ap (repeated_lines k) (flat_map-map (λ x. x) cert_item_lines body.items)

-- an item's lines do not end a row
layer_goes_on : (x : CertItem-F CertItem) (rest : List WalkLine) → EndsRow (lines_in x ++ rest) → ⊥
layer_goes_on (CertItem-F.Step s) rest h = h
layer_goes_on (CertItem-F.Repeat k body) rest h = h

item_goes_on : (c : CertItem) (rest : List WalkLine) → EndsRow (cert_item_lines c ++ rest) → ⊥
item_goes_on = ind-CertItem (λ c. (rest : List WalkLine) → EndsRow (cert_item_lines c ++ rest) → ⊥) (λ x y is. λ rest h. layer_goes_on x rest (subst (λ ls. EndsRow (ls ++ rest)) (lines_are x) h))

module _ (flow : Flow) where
  abbrev follow_in : CertItem-F CertItem → Place → Option Followed
  follow_in (CertItem-F.Step s) p = option_map follow_edge (edge_named flow p s)
  follow_in (CertItem-F.Repeat k body) p = option_map (follow_turns k) (followed flow body.items p)

  follow_is : (x : CertItem-F CertItem) → follow_item flow (roll-CertItem x) ≡ follow_in x
  follow_is (CertItem-F.Step s) = fold-roll-CertItem (Place → Option Followed) (follow_step flow) (CertItem-F.Step s)
  follow_is (CertItem-F.Repeat k body) = fold-roll-CertItem (Place → Option Followed) (follow_step flow) (CertItem-F.Repeat k body)

  -- what holds of each layer holds of each item
  by_layers : (P : List WalkLine → (Place → Option Followed) → Type 0) → ((x : CertItem-F CertItem) → P (lines_in x) (follow_in x)) → (c : CertItem) → P (cert_item_lines c) (follow_item flow c)
  by_layers P each = ind-CertItem (λ c. P (cert_item_lines c) (follow_item flow c)) (λ x y is. subst (P (cert_item_lines (roll-CertItem x))) (sym (follow_is x)) (subst (λ ls. P ls (follow_in x)) (sym (lines_are x)) (each x)))

-- ## The same lines

module _ (flow : Flow) (tree : Tree) (named : (e : Edge) → HasEdge flow e → edge_named flow e.from (step_of e) ≡ Some e) where
  -- where the lines begin alike they are the same, and are followed along the walk
  abbrev Agrees : List WalkLine → (Place → Option Followed) → List WalkLine → Opened → Type 0
  Agrees given follow lines o = (r s : List WalkLine) → given ++ r ≡ lines ++ s → (r ≡ s) × Follows flow tree follow o

  record Matches (o : Opened) (lines : List WalkLine) : Type 0 where
    goes_on : (rest : List WalkLine) → EndsRow (lines ++ rest) → ⊥
    agrees : (c : CertItem) → Agrees (cert_item_lines c) (follow_item flow c) lines o

  abbrev Good : Item → Type 0
  Good i = Matches (open_item i) (item_lines i)

  row : (cs : List CertItem) (is : List Item) → AllByRecursion Good is → (r s : List WalkLine) → EndsRow r → EndsRow s → cert_walk_lines cs ++ r ≡ walk_lines is ++ s → (r ≡ s) × Follows flow tree (follow_row (map (follow_item flow) cs)) (open_items is)
  row [] [] good r s ends stops e = (e, followed_none flow tree)
  row [] (i ∷ is) good r s ends stops e = absurd (good.0.goes_on (walk_lines is ++ s) (subst EndsRow (e ∙ append_assoc (item_lines i) (walk_lines is) s) ends))
  row (c ∷ cs) [] good r s ends stops e = absurd (item_goes_on c (cert_walk_lines cs ++ r) (subst EndsRow (sym e ∙ append_assoc (cert_item_lines c) (cert_walk_lines cs) r) stops))
  row (c ∷ cs) (i ∷ is) good r s ends stops e =
      let first = good.0.agrees c (cert_walk_lines cs ++ r) (walk_lines is ++ s) (sym (append_assoc (cert_item_lines c) (cert_walk_lines cs) r) ∙ e ∙ append_assoc (item_lines i) (walk_lines is) s) in
      let rest = row cs is good.1 r s ends stops first.0 in
      (rest.0, followed_both flow tree (follow_item flow c) (map (follow_item flow) cs) (open_item i) (map open_item is) first.1 rest.1)

  -- ## One layer of a walk's item

  step_agrees : (e : Edge) (x : CertItem-F CertItem) → Agrees (lines_in x) (follow_in flow x) (w.Step (step_of e) ∷ []) (one_edge e)
  step_agrees e (CertItem-F.Step t) r s h =
      let same : t ≡ step_of e = cc in
      let rest : r ≡ s = cc in
      (rest, subst (λ x. Follows flow tree (λ p. option_map follow_edge (edge_named flow p x)) (one_edge e)) (sym same) (followed_edge flow tree named e))
  step_agrees e (CertItem-F.Repeat k body) r s h = absurd (cc h)

  repeat_agrees : (k : ℕ) (is : List Item) → AllByRecursion Good is → (x : CertItem-F CertItem) → Agrees (lines_in x) (follow_in flow x) (repeated_lines k (walk_lines is)) (turned k (open_items is))
  repeat_agrees k is good (CertItem-F.Step t) r s h = absurd (cc h)
  repeat_agrees k is good (CertItem-F.Repeat m body) r s h =
      let count : m ≡ k = cc in
      let after : (cert_walk_lines body.items ++ w.End ∷ []) ++ r ≡ (walk_lines is ++ w.End ∷ []) ++ s = cc in
      let inner = row body.items is good (w.End ∷ r) (w.End ∷ s) tt tt (sym (append_assoc (cert_walk_lines body.items) (w.End ∷ []) r) ∙ after ∙ append_assoc (walk_lines is) (w.End ∷ []) s) in
      let ends : w.End ∷ r ≡ w.End ∷ s = inner.0 in
      let rest : r ≡ s = cc in
      (rest, subst (λ n. Follows flow tree (λ p. option_map (follow_turns n) (followed flow body.items p)) (turned k (open_items is))) (sym count) (followed_turns flow tree k (followed flow body.items) (open_items is) inner.1))

  step_matches : (e : Edge) → Matches (one_edge e) (w.Step (step_of e) ∷ [])
  step_matches e = record { goes_on = λ rest h. h; agrees = by_layers flow (λ given follow. Agrees given follow (w.Step (step_of e) ∷ []) (one_edge e)) (step_agrees e) }

  repeat_matches : (k : ℕ) (is : List Item) → AllByRecursion Good is → Matches (turned k (open_items is)) (repeated_lines k (walk_lines is))
  repeat_matches k is good = record { goes_on = λ rest h. h; agrees = by_layers flow (λ given follow. Agrees given follow (repeated_lines k (walk_lines is)) (turned k (open_items is))) (repeat_agrees k is good) }

  all_beside : (ys : List ((i : Item) × Good i)) → AllByRecursion Good (map (λ y. y.0) ys)
  all_beside [] = tt
  all_beside (y ∷ ys) = (y.1, all_beside ys)

  by_layer : (y : Item-F ((i : Item) × Good i)) → Good (roll-Item (map-Item ((i : Item) × Good i) Item (λ e. e.0) y))
  by_layer (Item-F.Step e) =
      let opened = fold-roll-Item Opened open_step (Item-F.Step e) in
      let lines = fold-roll-Item (List WalkLine) item_step (Item-F.Step e) in
      subst (λ o. Matches o (item_lines (roll-Item (Item-F.Step e)))) (sym opened) (subst (Matches (one_edge e)) (sym lines) (step_matches e))
  by_layer (Item-F.Repeat k body) =
      let x = map-Item ((i : Item) × Good i) Item (λ e. e.0) (Item-F.Repeat k body) in
      let inner : List Item = map (λ y. y.0) body.value.items in
      let opened : open_item (roll-Item x) ≡ turned k (open_items inner) = fold-roll-Item Opened open_step x in
      let lines : item_lines (roll-Item x) ≡ repeated_lines k (walk_lines inner) = fold-roll-Item (List WalkLine) item_step x ∙ ap (repeated_lines k) (flat_map-map (λ x. x) item_lines inner) in
      subst (λ o. Matches o (item_lines (roll-Item x))) (sym opened) (subst (Matches (turned k (open_items inner))) (sym lines) (repeat_matches k inner (all_beside body.value.items)))

  good : (i : Item) → Good i
  good = ind-Item Good (λ x y is. subst (λ (z : Item-F Item). Good (roll-Item z)) is (by_layer y))

  all_good : (is : List Item) → AllByRecursion Good is
  all_good [] = tt
  all_good (i ∷ is) = (good i, all_good is)

  pub followed_along : (cs : List CertItem) (is : List Item) (p q : Place) → cert_walk_lines cs ≡ walk_lines is → IsSound flow tree (open_items is) → Leads edge_shape (HasEdge flow) p (unfolded is) q → followed flow cs p ≡ Some (arrived q (open_items is))
  followed_along cs is p q same sound leads = (row cs is (all_good is) [] [] tt tt (ap (λ xs. xs ++ []) same)).1 p q sound leads
