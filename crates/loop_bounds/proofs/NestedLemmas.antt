-- What is shown of an instance that takes those that it holds.
use Rattle.std.proofs.Common.{◌≡◌, ℕ, ◌<◌, ◌≤◌, List, [], ◌∷◌, ◌++◌, length, map, take, drop, flat_map, slice_index, sym, refl, ap, ◌∙◌}
use Rattle.std.proofs.lemmas.Grind.{flat_map-append}
use Rattle.std.proofs.lemmas.List.{append-nil, append_assoc, drop-map, map-append, take-append-drop, take-map}
use Rattle.std.proofs.lemmas.List.Folds.{flat_map-map}
use Rattle.control_flow.specs.declared.places.Place.{Place}
use Rattle.statement.specs.declared.apart.ApartStretch.{ApartStretch}
use Rattle.loop_bounds.specs.declared.loop_instances.LoopInstance.{LoopInstance}
use Rattle.loop_bounds.specs.declared.nested.Instance.{Instance as Nested, out-Instance, roll-Instance}
use Rattle.loop_bounds.specs.declared.nested.Instance.TheOpen.{Instance-F}
use Rattle.loop_bounds.specs.declared.nested.Instance.TheFolds.{fold-roll-Instance, fold_out-Instance}
use Rattle.loop_bounds.specs.declared.nested.Outermost.{Outermost}
use Rattle.loop_bounds.specs.Extents.{found_instance}
use Rattle.loop_bounds.specs.Instance.{Instance}
use Rattle.loop_bounds.specs.Nested.{Node, Outline, heads, inner_in, instance_in, node_of, nodes, outline, outline_step, places_in}
use Rattle.loop_bounds.specs.NestedParts.{Encloses}

map_twice : {A B C : Type 0} (f : B → C) (g : A → B) (xs : List A) → map f (map g xs) ≡ map (λ x. f (g x)) xs
map_twice f g [] = refl
map_twice f g (x ∷ xs) = ap (λ rest. f (g x) ∷ rest) (map_twice f g xs)

abbrev node : List ApartStretch → LoopInstance → List Place → List Instance → Node
node apart found places inner = record { instance = found_instance apart found; places = places; inner = inner }

abbrev nodes_of : List ApartStretch → Nested → List Node
nodes_of apart i = (outline apart i).nodes

instance_roll : (apart : List ApartStretch) (x : Instance-F Nested) → instance_in apart (roll-Instance x) ≡ found_instance apart x.found
instance_roll apart x = ap (λ (o : Outline). o.instance) (fold-roll-Instance Outline (outline_step apart) x)

abbrev stepped : List ApartStretch → Instance-F Nested → List Node
stepped apart x = flat_map (λ (o : Outline). o.nodes) (map (outline apart) x.inner.items) ++ node apart x.found x.places.items (map (λ (o : Outline). o.instance) (map (outline apart) x.inner.items)) ∷ []

nodes_stepped : (apart : List ApartStretch) (x : Instance-F Nested) → stepped apart x ≡ nodes apart x.inner.items ++ node apart x.found x.places.items (heads apart x.inner.items) ∷ []
nodes_stepped apart x =
    ap (λ (ns : List Node). ns ++ node apart x.found x.places.items (map (λ (o : Outline). o.instance) (map (outline apart) x.inner.items)) ∷ []) (flat_map-map (λ (o : Outline). o.nodes) (outline apart) x.inner.items)
    ∙ ap (λ (is : List Instance). nodes apart x.inner.items ++ node apart x.found x.places.items is ∷ []) (map_twice (λ (o : Outline). o.instance) (outline apart) x.inner.items)

nodes_roll : (apart : List ApartStretch) (x : Instance-F Nested) → nodes_of apart (roll-Instance x) ≡ nodes apart x.inner.items ++ node apart x.found x.places.items (heads apart x.inner.items) ∷ []
nodes_roll apart x = ap (λ (o : Outline). o.nodes) (fold-roll-Instance Outline (outline_step apart) x) ∙ nodes_stepped apart x

-- what is shown of those inside an instance, and then of it
pub nodes_out : (apart : List ApartStretch) (i : Nested) → nodes_of apart i ≡ nodes apart (inner_in i) ++ node_of apart i ∷ []
nodes_out apart i =
    ap (λ (o : Outline). o.nodes) (fold_out-Instance Outline (outline_step apart) i)
    ∙ nodes_stepped apart (out-Instance i)
    ∙ ap (λ (j : Instance). nodes apart (inner_in i) ++ record { instance = j; places = places_in i; inner = heads apart (inner_in i) } ∷ []) (sym (ap (λ (o : Outline). o.instance) (fold_out-Instance Outline (outline_step apart) i)))

heads_more : (apart : List ApartStretch) (xs : List Nested) (first : ℕ) (x : Instance-F Nested) → heads apart (take first xs ++ roll-Instance x ∷ []) ≡ take first (heads apart xs) ++ found_instance apart x.found ∷ []
heads_more apart xs first x =
    map-append (instance_in apart) (take first xs) (roll-Instance x ∷ [])
    ∙ ap (λ (is : List Instance). is ++ instance_in apart (roll-Instance x) ∷ []) (sym (take-map (instance_in apart) first xs))
    ∙ ap (λ (i : Instance). take first (heads apart xs) ++ i ∷ []) (instance_roll apart x)

nodes_more : (apart : List ApartStretch) (xs : List Nested) (first : ℕ) (x : Instance-F Nested) → x.inner.items ≡ drop first xs → nodes apart (take first xs ++ roll-Instance x ∷ []) ≡ nodes apart xs ++ node apart x.found x.places.items (drop first (heads apart xs)) ∷ []
nodes_more apart xs first x inner =
    let own : Node = node apart x.found x.places.items (drop first (heads apart xs)) in
    flat_map-append (nodes_of apart) (take first xs) (roll-Instance x ∷ [])
    ∙ ap (λ (ns : List Node). nodes apart (take first xs) ++ ns) (append-nil (nodes_of apart (roll-Instance x)) ∙ nodes_roll apart x ∙ ap (λ (ys : List Nested). nodes apart ys ++ node apart x.found x.places.items (heads apart ys) ∷ []) inner ∙ ap (λ (is : List Instance). nodes apart (drop first xs) ++ node apart x.found x.places.items is ∷ []) (sym (drop-map (instance_in apart) first xs)))
    ∙ sym (append_assoc (nodes apart (take first xs)) (nodes apart (drop first xs)) (own ∷ []))
    ∙ ap (λ (ns : List Node). ns ++ own ∷ []) (sym (flat_map-append (nodes_of apart) (take first xs) (drop first xs)) ∙ ap (nodes apart) (take-append-drop first xs))

pub enclosed : (apart : List ApartStretch) (old new : Outermost) (header first : ℕ) (x : Instance-F Nested) → first ≤ length old.headers.items → ((p : ℕ) → p < first → slice_index old.headers.items p < header) → ((p : ℕ) → first ≤ p → p < length old.headers.items → header ≤ slice_index old.headers.items p) → new.headers.items ≡ take first old.headers.items ++ header ∷ [] → new.instances.items ≡ take first old.instances.items ++ roll-Instance x ∷ [] → x.inner.items ≡ drop first old.instances.items → Encloses apart old new header (found_instance apart x.found) x.places.items
enclosed apart old new header first x first_in before within headers_are instances_are inner = record {
  first = first;
  first_in = first_in;
  before = before;
  within = within;
  headers_are = headers_are;
  heads_are = ap (heads apart) instances_are ∙ heads_more apart old.instances.items first x;
  nodes_are = ap (nodes apart) instances_are ∙ nodes_more apart old.instances.items first x inner;
}
