-- The instances of a tree with those directly inside each.
use Rattle.std.specs.Prelude.{◌≡◌, true, false, ◌↔◌, List, [], ◌∷◌, ◌++◌, map, filter, flat_map, Contains}
use Rattle.std.specs.Prelude.{All}
use Rattle.control_flow.specs.declared.places.Place.{Place}
use Rattle.control_flow.specs.Flow.{Flow}
use Rattle.control_flow.specs.Places.{place_at}
use Rattle.loop_bounds.specs.declared.nested.Instance.{Instance as Nested, out-Instance}
use Rattle.loop_bounds.specs.declared.nested.Instance.TheOpen.{Instance-F}
use Rattle.loop_bounds.specs.declared.nested.Instance.TheFolds.{fold-Instance}
use Rattle.statement.specs.declared.apart.ApartStretch.{ApartStretch}
use Rattle.loop_bounds.specs.Extents.{found_instance}
use Rattle.loop_bounds.specs.Instance.{Instance, is_member}
use Rattle.loop_bounds.specs.Tree.{Tree}

-- ## Which are inside which

-- each place of the inner one is one of the outer one, which has a place more
pub record IsInside (flow : Flow) (inner outer : Instance) : Type 0 where
  pub all : (p : Place) → Contains flow.places p → is_member inner p ≡ true → is_member outer p ≡ true
  pub more : (p : Place) × Contains flow.places p × (is_member outer p ≡ true) × (is_member inner p ≡ false)

-- .. and no instance is between the two
pub record IsDirectlyInside (flow : Flow) (instances : List Instance) (inner outer : Instance) : Type 0 where
  pub inside : IsInside flow inner outer
  pub none_between : (i : Instance) → Contains instances i → IsInside flow inner i → IsInside flow i outer → ⊥

abbrev pub IsOutermost : Flow → List Instance → Instance → Type 0
IsOutermost flow instances i = (outer : Instance) → Contains instances outer → IsInside flow i outer → ⊥

-- ## What is shown

-- of one instance: which it is, its places, and the instances directly inside it
pub record Node : Type 0 where
  pub instance : Instance
  pub places : List Place
  pub inner : List Instance

-- an instance, and the nodes of all that are inside it and then its own
pub record Outline : Type 0 where
  pub instance : Instance
  pub nodes : List Node

-- the same, where each of those directly inside it has its outline
abbrev pub outline_step : List ApartStretch → Instance-F Outline → Outline
outline_step apart i =
    record {
      instance = found_instance apart i.found;
      nodes = flat_map (λ o. o.nodes) i.inner.items
          ++ record {
            instance = found_instance apart i.found;
            places = i.places.items;
            inner = map (λ o. o.instance) i.inner.items;
          }
          ∷ [];
    }

abbrev pub outline : List ApartStretch → Nested → Outline
outline apart = fold-Instance Outline (outline_step apart)

abbrev pub instance_in : List ApartStretch → Nested → Instance
instance_in apart i = (outline apart i).instance

abbrev pub places_in : Nested → List Place
places_in i = (out-Instance i).places.items

abbrev pub inner_in : Nested → List Nested
inner_in i = (out-Instance i).inner.items

abbrev pub heads : List ApartStretch → List Nested → List Instance
heads apart all = map (instance_in apart) all

-- what is shown of the instance itself
abbrev pub node_of : List ApartStretch → Nested → Node
node_of apart i =
    record { instance = instance_in apart i; places = places_in i; inner = heads apart (inner_in i) }

-- the nodes of all, the inner ones before the outer ones
abbrev pub nodes : List ApartStretch → List Nested → List Node
nodes apart all = flat_map (λ i. (outline apart i).nodes) all

-- ## The nested view

-- the members in the order of their numbers, the header first
abbrev pub members : Flow → Tree → Instance → List Place
members flow tree i = filter (is_member i) (map (place_at flow.places) tree.order)

-- a node for each instance of the tree, with its members and with the instances directly inside it; the list
-- itself is of those that are inside none
pub record IsNestedView (flow : Flow) (tree : Tree) (shown : List Nested) : Type 0 where
  pub each_once : map (λ n. n.instance) (nodes tree.apart shown) ≡ tree.instances
  pub members_are : All
      (λ n. (p : Place) → Contains n.places p ↔ (Contains flow.places p × (is_member n.instance p ≡ true)))
      (nodes tree.apart shown)
  pub in_order : All (λ n. n.places ≡ members flow tree n.instance) (nodes tree.apart shown)
  pub inner_are : All
      (λ n. (i : Instance) → Contains n.inner i
      ↔ (Contains tree.instances i × IsDirectlyInside flow tree.instances i n.instance))
      (nodes tree.apart shown)
  pub outermost_are : (i : Instance) → Contains (heads tree.apart shown) i
      ↔ (Contains tree.instances i × IsOutermost flow tree.instances i)
