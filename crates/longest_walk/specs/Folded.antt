-- A walk written with repeats, and what it unfolds to.
use Rattle.std.specs.Prelude.{ℕ, ◌+◌, ◌<◌, ◌≤◌, max, List, [], ◌∷◌, flat_map, map}
use Rattle.std.specs.List.{repeat}
use Rattle.walks.specs.declared.limits.TheConstants.{MOST_INSTANCES, MOST_ROUNDS}
use Rattle.control_flow.specs.declared.edges.Edge.{Edge}
use Rattle.longest_walk.specs.declared.folded.Item.{Item}
use Rattle.longest_walk.specs.declared.folded.Item.TheOpen.{Item-F}
use Rattle.longest_walk.specs.declared.folded.Item.TheFolds.{fold-Item}

-- the edges, and those of them outside of repeats; of the repeats, inner ones included, the counts, the edges
-- of one round, and those of the body outside of the repeats in it; and how deep repeats are nested
pub record Opened : Type 0 where
  pub walk : List Edge
  pub outside : List Edge
  pub counts : List ℕ
  pub bodies : List (List Edge)
  pub bodies_outside : List (List Edge)
  pub depth : ℕ

abbrev pub deepest : List Opened → ℕ
deepest [] = 0
deepest (o ∷ rest) = max o.depth (deepest rest)

-- items in a row
abbrev pub joined : List Opened → Opened
joined items = record {
  walk = flat_map (λ o. o.walk) items;
  outside = flat_map (λ o. o.outside) items;
  counts = flat_map (λ o. o.counts) items;
  bodies = flat_map (λ o. o.bodies) items;
  bodies_outside = flat_map (λ o. o.bodies_outside) items;
  depth = deepest items;
}

-- a body, so many times
abbrev pub turned : ℕ → Opened → Opened
turned k body = record {
  walk = repeat k body.walk;
  outside = [];
  counts = k ∷ body.counts;
  bodies = body.walk ∷ body.bodies;
  bodies_outside = body.outside ∷ body.bodies_outside;
  depth = body.depth + 1;
}

abbrev pub one_edge : Edge → Opened
one_edge e =
    record { walk = e ∷ []; outside = e ∷ []; counts = []; bodies = []; bodies_outside = []; depth = 0 }

-- an item whose body's items are opened already
abbrev pub open_step : Item-F Opened → Opened
open_step (Item-F.Step e) = one_edge e
open_step (Item-F.Repeat k body) = turned k (joined body.value.items)

abbrev pub open_item : Item → Opened
open_item = fold-Item Opened open_step

abbrev pub open_items : List Item → Opened
open_items items = joined (map open_item items)

-- the edges of a folded walk in order
abbrev pub unfolded : List Item → List Edge
unfolded items = (open_items items).walk

-- ## What a certificate allows

-- how often a repeat is taken: at most as often as a loop may turn back
abbrev pub IsCount : ℕ → Type 0
IsCount k = (0 < k) × (k ≤ MOST_ROUNDS)

-- how many repeats lie one within the other: at most as many as instances may
abbrev pub most_nested : ℕ
most_nested = MOST_INSTANCES
