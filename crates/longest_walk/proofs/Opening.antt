-- The equations of opening a folded walk.
use Rattle.std.proofs.Common.{◌≡◌, ◌∙◌, ℕ, zero, suc, ◌+◌, ◌<◌, ◌≤◌, List, [], ◌∷◌, ◌++◌, Option, Vec, All, flat_map, length, get_or, map, take, refl, sym, ap, arith, append_assoc}
use Rattle.std.specs.Global.{Global}
use Rattle.std.specs.declared.rc.Rc.{Rc}
use Rattle.std.specs.List.{AllZip, repeat}
use Rattle.std.proofs.lemmas.List.{flat_map_more, get_or_default, map-append, take_more}
use Rattle.std.proofs.lemmas.List.Elements.{All-nil, All-append}
use Rattle.control_flow.specs.declared.edges.Edge.{Edge}
use Rattle.control_flow.specs.Flow.{Flow}
use Rattle.numbered_walks.specs.Index.{edge_at}
use Rattle.loop_bounds.specs.Tree.{Tree}
use Rattle.longest_walk.specs.Built.{step_at}
use Rattle.longest_walk.specs.Ways.{opened_edge, opened_rounds, opened_way, rounds_at}
use Rattle.longest_walk.specs.declared.rounds.Rounds.{Rounds}
use Rattle.longest_walk.specs.declared.folded.Item.{Item}
use Rattle.longest_walk.specs.declared.folded.Item.TheOpen.{Item-F}
use Rattle.longest_walk.specs.declared.folded.Item.TheVariants.{Step, Repeat, rolls-Step, rolls-Repeat}
use Rattle.longest_walk.specs.declared.folded.Item.TheFolds.{fold-Item, fold-roll-Item}
use Rattle.longest_walk.specs.Folded.{Opened, deepest, one_edge, open_item, open_items, open_step, turned}

pub open-step : (e : Edge) → open_item (Step e) ≡ one_edge e
open-step e = ap (fold-Item Opened open_step) (sym (rolls-Step e)) ∙ fold-roll-Item Opened open_step (Item-F.Step e)

pub open-repeat : (k : ℕ) (body : Rc (Vec Item Global) Global) → open_item (Repeat k body) ≡ turned k (open_items body.value.items)
open-repeat k body = ap (fold-Item Opened open_step) (sym (rolls-Repeat k body)) ∙ fold-roll-Item Opened open_step (Item-F.Repeat k body)

-- one item more
pub opened-more : (items : List Item) (item : Item) (o : Opened) → open_item item ≡ o → map open_item (items ++ item ∷ []) ≡ map open_item items ++ o ∷ []
opened-more items item o is = map-append open_item items (item ∷ []) ∙ ap (λ (x : Opened). map open_item items ++ x ∷ []) is

pub deepest-append : (xs ys : List Opened) (outer limit : ℕ) → deepest xs + outer ≤ limit → deepest ys + outer ≤ limit → deepest (xs ++ ys) + outer ≤ limit
deepest-append [] ys outer limit one two = two
deepest-append (x ∷ xs) ys outer limit one two =
    let rest : deepest (xs ++ ys) + outer ≤ limit = deepest-append xs ys outer limit (omega arith) two in
    omega arith

pub map-repeated : {A B : Type 0} (f : A → B) (k : ℕ) (xs : List A) → map f (repeat k xs) ≡ repeat k (map f xs)
map-repeated f zero xs = refl
map-repeated f (suc k) xs = map-append f xs (repeat k xs) ∙ ap (λ rest. map f xs ++ rest) (map-repeated f k xs)

pub All-repeated : {A : Type 0} (P : A → Type 0) (k : ℕ) (xs : List A) → All P xs → All P (repeat k xs)
All-repeated P zero xs all = All-nil P
All-repeated P (suc k) xs all = All-append P xs (repeat k xs) all (All-repeated P k xs all)

pub AllZip-append : {A B : Type 0} (R : A → B → Type 0) (xs xs' : List A) (ys ys' : List B) → AllZip R xs ys → AllZip R xs' ys' → AllZip R (xs ++ xs') (ys ++ ys')
AllZip-append R [] xs' [] ys' one two = two
AllZip-append R [] xs' (y ∷ ys) ys' one two = absurd one
AllZip-append R (x ∷ xs) xs' [] ys' one two = absurd one
AllZip-append R (x ∷ xs) xs' (y ∷ ys) ys' one two = (one.0, AllZip-append R xs xs' ys ys' one.1 two)

-- ## Ways

-- one edge of a way more
pub way_next : (flow : Flow) (tree : Tree) (table : List (Option Rounds)) (old : List Opened) (way : List ℕ) (i : ℕ) (items pushed new : List Item) (e : Edge) (to : ℕ) → i < length way → get_or way i 0 < length flow.edges
    → map open_item items ≡ old ++ opened_way flow tree table (take i way) → pushed ≡ items ++ Step e ∷ [] → e ≡ get_or flow.edges (get_or way i 0) e → to ≡ (edge_at tree.edges (get_or way i 0)).to
    → map open_item new ≡ map open_item pushed ++ opened_rounds (rounds_at table to) → map open_item new ≡ old ++ opened_way flow tree table (take (i + 1) way)
way_next flow tree table old way i items pushed new e to lt inside so_far pushed_is e_is to_is new_is =
    let k = get_or way i 0 in
    let f = opened_edge flow tree table in
    let before = old ++ opened_way flow tree table (take i way) in
    let step : e ≡ step_at flow.edges k = e_is ∙ get_or_default flow.edges k e _ inside in
    let one : map open_item pushed ≡ before ++ one_edge (step_at flow.edges k) ∷ [] =
    ap (map open_item) pushed_is ∙ opened-more items (Step e) (one_edge e) (open-step e) ∙ ap (λ (os : List Opened). os ++ one_edge e ∷ []) so_far ∙ ap (λ (x : Edge). before ++ one_edge x ∷ []) step in
    let all : map open_item new ≡ before ++ f k =
    new_is ∙ ap (λ (p : ℕ). map open_item pushed ++ opened_rounds (rounds_at table p)) to_is
    ∙ ap (λ (os : List Opened). os ++ opened_rounds (rounds_at table (edge_at tree.edges k).to)) one
    ∙ append_assoc before (one_edge (step_at flow.edges k) ∷ []) (opened_rounds (rounds_at table (edge_at tree.edges k).to)) in
    all ∙ flat_map_more f old (take i way) k ∙ ap (λ (l : List ℕ). old ++ flat_map f l) (sym (take_more way i 0 lt))
