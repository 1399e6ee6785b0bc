-- What following lines yields: in a row, along one edge, and in a repeat.
use Rattle.std.proofs.Common.{◌≡◌, ◌≢◌, ◌∙◌, ℕ, suc, ◌+◌, ◌<◌, ◌≤◌, Bool, true, false, List, [], ◌∷◌, ◌++◌, length, get_or, map, All, Contains, Option, Some, Vec, option_and_then, refl, sym, ap, subst, arith, add-one, append_assoc, append-nil, drop, drop-cons, length-append}
use Rattle.std.specs.Prelude.{option_map}
use Rattle.std.proofs.lemmas.List.{drop_all, map-append}
use Rattle.std.proofs.lemmas.List.Elements.{All-nil, All-append}
use Rattle.std.proofs.lemmas.Option.{option_and_then_some, same_Some}
use Rattle.asm_text.proofs.WordLaws.{map_is}
use Rattle.walks.specs.Walk.{Leads}
use Rattle.walks.proofs.Leading.{Leads-append}
use Rattle.control_flow.specs.declared.places.Place.{Place}
use Rattle.control_flow.specs.declared.edges.Edge.{Edge}
use Rattle.control_flow.specs.Flow.{Flow, HasEdge, IsWellFormed, edge_shape}
use Rattle.numbered_walks.specs.declared.span.NumberedEdge.{NumberedEdge}
use Rattle.numbered_walks.specs.declared.span.Span.{Span}
use Rattle.numbered_walks.specs.Index.{edge_at, edges_of}
use Rattle.numbered_walks.specs.Ordered.{is_in, number_shape}
use Rattle.numbered_walks.specs.Ordered as O
use Rattle.loop_bounds.specs.Tree.{IsTree, Tree, place_in}
use Rattle.longest_walk.specs.Built.{step_at}
use Rattle.longest_walk.specs.Folded.{IsCount}
use Rattle.longest_walk.specs.Longest.{AreRepeats, IsBody}
use Rattle.longest_walk.proofs.CarryWalks.{leads_up}
use Rattle.certificate.specs.declared.walk.StepLine.{StepLine}
use Rattle.certificate.specs.declared.walk.CertItem.{CertItem}
use Rattle.certificate.specs.declared.walk.CertItem.TheOpen.{CertItem-F}
use Rattle.certificate.specs.declared.walk.CertItem.TheVariants.{Repeat, Step, rolls-Repeat, rolls-Step}
use Rattle.certificate.specs.declared.walk.CertItem.TheFolds.{fold-CertItem, fold-roll-CertItem}
use Rattle.std.specs.declared.alloc.Global.{Global}
use Rattle.cert_check.specs.declared.index.Index.{Index}
use Rattle.cert_check.specs.declared.walker.Walker.{Walker}
use Rattle.cert_check.specs.Followed.{Followed, edge_named, follow_both, follow_edge, follow_item, follow_row, follow_step, follow_turns, followed, nothing_at}
use Rattle.cert_check.specs.Walking.{CanFollow, EndsIn, Follows, IsRefused, IsTaken, IsWalkerAfter}
use Rattle.cert_check.proofs.WalkParts.{All-left, All-right, leads_left, leads_right}

-- the walk of a row is that of its first lines, and that of the others from where it ends
pub record InRow (first : Place → Option Followed) (rest : List (Place → Option Followed)) (p : Place) (f : Followed) : Type 0 where
  pub front : Followed
  pub back : Followed
  pub front_is : first p ≡ Some front
  pub back_is : follow_row rest front.at ≡ Some back
  pub both_is : follow_both front.opened back ≡ f

pub in_row : (first : Place → Option Followed) (rest : List (Place → Option Followed)) (p : Place) (f : Followed) → follow_row (first ∷ rest) p ≡ Some f → InRow first rest p f
in_row first rest p f is =
    option_and_then_some (λ (g : Followed). option_map (follow_both g.opened) (follow_row rest g.at)) (first p) f is
    (λ front front_is more.
    let back = map_is (follow_both front.opened) (follow_row rest front.at) f more in
    record { front = front; back = back.0; front_is = front_is; back_is = back.1; both_is = back.2 })

module _ (flow : Flow) (tree : Tree) (index : Index) (well : IsWellFormed flow) where
  abbrev exit : ℕ
  exit = length flow.places

  abbrev place : ℕ → Place
  place = place_in flow tree

  abbrev LeadsTo : Place → List Edge → Place → Type 0
  LeadsTo p v q = Leads edge_shape (HasEdge flow) p v q

  -- a walk that was followed leads from place to place
  pub leads_of : (within : Span) (levels least : ℕ) (lines : Place → Option Followed) (x y : Walker) → IsTree flow tree → (a : IsTaken flow tree index within levels least lines x y) → LeadsTo (place x.number) a.walk.opened.walk (place y.number)
  leads_of within levels least lines x y t a =
      subst (λ (v : List Edge). LeadsTo (place x.number) v (place y.number)) (sym a.edges_are) (leads_up flow tree well t a.numbers x.number y.number a.inside a.leads)

  -- ## Lines in a row

  pub taken_none : (within : Span) (levels : ℕ) (x : Walker) → CanFollow flow tree index within x → IsTaken flow tree index within levels 0 (follow_row []) x x
  taken_none within levels x can = record {
    walk = nothing_at (place_in flow tree x.number);
    numbers = [];
    walk_is = refl;
    ends = refl;
    inside = All-nil (λ k. k < length flow.edges);
    edges_are = refl;
    leads = refl;
    stays = All-nil (λ e. is_in within e.to ≡ true);
    long = omega arith;
    repeats = record { bodies = All-nil (IsBody flow tree); counts = All-nil IsCount; shallow = omega arith };
    adds = λ w t. subst (λ (v : List NumberedEdge). IsWalkerAfter tree.spans x v) (sym (append-nil w)) t;
    ready = can;
  }

  pub taken_both : (within : Span) (levels few more least : ℕ) (first : Place → Option Followed) (rest : List (Place → Option Followed)) (x y z : Walker)
      → IsTaken flow tree index within levels few first x y → IsTaken flow tree index within levels more (follow_row rest) y z → least ≤ few + more → IsTaken flow tree index within levels least (follow_row (first ∷ rest)) x z
  taken_both within levels few more least first rest x y z a b fits =
      let both : edges_of tree.edges (a.numbers ++ b.numbers) ≡ edges_of tree.edges a.numbers ++ edges_of tree.edges b.numbers = map-append (edge_at tree.edges) a.numbers b.numbers in
      record {
        walk = follow_both a.walk.opened b.walk;
        numbers = a.numbers ++ b.numbers;
        walk_is = ap (option_and_then (λ f. option_map (follow_both f.opened) (follow_row rest f.at))) a.walk_is
            ∙ ap (λ (p : Place). option_map (follow_both a.walk.opened) (follow_row rest p)) a.ends ∙ ap (option_map (follow_both a.walk.opened)) b.walk_is;
        ends = b.ends;
        inside = All-append (λ k. k < length flow.edges) a.numbers b.numbers a.inside b.inside;
        edges_are = (λ i. a.edges_are i ++ (append-nil b.walk.opened.walk ∙ b.edges_are) i) ∙ sym (map-append (step_at flow.edges) a.numbers b.numbers);
        leads = subst (λ (v : List NumberedEdge). O.Leads tree.edges x.number v z.number) (sym both) (Leads-append number_shape (Contains tree.edges) x.number y.number z.number (edges_of tree.edges a.numbers) (edges_of tree.edges b.numbers) a.leads b.leads);
        stays = subst (λ (v : List NumberedEdge). All (λ e. is_in within e.to ≡ true) v) (sym both) (All-append (λ e. is_in within e.to ≡ true) (edges_of tree.edges a.numbers) (edges_of tree.edges b.numbers) a.stays b.stays);
        long = omega (arith, length-append a.walk.opened.walk (b.walk.opened.walk ++ []), length-append b.walk.opened.walk [], a.long, b.long);
        repeats = record {
          bodies = All-append (IsBody flow tree) a.walk.opened.bodies (b.walk.opened.bodies ++ []) a.repeats.bodies (All-append (IsBody flow tree) b.walk.opened.bodies [] b.repeats.bodies (All-nil (IsBody flow tree)));
          counts = All-append IsCount a.walk.opened.counts (b.walk.opened.counts ++ []) a.repeats.counts (All-append IsCount b.walk.opened.counts [] b.repeats.counts (All-nil IsCount));
          shallow = omega (arith, a.repeats.shallow, b.repeats.shallow);
        };
        adds = λ w t.
            subst (λ (v : List NumberedEdge). IsWalkerAfter tree.spans z v) (append_assoc w (edges_of tree.edges a.numbers) (edges_of tree.edges b.numbers) ∙ ap (λ (v : List NumberedEdge). w ++ v) (sym both)) (b.adds (w ++ edges_of tree.edges a.numbers) (a.adds w t));
        ready = b.ready;
      }

  module _ (within : Span) (levels n : ℕ) (first : Place → Option Followed) (rest : List (Place → Option Followed)) where
    pub refused_first : IsRefused flow tree within levels first n → IsRefused flow tree within levels (follow_row (first ∷ rest)) n
    refused_first refused f q is leads ends repeats =
        let r = in_row first rest (place n) f is in
        let v : List Edge = r.front.opened.walk in
        let w : List Edge = r.back.opened.walk ++ [] in
        let go : LeadsTo (place n) (v ++ w) q = subst (λ (g : Followed). LeadsTo (place n) g.opened.walk q) (sym r.both_is) leads in
        let stay : All (EndsIn flow tree within) (v ++ w) = subst (λ (g : Followed). All (EndsIn flow tree within) g.opened.walk) (sym r.both_is) ends in
        let good : AreRepeats flow tree levels (follow_both r.front.opened r.back).opened = subst (λ (g : Followed). AreRepeats flow tree levels g.opened) (sym r.both_is) repeats in
        let front = leads_left edge_shape (HasEdge flow) (place n) q v w go in
        refused r.front front.0 r.front_is front.1 (All-left (EndsIn flow tree within) v w stay)
        (record {
          bodies = All-left (IsBody flow tree) r.front.opened.bodies (r.back.opened.bodies ++ []) good.bodies;
          counts = All-left IsCount r.front.opened.counts (r.back.opened.counts ++ []) good.counts;
          shallow = omega (arith, good.shallow);
        })

    pub refused_rest : (least : ℕ) (x y : Walker) → IsTree flow tree → x.number ≡ n → IsTaken flow tree index within levels least first x y → IsRefused flow tree within levels (follow_row rest) y.number → IsRefused flow tree within levels (follow_row (first ∷ rest)) n
    refused_rest least x y t at a refused f q is leads ends repeats =
        let r = in_row first rest (place n) f is in
        let v : List Edge = r.front.opened.walk in
        let w : List Edge = r.back.opened.walk in
        let go : LeadsTo (place n) (v ++ (w ++ [])) q = subst (λ (g : Followed). LeadsTo (place n) g.opened.walk q) (sym r.both_is) leads in
        let stay : All (EndsIn flow tree within) (v ++ (w ++ [])) = subst (λ (g : Followed). All (EndsIn flow tree within) g.opened.walk) (sym r.both_is) ends in
        let good : AreRepeats flow tree levels (follow_both r.front.opened r.back).opened = subst (λ (g : Followed). AreRepeats flow tree levels g.opened) (sym r.both_is) repeats in
        let same : a.walk ≡ r.front = same_Some a.walk r.front (sym a.walk_is ∙ ap (λ (m : ℕ). first (place m)) at ∙ r.front_is) in
        let there : r.front.at ≡ place y.number = ap (λ (g : Followed). g.at) (sym same) ∙ a.ends in
        let front : LeadsTo (place n) v (place y.number) = subst (λ (m : ℕ). LeadsTo (place m) v (place y.number)) at (subst (λ (g : Followed). LeadsTo (place x.number) g.opened.walk (place y.number)) same (leads_of within levels least first x y t a)) in
        let back : LeadsTo (place y.number) (w ++ []) q = leads_right edge_shape (HasEdge flow) (place n) (place y.number) q v (w ++ []) go front in
        refused r.back q (ap (follow_row rest) (sym there) ∙ r.back_is)
        (subst (λ (u : List Edge). LeadsTo (place y.number) u q) (append-nil w) back)
        (All-left (EndsIn flow tree within) w [] (All-right (EndsIn flow tree within) v (w ++ []) stay))
        (record {
          bodies = All-left (IsBody flow tree) r.back.opened.bodies [] (All-right (IsBody flow tree) r.front.opened.bodies (r.back.opened.bodies ++ []) good.bodies);
          counts = All-left IsCount r.back.opened.counts [] (All-right IsCount r.front.opened.counts (r.back.opened.counts ++ []) good.counts);
          shallow = omega (arith, good.shallow);
        })

  -- one line more, in front of others
  pub follows_more : (within : Span) (levels : ℕ) (item : CertItem) (rest : List CertItem) (x y z : Walker) (b : Bool) → IsTree flow tree → IsTaken flow tree index within levels 1 (follow_item flow item) x y
      → Follows flow tree index within levels (length rest) (follow_row (map (follow_item flow) rest)) y z b → Follows flow tree index within levels (length (item ∷ rest)) (follow_row (map (follow_item flow) (item ∷ rest))) x z b
  follows_more within levels item rest x y z true t first others = taken_both within levels 1 (length rest) (length (item ∷ rest)) (follow_item flow item) (map (follow_item flow) rest) x y z first others (omega arith)
  follows_more within levels item rest x y z false t first others = refused_rest within levels x.number (follow_item flow item) (map (follow_item flow) rest) 1 x y t refl first others

  -- ## A loop over lines

  drop_at : (items : List CertItem) (i : ℕ) (item : CertItem) → i < length items → item ≡ get_or items i item → drop i items ≡ item ∷ drop (i + 1) items
  drop_at items i item lt at = drop-cons items i item lt ∙ ap (λ (x : CertItem). x ∷ drop (suc i) items) (sym at) ∙ ap (λ (n : ℕ). item ∷ drop n items) (sym (add-one i))

  module _ (within : Span) (levels : ℕ) (items : List CertItem) (i : ℕ) (x new : Walker) where
    -- what is left from here, by the lines that are left
    abbrev pub Left : List CertItem → Bool → Type 0
    Left rest b = Follows flow tree index within levels (length rest) (followed flow rest) x new b

    pub left_refused : (item : CertItem) → i < length items → item ≡ get_or items i item → IsRefused flow tree within levels (follow_item flow item) x.number → Left (drop i items) false
    left_refused item lt at refused =
        subst (λ (rest : List CertItem). Left rest false) (sym (drop_at items i item lt at)) (refused_first within levels x.number (follow_item flow item) (map (follow_item flow) (drop (i + 1) items)) refused)

    pub left_more : (y : Walker) (b : Bool) (item : CertItem) → i < length items → item ≡ get_or items i item → IsTree flow tree → IsTaken flow tree index within levels 1 (follow_item flow item) x y
        → Follows flow tree index within levels (length (drop (i + 1) items)) (followed flow (drop (i + 1) items)) y new b → Left (drop i items) b
    left_more y b item lt at t first others =
        subst (λ (rest : List CertItem). Left rest b) (sym (drop_at items i item lt at)) (follows_more within levels item (drop (i + 1) items) x y new b t first others)

  pub left_none : (within : Span) (levels : ℕ) (items : List CertItem) (i : ℕ) (x : Walker) → length items ≤ i → CanFollow flow tree index within x → Follows flow tree index within levels (length (drop i items)) (followed flow (drop i items)) x x true
  left_none within levels items i x past can =
      subst (λ (rest : List CertItem). Follows flow tree index within levels (length rest) (followed flow rest) x x true) (sym (drop_all i items past)) (taken_none within levels x can)

-- ## Lines

item_step_at : (flow : Flow) (s : StepLine) (p : Place) → follow_item flow (Step s) p ≡ option_map follow_edge (edge_named flow p s)
item_step_at flow s p =
    ap (λ (f : Place → Option Followed). f p)
    (ap (fold-CertItem (Place → Option Followed) (follow_step flow)) (sym (rolls-Step s)) ∙ fold-roll-CertItem (Place → Option Followed) (follow_step flow) (CertItem-F.Step s))

item_repeat_at : (flow : Flow) (k : ℕ) (body : Vec CertItem Global) (p : Place) → follow_item flow (Repeat k body) p ≡ option_map (follow_turns k) (follow_row (map (follow_item flow) body.items) p)
item_repeat_at flow k body p =
    ap (λ (f : Place → Option Followed). f p)
    (ap (fold-CertItem (Place → Option Followed) (follow_step flow)) (sym (rolls-Repeat k body)) ∙ fold-roll-CertItem (Place → Option Followed) (follow_step flow) (CertItem-F.Repeat k body))

-- what one line, and a repeat, stands for
pub item_step : (flow : Flow) (s : StepLine) → follow_item flow (Step s) ≡ (λ (p : Place). option_map follow_edge (edge_named flow p s))
item_step flow s = λ i p. item_step_at flow s p i

pub item_repeat : (flow : Flow) (k : ℕ) (body : Vec CertItem Global) → follow_item flow (Repeat k body) ≡ (λ (p : Place). option_map (follow_turns k) (followed flow body.items p))
item_repeat flow k body = λ i p. item_repeat_at flow k body p i

-- a walk of some edge is of some line
pub some_lines : (flow : Flow) (items : List CertItem) (f : Followed) (p : Place) → followed flow items p ≡ Some f → f.opened.walk ≢ [] → 0 < length items
some_lines flow [] f p is some = absurd (some (ap (λ (g : Followed). g.opened.walk) (sym (same_Some (nothing_at p) f is))))
some_lines flow (item ∷ items) f p is some = omega arith
