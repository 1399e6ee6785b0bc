-- The first lines of a walk, as far as they were followed.
use Rattle.std.proofs.Common.{◌≡◌, ◌∙◌, ℕ, ◌+◌, ◌<◌, ◌≤◌, Bool, true, false, List, [], ◌∷◌, ◌++◌, length, get_or, map, take, drop, Some, option_and_then, refl, sym, ap, subst, arith, add-one, append-nil, append_assoc}
use Rattle.std.specs.Prelude.{option_map}
use Rattle.std.proofs.Math.Seq.{take-suc}
use Rattle.std.proofs.lemmas.List.{take_all, take-append-drop}
use Rattle.std.proofs.lemmas.List.Elements.{All-append, All-nil}
use Rattle.walks.specs.Walk.{Leads}
use Rattle.walks.proofs.Leading.{Leads-append}
use Rattle.control_flow.specs.declared.places.Place.{Place}
use Rattle.control_flow.specs.declared.places.Place.TheVariants.{Exit}
use Rattle.control_flow.specs.declared.edges.Edge.{Edge}
use Rattle.control_flow.specs.Flow.{Flow, HasEdge, IsWellFormed, edge_shape}
use Rattle.numbered_walks.specs.declared.span.Span.{Span}
use Rattle.loop_bounds.specs.Tree.{IsTree, Tree}
use Rattle.longest_walk.specs.Folded.{IsCount}
use Rattle.longest_walk.specs.Longest.{AreRepeats, IsBody}
use Rattle.certificate.specs.declared.walk.CertItem.{CertItem}
use Rattle.cert_check.specs.declared.index.Index.{Index}
use Rattle.cert_check.specs.declared.walker.Walker.{Walker}
use Rattle.cert_check.specs.Failing.{BreaksAt}
use Rattle.cert_check.specs.Followed.{Followed, follow_both, follow_item, follow_row, followed, nothing_at}
use Rattle.cert_check.specs.Straying.{StraysAt}
use Rattle.cert_check.specs.Verdict.{IsFollowed}
use Rattle.cert_check.specs.Walking.{CanFollow, Follows, IsRefused, IsTaken}
use Rattle.cert_check.proofs.WalkFollowing.{follows_more, in_row, refused_first, taken_none}
use Rattle.cert_check.proofs.WalkParts.{All-left, All-right, leads_left, leads_right}

-- ## Lines that were followed, and others after them

pub take_more : (items : List CertItem) (i : ℕ) (item : CertItem) (rest : List CertItem) → i < length items → item ≡ get_or items i item → take i items ++ item ∷ rest ≡ take (i + 1) items ++ rest
take_more items i item rest lt at =
    ap (λ (x : CertItem). take i items ++ x ∷ rest) at ∙ sym (append_assoc (take i items) (get_or items i item ∷ []) rest)
    ∙ ap (λ (xs : List CertItem). xs ++ rest) (sym (take-suc items i item lt) ∙ ap (λ (n : ℕ). take n items) (sym (add-one i)))

module _ (flow : Flow) (tree : Tree) (index : Index) (within : Span) (levels : ℕ) (items : List CertItem) where
  -- what following other lines from here yields, it yields with the first lines before them
  abbrev pub Fronts : ℕ → Walker → Walker → Type 0
  Fronts i x y =
      (new : Walker) (rest : List CertItem) (b : Bool) → Follows flow tree index within levels (length rest) (followed flow rest) y new b
      → Follows flow tree index within levels (length (take i items ++ rest)) (followed flow (take i items ++ rest)) x new b

  module _ (well : IsWellFormed flow) (i : ℕ) (x y : Walker) (front : Fronts i x y) where
    pub fronts_more : (z : Walker) (item : CertItem) → i < length items → item ≡ get_or items i item → IsTree flow tree → IsTaken flow tree index within levels 1 (follow_item flow item) y z → Fronts (i + 1) x z
    fronts_more z item lt at t taken new rest b more =
        subst (λ (xs : List CertItem). Follows flow tree index within levels (length xs) (followed flow xs) x new b) (take_more items i item rest lt at)
        (front new (item ∷ rest) b (follows_more flow tree index well within levels item rest y z new b t taken more))

    fronts_taken : CanFollow flow tree index within y → IsTaken flow tree index within levels (length (take i items)) (followed flow (take i items)) x y
    fronts_taken can =
        subst (λ (xs : List CertItem). Follows flow tree index within levels (length xs) (followed flow xs) x y true) (append-nil (take i items))
        (front y [] true (taken_none flow tree index well within levels y can))

    pub fronts_all : length items ≤ i → CanFollow flow tree index within y → IsTaken flow tree index within levels (length items) (followed flow items) x y
    fronts_all past can = subst (λ (xs : List CertItem). Follows flow tree index within levels (length xs) (followed flow xs) x y true) (take_all i items past) (fronts_taken can)

    pub fronts_stray : (item : CertItem) → i < length items → item ≡ get_or items i item → CanFollow flow tree index within y → IsRefused flow tree within levels (follow_item flow item) y.number → StraysAt flow tree index within levels items x i
    fronts_stray item lt at can refused = record {
      inside = lt;
      here = y;
      taken = fronts_taken can;
      refused = subst (λ (xs : List CertItem). Follows flow tree index within levels (length xs) (followed flow xs) x y false) (take_more items i item [] lt at ∙ append-nil (take (i + 1) items))
          (front y (item ∷ []) false (refused_first flow tree index well within levels y.number (follow_item flow item) [] refused));
    }

  pub fronts_none : (x : Walker) → Fronts 0 x x
  fronts_none x new rest b more = more

-- ## The front of a walk that was followed

module _ (flow : Flow) (tree : Tree) (levels : ℕ) where
  record IsFront (items : List CertItem) (p s : Place) : Type 0 where
    walk : Followed
    walk_is : followed flow items p ≡ Some walk
    end : Place
    leads : Leads edge_shape (HasEdge flow) s walk.opened.walk end
    repeats : AreRepeats flow tree levels walk.opened

  front_of : (xs ys : List CertItem) (p s q : Place) (f : Followed) → followed flow (xs ++ ys) p ≡ Some f → Leads edge_shape (HasEdge flow) s f.opened.walk q → AreRepeats flow tree levels f.opened → IsFront xs p s
  front_of [] ys p s q f is leads repeats = record {
    walk = nothing_at p;
    walk_is = refl;
    end = s;
    leads = refl;
    repeats = record { bodies = All-nil (IsBody flow tree); counts = All-nil IsCount; shallow = omega arith };
  }
  front_of (x ∷ xs) ys p s q f is leads repeats =
      let r = in_row (follow_item flow x) (map (follow_item flow) (xs ++ ys)) p f is in
      let v : List Edge = r.front.opened.walk in
      let w : List Edge = r.back.opened.walk in
      let go : Leads edge_shape (HasEdge flow) s (v ++ (w ++ [])) q = subst (λ (g : Followed). Leads edge_shape (HasEdge flow) s g.opened.walk q) (sym r.both_is) leads in
      let good : AreRepeats flow tree levels (follow_both r.front.opened r.back).opened = subst (λ (g : Followed). AreRepeats flow tree levels g.opened) (sym r.both_is) repeats in
      let first = leads_left edge_shape (HasEdge flow) s q v (w ++ []) go in
      let after : Leads edge_shape (HasEdge flow) first.0 (w ++ []) q = leads_right edge_shape (HasEdge flow) s first.0 q v (w ++ []) go first.1 in
      let more = front_of xs ys r.front.at first.0 q r.back r.back_is
      (subst (λ (u : List Edge). Leads edge_shape (HasEdge flow) first.0 u q) (append-nil w) after)
      (record {
        bodies = All-left (IsBody flow tree) r.back.opened.bodies [] (All-right (IsBody flow tree) r.front.opened.bodies (r.back.opened.bodies ++ []) good.bodies);
        counts = All-left IsCount r.back.opened.counts [] (All-right IsCount r.front.opened.counts (r.back.opened.counts ++ []) good.counts);
        shallow = omega (arith, good.shallow);
      }) in
      record {
        walk = follow_both r.front.opened more.walk;
        walk_is = ap (option_and_then (λ g. option_map (follow_both g.opened) (follow_row (map (follow_item flow) xs) g.at))) r.front_is
            ∙ ap (option_map (follow_both r.front.opened)) more.walk_is;
        end = more.end;
        leads = Leads-append edge_shape (HasEdge flow) s first.0 more.end v (more.walk.opened.walk ++ []) first.1
            (subst (λ (u : List Edge). Leads edge_shape (HasEdge flow) first.0 u more.end) (sym (append-nil more.walk.opened.walk)) more.leads);
        repeats = record {
          bodies = All-append (IsBody flow tree) r.front.opened.bodies (more.walk.opened.bodies ++ []) (All-left (IsBody flow tree) r.front.opened.bodies (r.back.opened.bodies ++ []) good.bodies)
              (All-append (IsBody flow tree) more.walk.opened.bodies [] more.repeats.bodies (All-nil (IsBody flow tree)));
          counts = All-append IsCount r.front.opened.counts (more.walk.opened.counts ++ []) (All-left IsCount r.front.opened.counts (r.back.opened.counts ++ []) good.counts)
              (All-append IsCount more.walk.opened.counts [] more.repeats.counts (All-nil IsCount));
          shallow = omega (arith, good.shallow, more.repeats.shallow);
        };
      }

-- a walk that was followed has each of its fronts
pub breaks_none : (flow : Flow) (tree : Tree) (items : List CertItem) (i : ℕ) → BreaksAt flow tree items i → (walk : Followed) × IsFollowed flow tree items walk → ⊥
breaks_none flow tree items i b (f, is) =
    let front = front_of flow tree 16 (take (i + 1) items) (drop (i + 1) items) flow.entry flow.entry Exit f
    (ap (λ (xs : List CertItem). followed flow xs flow.entry) (take-append-drop (i + 1) items) ∙ is.followed_is) is.complete is.repeats in
    b.fails front.end (record { walk = front.walk; followed_is = front.walk_is; leads = front.leads; repeats = front.repeats })
