-- A walk without some of its idle edges has the same contradictions, where all that is left is possible.
use Rattle.std.proofs.Common.{◌≡◌, ◌∙◌, ℕ, zero, suc, ◌+◌, ◌<◌, ◌≤◌, ◌⊎◌, inl, inr, Bool, true, false, List, [], ◌∷◌, ◌++◌, append-nil, append_assoc, length, map, flat_map, take, get_or, Option, Some, All, Vec, refl, sym, ap, subst}
use Rattle.std.specs.Prelude.{◌↔◌, ◌&&◌}
use Rattle.std.specs.List.{repeat}
use Rattle.std.specs.Global.{Global}
use Rattle.std.specs.declared.rc.Rc.{Rc}
use Rattle.std.proofs.lemmas.List.{get_or_default, take_more, take_all}
use Rattle.std.proofs.lemmas.List.Elements.{All-append, All-cons, All-head, All-nil, All-tail}
use Rattle.std.proofs.lemmas.List.Concat.{flat_map-cons}
use Rattle.std.proofs.lemmas.List.Folds.{flat_map-map}
use Rattle.std.proofs.lemmas.Grind.{flat_map-append}
use Rattle.arm2_decode.specs.declared.flags.Flags.{Flags}
use Rattle.arm2_decode.specs.declared.names.Cond.TheVariants.{Al}
use Rattle.control_flow.proofs.EdgeLemmas.{one_action_at}
use Rattle.control_flow.specs.Places.{place_address}
use Rattle.control_flow.specs.declared.actions.Action.{Action}
use Rattle.control_flow.specs.declared.edges.Edge.{Edge}
use Rattle.image.specs.Image.{Words}
use Rattle.longest_walk.specs.Folded.{Opened, open_item, unfolded}
use Rattle.longest_walk.specs.declared.folded.Item.{Item}
use Rattle.longest_walk.specs.declared.folded.Item.TheVariants.{Step, Repeat}
use Rattle.longest_walk.proofs.Opening.{open-repeat, open-step}
use Rattle.text_explained.specs.Taken.{is_at}
use Rattle.walk_contradictions.specs.Contradictions.{Contradicts, IsContradicted}
use Rattle.walk_contradictions.specs.Outcomes.{Exclude, Gives, MaySet, NoneSets, Tells}
use Rattle.walk_contradictions.specs.Sieve.{IsIdle, IsLeft, IsPossible, IsSieve, Sifts}
use Rattle.walk_contradictions.specs.declared.outcomes.Outcome.{Outcome}
use Rattle.walk_contradictions.specs.declared.sieve.Sieve.{Sieve}

both : (x y : Bool) → (x && y) ≡ true → (x ≡ true) × (y ≡ true)
both true y is = (refl, is)
both false y is = absurd (cc)

All-repeat : {X : Type 0} (P : X → Type 0) (k : ℕ) (xs : List X) → All P xs → All P (repeat k xs)
All-repeat P zero xs all = All-nil P
All-repeat P (suc k) xs all = All-append P xs (repeat k xs) all (All-repeat P k xs all)

All-front : {X : Type 0} (P : X → Type 0) (xs ys : List X) → All P (xs ++ ys) → All P xs
All-front P [] ys all = All-nil P
All-front P (x ∷ xs) ys all = All-cons P x xs (All-head P x (xs ++ ys) all) (All-front P xs ys (All-tail P x (xs ++ ys) all))

All-back : {X : Type 0} (P : X → Type 0) (xs ys : List X) → All P (xs ++ ys) → All P ys
All-back P [] ys all = all
All-back P (x ∷ xs) ys all = All-back P xs ys (All-tail P x (xs ++ ys) all)

-- ## Items

unfolded_append : (xs ys : List Item) → unfolded (xs ++ ys) ≡ unfolded xs ++ unfolded ys
unfolded_append xs ys =
    flat_map-map (λ (o : Opened). o.walk) open_item (xs ++ ys) ∙ flat_map-append (λ (i : Item). (open_item i).walk) xs ys
    ∙ ap (λ zs. zs ++ flat_map (λ (i : Item). (open_item i).walk) ys) (sym (flat_map-map (λ (o : Opened). o.walk) open_item xs))
    ∙ ap (λ zs. unfolded xs ++ zs) (sym (flat_map-map (λ (o : Opened). o.walk) open_item ys))

unfolded_one : (item : Item) → unfolded (item ∷ []) ≡ (open_item item).walk
unfolded_one item = append-nil (open_item item).walk

unfolded_push : (xs : List Item) (item : Item) (walk : List Edge) → (open_item item).walk ≡ walk → unfolded (xs ++ item ∷ []) ≡ unfolded xs ++ walk
unfolded_push xs item walk is = unfolded_append xs (item ∷ []) ∙ ap (λ zs. unfolded xs ++ zs) (unfolded_one item ∙ is)

pub step_of : (item : Item) (e : Edge) → item ≡ Step e → (open_item item).walk ≡ e ∷ []
step_of item e is = ap (λ (i : Item). (open_item i).walk) is ∙ ap (λ (o : Opened). o.walk) (open-step e)

pub rounds_of : (item : Item) (k : ℕ) (body : Rc (Vec Item Global) Global) (items : List Item) → item ≡ Repeat k body → items ≡ body.value.items
    → (open_item item).walk ≡ repeat k (unfolded items)
rounds_of item k body items is are =
    ap (λ (i : Item). (open_item i).walk) is ∙ ap (λ (o : Opened). o.walk) (open-repeat k body) ∙ ap (λ (xs : List Item). repeat k (unfolded xs)) (sym are)

module _ (words : Words) where
  -- ## What is left

  left_append : (v w l m : List Edge) → IsLeft words v l → IsLeft words w m → IsLeft words (v ++ w) (l ++ m)
  left_append [] w l m none left = subst (λ (x : List Edge). IsLeft words w (x ++ m)) (sym none) left
  left_append (e ∷ v) w l m (inl (idle, rest)) left = inl (idle, left_append v w l m rest left)
  left_append (e ∷ v) w l m (inr (k, is, rest)) left = inr (k ++ m, ap (λ (x : List Edge). x ++ m) is, left_append v w k m rest left)

  left_repeat : (k : ℕ) (w l : List Edge) → IsLeft words w l → IsLeft words (repeat k w) (repeat k l)
  left_repeat zero w l left = refl
  left_repeat (suc k) w l left = left_append w (repeat k w) l (repeat k l) left (left_repeat k w l left)

  none_left : (w l : List Edge) → IsLeft words w l → NoneSets words w → NoneSets words l
  none_left [] l is none = subst (NoneSets words) (sym is) none
  none_left (e ∷ w) l (inl (idle, rest)) none = none_left w l rest (All-tail (λ (x : Edge). MaySet words x → ⊥) e w none)
  none_left (e ∷ w) l (inr (k, is, rest)) none =
      subst (NoneSets words) (sym is)
      (All-cons (λ (x : Edge). MaySet words x → ⊥) e k (All-head (λ (x : Edge). MaySet words x → ⊥) e w none)
      (none_left w k rest (All-tail (λ (x : Edge). MaySet words x → ⊥) e w none)))

  none_back : (w l : List Edge) → IsLeft words w l → NoneSets words l → NoneSets words w
  none_back [] l is none = All-nil (λ (x : Edge). MaySet words x → ⊥)
  none_back (e ∷ w) l (inl (idle, rest)) none = All-cons (λ (x : Edge). MaySet words x → ⊥) e w idle.leaves (none_back w l rest none)
  none_back (e ∷ w) l (inr (k, is, rest)) none =
      let none_k : NoneSets words (e ∷ k) = subst (NoneSets words) is none in
      All-cons (λ (x : Edge). MaySet words x → ⊥) e w (All-head (λ (x : Edge). MaySet words x → ⊥) e k none_k)
      (none_back w k rest (All-tail (λ (x : Edge). MaySet words x → ⊥) e k none_k))

  -- ## Parts of a walk, and what is left of each

  record Parts (v w left : List Edge) : Type 0 where
    pub front : List Edge
    pub back : List Edge
    pub is : left ≡ front ++ back
    pub of_front : IsLeft words v front
    pub of_back : IsLeft words w back

  parts : (v w left : List Edge) → IsLeft words (v ++ w) left → Parts v w left
  parts [] w left is = record { front = []; back = left; is = refl; of_front = refl; of_back = is }
  parts (e ∷ v) w left (inl (idle, rest)) =
      let p = parts v w left rest in record { front = p.front; back = p.back; is = p.is; of_front = inl (idle, p.of_front); of_back = p.of_back }
  parts (e ∷ v) w left (inr (k, is, rest)) =
      let p = parts v w k rest in
      record { front = e ∷ p.front; back = p.back; is = is ∙ ap (λ (x : List Edge). e ∷ x) p.is; of_front = inr (p.front, refl, p.of_front); of_back = p.of_back }

  record Found (walk front : List Edge) (e : Edge) (back : List Edge) : Type 0 where
    pub before : List Edge
    pub behind : List Edge
    pub is : walk ≡ before ++ e ∷ behind
    pub of_front : IsLeft words before front
    pub of_back : IsLeft words behind back

  more : (d : Edge) (walk front : List Edge) (e : Edge) (back kept : List Edge) → IsLeft words (d ∷ []) kept → Found walk front e back → Found (d ∷ walk) (kept ++ front) e back
  more d walk front e back kept left f = record {
    before = d ∷ f.before;
    behind = f.behind;
    is = ap (λ (x : List Edge). d ∷ x) f.is;
    of_front = left_append (d ∷ []) f.before kept front left f.of_front;
    of_back = f.of_back;
  }

  found : (walk front : List Edge) (e : Edge) (back : List Edge) → IsLeft words walk (front ++ e ∷ back) → Found walk front e back
  found [] [] e back is = absurd (cc)
  found [] (f ∷ front) e back is = absurd (cc)
  found (d ∷ walk) front e back (inl (idle, rest)) = more d walk front e back [] (inl (idle, refl)) (found walk front e back rest)
  found (d ∷ walk) [] e back (inr (k, is, rest)) =
      let head : e ≡ d = cc in
      let tail : back ≡ k = cc in
      record {
        before = [];
        behind = walk;
        is = ap (λ (x : Edge). x ∷ walk) (sym head);
        of_front = refl;
        of_back = subst (IsLeft words walk) (sym tail) rest;
      }
  found (d ∷ walk) (f ∷ front) e back (inr (k, is, rest)) =
      let head : f ≡ d = cc in
      let tail : k ≡ front ++ e ∷ back = cc in
      subst (λ (x : Edge). Found (d ∷ walk) (x ∷ front) e back) (sym head)
      (more d walk front e back (d ∷ []) (inr ([], refl, refl)) (found walk front e back (subst (IsLeft words walk) tail rest)))

  -- ## Contradictions

  abbrev always : Outcome
  always = record { cond = Al; holds = true }

  gives_always : (flags : Flags) → Gives flags always
  gives_always flags = refl

  one_outcome : (e : Edge) (one other : Outcome) → Tells words e one → Tells words e other → one ≡ other
  one_outcome e one other t u =
      let same : t.action ≡ u.action = one_action_at words (place_address e.from) t.action u.action t.has u.has in
      let cond_is : one.cond ≡ other.cond = t.cond ∙ ap (λ (a : Action). a.cond) same ∙ sym u.cond in
      let holds_is : one.holds ≡ other.holds = t.holds ∙ sym u.holds in
      ap (λ c. record { cond = c; holds = one.holds }) cond_is ∙ ap (λ (h : Bool). record { cond = other.cond; holds = h }) holds_is

  gives_idle : (e : Edge) (o : Outcome) → IsIdle words e → Tells words e o → (flags : Flags) → Gives flags o
  gives_idle e o idle tells flags = subst (Gives flags) (one_outcome e always o idle.tells tells) (gives_always flags)

  some_flags : Flags
  some_flags = record { negative = false; zero = false; carry = false; overflow = false }

  -- of two edges with outcomes that exclude one another none is idle
  both_kept : (first second : Edge) (one other : Outcome) → Tells words first one → Tells words second other → Exclude one other
      → (IsIdle words second ⊎ IsPossible words second) → IsIdle words first → ⊥
  both_kept first second one other t u excluded (inl idle) first_idle = excluded some_flags (gives_idle first one first_idle t some_flags) (gives_idle second other idle u some_flags)
  both_kept first second one other t u excluded (inr possible) first_idle =
      let p = possible other u in excluded p.0 (gives_idle first one first_idle t p.0) p.1

  flipped : (one other : Outcome) → Exclude one other → Exclude other one
  flipped one other excluded flags gives_other gives_one = excluded flags gives_one gives_other

  to_walk : (walk left : List Edge) → IsLeft words walk left → (first second : Edge) → Contradicts words left first second → Contradicts words walk first second
  to_walk walk left is first second c =
      let f = found walk c.before first (c.between ++ second ∷ c.behind)
      (subst (IsLeft words walk) (c.walk_is ∙ append_assoc c.before (first ∷ c.between) (second ∷ c.behind)) is) in
      let s = found f.behind c.between second c.behind f.of_back in
      record {
        before = f.before;
        between = s.before;
        behind = s.behind;
        walk_is = f.is ∙ ap (λ (x : List Edge). f.before ++ (first ∷ x)) s.is ∙ sym (append_assoc f.before (first ∷ s.before) (second ∷ s.behind));
        none_sets = All-cons (λ (x : Edge). MaySet words x → ⊥) first s.before
            (All-head (λ (x : Edge). MaySet words x → ⊥) first c.between c.none_sets)
            (none_back s.before c.between s.of_front (All-tail (λ (x : Edge). MaySet words x → ⊥) first c.between c.none_sets));
        one = c.one;
        other = c.other;
        tells_one = c.tells_one;
        tells_other = c.tells_other;
        excluded = c.excluded;
      }

  record Kept (e : Edge) (walk left : List Edge) : Type 0 where
    pub rest : List Edge
    pub is : left ≡ e ∷ rest
    pub of_rest : IsLeft words walk rest

  kept_or_idle : (e : Edge) (walk left : List Edge) → IsLeft words (e ∷ walk) left → IsIdle words e ⊎ Kept e walk left
  kept_or_idle e walk left (inl (idle, rest)) = inl idle
  kept_or_idle e walk left (inr (k, is, rest)) = inr (record { rest = k; is = is; of_rest = rest })

  module _ (walk left : List Edge) (is : IsLeft words walk left) (possible : All (IsPossible words) left) (first second : Edge) (c : Contradicts words walk first second) where
    one_part : Parts c.before ((first ∷ c.between) ++ second ∷ c.behind) left
    one_part = parts c.before ((first ∷ c.between) ++ second ∷ c.behind) left
        (subst (λ (w : List Edge). IsLeft words w left) (c.walk_is ∙ append_assoc c.before (first ∷ c.between) (second ∷ c.behind)) is)

    two_part : Parts (first ∷ c.between) (second ∷ c.behind) one_part.back
    two_part = parts (first ∷ c.between) (second ∷ c.behind) one_part.back one_part.of_back

    possible_back : All (IsPossible words) two_part.back
    possible_back =
        All-back (IsPossible words) two_part.front two_part.back
        (subst (All (IsPossible words)) two_part.is (All-back (IsPossible words) one_part.front one_part.back (subst (All (IsPossible words)) one_part.is possible)))

    possible_front : All (IsPossible words) two_part.front
    possible_front =
        All-front (IsPossible words) two_part.front two_part.back
        (subst (All (IsPossible words)) two_part.is (All-back (IsPossible words) one_part.front one_part.back (subst (All (IsPossible words)) one_part.is possible)))

    of_kept : (e : Edge) (w l : List Edge) → All (IsPossible words) l → IsIdle words e ⊎ Kept e w l → IsIdle words e ⊎ IsPossible words e
    of_kept e w l all (inl idle) = inl idle
    of_kept e w l all (inr k) = inr (All-head (IsPossible words) e k.rest (subst (All (IsPossible words)) k.is all))

    by_kept : IsIdle words first ⊎ Kept first c.between two_part.front → IsIdle words second ⊎ Kept second c.behind two_part.back → Contradicts words left first second
    by_kept (inl idle) k =
        absurd (both_kept first second c.one c.other c.tells_one c.tells_other c.excluded (of_kept second c.behind two_part.back possible_back k) idle)
    by_kept (inr k) (inl idle) =
        absurd (both_kept second first c.other c.one c.tells_other c.tells_one (flipped c.one c.other c.excluded) (of_kept first c.between two_part.front possible_front (inr k)) idle)
    by_kept (inr k) (inr l) = record {
      before = one_part.front;
      between = k.rest;
      behind = l.rest;
      walk_is = one_part.is ∙ ap (λ (x : List Edge). one_part.front ++ x)
          (two_part.is ∙ ap (λ (x : List Edge). x ++ two_part.back) k.is ∙ ap (λ (x : List Edge). (first ∷ k.rest) ++ x) l.is)
          ∙ sym (append_assoc one_part.front (first ∷ k.rest) (second ∷ l.rest));
      none_sets = All-cons (λ (x : Edge). MaySet words x → ⊥) first k.rest
          (All-head (λ (x : Edge). MaySet words x → ⊥) first c.between c.none_sets)
          (none_left c.between k.rest k.of_rest (All-tail (λ (x : Edge). MaySet words x → ⊥) first c.between c.none_sets));
      one = c.one;
      other = c.other;
      tells_one = c.tells_one;
      tells_other = c.tells_other;
      excluded = c.excluded;
    }

    to_left : Contradicts words left first second
    to_left = by_kept (kept_or_idle first c.between two_part.front two_part.of_front) (kept_or_idle second c.behind two_part.back two_part.of_back)

  pub same_contradictions : (walk : List Edge) (sieve : Sieve) → IsSieve words walk sieve → sieve.possible ≡ true → (a : ℕ)
      → IsContradicted words (unfolded sieve.items.items) a ↔ IsContradicted words walk a
  same_contradictions walk sieve is possible a = (
    λ i. record { first = i.first; second = i.second; contradicts = to_walk walk _ is.left i.first i.second i.contradicts; is_one = i.is_one },
    λ i. record { first = i.first; second = i.second; contradicts = to_left walk _ is.left (is.possible possible) i.first i.second i.contradicts; is_one = i.is_one },
  )

  -- ## How it is made

  pub idle_sifts : (e : Edge) (sieve : Sieve) → IsIdle words e → Sifts words (e ∷ []) sieve sieve
  idle_sifts e sieve idle = record {
    kept = [];
    left = inl (idle, refl);
    items = sym (append-nil (unfolded sieve.items.items));
    possible = λ is. (is, All-nil (IsPossible words));
  }

  pub step_sifts : (e : Edge) (old new : Sieve) (is_possible : Bool) → new.items.items ≡ old.items.items ++ Step e ∷ [] → new.possible ≡ (old.possible && is_possible)
      → (is_possible ≡ true → IsPossible words e) → Sifts words (e ∷ []) old new
  step_sifts e old new is_possible items possible e_is = record {
    kept = e ∷ [];
    left = inr ([], refl, refl);
    items = ap unfolded items ∙ unfolded_push old.items.items (Step e) (e ∷ []) (step_of (Step e) e refl);
    possible = λ is. let h = both old.possible is_possible (sym possible ∙ is) in (h.0, All-cons (IsPossible words) e [] (e_is h.1) (All-nil (IsPossible words)));
  }

  pub rounds_sift : (k : ℕ) (body : List Edge) (inner old new : Sieve) (made : Rc (Vec Item Global) Global) → IsSieve words body inner → made.value.items ≡ inner.items.items
      → new.items.items ≡ old.items.items ++ Repeat k made ∷ [] → new.possible ≡ (old.possible && inner.possible) → Sifts words (repeat k body) old new
  rounds_sift k body inner old new made sieve made_is items possible = record {
    kept = repeat k (unfolded inner.items.items);
    left = left_repeat k body (unfolded inner.items.items) sieve.left;
    items = ap unfolded items ∙ unfolded_push old.items.items (Repeat k made) (repeat k (unfolded inner.items.items)) (rounds_of (Repeat k made) k made inner.items.items refl (sym made_is));
    possible = λ is.
        let h = both old.possible inner.possible (sym possible ∙ is) in
        (h.0, All-repeat (IsPossible words) k (unfolded inner.items.items) (sieve.possible h.1));
  }

  pub sieve_none : (sieve : Sieve) → sieve.items.items ≡ [] → IsSieve words [] sieve
  sieve_none sieve none = record {
    left = ap unfolded none;
    possible = λ is. subst (λ (xs : List Item). All (IsPossible words) (unfolded xs)) (sym none) (All-nil (IsPossible words));
  }

  sieve_more : (v w : List Edge) (old new : Sieve) → IsSieve words v old → Sifts words w old new → IsSieve words (v ++ w) new
  sieve_more v w old new sieve sifts = record {
    left = subst (IsLeft words (v ++ w)) (sym sifts.items) (left_append v w (unfolded old.items.items) sifts.kept sieve.left sifts.left);
    possible = λ is.
        let h = sifts.possible is in
        subst (All (IsPossible words)) (sym sifts.items) (All-append (IsPossible words) (unfolded old.items.items) sifts.kept (sieve.possible h.0) h.1);
  }

  pub sieve_item : (items : List Item) (k : ℕ) (item : Item) (old new : Sieve) → k < length items → item ≡ get_or items k item → IsSieve words (unfolded (take k items)) old
      → Sifts words (open_item item).walk old new → IsSieve words (unfolded (take (k + 1) items)) new
  sieve_item items k item old new lt at sieve sifts =
      subst (λ (w : List Edge). IsSieve words w new)
      (sym (ap unfolded (take_more items k item lt ∙ ap (λ (i : Item). take k items ++ i ∷ []) (sym at)) ∙ unfolded_push (take k items) item (open_item item).walk refl))
      (sieve_more (unfolded (take k items)) (open_item item).walk old new sieve sifts)

  pub sieve_all : (items : List Item) (k : ℕ) (sieve : Sieve) → length items ≤ k → IsSieve words (unfolded (take k items)) sieve → IsSieve words (unfolded items) sieve
  sieve_all items k sieve all is = subst (λ (xs : List Item). IsSieve words (unfolded xs) sieve) (take_all k items all) is
