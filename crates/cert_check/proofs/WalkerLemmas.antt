-- What is said of a walk, with an edge more, and with the rounds of a repeat in place of one.
use Rattle.std.proofs.Common.{◌≡◌, ◌≢◌, ◌∙◌, ℕ, zero, suc, ◌+◌, ◌-◌, ◌*◌, ◌<◌, ◌≤◌, ◌^◌, min, max, Bool, true, false, cond, ◌&&◌, List, [], ◌∷◌, ◌++◌, length, get_or, slice_set, All, Contains, Option, Some, None, ◌⊎◌, inl, inr, ⊎_elim, refl, sym, ap, subst, arith, append-nil, get_or-set_same, get_or-set_other}
use Rattle.std.proofs.lemmas.Bool.{and_from, cases_Bool, cases_eq, cases_lt, le-ltb, lt-ltb, ne_eqb}
use Rattle.std.specs.Option.{option_or}
use Rattle.std.proofs.lemmas.Option.{none-some, same_Some}
use Rattle.std.proofs.lemmas.List.Elements.{All-head, All-tail, All-weaker}
use Rattle.std.proofs.lemmas.List.Sums.{sum_by-cons}
use Rattle.std.specs.List.{repeat}
use Rattle.walks.specs.declared.limits.TheConstants.{MOST_ROUNDS}
use Rattle.walks.specs.Segments.{count, head, most, tail, whole}
use Rattle.walks.proofs.Joins as J
use Rattle.walks.proofs.Leading.{cost-append, cost-repeated}
use Rattle.walks.proofs.Segments.{rounds_head, tail-le-most}
use Rattle.numbered_walks.specs.declared.span.NumberedEdge.{NumberedEdge}
use Rattle.numbered_walks.specs.declared.span.Span.{Span}
use Rattle.numbered_walks.specs.Index.{AreHeaders}
use Rattle.numbered_walks.specs.Ordered.{HoldsAll, IsOrdered, Leads, cost_of, ends_at_header, is_in, is_inside, number_shape}
use Rattle.numbered_walks.specs.Reach.{most_in}
use Rattle.numbered_walks.proofs.Members.{header_in, member_header}
use Rattle.numbered_walks.proofs.Nesting.{same_header}
use Rattle.cert_check.specs.declared.walker.Walker.{Walker}
use Rattle.walk_counts.specs.Spans.{header_at, turns_at_end}
use Rattle.walk_counts.proofs.StayLemmas.{edge_back, edge_elsewhere, edge_from_outside, edge_in_stay, span_there}
use Rattle.cert_check.specs.Walking.{Adds, Arrives, IsWalkerAfter, broken_by, capped_cost, gained, turns_after}

-- ## Numbers

times-le : (k d : ℕ) → 0 < k → d ≤ k * d
times-le k d some = grind arith

gained-exact : (limit a b k : ℕ) → 0 < k → min (min (min a limit) limit + k * (min (min (a + b) limit) limit - min a limit)) limit ≡ min (a + k * b) limit
gained-exact limit a b k some = ⊎_elim
    (λ (small : a + b < limit).
    let once : min (min (a + b) limit) limit - min a limit ≡ b = omega arith in
    rw once (omega arith))
    (λ (large : limit ≤ a + b).
    let d : ℕ = min (min (a + b) limit) limit - min a limit in
    let up : d ≤ k * d = times-le k d some in
    let most_b : b ≤ k * b = times-le k b some in
    let reaches : min (min a limit) limit + d ≡ limit = omega arith in
    let left : min (min (min a limit) limit + k * d) limit ≡ limit = omega arith in
    let right : min (a + k * b) limit ≡ limit = omega arith in
    left ∙ sym right)
    (cases_lt (a + b) limit)

gained_is : (a b k : ℕ) → 0 < k → gained (capped_cost a) (capped_cost (a + b)) k ≡ capped_cost (a + k * b)
gained_is a b k some = gained-exact (2 ^ 64) a b k some

-- the first of two, if there is one
or_some : (a b : Option Span) (s : Span) → option_or a b ≡ Some s → (a ≡ Some s) ⊎ ((a ≡ None) × (b ≡ Some s))
or_some None b s is = inr (refl, is)
or_some (Some t) b s is = inl is

or_none : (a b : Option Span) → option_or a b ≡ None → (a ≡ None) × (b ≡ None)
or_none None b is = (refl, is)
or_none (Some t) b is = absurd (none-some t (sym is))

module _ (s : Span) (turns : ℕ) where
  broken_more : s.bound < turns → broken_by (Some s) turns ≡ Some s
  broken_more more = ap (λ (b : Bool). cond {A = Option Span} b (Some s) None) (lt-ltb s.bound turns more)

  broken_few : turns ≤ s.bound → broken_by (Some s) turns ≡ None
  broken_few few = ap (λ (b : Bool). cond {A = Option Span} b (Some s) None) (le-ltb s.bound turns few)

broken_some : (o : Option Span) (turns : ℕ) (s : Span) → broken_by o turns ≡ Some s → (o ≡ Some s) × (s.bound < turns)
broken_some None turns s is = absurd (none-some s is)
broken_some (Some t) turns s is = ⊎_elim
    (λ (more : t.bound < turns).
    let same : t ≡ s = same_Some t s (sym (broken_more t turns more) ∙ is) in
    (ap (λ (x : Span). Some x) same, subst (λ (x : Span). x.bound < turns) same more))
    (λ (few : turns ≤ t.bound). absurd (none-some s (sym (broken_few t turns few) ∙ is)))
    (cases_lt t.bound turns)

broken_none : (o : Option Span) (turns : ℕ) (s : Span) → o ≡ Some s → broken_by o turns ≡ None → turns ≤ s.bound
broken_none o turns s at is = ⊎_elim
    (λ (more : s.bound < turns). absurd (none-some s (sym is ∙ ap (λ (x : Option Span). broken_by x turns) at ∙ broken_more s turns more)))
    (λ few. few)
    (cases_lt s.bound turns)

-- ## Stretches

module _ {E : Type 0} (inside turns : E → Bool) (w : List E) where
  -- a walk that lies inside, after another
  whole_after : (u : List E) → whole inside turns u ≡ true → (most inside turns (w ++ u) ≡ max (most inside turns w) (tail inside turns w + count inside turns u)) × (tail inside turns (w ++ u) ≡ tail inside turns w + count inside turns u)
  whole_after u all =
      let first : head inside turns u ≡ count inside turns u = J.head_whole inside turns u all in
      let own : most inside turns u ≡ count inside turns u = J.most_whole inside turns u all in
      let joins : tail inside turns (w ++ u) ≡ cond (whole inside turns u) (tail inside turns w + count inside turns u) (tail inside turns u) = J.tail-append inside turns w u in (
        omega (arith, J.most-append inside turns w u, first, own),
        joins ∙ ap (λ (b : Bool). cond b (tail inside turns w + count inside turns u) (tail inside turns u)) all,
      )

  -- the most of rounds that begin outside is that of one
  rounds_apart : (k : ℕ) (r : List E) → 0 < k → head inside turns r ≡ 0 → whole inside turns r ≡ false → most inside turns (w ++ repeat k r) ≡ most inside turns (w ++ r)
  rounds_apart k r some none part =
      let same : most inside turns (repeat k r) ≡ most inside turns r = of k some in
      omega (arith, same, J.most-append inside turns w (repeat k r), J.most-append inside turns w r, rounds_head inside turns k r none, none)
    where
      of : (n : ℕ) → 0 < n → most inside turns (repeat n r) ≡ most inside turns r
      of zero positive = absurd (omega arith)
      of (suc zero) positive = ap (most inside turns) (append-nil r)
      of (suc (suc n)) positive = omega (arith, J.most-repeated inside turns n r part, none, tail-le-most inside turns r)

-- ## One edge more, or rounds

module _ (exit : ℕ) (edges : List NumberedEdge) (spans : List Span) (order : IsOrdered exit edges spans) (headers : List (Option Span)) (all : AreHeaders spans headers) where
  -- what holds the header of an instance holds all of it
  pub holds_whole : (s r : Span) → Contains spans s → Contains spans r → is_in s r.header ≡ true → HoldsAll s r
  holds_whole s r s_in r_in here = ⊎_elim
      (λ (inner : HoldsAll r s).
      let low : r.header ≤ s.header = member_header r s.header (inner s.header (header_in exit edges spans order s s_in)) in
      let high : s.header ≤ r.header = member_header s r.header here in
      let same : r ≡ s = same_header spans order.headers_differ r s r_in s_in (omega (arith, low, high)) in
      λ n is. subst (λ (x : Span). is_in x n ≡ true) same is)
      (λ outer. outer)
      (order.nested s r s_in r_in r.header here (header_in exit edges spans order r r_in))

  -- how stays change from one walk to another, when the walker reaches a number
  pub record Changes (from to : ℕ) (v w : List NumberedEdge) : Type 0 where
    pub there : (s : Span) → Contains spans s → s.header ≡ to → most_in s w ≡ max (most_in s v) (turns_at_end s w)
    pub elsewhere : (s : Span) → Contains spans s → s.header ≢ to → most_in s w ≡ most_in s v
    pub same_stay : (s : Span) → Contains spans s → s.header ≢ to → is_in s to ≡ true → (is_in s from ≡ true) × (turns_at_end s w ≡ turns_at_end s v)

  module _ (old new : Walker) (v w : List NumberedEdge) (to cost turns : ℕ) (goes : Arrives headers to cost turns old new) (change : Changes old.number to v w) (old_after : IsWalkerAfter spans old v)
      (room : to < length old.turns.items) (cost_is : cost ≡ capped_cost (cost_of w)) (turns_is : (s : Span) → Contains spans s → s.header ≡ to → turns ≡ capped_cost (turns_at_end s w)) where
    no_less : (s : Span) → Contains spans s → most_in s v ≤ most_in s w
    no_less s has = ⊎_elim
        (λ (is : s.header ≡ to). omega (arith, change.there s has is))
        (λ (other : s.header ≢ to). omega (arith, change.elsewhere s has other))
        (cases_eq s.header to)

    turns_after_step : (s : Span) → Contains spans s → is_in s new.number ≡ true → get_or new.turns.items s.header 0 ≡ capped_cost (turns_at_end s w)
    turns_after_step s has here = ⊎_elim
        (λ (is : s.header ≡ to).
        ap (λ (xs : List ℕ). get_or xs s.header 0) goes.turns_are ∙ ap (λ (k : ℕ). get_or (slice_set old.turns.items to turns) k 0) is ∙ get_or-set_same old.turns.items to turns 0 room ∙ turns_is s has is)
        (λ (other : s.header ≢ to).
        let stay = change.same_stay s has other (subst (λ (k : ℕ). is_in s k ≡ true) goes.number_is here) in
        ap (λ (xs : List ℕ). get_or xs s.header 0) goes.turns_are ∙ get_or-set_other old.turns.items to s.header turns 0 other ∙ old_after.turns_are s has stay.0 ∙ ap capped_cost (sym stay.1))
        (cases_eq s.header to)

    broken_after_step : (s : Span) → new.over ≡ Some s → Contains spans s × (s.bound < most_in s w)
    broken_after_step s is = ⊎_elim
        (λ before. let b = old_after.broken s before in (b.0, omega (arith, b.1, no_less s b.0)))
        (λ now.
        let found = broken_some (header_at headers to) turns s now.1 in
        let known = all.known to s found.0 in
        let t : turns ≡ capped_cost (turns_at_end s w) = turns_is s known.0 known.1 in
        (known.0, omega (arith, found.1, t, change.there s known.0 known.1)))
        (or_some old.over (broken_by (header_at headers to) turns) s (sym goes.over_is ∙ is))

    kept_after_step : new.over ≡ None → (s : Span) → Contains spans s → most_in s w ≤ s.bound
    kept_after_step is s has =
        let parts = or_none old.over (broken_by (header_at headers to) turns) (sym goes.over_is ∙ is) in
        let before : most_in s v ≤ s.bound = old_after.kept parts.0 s has in
        ⊎_elim
        (λ (at : s.header ≡ to).
        let t : turns ≡ capped_cost (turns_at_end s w) = turns_is s has at in
        let few : turns ≤ s.bound = broken_none (header_at headers to) turns s (span_there exit edges spans order headers all to s has at) parts.1 in
        let small : s.bound ≤ MOST_ROUNDS = (order.shape s has).2 in
        omega (arith, t, few, small, before, change.there s has at))
        (λ (other : s.header ≢ to). omega (arith, before, change.elsewhere s has other))
        (cases_eq s.header to)

    pub after_step : IsWalkerAfter spans new w
    after_step = record { cost_is = goes.cost_is ∙ cost_is; turns_are = turns_after_step; broken = broken_after_step; kept = kept_after_step }

  -- ## An edge

  module _ (e : NumberedEdge) (in_graph : Contains edges e) (w : List NumberedEdge) where
    back : (s : Span) → Contains spans s → s.header ≡ e.to → is_in s e.from ≡ true → (most_in s (w ++ e ∷ []) ≡ max (most_in s w) (turns_at_end s w + 1)) × (turns_at_end s (w ++ e ∷ []) ≡ turns_at_end s w + 1)
    back s has = edge_back exit edges spans order e in_graph w s has

    enters : (s : Span) → Contains spans s → is_in s e.from ≡ false → (most_in s (w ++ e ∷ []) ≡ most_in s w) × (turns_at_end s (w ++ e ∷ []) ≡ 0)
    enters s has = edge_from_outside exit edges spans order e in_graph w s has

    edge_changes : Changes e.from e.to w (w ++ e ∷ [])
    edge_changes = record {
      there = λ s has is. ⊎_elim
          (λ (from_in : is_in s e.from ≡ true). let b = back s has is from_in in omega (arith, b.0, b.1))
          (λ (out : is_in s e.from ≡ false). let b = enters s has out in omega (arith, b.0, b.1))
          (cases_Bool (is_in s e.from));
      elsewhere = λ s has. edge_elsewhere exit edges spans order e in_graph w s has;
      same_stay = λ s has. edge_in_stay exit edges spans order e in_graph w s has;
    }

    turned : (o : Option Span) (s : Span) (from turns : ℕ) → o ≡ Some s → turns_after o from turns ≡ cond (is_in s from) (capped_cost (turns + 1)) 0
    turned o s from turns is = ap (λ (x : Option Span). turns_after x from turns) is

    edge_turns : (old : Walker) → old.number ≡ e.from → IsWalkerAfter spans old w → (s : Span) → Contains spans s → s.header ≡ e.to → turns_after (header_at headers e.to) e.from (get_or old.turns.items e.to 0) ≡ capped_cost (turns_at_end s (w ++ e ∷ []))
    edge_turns old from_is old_after s has is =
        turned (header_at headers e.to) s e.from (get_or old.turns.items e.to 0) (span_there exit edges spans order headers all e.to s has is)
        ∙ ⊎_elim
        (λ (from_in : is_in s e.from ≡ true).
        let before : get_or old.turns.items s.header 0 ≡ capped_cost (turns_at_end s w) = old_after.turns_are s has (subst (λ (n : ℕ). is_in s n ≡ true) (sym from_is) from_in) in
        let here : get_or old.turns.items e.to 0 ≡ capped_cost (turns_at_end s w) = ap (λ (n : ℕ). get_or old.turns.items n 0) (sym is) ∙ before in
        let after : turns_at_end s (w ++ e ∷ []) ≡ turns_at_end s w + 1 = (back s has is from_in).1 in
        let more : capped_cost (get_or old.turns.items e.to 0 + 1) ≡ capped_cost (turns_at_end s (w ++ e ∷ [])) = omega (arith, here, after) in
        ap (λ (b : Bool). cond b (capped_cost (get_or old.turns.items e.to 0 + 1)) 0) from_in ∙ more)
        (λ (out : is_in s e.from ≡ false).
        let after : turns_at_end s (w ++ e ∷ []) ≡ 0 = (enters s has out).1 in
        let none : 0 ≡ capped_cost (turns_at_end s (w ++ e ∷ [])) = omega (arith, after) in
        ap (λ (b : Bool). cond b (capped_cost (get_or old.turns.items e.to 0 + 1)) 0) out ∙ none)
        (cases_Bool (is_in s e.from))

    after_edge : (old new : Walker) → old.number ≡ e.from → e.to < length old.turns.items → Arrives headers e.to (capped_cost (old.cost + e.cost)) (turns_after (header_at headers e.to) e.from (get_or old.turns.items e.to 0)) old new → IsWalkerAfter spans old w → IsWalkerAfter spans new (w ++ e ∷ [])
    after_edge old new from_is room goes old_after =
        after_step old new w (w ++ e ∷ []) e.to (capped_cost (old.cost + e.cost)) (turns_after (header_at headers e.to) e.from (get_or old.turns.items e.to 0)) goes
        (subst (λ (n : ℕ). Changes n e.to w (w ++ e ∷ [])) (sym from_is) edge_changes) old_after room
        (let sum : cost_of (w ++ e ∷ []) ≡ cost_of w + cost_of (e ∷ []) = cost-append number_shape w (e ∷ []) in
        let last : cost_of (e ∷ []) ≡ e.cost + 0 = sum_by-cons (λ (x : NumberedEdge). x.cost) e [] in
        omega (arith, sum, last, old_after.cost_is))
        (edge_turns old from_is old_after)

  pub edge_adds : (e : NumberedEdge) → Contains edges e → (old new : Walker) → old.number ≡ e.from → e.to < length old.turns.items → Arrives headers e.to (capped_cost (old.cost + e.cost)) (turns_after (header_at headers e.to) e.from (get_or old.turns.items e.to 0)) old new → Adds spans old new (e ∷ [])
  edge_adds e in_graph old new from_is room goes w old_after = after_edge e in_graph w old new from_is room goes old_after

  -- ## Rounds

  -- a walk whose edges end inside, from inside, lies inside
  pub whole_in : (s : Span) (p q : ℕ) (v : List NumberedEdge) → Leads edges p v q → is_in s p ≡ true → All (λ e. is_in s e.to ≡ true) v → whole (is_inside s) (ends_at_header s) v ≡ true
  whole_in s p q [] leads here ends = refl
  whole_in s p q (e ∷ v) (in_graph, starts, leads) here ends =
      let to_in : is_in s e.to ≡ true = All-head (λ (x : NumberedEdge). is_in s x.to ≡ true) e v ends in
      let from_in : is_in s e.from ≡ true = subst (λ (n : ℕ). is_in s n ≡ true) (sym starts) here in
      and_from (is_inside s e) (whole (is_inside s) (ends_at_header s) v) (and_from (is_in s e.from) (is_in s e.to) from_in to_in) (whole_in s e.to q v leads to_in (All-tail (λ (x : NumberedEdge). is_in s x.to ≡ true) e v ends))

  -- one that begins outside turns first elsewhere
  starts_out : (s : Span) (p q : ℕ) (v : List NumberedEdge) → v ≢ [] → Leads edges p v q → is_in s p ≡ false → (head (is_inside s) (ends_at_header s) v ≡ 0) × (whole (is_inside s) (ends_at_header s) v ≡ false)
  starts_out s p q [] some leads out = absurd (some refl)
  starts_out s p q (e ∷ v) some (in_graph, starts, leads) out =
      let from_out : is_in s e.from ≡ false = subst (λ (n : ℕ). is_in s n ≡ false) (sym starts) out in
      let turn : ℕ = cond (ends_at_header s e) 1 0 in (
        ap (λ (b : Bool). cond (b && is_in s e.to) (turn + head (is_inside s) (ends_at_header s) v) 0) from_out,
        ap (λ (b : Bool). (b && is_in s e.to) && whole (is_inside s) (ends_at_header s) v) from_out,
      )

  -- inside an instance no edge ends before its header
  no_turns : (r s : Span) (v : List NumberedEdge) → s.header < r.header → All (λ e. is_in r e.to ≡ true) v → count (is_inside s) (ends_at_header s) v ≡ 0
  no_turns r s [] before ends = refl
  no_turns r s (e ∷ v) before ends =
      let low : r.header ≤ e.to = member_header r e.to (All-head (λ (x : NumberedEdge). is_in r x.to ≡ true) e v ends) in
      let plain : ends_at_header s e ≡ false = ne_eqb e.to s.header (λ is. omega (arith, is, low)) in
      let rest : count (is_inside s) (ends_at_header s) v ≡ 0 = no_turns r s v before (All-tail (λ (x : NumberedEdge). is_in r x.to ≡ true) e v ends) in
      let first : cond {A = ℕ} (ends_at_header s e) 1 0 ≡ 0 = ap (λ (b : Bool). cond b 1 0) plain in
      omega (arith, sum_by-cons (λ (x : NumberedEdge). cond {A = ℕ} (ends_at_header s x) 1 0) e v, rest, first)

  module _ (r : Span) (r_in : Contains spans r) (n k : ℕ) (at : r.header ≡ n) (v : List NumberedEdge) (some : v ≢ []) (leads : Leads edges n v n) (ends : All (λ e. is_in r e.to ≡ true) v) (w : List NumberedEdge) where
    -- an instance that holds the header holds the round
    held : (s : Span) → Contains spans s → is_in s n ≡ true → whole (is_inside s) (ends_at_header s) v ≡ true
    held s s_in here =
        let outer : HoldsAll s r = holds_whole s r s_in r_in (subst (λ (p : ℕ). is_in s p ≡ true) (sym at) here) in
        whole_in s n n v leads here (All-weaker (λ (e : NumberedEdge). is_in r e.to ≡ true) (λ (e : NumberedEdge). is_in s e.to ≡ true) (λ e is. outer e.to is) v ends)

    -- and takes no turn of its own in it
    plain : (s : Span) → Contains spans s → s.header ≢ n → is_in s n ≡ true → count (is_inside s) (ends_at_header s) v ≡ 0
    plain s s_in other here =
        let low : s.header ≤ n = member_header s n here in
        no_turns r s v (omega (arith, low, at, other)) ends

    holds_header : (s : Span) → Contains spans s → s.header ≡ n → is_in s n ≡ true
    holds_header s s_in is = subst (λ (p : ℕ). is_in s p ≡ true) is (header_in exit edges spans order s s_in)

    joined_once : (s : Span) → Contains spans s → is_in s n ≡ true → (most_in s (w ++ v) ≡ max (most_in s w) (turns_at_end s w + count (is_inside s) (ends_at_header s) v)) × (turns_at_end s (w ++ v) ≡ turns_at_end s w + count (is_inside s) (ends_at_header s) v)
    joined_once s s_in here = whole_after (is_inside s) (ends_at_header s) w v (held s s_in here)

    joined_rounds : (s : Span) → Contains spans s → is_in s n ≡ true → (most_in s (w ++ repeat k v) ≡ max (most_in s w) (turns_at_end s w + k * count (is_inside s) (ends_at_header s) v)) × (turns_at_end s (w ++ repeat k v) ≡ turns_at_end s w + k * count (is_inside s) (ends_at_header s) v)
    joined_rounds s s_in here =
        let all_in : whole (is_inside s) (ends_at_header s) (repeat k v) ≡ true = J.whole-repeated (is_inside s) (ends_at_header s) k v (held s s_in here) in
        let times : count (is_inside s) (ends_at_header s) (repeat k v) ≡ k * count (is_inside s) (ends_at_header s) v = J.count-repeated (is_inside s) (ends_at_header s) k v in
        let b = whole_after (is_inside s) (ends_at_header s) w (repeat k v) all_in in
        (b.0 ∙ ap (λ (x : ℕ). max (most_in s w) (turns_at_end s w + x)) times, b.1 ∙ ap (λ (x : ℕ). turns_at_end s w + x) times)

    none_many : (c : ℕ) → c ≡ 0 → k * c ≡ 0
    none_many c is = rw is (omega arith)

    rounds_change : 0 < k → Changes n n (w ++ v) (w ++ repeat k v)
    rounds_change positive = record {
      there = λ s s_in is.
          let here = holds_header s s_in is in
          let c : ℕ = count (is_inside s) (ends_at_header s) v in
          let up : c ≤ k * c = times-le k c positive in
          let once = joined_once s s_in here in
          let many = joined_rounds s s_in here in
          let p : ℕ = k * c in
          omega (arith, once.0, many.0, many.1, up);
      elsewhere = λ s s_in other. ⊎_elim
          (λ (here : is_in s n ≡ true).
          let none = plain s s_in other here in
          let once = joined_once s s_in here in
          let many = joined_rounds s s_in here in
          omega (arith, once.0, many.0, none, none_many (count (is_inside s) (ends_at_header s) v) none))
          (λ (out : is_in s n ≡ false).
          let first = starts_out s n n v some leads out in
          rounds_apart (is_inside s) (ends_at_header s) w k v positive first.0 first.1)
          (cases_Bool (is_in s n));
      same_stay = λ s s_in other here.
          let none = plain s s_in other here in
          let once = joined_once s s_in here in
          let many = joined_rounds s s_in here in
          (here, omega (arith, once.1, many.1, none, none_many (count (is_inside s) (ends_at_header s) v) none));
    }

    module _ (old mid new : Walker) (start : old.number ≡ n) (back : mid.number ≡ n) (room : n < length mid.turns.items) (positive : 0 < k)
        (goes : Arrives headers n (gained old.cost mid.cost k) (gained (get_or old.turns.items n 0) (get_or mid.turns.items n 0) k) mid new) (before : IsWalkerAfter spans old w) (once : IsWalkerAfter spans mid (w ++ v)) where
      rounds_cost : gained old.cost mid.cost k ≡ capped_cost (cost_of (w ++ repeat k v))
      rounds_cost =
          let more : mid.cost ≡ capped_cost (cost_of w + cost_of v) = once.cost_is ∙ ap capped_cost (cost-append number_shape w v) in
          let all_of : cost_of (w ++ repeat k v) ≡ cost_of w + k * cost_of v = cost-append number_shape w (repeat k v) ∙ ap (λ (x : ℕ). cost_of w + x) (cost-repeated number_shape k v) in
          (λ i. gained (before.cost_is i) (more i) k) ∙ gained_is (cost_of w) (cost_of v) k positive ∙ ap capped_cost (sym all_of)

      rounds_turns : (s : Span) → Contains spans s → s.header ≡ n → gained (get_or old.turns.items n 0) (get_or mid.turns.items n 0) k ≡ capped_cost (turns_at_end s (w ++ repeat k v))
      rounds_turns s s_in is =
          let here = holds_header s s_in is in
          let c : ℕ = count (is_inside s) (ends_at_header s) v in
          let first : get_or old.turns.items n 0 ≡ capped_cost (turns_at_end s w) = ap (λ (p : ℕ). get_or old.turns.items p 0) (sym is) ∙ before.turns_are s s_in (subst (λ (p : ℕ). is_in s p ≡ true) (sym start) here) in
          let second : get_or mid.turns.items n 0 ≡ capped_cost (turns_at_end s w + c) = ap (λ (p : ℕ). get_or mid.turns.items p 0) (sym is) ∙ once.turns_are s s_in (subst (λ (p : ℕ). is_in s p ≡ true) (sym back) here) ∙ ap capped_cost (joined_once s s_in here).1 in
          (λ i. gained (first i) (second i) k) ∙ gained_is (turns_at_end s w) c k positive ∙ ap capped_cost (sym (joined_rounds s s_in here).1)

      after_rounds : IsWalkerAfter spans new (w ++ repeat k v)
      after_rounds =
          after_step mid new (w ++ v) (w ++ repeat k v) n (gained old.cost mid.cost k) (gained (get_or old.turns.items n 0) (get_or mid.turns.items n 0) k) goes
          (subst (λ (m : ℕ). Changes m n (w ++ v) (w ++ repeat k v)) (sym back) (rounds_change positive)) once room rounds_cost rounds_turns

  pub rounds_add : (r : Span) → Contains spans r → (n k : ℕ) → r.header ≡ n → (v : List NumberedEdge) → v ≢ [] → Leads edges n v n → All (λ e. is_in r e.to ≡ true) v → (old mid new : Walker) → old.number ≡ n → mid.number ≡ n → n < length mid.turns.items → 0 < k
      → Arrives headers n (gained old.cost mid.cost k) (gained (get_or old.turns.items n 0) (get_or mid.turns.items n 0) k) mid new → Adds spans old mid v → Adds spans old new (repeat k v)
  rounds_add r r_in n k at v some leads ends old mid new start back room positive goes adds w old_after =
      after_rounds r r_in n k at v some leads ends w old mid new start back room positive goes old_after (adds w old_after)
