-- The edges that count and the spans that turn are in order.
use Rattle.std.proofs.Common.{◌≡◌, ◌≢◌, ◌∙◌, ℕ, zero, suc, ◌+◌, ◌<◌, ◌≤◌, ◌⊎◌, ◌&&◌, eqb, Bool, true, false, cond, not, List, [], ◌∷◌, ◌++◌, length, get_or, map, Contains, ⊎_elim, inl, inr, refl, sym, ap, subst, arith}
use Rattle.std.specs.List.{filter}
use Rattle.std.specs.Prelude.{count_by}
use Rattle.std.proofs.lemmas.Bool.{and_from, and_parts, both_ways, cases_Bool, cases_lt, cases_eq, eq-eqb, le-ltb, lt-ltb, ltb-true, ne_eqb}
use Rattle.std.proofs.lemmas.List.{get_or_past, get_or-map, length-map}
use Rattle.std.proofs.lemmas.List.Elements.{Contains-append_cases, Contains-append_left, Contains-append_right, Contains-get_or}
use Rattle.std.proofs.lemmas.List.Kept.{AllPairs-filter}
use Rattle.std.proofs.lemmas.List.Sums.{sum_by-cons}
use Rattle.loop_bounds.proofs.NestLemmas.{filter_has}
use Rattle.numbered_walks.specs.declared.span.NumberedEdge.{NumberedEdge}
use Rattle.numbered_walks.specs.declared.span.Span.{Span}
use Rattle.numbered_walks.specs.Index.{is_up}
use Rattle.numbered_walks.specs.Ordered.{ClosesBefore, GoesUpOrBack, IsEnteredUp, IsOrdered, is_in}
use Rattle.numbered_walks.proofs.Members.{member_header, member_last}
use Rattle.text_masked.specs.declared.marked.MarkedEdge.{MarkedEdge}
use Rattle.text_masked.specs.declared.shown.Shown.{Shown}
use Rattle.text_masked.specs.declared.shown.Shown.TheVariants.{Sets, Clears, Nothing}
use Rattle.text_masked.specs.Held.{AreHeld, AreTurned, GoesOnRound, carries, charged, charged_from, enters_past, flag_at, free, free_from, held_edges, is_set, is_set_after, turned_spans, turns, turns_at, way_out}
use Rattle.text_masked.proofs.HeldLemmas.{no_marked}
use Rattle.text_masked.proofs.TurnLemmas.{any_of, kept_of}

-- ## Lists

pub one_alone : {X : Type 0} (x y : X) → Contains (x ∷ []) y → x ≡ y
one_alone x y (zero, lt, is) = is
one_alone x y (suc k, lt, is) = absurd (omega arith)

pub mapped_of : {X Y : Type 0} (f : X → Y) (xs : List X) (d : X) (y : Y) → Contains (map f xs) y → (x : X) × Contains xs x × (f x ≡ y)
mapped_of f xs d y (k, lt, is) =
    let inside : k < length xs = omega (arith, lt, length-map xs f) in
    (get_or xs k d, Contains-get_or xs k d inside, sym (get_or-map f xs k d y inside) ∙ is)

pub maps_to : {X Y : Type 0} (f : X → Y) (xs : List X) (x : X) → Contains xs x → Contains (map f xs) (f x)
maps_to f xs x (k, lt, is) = (k, omega (arith, lt, length-map xs f), get_or-map f xs k x (f x) lt ∙ ap f is)

count-filter : {X : Type 0} (p q : X → Bool) (xs : List X) → count_by p (filter q xs) ≤ count_by p xs
count-filter p q [] = omega arith
count-filter p q (x ∷ xs) =
    let rest : count_by p (filter q xs) ≤ count_by p xs = count-filter p q xs in
    ⊎_elim
    (λ (t : q x ≡ true). rw t (omega (arith, rest, sum_by-cons (λ y. cond (p y) 1 0) x (filter q xs), sum_by-cons (λ y. cond (p y) 1 0) x xs)))
    (λ (t : q x ≡ false). rw t (omega (arith, rest, sum_by-cons (λ y. cond (p y) 1 0) x xs)))
    (cases_Bool (q x))

-- ## What edges show

pub cases_clears : (s : Shown) → (s ≡ Clears) ⊎ (s ≡ Clears → ⊥)
cases_clears Sets = inr (λ is. absurd (both_ways true (ap is_set is) refl))
cases_clears Clears = inl refl
cases_clears Nothing = inr (λ is. absurd (both_ways true (ap (λ (t : Shown). is_set_after true t) is) refl))

pub set_is : (s : Shown) → is_set s ≡ true → s ≡ Sets
set_is Sets h = refl
set_is Clears h = absurd (both_ways false refl h)
set_is Nothing h = absurd (both_ways false refl h)

pub set_after : (b : Bool) (s : Shown) → is_set s ≡ true → is_set_after b s ≡ true
set_after b s h = ap (λ (t : Shown). is_set_after b t) (set_is s h)

pub after_held : (s : Shown) → (s ≡ Clears → ⊥) → is_set_after true s ≡ true
after_held Sets unlike = refl
after_held Clears unlike = absurd (unlike refl)
after_held Nothing unlike = refl

-- it is set after a word only if the word sets it, or it is set before and the word shows nothing
after_cases : (b : Bool) (s : Shown) → is_set_after b s ≡ true → (is_set s ≡ true) ⊎ ((b ≡ true) × (s ≡ Nothing))
after_cases b Sets h = inl refl
after_cases b Clears h = absurd (both_ways false refl h)
after_cases b Nothing h = inr (h, refl)

pub stays_as : (exit : ℕ) (e : NumberedEdge) (s : Shown) → (s ≡ Clears → ⊥) → charged_from exit e s ≡ e
stays_as exit e Sets unlike = refl
stays_as exit e Clears unlike = absurd (unlike refl)
stays_as exit e Nothing unlike = refl

module _ (exit : ℕ) (edges : List NumberedEdge) (spans : List Span) (order : IsOrdered exit edges spans) (marked : List MarkedEdge) (same : map (λ (m : MarkedEdge). m.edge) marked ≡ edges) where
  pub edge_in : (m : MarkedEdge) → Contains marked m → Contains edges m.edge
  edge_in m has = subst (λ (es : List NumberedEdge). Contains es m.edge) same (maps_to (λ (x : MarkedEdge). x.edge) marked m has)

  mark_of : (e : NumberedEdge) → Contains edges e → (m : MarkedEdge) × Contains marked m × (m.edge ≡ e)
  mark_of e has = mapped_of (λ (x : MarkedEdge). x.edge) marked no_marked e (subst (λ (es : List NumberedEdge). Contains es e) (sym same) has)

  pub to_in : (k : ℕ) (d : MarkedEdge) → k < length marked → (get_or marked k d).edge.to < exit + 1
  to_in k d lt = let at = order.places (get_or marked k d).edge (edge_in (get_or marked k d) (Contains-get_or marked k d lt)) in omega (arith, at.1)

  module _ (held : List Bool) (are_held : AreHeld marked exit held) (turned : List Bool) (are_turned : AreTurned marked held (exit + 1) turned) (none : GoesOnRound marked held turned spans → ⊥) where
    abbrev counted : List NumberedEdge
    counted = held_edges exit held marked

    pub held_low : (p : ℕ) → flag_at held p ≡ true → p < exit
    held_low p holds = ⊎_elim
        (λ (l : p < exit). l)
        (λ (high : exit ≤ p). absurd (both_ways (flag_at held p) (get_or_past held p false (omega (arith, are_held.whole))) holds))
        (cases_lt p exit)

    pub held_above : (p : ℕ) → flag_at held p ≡ true → 0 < p
    held_above p holds = let by = are_held.reached p (held_low p holds) holds in omega (arith, by.3)

    -- where an edge leads after which the mask is set
    pub carried : (m : MarkedEdge) → Contains marked m → carries held m ≡ true → m.edge.to < exit → flag_at held m.edge.to ≡ true
    carried m has on lt = ⊎_elim
        (λ (up : m.edge.from < m.edge.to). are_held.all m.edge.to lt (m, has, refl, up, on))
        (λ (back : m.edge.to ≤ m.edge.from). ⊎_elim
        (λ (holds : flag_at held m.edge.to ≡ true). holds)
        (λ (out : flag_at held m.edge.to ≡ false).
        absurd (none (inl (m, has, and_from (carries held m) (not (is_up m.edge)) on (ap not (le-ltb m.edge.from m.edge.to back)), out))))
        (cases_Bool (flag_at held m.edge.to)))
        (cases_lt m.edge.from m.edge.to)

    -- the header to which one leads back is turned
    turned_to : (m : MarkedEdge) → Contains marked m → carries held m ≡ true → m.edge.to ≤ m.edge.from → flag_at turned m.edge.to ≡ true
    turned_to m has on back =
        let at = order.places m.edge (edge_in m has) in
        let here : turns_at held m.edge.to m ≡ true = and_from (turns held m) (eqb m.edge.to m.edge.to) (and_from (carries held m) (not (is_up m.edge)) on (ap not (le-ltb m.edge.from m.edge.to back))) (eq-eqb m.edge.to m.edge.to refl) in
        are_turned.each m.edge.to (omega (arith, at.1)) ∙ any_of (turns_at held m.edge.to) marked m has here

    span_of : (s : Span) → Contains (turned_spans turned spans) s → Contains spans s × (flag_at turned s.header ≡ true)
    span_of s has = kept_of (λ (t : Span). flag_at turned t.header) spans s has

    -- ## The edges

    -- it stays, from where the mask is set
    abbrev Stays : NumberedEdge → Type 0
    Stays e = (m : MarkedEdge) × Contains marked m × (flag_at held m.edge.from ≡ true) × (carries held m ≡ true) × (m.edge ≡ e)

    -- it leads to Exit
    abbrev LeadsOut : NumberedEdge → Type 0
    LeadsOut e = (e.from < exit) × (e.to ≡ exit)

    -- it starts where the mask is set
    abbrev Starts : NumberedEdge → Type 0
    Starts e = (m : MarkedEdge) × Contains marked m × (is_set m.shown ≡ true) × (record { from = 0; to = m.edge.to; cost = 0 } ≡ e)

    -- it stays where the mask is not set
    abbrev IsFree : NumberedEdge → Type 0
    IsFree e = (m : MarkedEdge) × Contains marked m × (m.edge.from < m.edge.to) × (record { from = m.edge.from; to = m.edge.to; cost = 0 } ≡ e)

    abbrev Which : NumberedEdge → Type 0
    Which e = Stays e ⊎ (LeadsOut e ⊎ (Starts e ⊎ IsFree e))

    charged_which : (m : MarkedEdge) → Contains marked m → (e : NumberedEdge) → charged exit held m ≡ e → Which e
    charged_which m has e is =
        let at = order.places m.edge (edge_in m has) in
        ⊎_elim
        (λ (on : flag_at held m.edge.from ≡ true).
        let from_is : charged_from exit m.edge m.shown ≡ e = sym (ap (λ (b : Bool). cond {A = NumberedEdge} b (charged_from exit m.edge m.shown) (way_out exit m.edge.from)) on) ∙ is in
        ⊎_elim
        (λ (clears : m.shown ≡ Clears).
        let e_is : record { from = m.edge.from; to = exit; cost = m.edge.cost } ≡ e = sym (ap (λ (s : Shown). charged_from exit m.edge s) clears) ∙ from_is in
        inr (inl (subst (λ (x : NumberedEdge). LeadsOut x) e_is (at.0, refl))))
        (λ (unlike : m.shown ≡ Clears → ⊥).
        let after : carries held m ≡ true = ap (λ (b : Bool). is_set_after b m.shown) on ∙ after_held m.shown unlike in
        inl (m, has, on, after, sym (stays_as exit m.edge m.shown unlike) ∙ from_is))
        (cases_clears m.shown))
        (λ (off : flag_at held m.edge.from ≡ false).
        let e_is : way_out exit m.edge.from ≡ e = sym (ap (λ (b : Bool). cond {A = NumberedEdge} b (charged_from exit m.edge m.shown) (way_out exit m.edge.from)) off) ∙ is in
        inr (inl (subst (λ (x : NumberedEdge). LeadsOut x) e_is (at.0, refl))))
        (cases_Bool (flag_at held m.edge.from))

    abbrev is_free : NumberedEdge → Bool
    is_free e = is_up e && not (flag_at held e.to)

    free_which : (m : MarkedEdge) → Contains marked m → (e : NumberedEdge) → free exit held m ≡ e → Which e
    free_which m has e is =
        let at = order.places m.edge (edge_in m has) in
        ⊎_elim
        (λ (sets : is_set m.shown ≡ true).
        inr (inr (inl (m, has, sets, sym (ap (λ (b : Bool). cond {A = NumberedEdge} b (record { from = 0; to = m.edge.to; cost = 0 }) (free_from exit held m.edge)) sets) ∙ is))))
        (λ (unlike : is_set m.shown ≡ false).
        let from_is : free_from exit held m.edge ≡ e = sym (ap (λ (b : Bool). cond {A = NumberedEdge} b (record { from = 0; to = m.edge.to; cost = 0 }) (free_from exit held m.edge)) unlike) ∙ is in
        ⊎_elim
        (λ (on : is_free m.edge ≡ true).
        let up : m.edge.from < m.edge.to = ltb-true m.edge.from m.edge.to (and_parts (is_up m.edge) (not (flag_at held m.edge.to)) on).0 in
        inr (inr (inr (m, has, up, sym (ap (λ (b : Bool). cond {A = NumberedEdge} b (record { from = m.edge.from; to = m.edge.to; cost = 0 }) (way_out exit m.edge.from)) on) ∙ from_is))))
        (λ (off : is_free m.edge ≡ false).
        let e_is : way_out exit m.edge.from ≡ e = sym (ap (λ (b : Bool). cond {A = NumberedEdge} b (record { from = m.edge.from; to = m.edge.to; cost = 0 }) (way_out exit m.edge.from)) off) ∙ from_is in
        inr (inl (subst (λ (x : NumberedEdge). LeadsOut x) e_is (at.0, refl))))
        (cases_Bool (is_free m.edge)))
        (cases_Bool (is_set m.shown))

    which : (e : NumberedEdge) → Contains (held_edges exit held marked) e → Which e
    which e has = ⊎_elim
        (λ first. inr (inl (subst (λ (x : NumberedEdge). LeadsOut x) (one_alone (way_out exit 0) e first) (order.some, refl))))
        (λ rest. ⊎_elim
        (λ by. let m = mapped_of (charged exit held) marked no_marked e by in charged_which m.0 m.1 e m.2)
        (λ by. let m = mapped_of (free exit held) marked no_marked e by in free_which m.0 m.1 e m.2)
        (Contains-append_cases (map (charged exit held) marked) (map (free exit held) marked) e rest))
        (Contains-append_cases (way_out exit 0 ∷ []) (map (charged exit held) marked ++ map (free exit held) marked) e has)

    pub charged_in : (m : MarkedEdge) → Contains marked m → Contains (held_edges exit held marked) (charged exit held m)
    charged_in m has = Contains-append_right (way_out exit 0 ∷ []) (map (charged exit held) marked ++ map (free exit held) marked) (charged exit held m) (Contains-append_left (map (charged exit held) marked) (map (free exit held) marked) (charged exit held m) (maps_to (charged exit held) marked m has))

    pub free_in : (m : MarkedEdge) → Contains marked m → Contains (held_edges exit held marked) (free exit held m)
    free_in m has = Contains-append_right (way_out exit 0 ∷ []) (map (charged exit held) marked ++ map (free exit held) marked) (free exit held m) (Contains-append_right (map (charged exit held) marked) (map (free exit held) marked) (free exit held m) (maps_to (free exit held) marked m has))

    -- an edge from where the mask is set, that does not clear it, stays
    pub charged_as : (m : MarkedEdge) → flag_at held m.edge.from ≡ true → (m.shown ≡ Clears → ⊥) → charged exit held m ≡ m.edge
    charged_as m on unlike = ap (λ (b : Bool). cond {A = NumberedEdge} b (charged_from exit m.edge m.shown) (way_out exit m.edge.from)) on ∙ stays_as exit m.edge m.shown unlike

    pub charged_out : (m : MarkedEdge) → flag_at held m.edge.from ≡ true → m.shown ≡ Clears → charged exit held m ≡ record { from = m.edge.from; to = exit; cost = m.edge.cost }
    charged_out m on clears = ap (λ (b : Bool). cond {A = NumberedEdge} b (charged_from exit m.edge m.shown) (way_out exit m.edge.from)) on ∙ ap (λ (s : Shown). charged_from exit m.edge s) clears

    pub starts_as : (m : MarkedEdge) → is_set m.shown ≡ true → free exit held m ≡ record { from = 0; to = m.edge.to; cost = 0 }
    starts_as m sets = ap (λ (b : Bool). cond {A = NumberedEdge} b (record { from = 0; to = m.edge.to; cost = 0 }) (free_from exit held m.edge)) sets

    free_as : (m : MarkedEdge) → is_set m.shown ≡ false → m.edge.from < m.edge.to → flag_at held m.edge.to ≡ false → free exit held m ≡ record { from = m.edge.from; to = m.edge.to; cost = 0 }
    free_as m unlike up out =
        ap (λ (b : Bool). cond {A = NumberedEdge} b (record { from = 0; to = m.edge.to; cost = 0 }) (free_from exit held m.edge)) unlike
        ∙ ap (λ (b : Bool). cond {A = NumberedEdge} b (record { from = m.edge.from; to = m.edge.to; cost = 0 }) (way_out exit m.edge.from)) (and_from (is_up m.edge) (not (flag_at held m.edge.to)) (lt-ltb m.edge.from m.edge.to up) (ap not out))

    -- ## The order

    -- where one starts
    starts_up : (m : MarkedEdge) → Contains marked m → is_set m.shown ≡ true → 0 < m.edge.to
    starts_up m has sets = ⊎_elim
        (λ (low : m.edge.to < exit). held_above m.edge.to (carried m has (set_after (flag_at held m.edge.from) m.shown sets) low))
        (λ (high : exit ≤ m.edge.to). omega (arith, order.some))
        (cases_lt m.edge.to exit)

    goes_up : (e : NumberedEdge) → Which e → GoesUpOrBack (turned_spans turned spans) e
    goes_up e w = ⊎_elim
        (λ u. subst (λ (x : NumberedEdge). GoesUpOrBack (turned_spans turned spans) x) u.4 (⊎_elim
        (λ (up : u.0.edge.from < u.0.edge.to). inl up)
        (λ back.
        let low : back.0.header ≤ u.0.edge.from = member_header back.0 u.0.edge.from back.2 in
        let at : flag_at turned back.0.header ≡ true = ap (flag_at turned) (sym back.3) ∙ turned_to u.0 u.1 u.3 (omega (arith, back.3, low)) in
        inr (back.0, filter_has (λ (t : Span). flag_at turned t.header) spans back.0 back.1 at, back.2, back.3))
        (order.goes_up u.0.edge (edge_in u.0 u.1))))
        (λ v. ⊎_elim
        (λ out. inl (omega (arith, out.0, out.1)))
        (λ t. ⊎_elim
        (λ s. subst (λ (x : NumberedEdge). GoesUpOrBack (turned_spans turned spans) x) s.3 (inl (starts_up s.0 s.1 s.2)))
        (λ f. subst (λ (x : NumberedEdge). GoesUpOrBack (turned_spans turned spans) x) f.3 (inl f.2))
        t)
        v)
        w

    abbrev entered_by : (n : ℕ) → NumberedEdge → Type 0
    entered_by n e = Contains counted e × (e.to ≡ n) × (e.from < n)

    up_of : (n : ℕ) (e : NumberedEdge) → Contains (held_edges exit held marked) e → e.to ≡ n → e.from < n → IsEnteredUp (held_edges exit held marked) n
    up_of n e has ends up = (e, has, ends, up)

    entered_up : (n : ℕ) → 0 < n → n < exit → IsEnteredUp (held_edges exit held marked) n
    entered_up n some lt = ⊎_elim
        (λ (holds : flag_at held n ≡ true).
        let by = are_held.reached n lt holds in
        let m : MarkedEdge = by.0 in
        ⊎_elim
        (λ (sets : is_set m.shown ≡ true).
        let e : NumberedEdge = record { from = 0; to = m.edge.to; cost = 0 } in
        up_of n e (subst (λ (x : NumberedEdge). Contains counted x) (starts_as m sets) (free_in m by.1)) by.2 some)
        (λ both.
        let unlike : m.shown ≡ Clears → ⊥ = λ clears. both_ways (is_set_after true m.shown) (ap (λ (t : Shown). is_set_after true t) clears) (ap (λ (t : Shown). is_set_after true t) both.1) in
        up_of n m.edge (subst (λ (x : NumberedEdge). Contains counted x) (charged_as m both.0 unlike) (charged_in m by.1)) by.2 by.3)
        (after_cases (flag_at held m.edge.from) m.shown by.4))
        (λ (out : flag_at held n ≡ false).
        let by = order.entered_up n some lt in
        let mark = mark_of by.0 by.1 in
        let m : MarkedEdge = mark.0 in
        let to_is : m.edge.to ≡ n = ap (λ (x : NumberedEdge). x.to) mark.2 ∙ by.2 in
        let from_is : m.edge.from ≡ by.0.from = ap (λ (x : NumberedEdge). x.from) mark.2 in
        let up : m.edge.from < n = omega (arith, from_is, by.3) in
        let unset : is_set m.shown ≡ false = ⊎_elim
        (λ (sets : is_set m.shown ≡ true).
        let holds : flag_at held n ≡ true = are_held.all n lt (m, mark.1, to_is, up, set_after (flag_at held m.edge.from) m.shown sets) in
        absurd (both_ways (flag_at held n) out holds))
        (λ (unlike : is_set m.shown ≡ false). unlike)
        (cases_Bool (is_set m.shown)) in
        let e : NumberedEdge = record { from = m.edge.from; to = m.edge.to; cost = 0 } in
        let there : Contains counted e = subst (λ (x : NumberedEdge). Contains counted x) (free_as m unset (omega (arith, up, to_is)) (ap (flag_at held) to_is ∙ out)) (free_in m mark.1) in
        up_of n e there to_is up)
        (cases_Bool (flag_at held n))

    entered : (e : NumberedEdge) → Which e → (s : Span) → Contains (turned_spans turned spans) s → is_in s e.from ≡ false → is_in s e.to ≡ true → e.to ≡ s.header
    entered e w s has out inside =
        let at = span_of s has in
        ⊎_elim
        (λ u. order.entered e (subst (λ (x : NumberedEdge). Contains edges x) u.4 (edge_in u.0 u.1)) s at.0 out inside)
        (λ v. ⊎_elim
        (λ o. absurd (omega (arith, o.1, member_last s e.to inside, (order.shape s at.0).1)))
        (λ t. ⊎_elim
        (λ x. ⊎_elim
        (λ (is : e.to ≡ s.header). is)
        (λ (unlike : e.to ≡ s.header → ⊥).
        let m : MarkedEdge = x.0 in
        let to_is : m.edge.to ≡ e.to = ap (λ (y : NumberedEdge). y.to) x.3 in
        let inside_m : is_in s m.edge.to ≡ true = ap (is_in s) to_is ∙ inside in
        let past : enters_past s m ≡ true = and_from (is_set m.shown) (is_in s m.edge.to && not (eqb m.edge.to s.header)) x.2 (and_from (is_in s m.edge.to) (not (eqb m.edge.to s.header)) inside_m (ap not (ne_eqb m.edge.to s.header (λ same. unlike (sym to_is ∙ same))))) in
        absurd (none (inr (m, s, x.1, at.0, and_from (flag_at turned s.header) (enters_past s m) at.1 past))))
        (cases_eq e.to s.header))
        (λ f.
        let m : MarkedEdge = f.0 in
        let to_is : m.edge.to ≡ e.to = ap (λ (y : NumberedEdge). y.to) f.3 in
        let from_is : m.edge.from ≡ e.from = ap (λ (y : NumberedEdge). y.from) f.3 in
        sym to_is ∙ order.entered m.edge (edge_in m f.1) s at.0 (ap (is_in s) from_is ∙ out) (ap (is_in s) to_is ∙ inside))
        t)
        v)
        w

    places : (e : NumberedEdge) → Which e → (e.from < exit) × (e.to ≤ exit)
    places e w = ⊎_elim
        (λ u. subst (λ (x : NumberedEdge). (x.from < exit) × (x.to ≤ exit)) u.4 (order.places u.0.edge (edge_in u.0 u.1)))
        (λ v. ⊎_elim
        (λ o. (o.0, omega (arith, o.1)))
        (λ t. ⊎_elim
        (λ x. let at = order.places x.0.edge (edge_in x.0 x.1) in subst (λ (y : NumberedEdge). (y.from < exit) × (y.to ≤ exit)) x.3 (order.some, at.1))
        (λ f. let at = order.places f.0.edge (edge_in f.0 f.1) in subst (λ (y : NumberedEdge). (y.from < exit) × (y.to ≤ exit)) f.3 (at.0, at.1))
        t)
        v)
        w

    pub ordered : IsOrdered exit (held_edges exit held marked) (turned_spans turned spans)
    ordered = record {
      some = order.some;
      places = λ e has. places e (which e has);
      goes_up = λ e has. goes_up e (which e has);
      entered_up = entered_up;
      shape = λ s has. order.shape s (span_of s has).0;
      headers_differ = AllPairs-filter (λ (s t : Span). s.header ≢ t.header) (λ (t : Span). flag_at turned t.header) spans order.headers_differ;
      closing = AllPairs-filter ClosesBefore (λ (t : Span). flag_at turned t.header) spans order.closing;
      nested = λ s t has_s has_t n in_s in_t. order.nested s t (span_of s has_s).0 (span_of t has_t).0 n in_s in_t;
      entered = λ e has s s_in out inside. entered e (which e has) s s_in out inside;
      entry_at_header = λ s has inside. order.entry_at_header s (span_of s has).0 inside;
      shallow = λ n. let l = order.shallow n in omega (arith, l, count-filter (λ (s : Span). is_in s n) (λ (t : Span). flag_at turned t.header) spans);
    }
