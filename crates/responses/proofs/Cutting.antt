-- Edges that are cut where no walk that first comes to the address goes on, and walks along them.
use Rattle.std.proofs.Common.{◌≡◌, ◌∙◌, ℕ, zero, suc, ◌<◌, ◌≤◌, ◌⊎◌, Bool, true, false, cond, not, ◌&&◌, List}
use Rattle.std.proofs.Common.{[], ◌∷◌, ◌++◌, length, get_or, All, Contains, ⊎_elim, inl, inr, refl, sym, ap}
use Rattle.std.proofs.Common.{subst, arith, append_assoc}
use Rattle.std.proofs.lemmas.Bool.{cases_Bool, cases_lt, both_ways, and_from}
use Rattle.std.proofs.lemmas.List.{get_or_past, get_or-map, length-map}
use Rattle.std.proofs.lemmas.List.Elements.{All-nil, All-cons, All-head, All-tail, Contains-get_or}
use Rattle.std.proofs.lemmas.List.Sums.{sum_by-cons}
use Rattle.walks.specs.declared.limits.TheConstants.{COST_LIMIT}
use Rattle.walks.specs.Stretch.{Keeps}
use Rattle.numbered_walks.specs.declared.span.NumberedEdge.{NumberedEdge}
use Rattle.numbered_walks.specs.declared.span.Span.{Span}
use Rattle.numbered_walks.specs.declared.fault.WalkFault.{WalkFault}
use Rattle.numbered_walks.specs.declared.fault.WalkFault.TheVariants.{Memory, NoCompleteWalk, BoundTooLarge}
use Rattle.numbered_walks.specs.Ordered.{IsEnteredUp, IsOrdered, Leads, TooLarge, cost_of, ends_at_header}
use Rattle.numbered_walks.specs.Ordered.{is_in, is_inside}
use Rattle.numbered_walks.specs.Found.{IsWalkFault}
use Rattle.numbered_walks.proofs.Finishing.{complete_walk}
use Rattle.numbered_walks.proofs.Members.{member_last, no_numbered_edge}
use Rattle.responses.specs.declared.ways.Way.{Way}
use Rattle.responses.specs.declared.ways.Way.TheVariants.{Apart, Before, There}
use Rattle.responses.specs.Arriving.{AreWays, cut_edge, cut_edges, is_before, is_reached, is_cut, is_there}
use Rattle.responses.specs.Arriving.{way_at}

-- ## Ways

before_comes : (v : Way) → is_before v ≡ true → is_reached v ≡ true
before_comes Apart h = h
before_comes Before h = refl
before_comes There h = refl

pub there_comes : (v : Way) → is_there v ≡ true → is_reached v ≡ true
there_comes Apart h = h
there_comes Before h = refl
there_comes There h = refl

pub there_ends : (v : Way) → is_there v ≡ true → is_before v ≡ false
there_ends Apart h = refl
there_ends Before h = absurd (both_ways false refl h)
there_ends There h = refl

pub ends_there : (v : Way) → is_reached v ≡ true → is_before v ≡ false → is_there v ≡ true
ends_there Apart h g = h
ends_there Before h g = absurd (both_ways true g refl)
ends_there There h g = refl

-- a front of a walk keeps what the walk keeps
front_keeps : {E : Type 0} (inside turns : E → Bool) (bound : ℕ) (walk front after : List E)
    → walk ≡ front ++ after → Keeps inside turns bound walk → Keeps inside turns bound front
front_keeps inside turns bound walk front after walk_is keeps = λ before stretch rest is within.
    keeps before stretch (rest ++ after) (walk_is ∙ ap (λ v. v ++ after) is
    ∙ append_assoc (before ++ stretch) rest after) within

module _ (exit : ℕ) (edges : List NumberedEdge) (spans : List Span) (order : IsOrdered exit edges spans)
    (at : ℕ → Bool) (ways : List Way) (w : AreWays edges at exit ways) where
  abbrev reached : ℕ → Bool
  reached p = is_reached (way_at ways p)

  abbrev before : ℕ → Bool
  before p = is_before (way_at ways p)

  abbrev cut : List NumberedEdge
  cut = cut_edges exit ways edges

  pub comes_low : (p : ℕ) → is_reached (way_at ways p) ≡ true → p < exit
  comes_low p holds = ⊎_elim
      (λ (l : p < exit). l)
      (λ (high : exit ≤ p).
      let past : way_at ways p ≡ Apart = get_or_past ways p Apart (omega (arith, w.whole)) in
      absurd (both_ways (reached p) (ap is_reached past) holds))
      (cases_lt p exit)

  pub comes_before : (p : ℕ) → is_before (way_at ways p) ≡ true → is_reached (way_at ways p) ≡ true
  comes_before p holds = before_comes (way_at ways p) holds

  -- ## Edges

  -- it stays
  abbrev Stays : NumberedEdge → Type 0
  Stays e = Contains edges e × (is_cut ways e ≡ false)

  -- it is cut
  abbrev IsCut : NumberedEdge → Type 0
  IsCut e = (e.to ≡ exit) × (e.cost ≡ 0) × (e.from < exit)

  which : (e : NumberedEdge) → Contains (cut_edges exit ways edges) e → Stays e ⊎ IsCut e
  which e (k, lt, is_at) =
      let inside : k < length edges = omega (arith, lt, length-map edges (cut_edge exit ways)) in
      let old : NumberedEdge = get_or edges k no_numbered_edge in
      let has : Contains edges old = Contains-get_or edges k no_numbered_edge inside in
      let is : cut_edge exit ways old ≡ e =
      sym (get_or-map (cut_edge exit ways) edges k no_numbered_edge e inside) ∙ is_at in
      elim (is_cut ways old) as (λ b. is_cut ways old ≡ b
      → cond {A = NumberedEdge} b (record { from = old.from; to = exit; cost = 0 }) old ≡ e → Stays e
      ⊎ IsCut e) [
        | true ↦ λ holds same. inr
            (subst (λ (x : NumberedEdge). IsCut x) same (refl, refl, (order.places old has).0))
        | false ↦ λ fails same. inl (subst (λ (x : NumberedEdge). Stays x) same (has, fails))
      ] refl is

  stays : (e : NumberedEdge) → Contains edges e → is_cut ways e ≡ false
      → Contains (cut_edges exit ways edges) e
  stays e (k, lt, is_at) fails =
      let same : cut_edge exit ways e ≡ e =
      ap (λ (b : Bool). cond {A = NumberedEdge} b (record { from = e.from; to = exit; cost = 0 }) e)
      fails in (
        k,
        omega (arith, length-map edges (cut_edge exit ways)),
        get_or-map (cut_edge exit ways) edges k e e lt
            ∙ ap (cut_edge exit ways) is_at ∙ same,
      )

  uncut_to : (e : NumberedEdge) → reached e.to ≡ false → is_cut ways e ≡ false
  uncut_to e fails = ap (λ (b : Bool). b && not (before e.from)) fails

  uncut_from : (e : NumberedEdge) → before e.from ≡ true → is_cut ways e ≡ false
  uncut_from e holds = elim (reached e.to) as (λ b. (b && not (before e.from)) ≡ false) [
    | true ↦ ap not holds
    | false ↦ refl
  ]

  goes_on : (e : NumberedEdge) → is_cut ways e ≡ false → reached e.to ≡ true → before e.from ≡ true
  goes_on e fails holds = ⊎_elim
      (λ (is : before e.from ≡ true). is)
      (λ (out : before e.from ≡ false). absurd
      (both_ways (is_cut ways e) fails (and_from (reached e.to) (not (before e.from)) holds (ap not out))))
      (cases_Bool (before e.from))

  -- ## The order

  entered : (n : ℕ) → 0 < n → n < exit → IsEnteredUp (cut_edges exit ways edges) n
  entered n some lt = ⊎_elim
      (λ (holds : reached n ≡ true). ⊎_elim
      (λ (none : n ≡ 0). absurd (omega arith))
      (λ by. (by.0, stays by.0 by.1 (uncut_from by.0 by.4), by.2, by.3))
      (w.reached n lt holds))
      (λ (fails : reached n ≡ false).
      let by = order.entered_up n some lt in
      (by.0, stays by.0 by.1 (uncut_to by.0 (ap reached by.2 ∙ fails)), by.2, by.3))
      (cases_Bool (reached n))

  pub ordered : IsOrdered exit (cut_edges exit ways edges) spans
  ordered = record {
    some = order.some;
    places = λ e has. ⊎_elim (λ u. order.places e u.0) (λ c. (c.2, omega (arith, c.0))) (which e has);
    goes_up = λ e has. ⊎_elim (λ u. order.goes_up e u.0) (λ c. inl (omega (arith, c.0, c.2))) (which e has);
    entered_up = entered;
    shape = order.shape;
    headers_differ = order.headers_differ;
    closing = order.closing;
    nested = order.nested;
    entered = λ e has s s_in out inside. ⊎_elim
        (λ u. order.entered e u.0 s s_in out inside)
        (λ c. absurd (omega (arith, c.0, member_last s e.to inside, (order.shape s s_in).1)))
        (which e has);
    entry_at_header = order.entry_at_header;
    shallow = order.shallow;
  }

  -- ## Walks along cut edges

  -- one to where walks come has no edge that is cut
  pub back : (walk : List NumberedEdge) (p q : ℕ) → Leads (cut_edges exit ways edges) p walk q
      → is_reached (way_at ways q) ≡ true
      → (is_reached (way_at ways p) ≡ true) × Leads edges p walk q
      × All (λ e. is_before (way_at ways e.from) ≡ true) walk
  back [] p q is holds = (
    subst (λ (m : ℕ). reached m ≡ true) (sym is) holds,
    is,
    All-nil
        (λ (e : NumberedEdge). before e.from ≡ true),
  )
  back (e ∷ walk) p q (has, starts, leads) holds =
      let rest = back walk e.to q leads holds in
      ⊎_elim
      (λ u.
      let on : before e.from ≡ true = goes_on e u.1 rest.0 in (
        subst (λ (m : ℕ). reached m ≡ true) starts (comes_before e.from on),
        (u.0, starts, rest.1),
        All-cons (λ (x : NumberedEdge). before x.from ≡ true) e walk on rest.2,
      ))
      (λ c. absurd (omega (arith, c.0, comes_low e.to rest.0)))
      (which e has)

  -- where walks come to a member of a span, they come to its header
  header_comes : (n p : ℕ) → p < n → reached p ≡ true → (s : Span) → Contains spans s → is_in s p ≡ true
      → reached s.header ≡ true
  header_comes zero p small holds s s_in inside = absurd (omega arith)
  header_comes (suc n) p small holds s s_in inside = ⊎_elim
      (λ (none : p ≡ 0).
      let here : 0 ≡ s.header =
      order.entry_at_header s s_in (subst (λ (m : ℕ). is_in s m ≡ true) none inside) in
      subst (λ (m : ℕ). reached m ≡ true) (none ∙ here) holds)
      (λ by. ⊎_elim
      (λ (held : is_in s by.0.from ≡ true). header_comes n by.0.from (omega (arith, by.3))
      (comes_before by.0.from by.4) s s_in held)
      (λ (out : is_in s by.0.from ≡ false).
      let here : by.0.to ≡ s.header =
      order.entered by.0 by.1 s s_in out (subst (λ (m : ℕ). is_in s m ≡ true) (sym by.2) inside) in
      subst (λ (m : ℕ). reached m ≡ true) (sym by.2 ∙ here) holds)
      (cases_Bool (is_in s by.0.from)))
      (w.reached p (comes_low p holds) holds)

  -- no walk leads on from Exit
  begins_low : (walk : List NumberedEdge) (p q : ℕ) → Leads edges p walk q → q < exit → p < exit
  begins_low [] p q is lt = omega arith
  begins_low (e ∷ walk) p q (has, starts, leads) lt = omega (arith, (order.places e has).0)

  -- where walks go on an edge leads to where they come
  comes_next : (e : NumberedEdge) → Contains edges e → before e.from ≡ true → e.to < exit
      → reached e.to ≡ true
  comes_next e has on lt = ⊎_elim
      (λ (up : e.from < e.to). w.all e has up lt on)
      (λ turns. subst (λ (m : ℕ). reached m ≡ true) (sym turns.3)
      (header_comes (suc e.from) e.from (omega arith) (comes_before e.from on) turns.0 turns.1 turns.2))
      (order.goes_up e has)

  -- a walk that comes to the address at its end at most has no edge that is cut
  pub forth : (walk : List NumberedEdge) (p q : ℕ) → Leads edges p walk q → q < exit
      → is_reached (way_at ways p) ≡ true → All (λ e. at e.from ≡ false) walk
      → (is_reached (way_at ways q) ≡ true) × Leads (cut_edges exit ways edges) p walk q
  forth [] p q is lt holds apart = (subst (λ (m : ℕ). reached m ≡ true) is holds, is)
  forth (e ∷ walk) p q (has, starts, leads) lt holds apart =
      let here : reached e.from ≡ true = subst (λ (m : ℕ). reached m ≡ true) (sym starts) holds in
      let not_at : at e.from ≡ false = All-head (λ (x : NumberedEdge). at x.from ≡ false) e walk apart in
      let on : before e.from ≡ true = w.go_on e.from (comes_low e.from here) here ∙ ap not not_at in
      let next : reached e.to ≡ true = comes_next e has on (begins_low walk e.to q leads lt) in
      let rest =
      forth walk e.to q leads lt next (All-tail (λ (x : NumberedEdge). at x.from ≡ false) e walk apart) in
      (rest.0, (stays e has (uncut_from e on), starts, rest.1))

  -- ## Refusals

  none_from_exit : (walk : List NumberedEdge) (q : ℕ) → Leads (cut_edges exit ways edges) exit walk q
      → cost_of walk ≡ 0
  none_from_exit [] q is = refl
  none_from_exit (e ∷ walk) q (has, starts, leads) = absurd (omega (arith, starts, (ordered.places e has).0))

  -- a walk costs as much as its front without an edge that is cut
  record Front (walk : List NumberedEdge) (p : ℕ) : Type 0 where
    front : List NumberedEdge
    after : List NumberedEdge
    last : ℕ
    is : walk ≡ front ++ after
    leads : Leads edges p front last
    cost : cost_of front ≡ cost_of walk

  front_of : (walk : List NumberedEdge) (p q : ℕ) → Leads (cut_edges exit ways edges) p walk q → Front walk p
  front_of [] p q is = record { front = []; after = []; last = p; is = refl; leads = refl; cost = refl }
  front_of (e ∷ walk) p q (has, starts, leads) =
      let rest : Front walk e.to = front_of walk e.to q leads in
      ⊎_elim
      (λ u. record {
        front = e ∷ rest.front;
        after = rest.after;
        last = rest.last;
        is = ap (λ (v : List NumberedEdge). e ∷ v) rest.is;
        leads = (u.0, starts, rest.leads);
        cost = omega (
          arith,
          rest.cost,
          sum_by-cons (λ (x : NumberedEdge). x.cost) e rest.front,
          sum_by-cons
              (λ (x : NumberedEdge). x.cost) e walk,
        );
      })
      (λ c. record {
        front = [];
        after = e ∷ walk;
        last = p;
        is = refl;
        leads = refl;
        cost = omega (
          arith,
          c.1,
          none_from_exit walk q
              (subst (λ (m : ℕ). Leads (cut_edges exit ways edges) m walk q) c.0 leads),
          sum_by-cons
              (λ (x : NumberedEdge). x.cost) e walk,
        );
      })
      (which e has)

  too_large : TooLarge exit (cut_edges exit ways edges) spans → TooLarge exit edges spans
  too_large large =
      let f : Front large.walk 0 = front_of large.walk 0 large.place large.leads in
      record {
        place = f.last;
        walk = f.front;
        leads = f.leads;
        kept = λ s s_in. front_keeps (is_inside s) (ends_at_header s) s.bound large.walk f.front f.after f.is
            (large.kept s s_in);
        costs = subst (λ (m : ℕ). COST_LIMIT ≤ m) (sym f.cost) large.costs;
      }

  -- where some edge leads to Exit, a refusal of the cut edges is one of the graph's
  pub fault_back : (e : NumberedEdge) → Contains edges e → e.to ≡ exit → (fault : WalkFault)
      → IsWalkFault exit (cut_edges exit ways edges) spans fault → IsWalkFault exit edges spans fault
  fault_back e has is Memory refused = tt
  fault_back e has is NoCompleteWalk refused =
      let out : reached e.to ≡ false =
      ⊎_elim (λ (holds : reached e.to ≡ true). absurd (omega (arith, comes_low e.to holds)))
      (λ (fails : reached e.to ≡ false). fails) (cases_Bool (reached e.to)) in
      let by = complete_walk exit (cut_edges exit ways edges) spans ordered
      (e, stays e has (uncut_to e out), is) in
      absurd (refused by.0 by.1)
  fault_back e has is BoundTooLarge refused =
      (complete_walk exit edges spans order (e, has, is), too_large refused.1)
