-- A place has one list of edges; they leave the place, and their costs fit.
use Rattle.std.proofs.Common.{◌≡◌, ℕ, ◌+◌, ◌-◌, ◌*◌, ◌%◌, ◌^◌, ◌<◌, ◌≤◌, Bool, true, false, cond, List, [], ◌∷◌, ◌++◌, length, get_or, take, map, Option, Some, None, IfSome, nat_eq, ⊎_elim, refl, sym, ap, ◌∙◌, subst, arith, eqb, ltb, length-append}
use Rattle.std.specs.Prelude.{Contains, All}
use Rattle.std.proofs.lemmas.List.{length-take-le}
use Rattle.std.proofs.lemmas.List.Elements.{All-nil, All-cons, All-head, All-tail, All-append, All-contains, All-take, All-map, All-push, All-weaker}
use Rattle.std.proofs.lemmas.Map.Entries.{All-lookup}
use Rattle.std.proofs.lemmas.Bool.{ltb-true}
use Rattle.std.proofs.lemmas.Nat.{mul-le}
use Rattle.std.proofs.Math.Nat.{min-le_left}
use Rattle.arm2_decode.proofs.Unique.{one_instr, never_both, one_unallocated}
use Rattle.bus_ticks.proofs.WorstLemmas.{worst_block_small}
use Rattle.arm2_effect.specs.ProgramCounter.{branch_target}
use Rattle.bus_ticks.specs.Prices.{ahead_of, by_class, class_of}
use Rattle.bus_ticks.specs.Ranges.{IsPrice}
use Rattle.bus_ticks.specs.Worst.{worst_transfer, worst_fetch_n, worst_fetch_s, worst_rom, worst_leave}
use Rattle.bus_ticks.specs.declared.profile.Class.{Class}
use Rattle.bus_ticks.specs.declared.profile.Class.TheVariants.{Any, Ram, Rom, Io}
use Rattle.bus_ticks.specs.declared.profile.Class.TheVariants.{Slow, Medium, Fast, Synchronous}
use Rattle.bus_ticks.specs.declared.profile.Profile.{Profile}
use Rattle.image.specs.Image.{Words}
use Rattle.control_flow.specs.Edges.{AreEdgesOf, HasAction, IsEdge, arrival_ticks, call_places, do_edge, landing_edges, do_edges, fetch_ticks, places_at, jump_ticks, landings, may_do, may_skip, return_place, skip_edge, skip_edges, stated_landings, stated_work, word_edges, work_ticks, writer_landings}
use Rattle.control_flow.specs.Kinds.{IsAction, IsWork, instr_action, unallocated_action}
use Rattle.control_flow.specs.Places.{IsInRange}
use Rattle.statement.specs.Stated.{IsStated, IsTarget, Stated, Target, class_at, cycles_at, taken_at, target_of}
use Rattle.control_flow.specs.declared.edges.Edge.{Edge}
use Rattle.control_flow.specs.declared.actions.Action.{Action}
use Rattle.control_flow.specs.declared.actions.Kind.{Kind}
use Rattle.control_flow.specs.declared.actions.Kind.TheVariants.{Plain, Branch, Call, Writer, Trap, Unallocated}
use Rattle.control_flow.specs.declared.actions.Work.{Work}
use Rattle.control_flow.specs.declared.actions.Work.TheVariants.{Internal, Load, Store}
use Rattle.control_flow.specs.declared.places.Place.{Place}
use Rattle.control_flow.specs.declared.places.Place.TheVariants.{At, Exit}
use Rattle.statement.specs.declared.stated.TargetKind.{TargetKind}
use Rattle.statement.specs.declared.stated.TargetKind.TheVariants as stated
use Rattle.control_flow.proofs.SortedLemmas.{no_member}
use Rattle.control_flow.proofs.WorkLemmas.{action_fits}

-- ## One list

pub one_action : (word : ℕ) (a b : Action) → IsAction word a → IsAction word b → a ≡ b
one_action word a b h k =
    ⊎_elim
    (λ m. ⊎_elim
    (λ n. m.2 ∙ ap instr_action (one_instr word m.0 n.0 m.1 n.1) ∙ sym n.2)
    (λ v. absurd (never_both word m.0 v.0 m.1 v.1))
    k)
    (λ u. ⊎_elim
    (λ n. absurd (never_both word n.0 u.0 n.1 u.1))
    (λ v. u.2 ∙ ap unallocated_action (one_unallocated word u.0 v.0 u.1 v.1) ∙ sym v.2)
    k)
    h

pub one_action_at : (words : Words) (address : ℕ) (a b : Action) → HasAction words address a → HasAction words address b → a ≡ b
one_action_at words address a b h k =
    let both : Some h.word ≡ Some k.word = sym h.word_is ∙ k.word_is in
    let same : k.word ≡ h.word = cc in
    one_action h.word a b h.is (subst (λ w. IsAction w b) same k.is)

pub one_list : (words : Words) (st : Stated) (profile : Profile) (p : Place) (edges others : List Edge) → AreEdgesOf words st profile p edges → AreEdgesOf words st profile p others → edges ≡ others
one_list words st profile (At calls address) edges others h k =
    h.2 ∙ ap (word_edges st profile calls address) (one_action_at words address h.0 k.0 h.1 k.1) ∙ sym k.2
one_list words st profile Exit edges others h k = h ∙ sym k

-- ## Prices are small, and none is 0

by_class_all : (P : ℕ → Type 0) (c : Class) (a b d : ℕ) → P a → P b → P d → P (by_class c a b d)
by_class_all P Ram a b d h k l = h
by_class_all P Rom a b d h k l = k
by_class_all P Io a b d h k l = l
by_class_all P Any a b d h k l = l
by_class_all P Slow a b d h k l = l
by_class_all P Medium a b d h k l = l
by_class_all P Fast a b d h k l = l
by_class_all P Synchronous a b d h k l = l

cond_all : {A : Type 0} (P : A → Type 0) (t : Bool) (a b : A) → P a → P b → P (cond t a b)
cond_all P true a b h k = h
cond_all P false a b h k = k

rom_is_price : (p : Profile) → IsPrice (worst_rom p)
rom_is_price p = (omega (arith, p.rom_0_price), omega (arith, p.rom_0_price, p.rom_1_price, p.rom_2_price, p.rom_3_price))

n_is_price : (p : Profile) (x : ℕ) → IsPrice (worst_fetch_n p x)
n_is_price p x = by_class_all IsPrice (class_of x) p.n (worst_rom p) p.unfitted p.n_price (rom_is_price p) p.unfitted_price

s_is_price : (p : Profile) (x : ℕ) → IsPrice (worst_fetch_s p x)
s_is_price p x =
    by_class_all
    IsPrice
    (class_of x)
    (cond (eqb (x % 16) 0) p.quad p.s)
    (worst_rom p)
    p.unfitted
    (cond_all IsPrice (eqb (x % 16) 0) p.quad p.s p.quad_price p.s_price)
    (rom_is_price p)
    p.unfitted_price

leave_small : (p : Profile) (c : Class) → worst_leave p c < 512
leave_small p Ram = omega (arith, p.n_price, p.quad_price, p.unfitted_price)
leave_small p Rom = omega (arith, rom_is_price p, p.quad_price)
leave_small p Io = omega (arith, rom_is_price p, p.unfitted_price)
leave_small p Any = omega (arith, rom_is_price p, p.n_price, p.quad_price, p.unfitted_price)
leave_small p Slow = omega (arith, p.unfitted_price)
leave_small p Medium = omega (arith, p.unfitted_price)
leave_small p Fast = omega (arith, p.unfitted_price)
leave_small p Synchronous = omega (arith, rom_is_price p, p.unfitted_price)

jumping_small : (leave : Class) (p : Profile) (to : Place) → jump_ticks p leave to < 512
jumping_small leave p (At calls t) = omega (arith, n_is_price p t, s_is_price p (ahead_of t 4))
jumping_small leave p Exit = leave_small p leave

arriving_small : (leave : Class) (p : Profile) (k : Kind) (to : Place) → arrival_ticks p leave k to < 512
arriving_small leave p Plain to = omega arith
arriving_small leave p (Branch offset) to = jumping_small leave p to
arriving_small leave p (Call offset) to = jumping_small leave p to
arriving_small leave p Writer to = jumping_small leave p to
arriving_small leave p Trap to = omega arith
arriving_small leave p Unallocated to = omega arith

fetching_is_price : (p : Profile) (address : ℕ) (w : Work) → IsPrice (fetch_ticks p address w)
fetching_is_price p address (Internal cycles) = s_is_price p (ahead_of address 8)
fetching_is_price p address (Load words) = s_is_price p (ahead_of address 8)
fetching_is_price p address (Store words) = n_is_price p (ahead_of address 8)

working_small : (p : Profile) (c : Class) (w : Work) → IsWork w → work_ticks p c w < 4400
working_small p c (Internal cycles) few = omega (arith, mul-le cycles p.internal 16 255 few (omega (arith, p.internal_price)))
working_small p c (Load words) fits = omega (arith, worst_block_small p c words false (worst_transfer p c words false) fits.0 fits.1 refl, fits.1, p.internal_price)
working_small p c (Store words) fits = omega (arith, worst_block_small p c words true (worst_transfer p c words true) fits.0 fits.1 refl, fits.1)

-- what is stated of a multiply is within its limits
stated_fits : (st : Stated) (address : ℕ) (w : Work) → IsWork w → IsWork (stated_work st address w)
stated_fits st address (Internal cycles) few = omega (arith, min-le_left cycles (cycles_at st address))
stated_fits st address (Load words) fits = fits
stated_fits st address (Store words) fits = fits

-- ## Places are in range

abbrev pub IsSmall : Place → Type 0
IsSmall (At calls address) = IsInRange calls address
IsSmall Exit = Unit {0}

ahead_in_range : (calls : List ℕ) (address from by : ℕ) → IsInRange calls address → IsInRange calls (ahead_of from by)
ahead_in_range calls address from by h = (omega arith, h.1, h.2)

returning_in_range : (calls : List ℕ) (address : ℕ) → IsInRange calls address → IsSmall (return_place calls)
returning_in_range calls address h =
    cond_all
    IsSmall
    (eqb (length calls) 0)
    Exit
    (At (take (length calls - 1) calls) (ahead_of (get_or calls (length calls - 1) 0) 4))
    tt
    (omega arith, let e : length (take (length calls - 1) calls) ≡ length calls - 1 = length-take-le (length calls - 1) calls (omega arith) in omega (arith, h.1), All-take (λ c. c < 2 ^ 26) (length calls - 1) calls h.2)

inside_in_range : (calls to : List ℕ) → length calls ≤ 8 → All (λ c. c < 2 ^ 26) calls → All (λ a. a < 2 ^ 26) to → All IsSmall (places_at calls to)
inside_in_range calls to few small all = All-map IsSmall (λ (a : ℕ). At calls a) to (All-weaker (λ a. a < 2 ^ 26) (λ (a : ℕ). IsInRange calls a) (λ a h. (h, few, small)) to all)

-- the places to which a call leads, by whether the calls are fewer than eight
calling_in_range : (calls : List ℕ) (address : ℕ) (to : List ℕ) → IsInRange calls address → All (λ a. a < 2 ^ 26) to → All IsSmall (call_places calls address to)
calling_in_range calls address to h all =
    elim (ltb (length calls) 8) as (λ b. ltb (length calls) 8 ≡ b → All IsSmall (cond b (places_at (calls ++ address ∷ []) to) [])) [
      | true ↦ λ e.
          let few : length calls < 8 = ltb-true (length calls) 8 e in
          inside_in_range (calls ++ address ∷ []) to (omega (arith, length-append calls (address ∷ []))) (All-push (λ c. c < 2 ^ 26) calls address h.2 h.0) all
      | false ↦ λ e. All-nil IsSmall
    ] refl

one_in_range : (p : Place) → IsSmall p → All IsSmall (p ∷ [])
one_in_range p h = All-cons IsSmall p [] h (All-nil IsSmall)

stated_in_range : (calls : List ℕ) (address : ℕ) (k : TargetKind) (to : List ℕ) → IsInRange calls address → All (λ a. a < 2 ^ 26) to → All IsSmall (stated_landings calls address k to)
stated_in_range calls address stated.Jump to h all = inside_in_range calls to h.1 h.2 all
stated_in_range calls address stated.Call to h all = calling_in_range calls address to h all
stated_in_range calls address stated.Return to h all = one_in_range (return_place calls) (returning_in_range calls address h)
stated_in_range calls address stated.Leave to h all = one_in_range Exit tt

writer_in_range : (calls : List ℕ) (address : ℕ) (t : Option Target) → IsInRange calls address → IfSome t IsTarget → All IsSmall (writer_landings calls address t)
writer_in_range calls address None h target = one_in_range (return_place calls) (returning_in_range calls address h)
writer_in_range calls address (Some t) h target = stated_in_range calls address t.kind t.to h target

landings_in_range : (st : Stated) (calls : List ℕ) (address : ℕ) (k : Kind) → IsStated st → IsInRange calls address → All IsSmall (landings st calls address k)
landings_in_range st calls address Plain s h = one_in_range (At calls (ahead_of address 4)) (ahead_in_range calls address address 4 h)
landings_in_range st calls address (Branch offset) s h = one_in_range (At calls (branch_target address offset)) (ahead_in_range calls address address (8 + 4 * offset) h)
landings_in_range st calls address (Call offset) s h =
    let small : branch_target address offset < 2 ^ 26 = omega arith in
    calling_in_range calls address (branch_target address offset ∷ []) h (All-cons (λ a. a < 2 ^ 26) (branch_target address offset) [] small (All-nil (λ a. a < 2 ^ 26)))
landings_in_range st calls address Writer s h = writer_in_range calls address (target_of st address) h (All-lookup IsTarget (nat_eq address) st.targets s.destinations)
landings_in_range st calls address Trap s h = All-nil IsSmall
landings_in_range st calls address Unallocated s h = All-nil IsSmall

-- ## Each edge of a place

-- it leaves the place, at a small cost that is not 0, and ends in range
pub record Leaves (st : Stated) (p : Place) (e : Edge) : Type 0 where
  pub from : e.from ≡ p
  pub some : 0 < e.cost
  pub small : e.cost < 8192
  pub ends : IsStated st → IsSmall p → IsSmall e.to

module _ (st : Stated) (profile : Profile) (calls : List ℕ) (address : ℕ) where
  abbrev pub AllLeave : List Edge → Type 0
  AllLeave edges = All (Leaves st (At calls address)) edges

  none_leaves : AllLeave []
  none_leaves = All-nil (Leaves st (At calls address))

  skip_leaves : AllLeave (skip_edge profile calls address ∷ [])
  skip_leaves =
      All-cons
      (Leaves st (At calls address))
      (skip_edge profile calls address)
      []
      (record {
        from = refl;
        some = (s_is_price profile (ahead_of address 8)).0;
        small = omega (arith, s_is_price profile (ahead_of address 8));
        ends = λ s h. ahead_in_range calls address address 4 h;
      })
      none_leaves

  do_leaves : (a : Action) → IsWork a.work → (to : Place) → (IsStated st → IsInRange calls address → IsSmall to) → Leaves st (At calls address) (do_edge st profile calls address a to)
  do_leaves a fits to ends = record {
    from = refl;
    some = omega (arith, (fetching_is_price profile address a.work).0);
    small = omega (arith, (fetching_is_price profile address a.work).1, working_small profile (class_at st address a.base) (stated_work st address a.work) (stated_fits st address a.work fits), arriving_small st.leave profile a.kind to);
    ends = ends;
  }

  done_leaves : (a : Action) → IsWork a.work → (to : List Place) → (IsStated st → IsInRange calls address → All IsSmall to) → AllLeave (map (do_edge st profile calls address a) to)
  done_leaves a fits [] ends = none_leaves
  done_leaves a fits (p ∷ to) ends =
      All-cons
      (Leaves st (At calls address))
      (do_edge st profile calls address a p)
      (map (do_edge st profile calls address a) to)
      (do_leaves a fits p (λ s h. All-head IsSmall p to (ends s h)))
      (done_leaves a fits to (λ s h. All-tail IsSmall p to (ends s h)))

  word_leaves : (a : Action) → IsWork a.work → AllLeave (word_edges st profile calls address a)
  word_leaves a fits =
      All-append
      (Leaves st (At calls address))
      (skip_edges st profile calls address a)
      (do_edges st profile calls address a)
      (cond_all AllLeave (may_skip a.cond (taken_at st address)) (skip_edge profile calls address ∷ []) [] skip_leaves none_leaves)
      (cond_all AllLeave (may_do a.cond (taken_at st address)) (landing_edges st profile calls address a) [] (done_leaves a fits (landings st calls address a.kind) (λ s h. landings_in_range st calls address a.kind s h)) none_leaves)

module _ (words : Words) (st : Stated) (profile : Profile) where
  pub leaves : (p : Place) (edges : List Edge) (e : Edge) → AreEdgesOf words st profile p edges → Contains edges e → Leaves st p e
  leaves (At calls address) edges e are has =
      let fits : IsWork (are.0).work = action_fits (are.1).word are.0 (are.1).is in
      All-contains (Leaves st (At calls address)) (word_edges st profile calls address are.0) e (word_leaves st profile calls address are.0 fits) (subst (λ xs. Contains xs e) are.2 has)
  leaves Exit edges e are has = absurd (no_member e (subst (λ xs. Contains xs e) are has))

  -- the edges of a place are edges
  pub is_edge : (p : Place) (edges : List Edge) (e : Edge) → AreEdgesOf words st profile p edges → Contains edges e → IsEdge words st profile e
  is_edge p edges e are has = (edges, subst (λ x. AreEdgesOf words st profile x edges) (sym ((leaves p edges e are has).from)) are, has)

  -- an edge is among the edges of its place
  pub among_edges : (p : Place) (edges : List Edge) (e : Edge) → AreEdgesOf words st profile p edges → IsEdge words st profile e → e.from ≡ p → Contains edges e
  among_edges p edges e are is from =
      let others : AreEdgesOf words st profile p is.0 = subst (λ x. AreEdgesOf words st profile x is.0) from is.1 in
      subst (λ xs. Contains xs e) (one_list words st profile p is.0 edges others are) is.2

  -- none leaves Exit
  pub no_edge_at_exit : (e : Edge) → IsEdge words st profile e → e.from ≡ Exit → ⊥
  no_edge_at_exit e is from =
      let none : is.0 ≡ [] = subst (λ x. AreEdgesOf words st profile x is.0) from is.1 in
      no_member e (subst (λ xs. Contains xs e) none is.2)
