-- What a gain is: the difference of two prices.
use Rattle.std.proofs.Common.{◌≡◌, ◌∙◌, ℕ, ◌+◌, ◌-◌, ◌*◌, ◌<◌, ◌≤◌, max, min, Bool, true, false, cond, eqb, nat_lt, ◌==◌, List, [], ◌∷◌, map, filter, find, fold, All, Contains, Option, Some, None, option_map, ⊎_elim, refl, sym, ap, subst, arith}
use Rattle.std.specs.Prelude.{if◌then◌else◌, is_some, unwrap_or}
use Rattle.std.specs.Map.{lookup}
use Rattle.std.specs.Option.{option_or}
use Rattle.std.proofs.lemmas.Bool.{cases_lt, eq-eqb, eqb-false, eqb-true, le-ltb, lt-ltb}
use Rattle.std.proofs.lemmas.List.Elements.{All-contains, All-from_recursion}
use Rattle.arm2_decode.specs.Transfers.{word_count}
use Rattle.arm2_decode.specs.declared.instr.Instr.{Instr}
use Rattle.arm2_decode.specs.declared.instr.Operation.{Operation}
use Rattle.arm2_decode.specs.declared.instr.Operation.TheVariants as operation
use Rattle.arm2_decode.specs.declared.names.Cond.{Cond}
use Rattle.arm2_decode.specs.declared.names.Register.{Register}
use Rattle.asm_text.proofs.WordLaws.{chosen, map_is}
use Rattle.bus_ticks.specs.declared.profile.Class.{Class}
use Rattle.bus_ticks.specs.declared.profile.Class.TheVariants.{Any, Io, Ram, Rom}
use Rattle.bus_ticks.specs.declared.profile.Class.TheVariants.{Slow, Medium, Fast, Synchronous}
use Rattle.bus_ticks.specs.declared.profile.Profile.{Profile}
use Rattle.bus_ticks.specs.Prices.{by_class, class_of, narrowest_class, speed_class, speed_of}
use Rattle.bus_ticks.specs.Worst.{IsOf, worst_leave}
use Rattle.bus_ticks.specs.declared.space.TheConstants.{IO_START, ROM_START}
use Rattle.control_flow.specs.declared.actions.Kind.{Kind}
use Rattle.control_flow.specs.declared.actions.Work.{Work}
use Rattle.control_flow.specs.declared.actions.Work.TheVariants.{Internal}
use Rattle.control_flow.specs.declared.places.Place.{Place}
use Rattle.control_flow.specs.declared.places.Place.TheVariants.{Exit}
use Rattle.control_flow.specs.Edges.{arrival_ticks, do_ticks, fetch_ticks, jump_ticks, stated_work, work_ticks}
use Rattle.control_flow.proofs.LabelLemmas.{from_map}
use Rattle.control_flow.proofs.SortedLemmas.{cons_cases, no_member}
use Rattle.control_flow.specs.Kinds.{action, base_of, instr_action, kind_of, transfer_work, work_of}
use Rattle.statement.specs.Stated.{Stated, class_at, cycles_at, ruled_class}
use Rattle.walks.proofs.RowLemmas.{find_some}
use Rattle.text_savings.specs.Changed.{with_access, with_cycles, with_leave}
use Rattle.text_savings.specs.Gains.{IsDearestBelow, class_gain, leave_gain, multiply_gain, next_class, next_gain, next_price, known_address, offered, offered_at, offered_of, offered_ways_out, operands_of, operation_gain, priced, transfer_gain, unstated_gain}
use Rattle.text_savings.specs.declared.classes.ClassChange.{ClassChange}
use Rattle.text_savings.specs.declared.classes.PricedClass.{PricedClass}
use Rattle.text_savings.specs.declared.gains.Gain.{Gain}
use Rattle.text_savings.specs.declared.gains.Operands.{Operands}
use Rattle.text_savings.specs.declared.gains.Refinement.TheVariants.{Addresses, Multiplier}

-- ## The next better class

not_none : (g : Gain) → None ≡ Some g → ⊥
not_none g gain = cc

-- the greatest of those below the present price, from a on
module _ (price : Class → ℕ) (present : ℕ) where
  below : List Class → List ℕ
  below cs = filter (λ t. nat_lt t present) (map (λ (c : PricedClass). c.ticks) (map (priced price) cs))

  top : ℕ → List Class → ℕ
  top a cs = fold max a (below cs)

  -- a class more
  if_below : (a : ℕ) (c : Class) (cs : List Class) → price c < present → top a (c ∷ cs) ≡ top (max a (price c)) cs
  unfolding below top
  if_below a c cs less = ap (λ b. fold max a (cond b (price c ∷ below cs) (below cs))) (lt-ltb (price c) present less)

  if_not : (a : ℕ) (c : Class) (cs : List Class) → present ≤ price c → top a (c ∷ cs) ≡ top a cs
  unfolding below top
  if_not a c cs le = ap (λ b. fold max a (cond b (price c ∷ below cs) (below cs))) (le-ltb (price c) present le)

  if_none : (a : ℕ) → top a [] ≡ a
  unfolding below top
  if_none a = refl

  rises : (cs : List Class) (a : ℕ) → a ≤ top a cs
  rises [] a = omega (arith, if_none a)
  rises (c ∷ cs) a = ⊎_elim
      (λ (less : price c < present). let same = if_below a c cs less in let more = rises cs (max a (price c)) in let goal : a ≤ top a (c ∷ cs) = omega arith in goal)
      (λ (le : present ≤ price c). let same = if_not a c cs le in let more = rises cs a in let goal : a ≤ top a (c ∷ cs) = omega arith in goal)
      (cases_lt (price c) present)

  under : (cs : List Class) (a : ℕ) → top a cs < max present (a + 1)
  under [] a = omega (arith, if_none a)
  under (c ∷ cs) a = ⊎_elim
      (λ (less : price c < present). let same = if_below a c cs less in let more = under cs (max a (price c)) in let goal : top a (c ∷ cs) < max present (a + 1) = omega arith in goal)
      (λ (le : present ≤ price c). let same = if_not a c cs le in let more = under cs a in let goal : top a (c ∷ cs) < max present (a + 1) = omega arith in goal)
      (cases_lt (price c) present)

  includes : (cs : List Class) (a : ℕ) (other : Class) → Contains cs other → price other < present → price other ≤ top a cs
  includes [] a other at cheaper = absurd (no_member other at)
  includes (c ∷ cs) a other at cheaper = ⊎_elim
      (λ (is : c ≡ other).
      let same_price : price c ≡ price other = ap price is in
      let same = if_below a c cs (omega arith) in
      let more = rises cs (max a (price c)) in
      let goal : price other ≤ top a (c ∷ cs) = omega arith in
      goal)
      (λ (later : Contains cs other). ⊎_elim
      (λ (less : price c < present). let same = if_below a c cs less in let more = includes cs (max a (price c)) other later cheaper in let goal : price other ≤ top a (c ∷ cs) = omega arith in goal)
      (λ (le : present ≤ price c). let same = if_not a c cs le in let more = includes cs a other later cheaper in let goal : price other ≤ top a (c ∷ cs) = omega arith in goal)
      (cases_lt (price c) present))
      (cons_cases c cs other at)

  -- the class that is found is one of them, and has the price
  found : (cs : List Class) (n : ℕ) (class : Class) → next_class (map (priced price) cs) n ≡ Some class → Contains cs class × (price class ≡ n)
  found cs n class is =
      let named = map_is (λ (p : PricedClass). p.class) (find (λ (p : PricedClass). p.ticks == n) (map (priced price) cs)) class is in
      let one = find_some (λ (p : PricedClass). p.ticks == n) (map (priced price) cs) named.0 named.1 in
      let of = from_map (priced price) cs named.0 one.0 in
      let class_is : of.0 ≡ class = ap (λ (p : PricedClass). p.class) of.2 ∙ named.2 in
      (subst (Contains cs) class_is of.1, sym (ap price class_is) ∙ ap (λ (p : PricedClass). p.ticks) of.2 ∙ eqb-true named.0.ticks n one.1)

  module _ (class : Class) (cs : List Class) (g : Gain) (change : ClassChange) (gain : class_gain class present (map (priced price) cs) ≡ Some g) (is : g.refinement ≡ Addresses change) where
    next : ℕ
    next = next_price present (map (priced price) cs)

    greatest : next ≡ top 0 cs
    unfolding next below top
    greatest = refl

    -- a gain by another class
    record IsNextClass : Type 0 where
      pub some : 0 < next
      pub at : Contains cs change.better
      pub better : price change.better ≡ next
      pub ticks : g.ticks ≡ present - next

    by_next : eqb next 0 ≡ false → (x : Class) × (next_class (map (priced price) cs) next ≡ Some x) × (next_gain class present next x ≡ g) → IsNextClass
    by_next some by =
        let named : Addresses (record { present = class; better = by.0 }) ≡ Addresses change = ap (λ (k : Gain). k.refinement) by.2 ∙ is in
        let change_is : record { present = class; better = by.0 } ≡ change = cc in
        let better_is : by.0 ≡ change.better = ap (λ (k : ClassChange). k.better) change_is in
        let of = found cs next by.0 by.1 in
        record {
          some = omega (arith, eqb-false next 0 some);
          at = subst (Contains cs) better_is of.0;
          better = ap price (sym better_is) ∙ of.1;
          ticks = sym (ap (λ (k : Gain). k.ticks) by.2);
        }

    next_is : IsNextClass
    unfolding next
    next_is = ⊎_elim
        (λ (none : (eqb next 0 ≡ true) × (None ≡ Some g)). absurd (not_none g none.1))
        (λ (some : (eqb next 0 ≡ false) × (option_map (next_gain class present next) (next_class (map (priced price) cs) next) ≡ Some g)).
        by_next some.0 (map_is (next_gain class present next) (next_class (map (priced price) cs) next) g some.1))
        (chosen (eqb next 0) None (option_map (next_gain class present next) (next_class (map (priced price) cs) next)) (Some g) gain)

    less : next < present
    less = omega (arith, greatest, under cs 0, next_is.some)

    -- the price by the better class, and the gain, are the present price
    pub falls : price change.better + g.ticks ≡ present
    falls = omega (arith, less, next_is.better, next_is.ticks)

    -- it is the dearest of the cheaper classes
    pub dearest : IsDearestBelow price present cs change.better
    dearest = record {
      offered = next_is.at;
      less = omega (arith, less, next_is.better);
      next = λ other at cheaper. omega (arith, includes cs 0 other at cheaper, greatest, next_is.better);
    }

-- ## Edges

-- the class that comes first is the stated one
first_class : (st : Stated) (a : ℕ) (class : Class) (base : Option Register) → class_at (with_access st a class) a base ≡ class
first_class st a class base = ap (λ b. unwrap_or (option_or (if b then Some class else lookup (eqb a) st.accesses) (ruled_class st.rules a base)) Any) (eq-eqb a a refl)

-- nothing is stated of the work of a transfer
no_cycles : (st : Stated) (a : ℕ) (load : Bool) (words : ℕ) → stated_work st a (transfer_work load words) ≡ transfer_work load words
no_cycles st a true words = refl
no_cycles st a false words = refl

by_work : (st : Stated) (profile : Profile) (a : ℕ) (c : Cond) (k : Kind) (load : Bool) (words : ℕ) (base : Option Register) (address : Option ℕ) (to : Place) (g : Gain) (change : ClassChange)
    → transfer_gain profile (class_at st a base) address (transfer_work load words) ≡ Some g → g.refinement ≡ Addresses change
    → do_ticks (with_access st a change.better) profile a (action c k (transfer_work load words) base) to + g.ticks ≡ do_ticks st profile a (action c k (transfer_work load words) base) to
by_work st profile a c k load words base address to g change gain is =
    let work = transfer_work load words in
    let class = class_at st a base in
    let less = falls (λ x. work_ticks profile x work) (work_ticks profile class work) class (offered_at address class) g change gain is in
    let fetch = fetch_ticks profile a work in
    let arrival = arrival_ticks profile st.leave k to in
    ap (λ (x : Class). fetch + work_ticks profile x (stated_work st a work) + arrival + g.ticks) (first_class st a change.better base)
    ∙ ap (λ (w : Work). fetch + work_ticks profile change.better w + arrival + g.ticks) (no_cycles st a load words)
    ∙ sums fetch _ _ arrival g.ticks less
    ∙ ap (λ (w : Work). fetch + work_ticks profile class w + arrival) (sym (no_cycles st a load words))
  where
    sums : (fetch better any arrival ticks : ℕ) → better + ticks ≡ any → fetch + better + arrival + ticks ≡ fetch + any + arrival
    sums fetch better any arrival ticks less = omega arith

module _ (st : Stated) (profile : Profile) (a : ℕ) (c : Cond) (to : Place) (g : Gain) (change : ClassChange) (is : g.refinement ≡ Addresses change) where
  abbrev pub Falls : Operation → Type 0
  Falls o = do_ticks (with_access st a change.better) profile a (action c (kind_of o) (work_of o) (base_of o)) to + g.ticks ≡ do_ticks st profile a (action c (kind_of o) (work_of o) (base_of o)) to

  not_multiplier : (o : Operation) → unstated_gain st profile a o ≡ Some g → ⊥
  not_multiplier o gain = ⊎_elim
      (λ stated. not_none g stated.1)
      (λ free.
      let unstated : Some (multiply_gain profile o) ≡ Some g = free.1 in
      let same : multiply_gain profile o ≡ g = cc in
      let both : Multiplier (operands_of o) ≡ Addresses change = ap (λ (x : Gain). x.refinement) same ∙ is in
      cc)
      (chosen (is_some (lookup (eqb a) st.multiplies)) None (Some (multiply_gain profile o)) (Some g) gain)

  of_operation : (o : Operation) → operation_gain st profile a o ≡ Some g → Falls o
  of_operation (operation.Multiply x) gain = absurd (not_multiplier (operation.Multiply x) gain)
  of_operation (operation.DataRegister x) gain = absurd (not_none g gain)
  of_operation (operation.DataRegisterShift x) gain = absurd (not_none g gain)
  of_operation (operation.DataImmediate x) gain = absurd (not_none g gain)
  of_operation (operation.SingleImmediate x) gain = by_work st profile a c (kind_of (operation.SingleImmediate x)) x.load 1 (base_of (operation.SingleImmediate x)) (known_address a (operation.SingleImmediate x)) to g change gain is
  of_operation (operation.SingleRegister x) gain = by_work st profile a c (kind_of (operation.SingleRegister x)) x.load 1 (base_of (operation.SingleRegister x)) (known_address a (operation.SingleRegister x)) to g change gain is
  of_operation (operation.Block x) gain = by_work st profile a c (kind_of (operation.Block x)) x.load (word_count x.list) (base_of (operation.Block x)) (known_address a (operation.Block x)) to g change gain is
  of_operation (operation.Branch x) gain = absurd (not_none g gain)
  of_operation (operation.Swi x) gain = absurd (not_none g gain)
  of_operation (operation.UndefinedTransfer x) gain = absurd (not_none g gain)
  of_operation (operation.CoprocessorTransfer x) gain = absurd (not_none g gain)
  of_operation (operation.Coprocessor x) gain = absurd (not_none g gain)

pub access_gains : (st : Stated) (profile : Profile) (a : ℕ) (i : Instr) (to : Place) (g : Gain) (change : ClassChange)
    → operation_gain st profile a i.operation ≡ Some g → g.refinement ≡ Addresses change
    → do_ticks (with_access st a change.better) profile a (instr_action i) to + g.ticks ≡ do_ticks st profile a (instr_action i) to
access_gains st profile a i to g change gain is = of_operation st profile a i.cond to g change is i.operation gain

-- ## Multiplies

is_most : (stated : Option ℕ) → is_some stated ≡ false → unwrap_or stated 16 ≡ 16
is_most None free = refl
is_most (Some n) free = cc

most_cycles : (st : Stated) (a : ℕ) → is_some (lookup (eqb a) st.multiplies) ≡ false → min 16 (cycles_at st a) ≡ 16
most_cycles st a free = ap (λ n. min 16 (max 1 (min 16 n))) (is_most (lookup (eqb a) st.multiplies) free)

one_less : (st : Stated) (a : ℕ) → min 16 (cycles_at (with_cycles st a 15) a) ≡ 15
one_less st a = ap (λ b. min 16 (max 1 (min 16 (unwrap_or (if b then Some 15 else lookup (eqb a) st.multiplies) 16)))) (eq-eqb a a refl)

by_cycles : (st : Stated) (profile : Profile) (a : ℕ) (c : Cond) (k : Kind) (base : Option Register) (to : Place) (ticks : ℕ)
    → is_some (lookup (eqb a) st.multiplies) ≡ false → 16 * profile.internal - 15 * profile.internal ≡ ticks
    → do_ticks (with_cycles st a 15) profile a (action c k (Internal 16) base) to + ticks ≡ do_ticks st profile a (action c k (Internal 16) base) to
by_cycles st profile a c k base to ticks free is =
    let fetch = fetch_ticks profile a (Internal 16) in
    let arrival = arrival_ticks profile st.leave k to in
    ap (λ n. fetch + n * profile.internal + arrival + ticks) (one_less st a)
    ∙ sums fetch profile.internal arrival ticks is
    ∙ ap (λ n. fetch + n * profile.internal + arrival) (sym (most_cycles st a free))
  where
    sums : (fetch internal arrival ticks : ℕ) → 16 * internal - 15 * internal ≡ ticks
        → fetch + 15 * internal + arrival + ticks ≡ fetch + 16 * internal + arrival
    sums fetch internal arrival ticks is = omega arith

-- what is gained by a class is not gained by a multiplier
not_class : (class : Class) (present : ℕ) (cs : List PricedClass) (g : Gain) (operands : Operands)
    → class_gain class present cs ≡ Some g → g.refinement ≡ Multiplier operands → ⊥
not_class class present cs g operands gain is =
    let next = next_price present cs in
    ⊎_elim
    (λ (none : (eqb next 0 ≡ true) × (None ≡ Some g)). not_none g none.1)
    (λ (some : (eqb next 0 ≡ false) × (option_map (next_gain class present next) (next_class cs next) ≡ Some g)).
    let named = map_is (next_gain class present next) (next_class cs next) g some.1 in
    let both : Addresses (record { present = class; better = named.0 }) ≡ Multiplier operands = ap (λ (k : Gain). k.refinement) named.2 ∙ is in
    cc)
    (chosen (eqb next 0) None (option_map (next_gain class present next) (next_class cs next)) (Some g) gain)

module _ (st : Stated) (profile : Profile) (a : ℕ) (c : Cond) (to : Place) (g : Gain) (operands : Operands) (is : g.refinement ≡ Multiplier operands) where
  abbrev pub FallsByCycles : Operation → Type 0
  FallsByCycles o = do_ticks (with_cycles st a 15) profile a (action c (kind_of o) (work_of o) (base_of o)) to + g.ticks ≡ do_ticks st profile a (action c (kind_of o) (work_of o) (base_of o)) to

  of_multiply : (o : Operation) → unstated_gain st profile a o ≡ Some g
      → (is_some (lookup (eqb a) st.multiplies) ≡ false) × (16 * profile.internal - 15 * profile.internal ≡ g.ticks)
  of_multiply o gain = ⊎_elim
      (λ stated. absurd (not_none g stated.1))
      (λ free.
      let unstated : Some (multiply_gain profile o) ≡ Some g = free.1 in
      let same : multiply_gain profile o ≡ g = cc in
      (free.0, ap (λ (x : Gain). x.ticks) same))
      (chosen (is_some (lookup (eqb a) st.multiplies)) None (Some (multiply_gain profile o)) (Some g) gain)

  moves : (o : Operation) (load : Bool) (words : ℕ) → transfer_gain profile (class_at st a (base_of o)) (known_address a o) (transfer_work load words) ≡ Some g → FallsByCycles o
  moves o load words gain =
      let class = class_at st a (base_of o) in
      let work = transfer_work load words in
      absurd (not_class class (work_ticks profile class work) (map (priced (λ x. work_ticks profile x work)) (offered_at (known_address a o) class)) g operands gain is)

  by_operation : (o : Operation) → operation_gain st profile a o ≡ Some g → FallsByCycles o
  by_operation (operation.Multiply x) gain =
      let of = of_multiply (operation.Multiply x) gain in
      by_cycles st profile a c (kind_of (operation.Multiply x)) (base_of (operation.Multiply x)) to g.ticks of.0 of.1
  by_operation (operation.DataRegister x) gain = absurd (not_none g gain)
  by_operation (operation.DataRegisterShift x) gain = absurd (not_none g gain)
  by_operation (operation.DataImmediate x) gain = absurd (not_none g gain)
  by_operation (operation.SingleImmediate x) gain = moves (operation.SingleImmediate x) x.load 1 gain
  by_operation (operation.SingleRegister x) gain = moves (operation.SingleRegister x) x.load 1 gain
  by_operation (operation.Block x) gain = moves (operation.Block x) x.load (word_count x.list) gain
  by_operation (operation.Branch x) gain = absurd (not_none g gain)
  by_operation (operation.Swi x) gain = absurd (not_none g gain)
  by_operation (operation.UndefinedTransfer x) gain = absurd (not_none g gain)
  by_operation (operation.CoprocessorTransfer x) gain = absurd (not_none g gain)
  by_operation (operation.Coprocessor x) gain = absurd (not_none g gain)

pub cycle_gains : (st : Stated) (profile : Profile) (a : ℕ) (i : Instr) (to : Place) (g : Gain) (operands : Operands)
    → operation_gain st profile a i.operation ≡ Some g → g.refinement ≡ Multiplier operands
    → do_ticks (with_cycles st a 15) profile a (instr_action i) to + g.ticks ≡ do_ticks st profile a (instr_action i) to
cycle_gains st profile a i to g operands gain is = by_operation st profile a i.cond to g operands is i.operation gain

pub leave_gains : (st : Stated) (profile : Profile) (g : Gain) (change : ClassChange) → leave_gain profile st.leave ≡ Some g → g.refinement ≡ Addresses change
    → jump_ticks profile (with_leave st change.better).leave Exit + g.ticks ≡ jump_ticks profile st.leave Exit
leave_gains st profile g change gain is = falls (worst_leave profile) (worst_leave profile st.leave) st.leave (offered_ways_out st.leave) g change gain is

-- ## Which class is next

pub next_access : (profile : Profile) (class : Class) (address : Option ℕ) (work : Work) (g : Gain) (change : ClassChange) → transfer_gain profile class address work ≡ Some g → g.refinement ≡ Addresses change
    → IsDearestBelow (λ c. work_ticks profile c work) (work_ticks profile class work) (offered_at address class) change.better
next_access profile class address work g change gain is = dearest (λ c. work_ticks profile c work) (work_ticks profile class work) class (offered_at address class) g change gain is

pub next_leave : (profile : Profile) (class : Class) (g : Gain) (change : ClassChange) → leave_gain profile class ≡ Some g → g.refinement ≡ Addresses change
    → IsDearestBelow (worst_leave profile) (worst_leave profile class) (offered_ways_out class) change.better
next_leave profile class g change gain is = dearest (worst_leave profile) (worst_leave profile class) class (offered_ways_out class) g change gain is

-- ## Where the classes offered lie

anywhere : (class better : Class) (x : ℕ) → Contains (offered class) better → IsOf better x → IsOf class x
anywhere Any better x at is_of = tt
anywhere Io better x at is_of = All-contains (λ (k : Class). IsOf k x → IsOf Io x) (offered Io) better each at is_of
  where
    each : All (λ (k : Class). IsOf k x → IsOf Io x) (offered Io)
    each = All-from_recursion (λ (k : Class). IsOf k x → IsOf Io x) (offered Io) (λ d. d.0, (λ d. d.0, (λ d. d.0, (λ d. d.0, tt))))
anywhere Ram better x at is_of = absurd (no_member better at)
anywhere Rom better x at is_of = absurd (no_member better at)
anywhere Slow better x at is_of = absurd (no_member better at)
anywhere Medium better x at is_of = absurd (no_member better at)
anywhere Fast better x at is_of = absurd (no_member better at)
anywhere Synchronous better x at is_of = absurd (no_member better at)

-- devices of a speed
device : (x : ℕ) (slow medium fast : Bool) → IsOf (if slow then Slow else (if medium then Medium else (if fast then Fast else Synchronous))) x → class_of x ≡ Io
device x true medium fast is = is.0
device x false true fast is = is.0
device x false false true is = is.0
device x false false false is = is.0

of_speed : (x speed : ℕ) (slow medium fast : Bool) → class_of x ≡ Io → speed_of x ≡ speed → speed < 4 → eqb speed 0 ≡ slow → eqb speed 1 ≡ medium → eqb speed 2 ≡ fast
    → IsOf (if slow then Slow else (if medium then Medium else (if fast then Fast else Synchronous))) x
of_speed x speed true medium fast io is few e0 e1 e2 = (io, is ∙ eqb-true speed 0 e0)
of_speed x speed false true fast io is few e0 e1 e2 = (io, is ∙ eqb-true speed 1 e1)
of_speed x speed false false true io is few e0 e1 e2 = (io, is ∙ eqb-true speed 2 e2)
of_speed x speed false false false io is few e0 e1 e2 =
    let last : speed ≡ 3 = omega (arith, few, eqb-false speed 0 e0, eqb-false speed 1 e1, eqb-false speed 2 e2) in
    (io, is ∙ last)

-- an address is of its narrowest class
narrowest : (x : ℕ) (ram io : Bool) → class_of x ≡ (if ram then Ram else (if io then Io else Rom)) → IsOf (by_class (if ram then Ram else (if io then Io else Rom)) Ram Rom (speed_class (speed_of x))) x
narrowest x true io is = is
narrowest x false true is =
    let few : speed_of x < 4 = omega arith in
    of_speed x (speed_of x) (eqb (speed_of x) 0) (eqb (speed_of x) 1) (eqb (speed_of x) 2) is refl few refl refl refl
narrowest x false false is = is

is_narrowest : (x : ℕ) → IsOf (narrowest_class x) x
is_narrowest x = narrowest x (nat_lt x IO_START) (nat_lt x ROM_START) refl

the_one : (class better : Class) → Contains (class ∷ []) better → class ≡ better
the_one class better at = ⊎_elim (λ (is : class ≡ better). is) (λ (later : Contains [] better). absurd (no_member better later)) (cons_cases class [] better at)

in_devices : (k class better : Class) → Contains (by_class k [] [] (class ∷ [])) better → class ≡ better
in_devices Ram class better at = absurd (no_member better at)
in_devices Rom class better at = absurd (no_member better at)
in_devices Io class better at = the_one class better at
in_devices Any class better at = the_one class better at
in_devices Slow class better at = the_one class better at
in_devices Medium class better at = the_one class better at
in_devices Fast class better at = the_one class better at
in_devices Synchronous class better at = the_one class better at

speeds : (address : ℕ) (better : Class) (x : ℕ) → Contains (speed_class (speed_of address) ∷ []) better → IsOf better x → class_of x ≡ Io
speeds address better x at is_of =
    let speed = speed_of address in
    let P : Class → Type 0 = λ k. IsOf k x in
    device x (eqb speed 0) (eqb speed 1) (eqb speed 2) (subst P (sym (the_one (speed_class speed) better at)) is_of)

-- of a known address a device's class is offered for io, or none
devices : (address : ℕ) (k better : Class) (x : ℕ) → Contains (by_class k [] [] (by_class k Ram Rom (speed_class (speed_of address)) ∷ [])) better → IsOf better x → class_of x ≡ Io
devices address Ram better x at is_of = absurd (no_member better at)
devices address Rom better x at is_of = absurd (no_member better at)
devices address Io better x at is_of = speeds address better x at is_of
devices address Any better x at is_of = speeds address better x at is_of
devices address Slow better x at is_of = speeds address better x at is_of
devices address Medium better x at is_of = speeds address better x at is_of
devices address Fast better x at is_of = speeds address better x at is_of
devices address Synchronous better x at is_of = speeds address better x at is_of

pub way_out_within : (class better : Class) (x : ℕ) → Contains (offered_ways_out class) better → IsOf better x → IsOf class x
way_out_within Any better x at is_of = tt
way_out_within Io better x at is_of = absurd (no_member better at)
way_out_within Ram better x at is_of = absurd (no_member better at)
way_out_within Rom better x at is_of = absurd (no_member better at)
way_out_within Slow better x at is_of = absurd (no_member better at)
way_out_within Medium better x at is_of = absurd (no_member better at)
way_out_within Fast better x at is_of = absurd (no_member better at)
way_out_within Synchronous better x at is_of = absurd (no_member better at)

known_within : (class better : Class) (address x : ℕ) → Contains (offered_of address class) better → IsOf better x → IsOf class x
known_within Any better address x at is_of = tt
known_within Io better address x at is_of = devices address (class_of address) better x at is_of
known_within Ram better address x at is_of = absurd (no_member better at)
known_within Rom better address x at is_of = absurd (no_member better at)
known_within Slow better address x at is_of = absurd (no_member better at)
known_within Medium better address x at is_of = absurd (no_member better at)
known_within Fast better address x at is_of = absurd (no_member better at)
known_within Synchronous better address x at is_of = absurd (no_member better at)

pub within : (class better : Class) (address : Option ℕ) (x : ℕ) → Contains (offered_at address class) better → IsOf better x → IsOf class x
within class better None x at is_of = anywhere class better x at is_of
within class better (Some address) x at is_of = known_within class better address x at is_of

-- a class that is offered for a known address is that address's
pub of_known : (class better : Class) (address : ℕ) → Contains (offered_of address class) better → IsOf better address
of_known Any better address at = let P : Class → Type 0 = λ k. IsOf k address in subst P (the_one (narrowest_class address) better at) (is_narrowest address)
of_known Io better address at = let P : Class → Type 0 = λ k. IsOf k address in subst P (in_devices (class_of address) (narrowest_class address) better at) (is_narrowest address)
of_known Ram better address at = absurd (no_member better at)
of_known Rom better address at = absurd (no_member better at)
of_known Slow better address at = absurd (no_member better at)
of_known Medium better address at = absurd (no_member better at)
of_known Fast better address at = absurd (no_member better at)
of_known Synchronous better address at = absurd (no_member better at)
