-- Where the words of a document's loops lie, by the stretches apart that it states.
use Rattle.std.proofs.Common.{◌≡◌, ◌⊎◌, ◌↔◌, ◌≤◌, ℕ, true, List, [], ◌∷◌, Option, Some, None, IsSomeAnd, MatchOption, Any, length, unwrap_or, inl, inr, refl, sym, ap, subst, ◌∙◌, le_of_eq}
use Rattle.std.specs.Prelude.{All, codes}
use Rattle.std.specs.List.{AllZip, list_all}
use Rattle.std.specs.Option.{option_and_then}
use Rattle.std.proofs.lemmas.Bool.{cases_Bool, false≢true}
use Rattle.std.proofs.lemmas.List.Elements.{All-cons, All-head, All-nil, All-tail, All-weaker}
use Rattle.std.proofs.lemmas.List.Sums.{AllPass-from_list_all, list_all-from_AllPass}
use Rattle.toml.specs.Data.{Data, Members, as_table, get_member}
use Rattle.toml_reading.specs.Documents.{has_only_keys, items_at}
use Rattle.toml_reading.specs.Lists.{IsListUpTo, ListUpToFault}
use Rattle.toml_reading.specs.Lowest.{AtKey, AtKeyOr, entries_at}
use Rattle.toml_reading.specs.Readings.{pair}
use Rattle.toml_reading.proofs.Following.{stated_or_faulty, tables_up_to_judged, test_judged, then_judged, widened_judged}
use Rattle.toml_reading.proofs.LowestLemmas.{Judges, judged_as, judged_one, pair_judged}
use Rattle.toml_reading.proofs.LowestParts.{any_cases, any_first, any_later, any_none}
use Rattle.image.specs.Labels.{Names}
use Rattle.statement.specs.Stated.{IsPlaced, MayStand, StatedLoops, is_placed}
use Rattle.statement.specs.Statement.{apart_at, apart_in, loop_at, loop_keys, loops_in, placed_loops, stated_loops_in}
use Rattle.statement.specs.StatementFaults.{number_of, statement_faults}
use Rattle.statement.specs.StatementRules.{AreStretches, HasLoop, HasMisplaced, IsAddress, IsMisplaced, LoopFault, StatesLoop, StatesStretch, StretchFault}
use Rattle.statement.specs.declared.apart.ApartStretch.{ApartStretch}
use Rattle.statement.specs.declared.faults.StatementFault.{StatementFault}
use Rattle.statement.specs.declared.faults.StatementFault.TheVariants.{OutOfRange}
use Rattle.statement.specs.declared.stated.Loop.{Loop}
use Rattle.statement.proofs.RuleLemmas.{one_address, one_some}
use Rattle.statement.proofs.StandLemmas.{stand_is}
use Rattle.statement.proofs.TableLemmas.{loop_judged, loops_low, stretch_judged, stretches_low}

-- ## The loops by their stretches

all_placed : (apart : List ApartStretch) (ls : List Loop) → list_all (is_placed apart) ls ≡ true ↔ All (IsPlaced apart) ls
all_placed apart ls = (
  λ e.
      All-weaker (λ l. is_placed apart l ≡ true) (IsPlaced apart) (λ l. (stand_is apart l.first l.header l.last).0) ls
      (AllPass-from_list_all (is_placed apart) ls e),
  λ h.
      list_all-from_AllPass (is_placed apart) ls
      (All-weaker (IsPlaced apart) (λ l. is_placed apart l ≡ true) (λ l. (stand_is apart l.first l.header l.last).1) ls h),
)

-- ## Entries of a list, one by one

module _ {A : Type 0} (limit : ℕ) (S : Data → A → Type 0) where
  items_zip : (o : Option (List Data)) (xs : List A) → IsSomeAnd o (λ ds. (length ds ≤ limit) × AllZip S ds xs) → AllZip S (unwrap_or o []) xs
  items_zip None xs h = absurd h
  items_zip (Some ds) xs h = h.1

  pub entries_zip : (o : Option Data) (xs : List A) → MatchOption o (xs ≡ []) (λ d. IsListUpTo limit S d xs) → AllZip S (unwrap_or (option_and_then items_at o) []) xs
  entries_zip None xs h = subst (λ (ys : List A). AllZip S [] ys) (sym h) tt
  entries_zip (Some d) xs h = items_zip (items_at d) xs h

module _ (names : Names) (apart : List ApartStretch) where
  abbrev IsOutside : Data → Type 0
  IsOutside d = IsSomeAnd (as_table d) (IsMisplaced names apart)

  abbrev LoopOf : Loop → Members → Type 0
  LoopOf l ms = (has_only_keys loop_keys ms ≡ true) × HasLoop names ms l

  table_outside : (o : Option Members) (l : Loop) → IsSomeAnd o (LoopOf l) → (¬ IsPlaced apart l) → IsSomeAnd o (IsMisplaced names apart)
  table_outside None l h not = absurd h
  table_outside (Some ms) l h not = (l.first, l.last, l.header, h.1.first, h.1.last, h.1.header, not)

  one_at_key : (key : List ℕ) (ms : Members) (a b : ℕ) → AtKey key ms (λ d. IsAddress names d a) → AtKey key ms (λ d. IsAddress names d b) → a ≡ b
  one_at_key key ms a b h k = one_some (IsAddress names) (one_address names) (get_member key ms) a b h k

  outside_table : (o : Option Members) (l : Loop) → IsSomeAnd o (LoopOf l) → IsSomeAnd o (IsMisplaced names apart) → ¬ IsPlaced apart l
  outside_table None l h k = absurd h
  outside_table (Some ms) l h k = λ placed.
      let first = one_at_key (codes "first") ms l.first k.0 h.1.first k.3 in
      let last = one_at_key (codes "last") ms l.last k.1 h.1.last k.4 in
      let header = one_at_key (codes "header") ms l.header k.2 h.1.header k.5 in
      k.6
      (subst (λ (a : ℕ). MayStand apart a k.2 k.1) first
      (subst (λ (a : ℕ). MayStand apart l.first a k.1) header (subst (λ (a : ℕ). MayStand apart l.first l.header a) last placed)))

  -- one of the loops lies outside, or all are placed
  some_outside : (ds : List Data) (ls : List Loop) → AllZip (StatesLoop names) ds ls → (¬ All (IsPlaced apart) ls) → Any IsOutside ds
  some_outside [] [] z not = absurd (not (All-nil (IsPlaced apart)))
  some_outside [] (l ∷ ls) z not = absurd z
  some_outside (d ∷ ds) [] z not = absurd z
  some_outside (d ∷ ds) (l ∷ ls) z not = elim (cases_Bool (is_placed apart l)) [
    | inl is ↦ any_later IsOutside d ds (some_outside ds ls z.1 (λ all. not (All-cons (IsPlaced apart) l ls ((stand_is apart l.first l.header l.last).0 is) all)))
    | inr none ↦ any_first IsOutside d ds (table_outside (as_table d) l z.0 (λ p. false≢true (sym none ∙ (stand_is apart l.first l.header l.last).1 p)))
  ]

  outside_some : (ds : List Data) (ls : List Loop) → AllZip (StatesLoop names) ds ls → Any IsOutside ds → ¬ All (IsPlaced apart) ls
  outside_some [] ls z any = absurd (any_none IsOutside any)
  outside_some (d ∷ ds) [] z any = absurd z
  outside_some (d ∷ ds) (l ∷ ls) z any = λ all. elim (any_cases IsOutside d ds any) [
    | inl here ↦ outside_table (as_table d) l z.0 here (All-head (IsPlaced apart) l ls all)
    | inr later ↦ outside_some ds ls z.1 later (All-tail (IsPlaced apart) l ls all)
  ]

-- ## The loops of a document

module _ (names : Names) where
  abbrev HasPair : Members → List Loop × List ApartStretch → Type 0
  HasPair ms p =
      AtKeyOr (codes "loop") ms (p.0 ≡ []) (λ d. IsListUpTo 256 (StatesLoop names) d p.0) × AreStretches names ms p.1

  abbrev PairFault : Members → StatementFault → Type 0
  PairFault ms f =
      AtKey (codes "loop") ms (λ d. ListUpToFault statement_faults 256 (LoopFault names) d f)
      ⊎ AtKey (codes "apart") ms (λ d. ListUpToFault statement_faults 256 (StretchFault names) d f)

  abbrev pub HasLoops : Members → StatedLoops → Type 0
  HasLoops ms loops = HasPair ms (loops.list, loops.apart) × All (IsPlaced loops.apart) loops.list

  abbrev pub LoopsFault : Members → StatementFault → Type 0
  LoopsFault ms f = PairFault ms f ⊎ (HasMisplaced names ms × (f ≡ OutOfRange))

  abbrev OutsideFault : Members → StatementFault → Type 0
  OutsideFault ms f =
      (p : List Loop × List ApartStretch) × HasPair ms p × ((¬ All (IsPlaced p.1) p.0) × (f ≡ OutOfRange))

  abbrev loops_by : List Loop × List ApartStretch → StatedLoops
  loops_by p = record { list = p.0; apart = p.1 }

  abbrev Placed : List Loop × List ApartStretch → StatedLoops → Type 0
  Placed p loops = All (IsPlaced p.1) p.0 × (loops ≡ loops_by p)

  pub stretches_judged :
      (ms : Members)
      → Judges
      statement_faults
      (AreStretches names ms)
      (λ f. AtKey (codes "apart") ms (λ d. ListUpToFault statement_faults 256 (StretchFault names) d f))
      (apart_in names ms)
  stretches_judged ms =
      tables_up_to_judged statement_faults 256 (StatesStretch names) (StretchFault names) (apart_at names) (stretch_judged names) (get_member (codes "apart") ms)

  pair_is_judged :
      (ms : Members)
      → Judges statement_faults (HasPair ms) (PairFault ms) (pair statement_faults (loops_in names ms) (apart_in names ms))
  pair_is_judged ms =
      pair_judged statement_faults (λ ls. AtKeyOr (codes "loop") ms (ls ≡ []) (λ d. IsListUpTo 256 (StatesLoop names) d ls)) (AreStretches names ms) _ _ _ _
      (tables_up_to_judged statement_faults 256 (StatesLoop names) (LoopFault names) (loop_at names) (loop_judged names) (get_member (codes "loop") ms))
      (stretches_judged ms)

  -- the stretches of a document are one list
  one_apart : (ms : Members) (a b : List ApartStretch) → AreStretches names ms a → AreStretches names ms b → a ≡ b
  one_apart ms a b h k = judged_one statement_faults (AreStretches names ms) _ (apart_in names ms) (stretches_judged ms) a b h k

  pair_low : (ms : Members) (g : StatementFault) → PairFault ms g → number_of g ≤ number_of OutOfRange
  pair_low ms g (inl h) = loops_low names (get_member (codes "loop") ms) g h
  pair_low ms g (inr h) = stretches_low names (get_member (codes "apart") ms) g h

  outside_not : (ms : Members) (p : List Loop × List ApartStretch) → HasPair ms p → HasMisplaced names ms → ¬ All (IsPlaced p.1) p.0
  outside_not ms p h k =
      let same = one_apart ms k.0 p.1 k.1 h.1 in
      let any = subst (λ (apart : List ApartStretch). Any (IsOutside names apart) (entries_at (codes "loop") ms)) same k.2 in
      outside_some names p.1 (entries_at (codes "loop") ms) p.0 (entries_zip 256 (StatesLoop names) (get_member (codes "loop") ms) p.0 h.0) any

  not_outside : (ms : Members) (p : List Loop × List ApartStretch) → HasPair ms p → (¬ All (IsPlaced p.1) p.0) → HasMisplaced names ms
  not_outside ms p h not =
      (p.1, h.1, some_outside names p.1 (entries_at (codes "loop") ms) p.0 (entries_zip 256 (StatesLoop names) (get_member (codes "loop") ms) p.0 h.0) not)

  -- a header outside first to last is reported, or a fault of the lists that is no higher
  misplaced_under :
      (ms : Members) (f : StatementFault)
      → HasMisplaced names ms × (f ≡ OutOfRange)
      → (g : StatementFault) × (PairFault ms g ⊎ OutsideFault ms g) × (number_of g ≤ number_of f)
  misplaced_under ms f h =
      elim
      (stated_or_faulty statement_faults (HasPair ms) (PairFault ms) (pair statement_faults (loops_in names ms) (apart_in names ms)) (pair_is_judged ms)) [
        | inl p ↦ (OutOfRange, inr (p.0, p.1, (outside_not ms p.0 p.1 h.0, refl)), le_of_eq (ap number_of (sym h.1)))
        | inr g ↦ (g.0, inl g.1, subst (λ (y : StatementFault). number_of g.0 ≤ number_of y) (sym h.1) (pair_low ms g.0 g.1))
      ]

  placed_judged :
      (ms : Members)
      → Judges
      statement_faults
      (λ loops. (p : List Loop × List ApartStretch) × HasPair ms p × Placed p loops)
      (λ f. PairFault ms f ⊎ OutsideFault ms f)
      (stated_loops_in names ms)
  placed_judged ms =
      then_judged
      statement_faults
      (HasPair ms)
      Placed
      (PairFault ms)
      (λ p f. (¬ All (IsPlaced p.1) p.0) × (f ≡ OutOfRange))
      placed_loops
      (λ p s. test_judged statement_faults (All (IsPlaced p.1) p.0) (loops_by p) OutOfRange (list_all (is_placed p.1) p.0) (all_placed p.1 p.0))
      (pair statement_faults (loops_in names ms) (apart_in names ms))
      (pair_is_judged ms)

  pub stated_loops_judged : (ms : Members) → Judges statement_faults (HasLoops ms) (LoopsFault ms) (stated_loops_in names ms)
  stated_loops_judged ms =
      judged_as
      statement_faults
      (λ loops. (p : List Loop × List ApartStretch) × HasPair ms p × Placed p loops)
      (HasLoops ms)
      (LoopsFault ms)
      (LoopsFault ms)
      (λ loops. (
        λ u. subst (HasLoops ms) (sym u.2.1) (u.1, u.2.0),
        λ h. ((loops.list, loops.apart), h.0, (h.1, refl)),
      ))
      (λ f. (λ y. y, λ y. y))
      (stated_loops_in names ms)
      (widened_judged statement_faults _ (PairFault ms) (OutsideFault ms) (λ f. HasMisplaced names ms × (f ≡ OutOfRange)) (λ f u. (not_outside ms u.0 u.1 u.2.0, u.2.1)) (misplaced_under ms) (stated_loops_in names ms) (placed_judged ms))
