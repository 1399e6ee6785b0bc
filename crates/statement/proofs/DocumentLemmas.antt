-- What is read of a document, against what it states and the faults that it has.
use Rattle.std.proofs.Common.{◌≡◌, ◌⊎◌, ◌↔◌, ◌≤◌, ℕ, List, inl, inr, false, le_of_eq, true, ◌&&◌, get_or, [], ◌∷◌, Ok, Err, refl, sym, ap, subst, ◌∙◌}
use Rattle.std.specs.Prelude.{codes}
use Rattle.std.specs.Map.{keys_of}
use Rattle.std.specs.Cmp.Derive.{both_true}
use Rattle.std.proofs.lemmas.Bool.{and_parts, cases_Bool, false_from_ne_true, false≢true}
use Rattle.toml.specs.Data.{Data, Members, as_table, get_member}
use Rattle.bus_ticks.specs.declared.profile.Class.TheVariants.{Any}
use Rattle.toml_reading.specs.Documents.{are_distinct, has_only_keys}
use Rattle.toml_reading.specs.Lists.{IsListUpTo, ListUpToFault}
use Rattle.toml_reading.specs.Lowest.{AtKey, AtKeyOr, IsLowest, IsNamed, IsTable, NameFault}
use Rattle.toml_reading.specs.Readings.{and_then}
use Rattle.toml_reading.proofs.Following.{stated_or_faulty, tables_up_to_judged, test_judged, then_judged, widened_judged}
use Rattle.toml_reading.proofs.LowestLemmas.{Judges, pair_judged, judged_as, judged_fault, judged_value, one_by_rank, optional_judged}
use Rattle.toml_reading.proofs.LowestParts.{keys_judged, named_judged, some_weaker}
use Rattle.toml_reading.proofs.TwiceLemmas.{keys_not_distinct}
use Rattle.statement.specs.StatementRules.{AccessFault, AddressFault, BranchFault, HasAccess, HasBranch, HasFault, HasMultiply, HasParts, HasTarget, HasTwo, HasTwoRules, IsAddress, IsAt, IsSingle, IsTwice, MultiplyFault, PartsFault, RequiredFault, RuleFault, States, StatesAccess, StatesBranch, StatesMultiply, StatesRule, StatesTarget, TargetFault}
use Rattle.statement.specs.Stated.{Stated}
use Rattle.image.specs.Labels.{Names}
use Rattle.statement.specs.Statement.{Frame, Limits, Parts, Words, access_at, access_keys, are_disjoint, branch_at, branch_keys, frame_in, is_single, leave_in, leave_named_at, limits_in, multiply_at, multiply_keys, named_leave, named_returns, parts_of, returns_in, returns_named_at, rule_at, rules_in, stated_by, stated_once, statement_keys, statement_of, target_at, target_keys, words_in}
use Rattle.statement.specs.StatementFaults.{number_of, statement_faults}
use Rattle.statement.specs.declared.faults.StatementFault.{StatementFault}
use Rattle.statement.specs.declared.stated.Returns.TheVariants.{Assumed}
use Rattle.statement.specs.declared.faults.StatementFault.TheVariants.{Memory, NotToml, UnknownKey, WrongKind, UnknownLabel, OutOfRange, Twice}
use Rattle.statement.proofs.PlacedLemmas.{HasLoops, LoopsFault, stated_loops_judged}
use Rattle.statement.proofs.RuleLemmas.{address_in_judged, one_address, one_some}
use Rattle.statement.proofs.MeetLemmas.{apart_is, rules_not_apart}
use Rattle.statement.proofs.TableLemmas.{access_judged, branch_judged, in_line, multiply_judged, rule_judged, target_judged, twice_last}
use Rattle.statement.specs.declared.stated.BaseRule.{BaseRule}

-- ## Faults differ in their numbers

abbrev pub fault_at : ℕ → StatementFault
fault_at n =
    get_or (Memory ∷ Memory ∷ NotToml ∷ UnknownKey ∷ WrongKind ∷ UnknownLabel ∷ OutOfRange ∷ Twice ∷ []) n Memory

pub numbered_back : (f : StatementFault) → fault_at (number_of f) ≡ f
numbered_back Memory = refl
numbered_back _ = refl

pub leave_judged :
    (ms : Members)
    → Judges
    statement_faults
    (λ c. AtKeyOr (codes "leave") ms (c ≡ Any) (λ d. IsNamed named_leave d c))
    (λ f. AtKey (codes "leave") ms (λ d. NameFault statement_faults named_leave d f))
    (leave_in ms)
leave_judged ms =
    optional_judged
    statement_faults
    (IsNamed named_leave)
    (NameFault statement_faults named_leave)
    leave_named_at
    (named_judged statement_faults named_leave)
    Any
    (get_member (codes "leave") ms)

pub returns_judged :
    (ms : Members)
    → Judges
    statement_faults
    (λ r. AtKeyOr (codes "returns") ms (r ≡ Assumed) (λ d. IsNamed named_returns d r))
    (λ f. AtKey (codes "returns") ms (λ d. NameFault statement_faults named_returns d f))
    (returns_in ms)
returns_judged ms =
    optional_judged
    statement_faults
    (IsNamed named_returns)
    (NameFault statement_faults named_returns)
    returns_named_at
    (named_judged statement_faults named_returns)
    Assumed
    (get_member (codes "returns") ms)

module _ (names : Names) where
  -- ## The addresses of entries

  abbrev AtOf : Members → ℕ → Type 0
  AtOf ms a = AtKey (codes "at") ms (λ e. IsAddress names e a)

  one_at : (d : Data) (a b : ℕ) → IsAt names d a → IsAt names d b → a ≡ b
  one_at d a b h k =
      one_some
      AtOf
      (λ ms. one_some (IsAddress names) (one_address names) (get_member (codes "at") ms))
      (as_table d)
      a
      b
      h
      k

  -- an entry is for the address at its key
  entry_is_at :
      {A : Type 0} (keys : List (List ℕ)) (Has : Members → ℕ × A → Type 0)
      → ((ms : Members) (e : ℕ × A) → Has ms e → AtOf ms e.0)
      → (d : Data) (e : ℕ × A)
      → IsTable keys (λ ms. Has ms e) d
      → IsAt names d e.0
  entry_is_at keys Has address d e h =
      some_weaker
      (λ ms. (has_only_keys keys ms ≡ true) × Has ms e)
      (λ ms. AtOf ms e.0)
      (λ ms s. address ms e s.1)
      (as_table d)
      h

  -- ## Parts

  abbrev split : Stated → Parts
  split st =
      ((((st.entry, (st.leave, st.returns)), st.loops), (st.targets, st.accesses)), (st.rules, (st.multiplies, st.branches)))

  abbrev HasFrame : Members → Frame → Type 0
  HasFrame ms p =
      (AtKey (codes "entry") ms (λ d. IsAddress names d p.0.0)
      × (AtKeyOr (codes "leave") ms (p.0.1.0 ≡ Any) (λ d. IsNamed named_leave d p.0.1.0)
      × AtKeyOr (codes "returns") ms (p.0.1.1 ≡ Assumed) (λ d. IsNamed named_returns d p.0.1.1)))
      × HasLoops names ms p.1

  abbrev FrameFault : Members → StatementFault → Type 0
  FrameFault ms f =
      (RequiredFault (codes "entry") ms (AddressFault names) f
      ⊎ (AtKey (codes "leave") ms (λ d. NameFault statement_faults named_leave d f)
      ⊎ AtKey (codes "returns") ms (λ d. NameFault statement_faults named_returns d f)))
      ⊎ LoopsFault names ms f

  abbrev HasWords : Members → Words → Type 0
  HasWords ms p =
      AtKeyOr (codes "target") ms (p.0 ≡ []) (λ d. IsListUpTo 1024 (StatesTarget names) d p.0)
      × AtKeyOr (codes "access") ms (p.1 ≡ []) (λ d. IsListUpTo 4096 (StatesAccess names) d p.1)

  abbrev WordsFault : Members → StatementFault → Type 0
  WordsFault ms f =
      AtKey (codes "target") ms (λ d. ListUpToFault statement_faults 1024 (TargetFault names) d f)
      ⊎ AtKey (codes "access") ms (λ d. ListUpToFault statement_faults 4096 (AccessFault names) d f)

  abbrev HasRules : Members → List BaseRule → Type 0
  HasRules ms rules = AtKeyOr (codes "base") ms (rules ≡ []) (λ d. IsListUpTo 256 (StatesRule names) d rules)

  abbrev RulesFault : Members → StatementFault → Type 0
  RulesFault ms f = AtKey (codes "base") ms (λ d. ListUpToFault statement_faults 256 (RuleFault names) d f)

  abbrev HasLimits : Members → Limits → Type 0
  HasLimits ms p =
      AtKeyOr (codes "multiply") ms (p.0 ≡ []) (λ d. IsListUpTo 1024 (StatesMultiply names) d p.0)
      × AtKeyOr (codes "branch") ms (p.1 ≡ []) (λ d. IsListUpTo 1024 (StatesBranch names) d p.1)

  abbrev LimitsFault : Members → StatementFault → Type 0
  LimitsFault ms f =
      AtKey (codes "multiply") ms (λ d. ListUpToFault statement_faults 1024 (MultiplyFault names) d f)
      ⊎ AtKey (codes "branch") ms (λ d. ListUpToFault statement_faults 1024 (BranchFault names) d f)

  abbrev HasEach : Members → Parts → Type 0
  HasEach ms p = (HasFrame ms p.0.0 × HasWords ms p.0.1) × (HasRules ms p.1.0 × HasLimits ms p.1.1)

  abbrev EachFault : Members → StatementFault → Type 0
  EachFault ms f = (FrameFault ms f ⊎ WordsFault ms f) ⊎ (RulesFault ms f ⊎ LimitsFault ms f)

  frame_judged : (ms : Members) → Judges statement_faults (HasFrame ms) (FrameFault ms) (frame_in names ms)
  frame_judged ms =
      pair_judged statement_faults (λ p. AtKey (codes "entry") ms (λ d. IsAddress names d p.0) × (AtKeyOr (codes "leave") ms (p.1.0 ≡ Any) (λ d. IsNamed named_leave d p.1.0) × AtKeyOr (codes "returns") ms (p.1.1 ≡ Assumed) (λ d. IsNamed named_returns d p.1.1))) _ _ _ _ _ (pair_judged statement_faults _ _ _ _ _ _ (address_in_judged names (codes "entry") ms) (pair_judged statement_faults _ _ _ _ _ _ (leave_judged ms) (returns_judged ms))) (stated_loops_judged names ms)

  words_judged : (ms : Members) → Judges statement_faults (HasWords ms) (WordsFault ms) (words_in names ms)
  words_judged ms =
      pair_judged statement_faults _ _ _ _ _ _ (tables_up_to_judged statement_faults 1024 (StatesTarget names) (TargetFault names) (target_at names) (target_judged names) (get_member (codes "target") ms)) (tables_up_to_judged statement_faults 4096 (StatesAccess names) (AccessFault names) (access_at names) (access_judged names) (get_member (codes "access") ms))

  rules_judged : (ms : Members) → Judges statement_faults (HasRules ms) (RulesFault ms) (rules_in names ms)
  rules_judged ms =
      tables_up_to_judged statement_faults 256 (StatesRule names) (RuleFault names) (rule_at names) (rule_judged names) (get_member (codes "base") ms)

  limits_judged : (ms : Members) → Judges statement_faults (HasLimits ms) (LimitsFault ms) (limits_in names ms)
  limits_judged ms =
      pair_judged statement_faults _ _ _ _ _ _ (tables_up_to_judged statement_faults 1024 (StatesMultiply names) (MultiplyFault names) (multiply_at names) (multiply_judged names) (get_member (codes "multiply") ms)) (tables_up_to_judged statement_faults 1024 (StatesBranch names) (BranchFault names) (branch_at names) (branch_judged names) (get_member (codes "branch") ms))

  each_judged : (ms : Members) → Judges statement_faults (HasEach ms) (EachFault ms) (parts_of names ms)
  each_judged ms =
      pair_judged
      statement_faults
      (λ p. HasFrame ms p.0 × HasWords ms p.1)
      (λ p. HasRules ms p.0 × HasLimits ms p.1)
      _
      _
      _
      _
      (pair_judged statement_faults (HasFrame ms) (HasWords ms) _ _ _ _ (frame_judged ms) (words_judged ms))
      (pair_judged statement_faults (HasRules ms) (HasLimits ms) _ _ _ _ (rules_judged ms) (limits_judged ms))

  -- ## The whole

  is_single_is : (st : Stated) → is_single st ≡ true ↔ IsSingle names st
  is_single_is st = (
    λ e.
        let halves = and_parts (are_distinct (keys_of st.targets) && are_distinct (keys_of st.accesses)) (are_disjoint st.rules && (are_distinct (keys_of st.multiplies) && are_distinct (keys_of st.branches))) e in
        let words = and_parts (are_distinct (keys_of st.targets)) (are_distinct (keys_of st.accesses)) halves.0 in
        let rest = and_parts (are_disjoint st.rules) (are_distinct (keys_of st.multiplies) && are_distinct (keys_of st.branches)) halves.1 in
        let limits = and_parts (are_distinct (keys_of st.multiplies)) (are_distinct (keys_of st.branches)) rest.1 in
        record { targets = words.0; accesses = words.1; rules = (apart_is st.rules).0 rest.0; multiplies = limits.0; branches = limits.1 },
    λ h. both_true (both_true h.targets h.accesses) (both_true ((apart_is st.rules).1 h.rules) (both_true h.multiplies h.branches)),
  )

  abbrev SingleFault : Members → StatementFault → Type 0
  SingleFault ms f = (p : Parts) × HasEach ms p × ((¬ IsSingle names (stated_by p)) × (f ≡ Twice))

  abbrev TwoFault : Members → StatementFault → Type 0
  TwoFault ms f = IsTwice names ms × (f ≡ Twice)

  single_judged :
      (ms : Members)
      → Judges
      statement_faults
      (λ st. (p : Parts) × HasEach ms p × (IsSingle names (stated_by p) × (st ≡ stated_by p)))
      (λ f. EachFault ms f ⊎ SingleFault ms f)
      (and_then (parts_of names ms) stated_once)
  single_judged ms =
      then_judged
      statement_faults
      (HasEach ms)
      (λ p st. IsSingle names (stated_by p) × (st ≡ stated_by p))
      (EachFault ms)
      (λ p f. (¬ IsSingle names (stated_by p)) × (f ≡ Twice))
      stated_once
      (λ p s. test_judged statement_faults (IsSingle names (stated_by p)) (stated_by p) Twice (is_single (stated_by p)) (is_single_is (stated_by p)))
      (parts_of names ms)
      (each_judged ms)

  module _ (ms : Members) (p : Parts) (h : HasEach ms p) where
    targets_two : are_distinct (keys_of p.0.1.0) ≡ false ↔ HasTwo names (codes "target") ms
    targets_two =
        keys_not_distinct (IsAt names) one_at (StatesTarget names) (entry_is_at target_keys (HasTarget names) (λ ms t s. s.address)) 1024 (get_member (codes "target") ms) p.0.1.0 h.0.1.0

    accesses_two : are_distinct (keys_of p.0.1.1) ≡ false ↔ HasTwo names (codes "access") ms
    accesses_two =
        keys_not_distinct (IsAt names) one_at (StatesAccess names) (entry_is_at access_keys (HasAccess names) (λ ms a s. s.address)) 4096 (get_member (codes "access") ms) p.0.1.1 h.0.1.1

    rules_two : are_disjoint p.1.0 ≡ false ↔ HasTwoRules names ms
    rules_two = rules_not_apart names 256 (get_member (codes "base") ms) p.1.0 h.1.0

    multiplies_two : are_distinct (keys_of p.1.1.0) ≡ false ↔ HasTwo names (codes "multiply") ms
    multiplies_two =
        keys_not_distinct (IsAt names) one_at (StatesMultiply names) (entry_is_at multiply_keys (HasMultiply names) (λ ms m s. s.address)) 1024 (get_member (codes "multiply") ms) p.1.1.0 h.1.1.0

    branches_two : are_distinct (keys_of p.1.1.1) ≡ false ↔ HasTwo names (codes "branch") ms
    branches_two =
        keys_not_distinct (IsAt names) one_at (StatesBranch names) (entry_is_at branch_keys (HasBranch names) (λ ms b s. s.address)) 1024 (get_member (codes "branch") ms) p.1.1.1 h.1.1.1

    not_single : IsTwice names ms → ¬ IsSingle names (stated_by p)
    not_single (inl t) s = false≢true (sym (targets_two.1 t) ∙ s.targets)
    not_single (inr (inl t)) s = false≢true (sym (accesses_two.1 t) ∙ s.accesses)
    not_single (inr (inr (inl t))) s = false≢true (sym (rules_two.1 t) ∙ (apart_is p.1.0).1 s.rules)
    not_single (inr (inr (inr (inl t)))) s = false≢true (sym (multiplies_two.1 t) ∙ s.multiplies)
    not_single (inr (inr (inr (inr t)))) s = false≢true (sym (branches_two.1 t) ∙ s.branches)

    is_twice : ¬ IsSingle names (stated_by p) → IsTwice names ms
    is_twice several = elim (cases_Bool (are_distinct (keys_of p.0.1.0))) [
      | inr two ↦ inl (targets_two.0 two)
      | inl targets ↦ elim (cases_Bool (are_distinct (keys_of p.0.1.1))) [
        | inr two ↦ inr (inl (accesses_two.0 two))
        | inl accesses ↦ elim (cases_Bool (are_disjoint p.1.0)) [
          | inr two ↦ inr (inr (inl (rules_two.0 two)))
          | inl rules ↦ elim (cases_Bool (are_distinct (keys_of p.1.1.0))) [
            | inr two ↦ inr (inr (inr (inl (multiplies_two.0 two))))
            | inl multiplies ↦ inr (inr (inr (inr (branches_two.0 (false_from_ne_true (are_distinct (keys_of p.1.1.1)) (λ branches. several (record { targets = targets; accesses = accesses; rules = (apart_is p.1.0).0 rules; multiplies = multiplies; branches = branches })))))))
          ]
        ]
      ]
    ]

  -- two entries where there may be one are reported, or a fault that is no higher
  two_under :
      (ms : Members) (f : StatementFault)
      → TwoFault ms f
      → (g : StatementFault) × (EachFault ms g ⊎ SingleFault ms g) × (number_of g ≤ number_of f)
  two_under ms f h =
      elim
      (stated_or_faulty statement_faults (HasEach ms) (EachFault ms) (parts_of names ms) (each_judged ms)) [
        | inl p ↦ (Twice, inr (p.0, p.1, (not_single ms p.0 p.1 h.0, refl)), le_of_eq (ap number_of (sym h.1)))
        | inr g ↦ (g.0, inl g.1, subst (λ (y : StatementFault). number_of g.0 ≤ number_of y) (sym h.1) (twice_last g.0))
      ]

  parts_judged :
      (ms : Members)
      → Judges
      statement_faults
      (λ st. HasParts names ms st × IsSingle names st)
      (PartsFault names ms)
      (and_then (parts_of names ms) stated_once)
  parts_judged ms =
      judged_as
      statement_faults
      (λ st. (p : Parts) × HasEach ms p × (IsSingle names (stated_by p) × (st ≡ stated_by p)))
      (λ st. HasParts names ms st × IsSingle names st)
      (λ f. EachFault ms f ⊎ TwoFault ms f)
      (PartsFault names ms)
      (λ st. (
        λ u. subst (λ (s : Stated). HasParts names ms s × IsSingle names s) (sym u.2.1) (of_each u.0 u.1, u.2.0),
        λ h. (split st, each_of st h.0, (h.1, refl)),
      ))
      (λ f. in_line)
      (and_then (parts_of names ms) stated_once)
      (widened_judged statement_faults _ (EachFault ms) (SingleFault ms) (TwoFault ms) (λ f u. (is_twice ms u.0 u.1 u.2.0, u.2.1)) (two_under ms) (and_then (parts_of names ms) stated_once) (single_judged ms))
    where
      of_each : (p : Parts) → HasEach ms p → HasParts names ms (stated_by p)
      of_each p s = record {
        entry = s.0.0.0.0;
        leave = s.0.0.0.1.0;
        returns = s.0.0.0.1.1;
        loops = s.0.0.1.0.0;
        apart = s.0.0.1.0.1;
        placed = s.0.0.1.1;
        targets = s.0.1.0;
        accesses = s.0.1.1;
        rules = s.1.0;
        multiplies = s.1.1.0;
        branches = s.1.1.1;
      }

      each_of : (st : Stated) → HasParts names ms st → HasEach ms (split st)
      each_of st h =
          ((((h.entry, (h.leave, h.returns)), ((h.loops, h.apart), h.placed)), (h.targets, h.accesses)), (h.rules, (h.multiplies, h.branches)))

  document_judged :
      (ms : Members)
      → Judges statement_faults (States names ms) (HasFault names ms) (statement_of names ms)
  document_judged ms =
      judged_as
      statement_faults
      (λ st. (has_only_keys statement_keys ms ≡ true) × (HasParts names ms st × IsSingle names st))
      (States names ms)
      (HasFault names ms)
      (HasFault names ms)
      (λ st. (λ h. record { known = h.0; parts = h.1.0; single = h.1.1 }, λ h. (h.known, (h.parts, h.single))))
      (λ f. (λ y. y, λ y. y))
      (statement_of names ms)
      (keys_judged statement_faults statement_keys (λ ms st. HasParts names ms st × IsSingle names st) (PartsFault names) (λ ms. and_then (parts_of names ms) stated_once) parts_judged ms)

  pub stated_as_read : (ms : Members) (st : Stated) → statement_of names ms ≡ Ok st ↔ States names ms st
  stated_as_read ms st =
      judged_value
      statement_faults
      (States names ms)
      (HasFault names ms)
      (statement_of names ms)
      (document_judged ms)
      st

  pub refused_as_read :
      (ms : Members) (f : StatementFault)
      → statement_of names ms ≡ Err f ↔ IsLowest statement_faults (HasFault names ms) f
  refused_as_read ms f =
      judged_fault
      statement_faults
      (States names ms)
      (HasFault names ms)
      (one_by_rank statement_faults fault_at numbered_back)
      (statement_of names ms)
      (document_judged ms)
      f
