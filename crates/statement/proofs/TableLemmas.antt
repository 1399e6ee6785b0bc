-- What is read of the tables of loops, targets and accesses, against what they state and their faults.
use Rattle.std.proofs.Common.{◌≡◌, ◌≢◌, ℕ, ℤ, pos, ◌-◌, ◌<◌, ◌≤◌, ◌⊎◌, ◌↔◌, Bool, true, false, ◌&&◌, cond, eqb, leb, List, [], ◌∷◌, length, Option, Some, None, Err, IsSomeAnd, MatchOption, Any, is_none, inl, inr, refl, sym, ap, subst, ◌∙◌, arith, le_of_eq}
use Rattle.std.specs.Prelude.{codes}
use Rattle.std.specs.List.{AllZip}
use Rattle.std.specs.Cmp.Derive.{both_true}
use Rattle.std.proofs.lemmas.Bool.{and_parts, eqb-true, false_from_ne_true, false≢true, le-leb, leb-true}
use Rattle.std.proofs.lemmas.List.{nil_from_length}
use Rattle.std.proofs.lemmas.Option.{none-some}
use Rattle.toml.specs.Data.{Data, Members, as_integer, as_table, get_member, integer, string}
use Rattle.bus_ticks.specs.declared.profile.Class.{Class}
use Rattle.walks.specs.declared.limits.TheConstants.{MOST_ROUNDS}
use Rattle.toml_reading.specs.Documents.{are_distinct, items_at, listed_up_to, once}
use Rattle.toml_reading.specs.Lists.{HasRepeat, ListUpToFault}
use Rattle.toml_reading.specs.Lowest.{AtKey, IsNamed, IsNumber, IsOutside, KeysFault, NameFault, NumberFault}
use Rattle.toml_reading.specs.Readings.{Reading, and_then, pair, reading_map, required}
use Rattle.toml_reading.proofs.Following.{few_judged, stated_or_faulty, test_judged, then_judged, widened_judged}
use Rattle.toml_reading.proofs.LowestLemmas.{Judges, pair_judged, judged_as, required_judged, map_judged}
use Rattle.toml_reading.proofs.LowestParts.{any_none, number_in_judged, table_judged}
use Rattle.toml_reading.proofs.TwiceLemmas.{not_distinct}
use Rattle.arm2_decode.specs.declared.names.Register.{Register}
use Rattle.asm_text.specs.Registers.{register_of}
use Rattle.bus_ticks.specs.declared.space.TheConstants.{SPACE_END}
use Rattle.statement.specs.StatementRules.{AccessFault, AccessKeysFault, AddressFault, AreCycles, AreDestinations, AreFew, AreNoCycles, BranchFault, BranchKeysFault, CyclesFault, DestinationsFault, GoesTo, HasAccess, HasBranch, HasLoop, HasMultiply, HasRule, HasTarget, AreReversed, IsAddress, IsFirst, IsLast, IsReversed, LoopFault, NamesLabel, LoopKeysFault, MultiplyFault, MultiplyKeysFault, RequiredFault, RuleFault, RuleKeysFault, StatesAccess, StatesBranch, StatesLoop, StatesMultiply, StatesRule, StatesStretch, StatesTarget, StretchFault, TargetFault, TargetKeysFault, ToFault}
use Rattle.statement.specs.Stated.{Target}
use Rattle.image.specs.Labels.{Names}
use Rattle.statement.specs.Statement.{access_at, access_keys, address_at, address_in, apart_at, apart_of, branch_at, branch_keys, class_in, cycles_in, cycles_named_at, cycles_of, destinations, destinations_at, kind_in, loop_at, loop_keys, loop_of, loop_parts, multiply_at, multiply_keys, named_class, named_kind, named_taken, pair_at, placed_rule, placed_stretch, register_in, rule_at, rule_keys, rule_parts, some_destinations, taken_in, target_at, target_keys, target_of_kind}
use Rattle.statement.specs.StatementFaults.{number_of, statement_faults}
use Rattle.statement.specs.declared.faults.StatementFault.{StatementFault}
use Rattle.statement.specs.declared.faults.StatementFault.TheVariants.{Memory, UnknownKey, UnknownLabel, WrongKind, OutOfRange, Twice}
use Rattle.statement.specs.declared.apart.ApartStretch.{ApartStretch}
use Rattle.statement.specs.declared.stated.BaseRule.{BaseRule}
use Rattle.statement.specs.declared.stated.Taken.{Taken}
use Rattle.statement.specs.declared.stated.TargetKind.{TargetKind}
use Rattle.statement.specs.declared.stated.TargetKind.TheVariants.{Return, Leave}
use Rattle.toml_reading.proofs.AddressLemmas.{tested_judged}
use Rattle.statement.proofs.RuleLemmas.{address_in_judged, address_judged, address_or_judged, one_address, word_in_judged}

cons-nil : {A : Type 0} (x : A) (xs : List A) → x ∷ xs ≡ [] → ⊥
cons-nil x xs e = cc

-- ## The order of the faults

above :
    (f g : StatementFault)
    → f ≡ g
    → number_of WrongKind ≤ number_of g
    → number_of WrongKind ≤ number_of f
above f g e h = subst (λ (x : StatementFault). number_of WrongKind ≤ number_of x) (sym e) h

at_most :
    (f g : StatementFault)
    → f ≡ g
    → number_of g ≤ number_of OutOfRange
    → number_of f ≤ number_of OutOfRange
at_most f g e h = subst (λ (x : StatementFault). number_of x ≤ number_of OutOfRange) (sym e) h

pub twice_last : (f : StatementFault) → number_of f ≤ number_of Twice
twice_last Memory = omega arith
twice_last _ = omega arith

-- ## Sums in another order

four_in_line : {A B C D : Type 0} → ((A ⊎ B) ⊎ (C ⊎ D)) ↔ (A ⊎ B ⊎ C ⊎ D)
four_in_line = (
  λ x. elim x [
    | inl ab ↦ elim ab [ inl a ↦ inl a | inr b ↦ inr (inl b) ]
    | inr cd ↦ elim cd [ inl c ↦ inr (inr (inl c)) | inr d ↦ inr (inr (inr d)) ]
  ],
  λ x. elim x [
    | inl a ↦ inl (inl a)
    | inr bs ↦ elim bs [ inl b ↦ inl (inr b) | inr cs ↦ elim cs [ inl c ↦ inr (inl c) | inr d ↦ inr (inr d) ] ]
  ],
)

module _ {A B C D E : Type 0} where
  five_in_line : (((A ⊎ B) ⊎ (C ⊎ D)) ⊎ E) ↔ (A ⊎ B ⊎ C ⊎ D ⊎ E)
  five_in_line = (
    λ x. elim x [
      | inl y ↦ elim y [
        | inl ab ↦ elim ab [ inl a ↦ inl a | inr b ↦ inr (inl b) ]
        | inr cd ↦ elim cd [ inl c ↦ inr (inr (inl c)) | inr d ↦ inr (inr (inr (inl d))) ]
      ]
      | inr e ↦ inr (inr (inr (inr e)))
    ],
    λ x. elim x [
      | inl a ↦ inl (inl (inl a))
      | inr bs ↦ elim bs [
        | inl b ↦ inl (inl (inr b))
        | inr cs ↦ elim cs [
          | inl c ↦ inl (inr (inl c))
          | inr ds ↦ elim ds [ inl d ↦ inl (inr (inr d)) | inr e ↦ inr e ]
        ]
      ]
    ],
  )

-- the faults of a document's parts, in their order
module _ {A B C D E F G H I J K L : Type 0} where
  to_line : (((((A ⊎ (B ⊎ C)) ⊎ ((D ⊎ E) ⊎ F)) ⊎ (G ⊎ H)) ⊎ (I ⊎ (J ⊎ K))) ⊎ L) → (A ⊎ B ⊎ C ⊎ D ⊎ E ⊎ F ⊎ G ⊎ H ⊎ I ⊎ J ⊎ K ⊎ L)
  to_line (inl (inl (inl (inl (inl x))))) = inl x
  to_line (inl (inl (inl (inl (inr (inl x)))))) = inr (inl x)
  to_line (inl (inl (inl (inl (inr (inr x)))))) = inr (inr (inl x))
  to_line (inl (inl (inl (inr (inl (inl x)))))) = inr (inr (inr (inl x)))
  to_line (inl (inl (inl (inr (inl (inr x)))))) = inr (inr (inr (inr (inl x))))
  to_line (inl (inl (inl (inr (inr x))))) = inr (inr (inr (inr (inr (inl x)))))
  to_line (inl (inl (inr (inl x)))) = inr (inr (inr (inr (inr (inr (inl x))))))
  to_line (inl (inl (inr (inr x)))) = inr (inr (inr (inr (inr (inr (inr (inl x)))))))
  to_line (inl (inr (inl x))) = inr (inr (inr (inr (inr (inr (inr (inr (inl x))))))))
  to_line (inl (inr (inr (inl x)))) = inr (inr (inr (inr (inr (inr (inr (inr (inr (inl x)))))))))
  to_line (inl (inr (inr (inr x)))) = inr (inr (inr (inr (inr (inr (inr (inr (inr (inr (inl x))))))))))
  to_line (inr x) = inr (inr (inr (inr (inr (inr (inr (inr (inr (inr (inr x))))))))))

  of_line : (A ⊎ B ⊎ C ⊎ D ⊎ E ⊎ F ⊎ G ⊎ H ⊎ I ⊎ J ⊎ K ⊎ L) → (((((A ⊎ (B ⊎ C)) ⊎ ((D ⊎ E) ⊎ F)) ⊎ (G ⊎ H)) ⊎ (I ⊎ (J ⊎ K))) ⊎ L)
  of_line (inl x) = inl (inl (inl (inl (inl x))))
  of_line (inr (inl x)) = inl (inl (inl (inl (inr (inl x)))))
  of_line (inr (inr (inl x))) = inl (inl (inl (inl (inr (inr x)))))
  of_line (inr (inr (inr (inl x)))) = inl (inl (inl (inr (inl (inl x)))))
  of_line (inr (inr (inr (inr (inl x))))) = inl (inl (inl (inr (inl (inr x)))))
  of_line (inr (inr (inr (inr (inr (inl x)))))) = inl (inl (inl (inr (inr x))))
  of_line (inr (inr (inr (inr (inr (inr (inl x))))))) = inl (inl (inr (inl x)))
  of_line (inr (inr (inr (inr (inr (inr (inr (inl x)))))))) = inl (inl (inr (inr x)))
  of_line (inr (inr (inr (inr (inr (inr (inr (inr (inl x))))))))) = inl (inr (inl x))
  of_line (inr (inr (inr (inr (inr (inr (inr (inr (inr (inl x)))))))))) = inl (inr (inr (inl x)))
  of_line (inr (inr (inr (inr (inr (inr (inr (inr (inr (inr (inl x))))))))))) = inl (inr (inr (inr x)))
  of_line (inr (inr (inr (inr (inr (inr (inr (inr (inr (inr (inr x))))))))))) = inr x

  pub in_line : (((((A ⊎ (B ⊎ C)) ⊎ ((D ⊎ E) ⊎ F)) ⊎ (G ⊎ H)) ⊎ (I ⊎ (J ⊎ K))) ⊎ L) ↔ (A ⊎ B ⊎ C ⊎ D ⊎ E ⊎ F ⊎ G ⊎ H ⊎ I ⊎ J ⊎ K ⊎ L)
  in_line = (to_line, of_line)

-- ## Cycles

few_cycles : (n : ℕ) → (leb 1 n && leb n 16) ≡ true ↔ AreFew n
few_cycles n = (
  λ e. let parts = and_parts (leb 1 n) (leb n 16) e in (leb-true 1 n parts.0, leb-true n 16 parts.1),
  λ h. both_true (le-leb 1 n h.0) (le-leb n 16 h.1),
)

cycles_judged : (d : Data) → Judges statement_faults (AreCycles d) (CyclesFault d) (cycles_named_at d)
cycles_judged d =
    required_judged
    statement_faults
    (λ z n. (z ≡ pos n) × AreFew n)
    (λ z f. AreNoCycles z × (f ≡ OutOfRange))
    cycles_of
    (tested_judged statement_faults AreFew (λ n. leb 1 n && leb n 16) few_cycles cycles_of (λ n. refl) (λ n. refl))
    (as_integer d)

pub cycles_in_judged :
    (ms : Members)
    → Judges
    statement_faults
    (λ n. AtKey (codes "cycles") ms (λ d. AreCycles d n))
    (RequiredFault (codes "cycles") ms CyclesFault)
    (cycles_in ms)
cycles_in_judged ms =
    required_judged statement_faults AreCycles CyclesFault cycles_named_at cycles_judged (get_member (codes "cycles") ms)

module _ (names : Names) where
  -- ## Loops

  abbrev HasEnds : Members → (ℕ × ℕ) × (ℕ × ℕ) → Type 0
  HasEnds ms p =
      (AtKey (codes "first") ms (λ d. IsAddress names d p.0.0) × AtKey (codes "last") ms (λ d. IsAddress names d p.0.1))
      × (AtKey (codes "header") ms (λ d. IsAddress names d p.1.0) × AtKey (codes "bound") ms (λ d. IsNumber MOST_ROUNDS d p.1.1))

  abbrev EndsFault : Members → StatementFault → Type 0
  EndsFault ms f =
      (RequiredFault (codes "first") ms (AddressFault names) f ⊎ RequiredFault (codes "last") ms (AddressFault names) f)
      ⊎ (RequiredFault (codes "header") ms (AddressFault names) f ⊎ RequiredFault (codes "bound") ms (NumberFault statement_faults MOST_ROUNDS) f)

  ends_judged : (ms : Members) → Judges statement_faults (HasEnds ms) (EndsFault ms) (loop_parts names ms)
  ends_judged ms =
      pair_judged
      statement_faults
      (λ p. AtKey (codes "first") ms (λ d. IsAddress names d p.0) × AtKey (codes "last") ms (λ d. IsAddress names d p.1))
      (λ p. AtKey (codes "header") ms (λ d. IsAddress names d p.0) × AtKey (codes "bound") ms (λ d. IsNumber MOST_ROUNDS d p.1))
      _
      _
      _
      _
      (pair_judged statement_faults _ _ _ _ _ _ (address_in_judged names (codes "first") ms) (address_in_judged names (codes "last") ms))
      (pair_judged statement_faults _ _ _ _ _ _ (address_in_judged names (codes "header") ms) (number_in_judged statement_faults MOST_ROUNDS (codes "bound") ms))

  loop_keys_judged :
      (ms : Members)
      → Judges statement_faults (HasLoop names ms) (LoopKeysFault names ms) (reading_map loop_of (loop_parts names ms))
  loop_keys_judged ms =
      judged_as
      statement_faults
      (HasLoop names ms)
      (HasLoop names ms)
      (EndsFault ms)
      (LoopKeysFault names ms)
      (λ l. (λ h. h, λ h. h))
      (λ f. four_in_line)
      (reading_map loop_of (loop_parts names ms))
      (map_judged statement_faults (HasEnds ms) (HasLoop names ms) (EndsFault ms) loop_of of_ends (λ l h. (((l.first, l.last), (l.header, l.bound)), ((h.first, h.last), (h.header, h.bound)), refl)) (loop_parts names ms) (ends_judged ms))
    where
      of_ends : (p : (ℕ × ℕ) × (ℕ × ℕ)) → HasEnds ms p → HasLoop names ms (loop_of p)
      of_ends p s = record { first = s.0.0; last = s.0.1; header = s.1.0; bound = s.1.1 }

  pub loop_judged :
      (d : Data)
      → Judges statement_faults (StatesLoop names d) (LoopFault names d) (loop_at names d)
  loop_judged d =
      table_judged
      statement_faults
      loop_keys
      (HasLoop names)
      (LoopKeysFault names)
      (λ ms. reading_map loop_of (loop_parts names ms))
      loop_keys_judged
      d

  -- ## Stretches apart

  abbrev AreEndsOf : Data × Data → ApartStretch → Type 0
  AreEndsOf ends s = IsAddress names ends.0 s.first × IsAddress names ends.1 s.last × (s.first ≤ s.last)

  abbrev EndsOfFault : Data × Data → StatementFault → Type 0
  EndsOfFault ends f =
      AddressFault names ends.0 f ⊎ AddressFault names ends.1 f ⊎ (AreReversed names ends × (f ≡ OutOfRange))

  abbrev HasBoth : Data × Data → ℕ × ℕ → Type 0
  HasBoth ends p = IsAddress names ends.0 p.0 × IsAddress names ends.1 p.1

  abbrev BothFault : Data × Data → StatementFault → Type 0
  BothFault ends f = AddressFault names ends.0 f ⊎ AddressFault names ends.1 f

  abbrev LateFault : Data × Data → StatementFault → Type 0
  LateFault ends f = (p : ℕ × ℕ) × HasBoth ends p × ((¬ (p.0 ≤ p.1)) × (f ≡ OutOfRange))

  abbrev stretch_by : ℕ × ℕ → ApartStretch
  stretch_by p = record { first = p.0; last = p.1 }

  both_judged :
      (ends : Data × Data)
      → Judges statement_faults (HasBoth ends) (BothFault ends) (pair statement_faults (address_at names ends.0) (address_at names ends.1))
  both_judged ends =
      pair_judged statement_faults (IsAddress names ends.0) (IsAddress names ends.1) _ _ _ _ (address_judged names ends.0) (address_judged names ends.1)

  not_le : (a b : ℕ) → (¬ (a ≤ b)) → b < a
  not_le a b h = omega (arith, h)

  ends_of_judged :
      (ends : Data × Data)
      → Judges statement_faults (AreEndsOf ends) (EndsOfFault ends) (apart_of names ends)
  ends_of_judged ends =
      judged_as
      statement_faults
      (λ s. (p : ℕ × ℕ) × HasBoth ends p × ((p.0 ≤ p.1) × (s ≡ stretch_by p)))
      (AreEndsOf ends)
      (λ f. BothFault ends f ⊎ LateFault ends f)
      (EndsOfFault ends)
      (λ s. (
        λ u. subst (AreEndsOf ends) (sym u.2.1) (u.1.0, u.1.1, u.2.0),
        λ h. ((s.first, s.last), (h.0, h.1), (h.2, refl)),
      ))
      (λ f. (
        λ y. elim y [
          | inl b ↦ elim b [ inl x ↦ inl x | inr x ↦ inr (inl x) ]
          | inr u ↦ inr (inr ((u.0.0, u.0.1, u.1.0, u.1.1, not_le u.0.0 u.0.1 u.2.0), u.2.1))
        ],
        λ y. elim y [
          | inl x ↦ inl (inl x)
          | inr z ↦ elim z [ inl x ↦ inl (inr x) | inr u ↦ inr (late_of u) ]
        ],
      ))
      (apart_of names ends)
      (then_judged statement_faults (HasBoth ends) (λ p s. (p.0 ≤ p.1) × (s ≡ stretch_by p)) (BothFault ends) (λ p f. (¬ (p.0 ≤ p.1)) × (f ≡ OutOfRange)) placed_stretch (λ p s. test_judged statement_faults (p.0 ≤ p.1) (stretch_by p) OutOfRange (leb p.0 p.1) (leb-true p.0 p.1, le-leb p.0 p.1)) (pair statement_faults (address_at names ends.0) (address_at names ends.1)) (both_judged ends))
    where
      late_of : {f : StatementFault} → AreReversed names ends × (f ≡ OutOfRange) → LateFault ends f
      late_of u = ((u.0.0, u.0.1), (u.0.2, u.0.3), ((λ o. let low = u.0.4 in omega arith), u.1))

  pub stretch_judged :
      (d : Data)
      → Judges statement_faults (StatesStretch names d) (StretchFault names d) (apart_at names d)
  stretch_judged d =
      required_judged statement_faults AreEndsOf EndsOfFault (apart_of names) ends_of_judged (pair_at d)

  number_low :
      (o : Option ℤ) (g : StatementFault)
      → MatchOption o (g ≡ WrongKind) (λ z. IsOutside MOST_ROUNDS z × (g ≡ OutOfRange))
      → number_of g ≤ number_of OutOfRange
  number_low None g h = at_most g WrongKind h (omega arith)
  number_low (Some z) g h = at_most g OutOfRange h.1 (omega arith)

  bound_low :
      (o : Option Data) (g : StatementFault)
      → MatchOption o (g ≡ WrongKind) (λ d. NumberFault statement_faults MOST_ROUNDS d g)
      → number_of g ≤ number_of OutOfRange
  bound_low None g h = at_most g WrongKind h (omega arith)
  bound_low (Some d) g h = number_low (as_integer d) g h

  -- ## Faults that are no higher than that of a misplaced header

  text_low : (Named Out : Type 0) (g : StatementFault) → ((¬ Named) × (g ≡ UnknownLabel)) ⊎ (Named × Out × (g ≡ OutOfRange)) → number_of g ≤ number_of OutOfRange
  text_low Named Out g (inl h) = at_most g UnknownLabel h.1 (omega arith)
  text_low Named Out g (inr h) = at_most g OutOfRange h.2 (omega arith)

  address_low : (d : Data) (g : StatementFault) → AddressFault names d g → number_of g ≤ number_of OutOfRange
  address_low (integer z) g h = at_most g OutOfRange h.1 (omega arith)
  address_low (string text) g h = text_low (NamesLabel names text) _ g h
  address_low _ g h = at_most g WrongKind h (omega arith)

  required_low : (o : Option Data) (g : StatementFault) → MatchOption o (g ≡ WrongKind) (λ d. AddressFault names d g) → number_of g ≤ number_of OutOfRange
  required_low None g h = at_most g WrongKind h (omega arith)
  required_low (Some d) g h = address_low d g h

  loop_keys_low : (ms : Members) (g : StatementFault) → LoopKeysFault names ms g → number_of g ≤ number_of OutOfRange
  loop_keys_low ms g (inl h) = required_low (get_member (codes "first") ms) g h
  loop_keys_low ms g (inr (inl h)) = required_low (get_member (codes "last") ms) g h
  loop_keys_low ms g (inr (inr (inl h))) = required_low (get_member (codes "header") ms) g h
  loop_keys_low ms g (inr (inr (inr h))) = bound_low (get_member (codes "bound") ms) g h

  table_low : (o : Option Members) (g : StatementFault) → MatchOption o (g ≡ WrongKind) (λ ms. KeysFault statement_faults loop_keys (LoopKeysFault names) ms g) → number_of g ≤ number_of OutOfRange
  table_low None g h = at_most g WrongKind h (omega arith)
  table_low (Some ms) g (inl h) = at_most g UnknownKey h.1 (omega arith)
  table_low (Some ms) g (inr h) = loop_keys_low ms g h

  ends_low : (o : Option (Data × Data)) (g : StatementFault) → MatchOption o (g ≡ WrongKind) (λ ends. EndsOfFault ends g) → number_of g ≤ number_of OutOfRange
  ends_low None g h = at_most g WrongKind h (omega arith)
  ends_low (Some ends) g (inl h) = address_low ends.0 g h
  ends_low (Some ends) g (inr (inl h)) = address_low ends.1 g h
  ends_low (Some ends) g (inr (inr h)) = at_most g OutOfRange h.1 (omega arith)

  module _ (Has : Data → StatementFault → Type 0) (low : (d : Data) (g : StatementFault) → Has d g → number_of g ≤ number_of OutOfRange) where
    items_low : (o : Option (List Data)) (g : StatementFault) → MatchOption o (g ≡ WrongKind) (λ ds. ((256 < length ds) × (g ≡ OutOfRange)) ⊎ Any (λ e. Has e g) ds) → number_of g ≤ number_of OutOfRange
    items_low None g h = at_most g WrongKind h (omega arith)
    items_low (Some ds) g (inl h) = at_most g OutOfRange h.1 (omega arith)
    items_low (Some ds) g (inr h) = low h.1 g h.4

    list_low : (o : Option Data) (g : StatementFault) → IsSomeAnd o (λ d. ListUpToFault statement_faults 256 Has d g) → number_of g ≤ number_of OutOfRange
    list_low None g h = absurd h
    list_low (Some d) g h = items_low (items_at d) g h

  pub loops_low : (o : Option Data) (g : StatementFault) → IsSomeAnd o (λ d. ListUpToFault statement_faults 256 (LoopFault names) d g) → number_of g ≤ number_of OutOfRange
  loops_low o g h = list_low (LoopFault names) (λ d f k. table_low (as_table d) f k) o g h

  pub stretches_low : (o : Option Data) (g : StatementFault) → IsSomeAnd o (λ d. ListUpToFault statement_faults 256 (StretchFault names) d g) → number_of g ≤ number_of OutOfRange
  stretches_low o g h = list_low (StretchFault names) (λ d f k. ends_low (pair_at d) f k) o g h

  -- ## Destinations

  abbrev AreRead : List Data → List ℕ → Type 0
  AreRead ds to = (length ds ≤ 64) × AllZip (IsAddress names) ds to

  abbrev ReadFault : List Data → StatementFault → Type 0
  ReadFault ds f = ((64 < length ds) × (f ≡ OutOfRange)) ⊎ Any (λ e. AddressFault names e f) ds

  read_judged :
      (ds : List Data)
      → Judges
      statement_faults
      (AreRead ds)
      (ReadFault ds)
      (listed_up_to statement_faults 64 (address_at names) ds)
  read_judged ds =
      few_judged
      statement_faults
      64
      (IsAddress names)
      (AddressFault names)
      (address_at names)
      (address_judged names)
      ds

  zip_nil : (ds : List Data) (to : List ℕ) → ds ≡ [] → AllZip (IsAddress names) ds to → to ≡ []
  zip_nil [] [] e z = refl
  zip_nil [] (a ∷ to) e z = absurd z
  zip_nil (d ∷ ds) to e z = absurd (cons-nil d ds e)

  zip_empty : (ds : List Data) (to : List ℕ) → to ≡ [] → AllZip (IsAddress names) ds to → ds ≡ []
  zip_empty [] to e z = refl
  zip_empty (d ∷ ds) [] e z = absurd z
  zip_empty (d ∷ ds) (a ∷ to) e z = absurd (cons-nil a to e)

  abbrev AreSome : Option (List Data) → List ℕ → Type 0
  AreSome o to = IsSomeAnd o (λ ds. AreRead ds to) × (to ≢ []) × (are_distinct to ≡ true)

  abbrev SomeFault : Option (List Data) → StatementFault → Type 0
  SomeFault o f =
      (IsSomeAnd o (λ ds. ds ≡ []) × (f ≡ WrongKind))
      ⊎ MatchOption o (f ≡ WrongKind) (λ ds. ReadFault ds f)
      ⊎ (IsSomeAnd o (HasRepeat (IsAddress names)) × (f ≡ Twice))

  none_judged :
      (ds : List Data)
      → ds ≡ []
      → Judges statement_faults (AreSome (Some ds)) (SomeFault (Some ds)) (Err WrongKind)
  none_judged ds e = record {
    answers = (
      λ to s. s.1 (zip_nil ds to e s.0.1),
      record {
        has = inl (e, refl);
        least = λ f y. elim y [
          | inl z ↦ above f WrongKind z.1 (omega arith)
          | inr y' ↦ elim y' [
            | inl r ↦ elim r [
              | inl z ↦ above f OutOfRange z.1 (omega arith)
              | inr a ↦ absurd (any_none (λ e. AddressFault names e f) (subst (λ (xs : List Data). Any (λ e. AddressFault names e f) xs) e a))
            ]
            | inr t ↦ above f Twice t.1 (omega arith)
          ]
        ];
      },
    );
  }

  once_judged :
      (ds : List Data)
      → Judges
      statement_faults
      (λ to. (c : List ℕ) × AreRead ds c × ((are_distinct c ≡ true) × (to ≡ c)))
      (λ f. ReadFault ds f ⊎ ((c : List ℕ) × AreRead ds c × ((are_distinct c ≢ true) × (f ≡ Twice))))
      (and_then (listed_up_to statement_faults 64 (address_at names) ds) (once Twice (λ ns. ns)))
  once_judged ds =
      then_judged
      statement_faults
      (AreRead ds)
      (λ c to. (are_distinct c ≡ true) × (to ≡ c))
      (ReadFault ds)
      (λ c f. (are_distinct c ≢ true) × (f ≡ Twice))
      (once Twice (λ ns. ns))
      (λ c s. test_judged statement_faults (are_distinct c ≡ true) c Twice (are_distinct c) (λ e. e, λ e. e))
      (listed_up_to statement_faults 64 (address_at names) ds)
      (read_judged ds)

  -- addresses of which one occurs twice are reported, or a fault of theirs, which is no higher
  twice_under :
      (ds : List Data) (f : StatementFault)
      → HasRepeat (IsAddress names) ds × (f ≡ Twice)
      → (g : StatementFault)
      × (ReadFault ds g ⊎ ((c : List ℕ) × AreRead ds c × ((are_distinct c ≢ true) × (g ≡ Twice))))
      × (number_of g ≤ number_of f)
  twice_under ds f h =
      elim
      (stated_or_faulty statement_faults (AreRead ds) (ReadFault ds) (listed_up_to statement_faults 64 (address_at names) ds) (read_judged ds)) [
        | inl c ↦ (Twice, inr (c.0, c.1, (λ e. false≢true (sym ((not_distinct (IsAddress names) (one_address names) ds c.0 c.1.1).1 h.0) ∙ e), refl)), le_of_eq (ap number_of (sym h.1)))
        | inr g ↦ (g.0, inl g.1, subst (λ (y : StatementFault). number_of g.0 ≤ number_of y) (sym h.1) (twice_last g.0))
      ]

  some_judged :
      (ds : List Data)
      → ds ≢ []
      → Judges
      statement_faults
      (AreSome (Some ds))
      (SomeFault (Some ds))
      (and_then (listed_up_to statement_faults 64 (address_at names) ds) (once Twice (λ ns. ns)))
  some_judged ds ne =
      judged_as
      statement_faults
      (λ to. (c : List ℕ) × AreRead ds c × ((are_distinct c ≡ true) × (to ≡ c)))
      (AreSome (Some ds))
      (λ f. ReadFault ds f ⊎ (HasRepeat (IsAddress names) ds × (f ≡ Twice)))
      (SomeFault (Some ds))
      (λ to. (
        λ u. (subst (AreRead ds) (sym u.2.1) u.1, λ e. ne (zip_empty ds u.0 (sym u.2.1 ∙ e) u.1.1), ap are_distinct u.2.1 ∙ u.2.0),
        λ h. (to, h.0, (h.2, refl)),
      ))
      (λ f. (λ y. inr y, λ y. elim y [ inl z ↦ absurd (ne z.0) | inr y' ↦ y' ]))
      (and_then (listed_up_to statement_faults 64 (address_at names) ds) (once Twice (λ ns. ns)))
      (widened_judged statement_faults _ (ReadFault ds) (λ f. (c : List ℕ) × AreRead ds c × ((are_distinct c ≢ true) × (f ≡ Twice))) (λ f. HasRepeat (IsAddress names) ds × (f ≡ Twice)) (λ f u. ((not_distinct (IsAddress names) (one_address names) ds u.0 u.1.1).0 (false_from_ne_true (are_distinct u.0) u.2.0), u.2.1)) (twice_under ds) (and_then (listed_up_to statement_faults 64 (address_at names) ds) (once Twice (λ ns. ns))) (once_judged ds))

  by_length :
      (ds : List Data) (b : Bool)
      → eqb (length ds) 0 ≡ b
      → Judges
      statement_faults
      (AreSome (Some ds))
      (SomeFault (Some ds))
      (cond b (Err WrongKind) (and_then (listed_up_to statement_faults 64 (address_at names) ds) (once Twice (λ ns. ns))))
  by_length ds true e = none_judged ds (nil_from_length ds (eqb-true (length ds) 0 e))
  by_length ds false e =
      some_judged ds (λ n. false≢true (sym e ∙ ap (λ (xs : List Data). eqb (length xs) 0) n))

  listed_judged :
      (o : Option (List Data))
      → Judges
      statement_faults
      (AreSome o)
      (SomeFault o)
      (required statement_faults o (some_destinations names))
  listed_judged None = record {
    answers = (
      λ to s. s.0,
      record {
        has = inr (inl refl);
        least = λ f y. elim y [
          | inl z ↦ absurd z.0
          | inr y' ↦ elim y' [ inl e ↦ above f WrongKind e (omega arith) | inr t ↦ absurd t.0 ]
        ];
      },
    );
  }
  listed_judged (Some ds) = by_length ds (eqb (length ds) 0) refl

  -- ## Targets

  none_is : (o : Option Data) → is_none o ≡ true ↔ (o ≡ None)
  none_is None = (λ e. refl, λ e. refl)
  none_is (Some d) = (λ e. absurd (false≢true e), λ e. absurd (none-some d (sym e)))

  -- the last rule is that of a jump and of a call
  to_judged :
      (k : TargetKind) (o : Option Data)
      → Judges statement_faults (GoesTo names k o) (ToFault names k o) (destinations names o k)
  to_judged Return o = test_judged statement_faults (o ≡ None) [] WrongKind (is_none o) (none_is o)
  to_judged Leave o = test_judged statement_faults (o ≡ None) [] WrongKind (is_none o) (none_is o)
  to_judged _ o =
      required_judged
      statement_faults
      (AreDestinations names)
      (DestinationsFault names)
      (destinations_at names)
      (λ d. listed_judged (items_at d))
      o

  target_of_kind_judged :
      (k : TargetKind) (o : Option Data)
      → Judges
      statement_faults
      (λ t. (t.kind ≡ k) × GoesTo names k o t.to)
      (ToFault names k o)
      (target_of_kind names o k)
  target_of_kind_judged k o =
      map_judged
      statement_faults
      (GoesTo names k o)
      (λ t. (t.kind ≡ k) × GoesTo names k o t.to)
      (ToFault names k o)
      (λ to. record { kind = k; to = to })
      (λ to s. (refl, s))
      (λ t h. (t.to, h.1, λ i. record { kind = h.0 i; to = t.to }))
      (destinations names o k)
      (to_judged k o)

  abbrev HasDirection : Members → Target → Type 0
  HasDirection ms t =
      (k : TargetKind)
      × AtKey (codes "kind") ms (λ d. IsNamed named_kind d k)
      × ((t.kind ≡ k) × GoesTo names k (get_member (codes "to") ms) t.to)

  abbrev DirectionFault : Members → StatementFault → Type 0
  DirectionFault ms f =
      RequiredFault (codes "kind") ms (NameFault statement_faults named_kind) f
      ⊎ ((k : TargetKind) × AtKey (codes "kind") ms (λ d. IsNamed named_kind d k) × ToFault names k (get_member (codes "to") ms) f)

  direction_judged :
      (ms : Members)
      → Judges
      statement_faults
      (HasDirection ms)
      (DirectionFault ms)
      (and_then (kind_in ms) (target_of_kind names (get_member (codes "to") ms)))
  direction_judged ms =
      then_judged
      statement_faults
      (λ k. AtKey (codes "kind") ms (λ d. IsNamed named_kind d k))
      (λ k t. (t.kind ≡ k) × GoesTo names k (get_member (codes "to") ms) t.to)
      (RequiredFault (codes "kind") ms (NameFault statement_faults named_kind))
      (λ k f. ToFault names k (get_member (codes "to") ms) f)
      (target_of_kind names (get_member (codes "to") ms))
      (λ k s. target_of_kind_judged k (get_member (codes "to") ms))
      (kind_in ms)
      (word_in_judged named_kind (codes "kind") ms)

  abbrev target_parts : Members → Reading StatementFault (ℕ × Target)
  target_parts ms =
      pair
      statement_faults
      (address_in names (codes "at") ms)
      (and_then (kind_in ms) (target_of_kind names (get_member (codes "to") ms)))

  target_keys_judged :
      (ms : Members)
      → Judges
      statement_faults
      (HasTarget names ms)
      (TargetKeysFault names ms)
      (target_parts ms)
  target_keys_judged ms =
      judged_as
      statement_faults
      (λ t. AtKey (codes "at") ms (λ d. IsAddress names d t.0) × HasDirection ms t.1)
      (HasTarget names ms)
      (λ f. RequiredFault (codes "at") ms (AddressFault names) f ⊎ DirectionFault ms f)
      (TargetKeysFault names ms)
      (λ t. (
        λ h. record {
          address = h.0;
          kind = subst (λ (k : TargetKind). AtKey (codes "kind") ms (λ d. IsNamed named_kind d k)) (sym h.1.2.0) h.1.1;
          destinations = subst (λ (k : TargetKind). GoesTo names k (get_member (codes "to") ms) t.1.to) (sym h.1.2.0) h.1.2.1;
        },
        λ h. (h.address, (t.1.kind, h.kind, (refl, h.destinations))),
      ))
      (λ f. (λ y. y, λ y. y))
      (target_parts ms)
      (pair_judged statement_faults _ _ _ _ _ _ (address_in_judged names (codes "at") ms) (direction_judged ms))

  pub target_judged :
      (d : Data)
      → Judges statement_faults (StatesTarget names d) (TargetFault names d) (target_at names d)
  target_judged d =
      table_judged statement_faults target_keys (HasTarget names) (TargetKeysFault names) target_parts target_keys_judged d

  -- ## Accesses

  abbrev access_parts : Members → Reading StatementFault (ℕ × Class)
  access_parts ms = pair statement_faults (address_in names (codes "at") ms) (class_in ms)

  access_keys_judged :
      (ms : Members)
      → Judges
      statement_faults
      (HasAccess names ms)
      (AccessKeysFault names ms)
      (access_parts ms)
  access_keys_judged ms =
      judged_as
      statement_faults
      (λ a. AtKey (codes "at") ms (λ d. IsAddress names d a.0) × AtKey (codes "class") ms (λ d. IsNamed named_class d a.1))
      (HasAccess names ms)
      (AccessKeysFault names ms)
      (AccessKeysFault names ms)
      (λ a. (λ h. record { address = h.0; class = h.1 }, λ h. (h.address, h.class)))
      (λ f. (λ y. y, λ y. y))
      (access_parts ms)
      (pair_judged statement_faults _ _ _ _ _ _ (address_in_judged names (codes "at") ms) (word_in_judged named_class (codes "class") ms))

  pub access_judged :
      (d : Data)
      → Judges statement_faults (StatesAccess names d) (AccessFault names d) (access_at names d)
  access_judged d =
      table_judged statement_faults access_keys (HasAccess names) (AccessKeysFault names) access_parts access_keys_judged d

  -- ## Rules for base registers

  abbrev rule_of : (Register × Class) × (ℕ × ℕ) → BaseRule
  rule_of p = record { register = p.0.0; first = p.1.0; last = p.1.1; class = p.0.1 }

  abbrev IsOfAll : Members → Register × Class → Type 0
  IsOfAll ms p =
      AtKey (codes "register") ms (λ d. IsNamed register_of d p.0) × AtKey (codes "class") ms (λ d. IsNamed named_class d p.1)

  abbrev OfAllFault : Members → StatementFault → Type 0
  OfAllFault ms f =
      RequiredFault (codes "register") ms (NameFault statement_faults register_of) f
      ⊎ RequiredFault (codes "class") ms (NameFault statement_faults named_class) f

  abbrev HasRuleParts : Members → (Register × Class) × (ℕ × ℕ) → Type 0
  HasRuleParts ms p = IsOfAll ms p.0 × (IsFirst names ms p.1.0 × IsLast names ms p.1.1)

  abbrev RulePartsFault : Members → StatementFault → Type 0
  RulePartsFault ms f =
      OfAllFault ms f
      ⊎ (AtKey (codes "first") ms (λ d. AddressFault names d f) ⊎ AtKey (codes "last") ms (λ d. AddressFault names d f))

  of_all_judged : (ms : Members) → Judges statement_faults (IsOfAll ms) (OfAllFault ms) (pair statement_faults (register_in ms) (class_in ms))
  of_all_judged ms =
      pair_judged statement_faults (λ r. AtKey (codes "register") ms (λ d. IsNamed register_of d r)) (λ c. AtKey (codes "class") ms (λ d. IsNamed named_class d c)) _ _ _ _ (word_in_judged register_of (codes "register") ms) (word_in_judged named_class (codes "class") ms)

  rule_parts_judged : (ms : Members) → Judges statement_faults (HasRuleParts ms) (RulePartsFault ms) (rule_parts names ms)
  rule_parts_judged ms =
      pair_judged statement_faults (IsOfAll ms) (λ p. IsFirst names ms p.0 × IsLast names ms p.1) _ _ _ _
      (of_all_judged ms)
      (pair_judged statement_faults (IsFirst names ms) (IsLast names ms) _ _ _ _ (address_or_judged names (codes "first") 0 ms) (address_or_judged names (codes "last") (SPACE_END - 4) ms))

  abbrev OrderFault : Members → StatementFault → Type 0
  OrderFault ms f =
      (p : (Register × Class) × (ℕ × ℕ)) × HasRuleParts ms p × ((¬ (p.1.0 ≤ p.1.1)) × (f ≡ OutOfRange))

  word_low :
      {A : Type 0} (named : List ℕ → Option A) (o : Option Data) (g : StatementFault)
      → MatchOption o (g ≡ WrongKind) (λ d. NameFault statement_faults named d g)
      → number_of g ≤ number_of OutOfRange
  word_low named None g h = at_most g WrongKind h (omega arith)
  word_low named (Some d) g h = at_most g WrongKind h.1 (omega arith)

  of_all_low : (ms : Members) (g : StatementFault) → OfAllFault ms g → number_of g ≤ number_of OutOfRange
  of_all_low ms g (inl h) = word_low register_of (get_member (codes "register") ms) g h
  of_all_low ms g (inr h) = word_low named_class (get_member (codes "class") ms) g h

  -- a rule that ends before it begins is reported, or a fault of its register or class that is no higher
  reversed_under :
      (ms : Members) (f : StatementFault)
      → IsReversed names ms × (f ≡ OutOfRange)
      → (g : StatementFault) × (RulePartsFault ms g ⊎ OrderFault ms g) × (number_of g ≤ number_of f)
  reversed_under ms f h =
      elim
      (stated_or_faulty statement_faults (IsOfAll ms) (OfAllFault ms) (pair statement_faults (register_in ms) (class_in ms)) (of_all_judged ms)) [
        | inl p ↦ (OutOfRange, inr ((p.0, (h.0.0, h.0.1)), (p.1, (h.0.2, h.0.3)), (λ o. let low = h.0.4 in omega arith, refl)), le_of_eq (ap number_of (sym h.1)))
        | inr g ↦ (g.0, inl (inl g.1), subst (λ (y : StatementFault). number_of g.0 ≤ number_of y) (sym h.1) (of_all_low ms g.0 g.1))
      ]

  ordered_judged :
      (ms : Members)
      → Judges
      statement_faults
      (λ r. (p : (Register × Class) × (ℕ × ℕ)) × HasRuleParts ms p × ((p.1.0 ≤ p.1.1) × (r ≡ rule_of p)))
      (λ f. RulePartsFault ms f ⊎ OrderFault ms f)
      (and_then (rule_parts names ms) placed_rule)
  ordered_judged ms =
      then_judged
      statement_faults
      (HasRuleParts ms)
      (λ p r. (p.1.0 ≤ p.1.1) × (r ≡ rule_of p))
      (RulePartsFault ms)
      (λ p f. (¬ (p.1.0 ≤ p.1.1)) × (f ≡ OutOfRange))
      placed_rule
      (λ p s. test_judged statement_faults (p.1.0 ≤ p.1.1) (rule_of p) OutOfRange (leb p.1.0 p.1.1) (leb-true p.1.0 p.1.1, le-leb p.1.0 p.1.1))
      (rule_parts names ms)
      (rule_parts_judged ms)

  abbrev HasOrdered : Members → BaseRule → Type 0
  HasOrdered ms r = HasRule names ms r × (r.first ≤ r.last)

  rule_keys_judged :
      (ms : Members)
      → Judges
      statement_faults
      (HasOrdered ms)
      (RuleKeysFault names ms)
      (and_then (rule_parts names ms) placed_rule)
  rule_keys_judged ms =
      judged_as
      statement_faults
      (λ r. (p : (Register × Class) × (ℕ × ℕ)) × HasRuleParts ms p × ((p.1.0 ≤ p.1.1) × (r ≡ rule_of p)))
      (HasOrdered ms)
      (λ f. RulePartsFault ms f ⊎ (IsReversed names ms × (f ≡ OutOfRange)))
      (RuleKeysFault names ms)
      (λ r. (
        λ u. subst (HasOrdered ms) (sym u.2.1) (of_parts u.0 u.1, u.2.0),
        λ h. (((r.register, r.class), (r.first, r.last)), ((h.0.register, h.0.class), (h.0.first, h.0.last)), (h.1, refl)),
      ))
      (λ f. five_in_line)
      (and_then (rule_parts names ms) placed_rule)
      (widened_judged statement_faults _ (RulePartsFault ms) (OrderFault ms) (λ f. IsReversed names ms × (f ≡ OutOfRange)) (λ f u. ((u.0.1.0, u.0.1.1, u.1.1.0, u.1.1.1, not_le u.0.1.0 u.0.1.1 u.2.0), u.2.1)) (reversed_under ms) (and_then (rule_parts names ms) placed_rule) (ordered_judged ms))
    where
      of_parts : (p : (Register × Class) × (ℕ × ℕ)) → HasRuleParts ms p → HasRule names ms (rule_of p)
      of_parts p s = record { register = s.0.0; class = s.0.1; first = s.1.0; last = s.1.1 }

  pub rule_judged : (d : Data) → Judges statement_faults (StatesRule names d) (RuleFault names d) (rule_at names d)
  rule_judged d =
      table_judged statement_faults rule_keys HasOrdered (RuleKeysFault names) (λ ms. and_then (rule_parts names ms) placed_rule) rule_keys_judged d

  -- ## Multiplies

  abbrev multiply_parts : Members → Reading StatementFault (ℕ × ℕ)
  multiply_parts ms = pair statement_faults (address_in names (codes "at") ms) (cycles_in ms)

  multiply_keys_judged :
      (ms : Members)
      → Judges statement_faults (HasMultiply names ms) (MultiplyKeysFault names ms) (multiply_parts ms)
  multiply_keys_judged ms =
      judged_as
      statement_faults
      (λ a. AtKey (codes "at") ms (λ d. IsAddress names d a.0) × AtKey (codes "cycles") ms (λ d. AreCycles d a.1))
      (HasMultiply names ms)
      (MultiplyKeysFault names ms)
      (MultiplyKeysFault names ms)
      (λ a. (λ h. record { address = h.0; cycles = h.1 }, λ h. (h.address, h.cycles)))
      (λ f. (λ y. y, λ y. y))
      (multiply_parts ms)
      (pair_judged statement_faults _ _ _ _ _ _ (address_in_judged names (codes "at") ms) (cycles_in_judged ms))

  pub multiply_judged :
      (d : Data)
      → Judges statement_faults (StatesMultiply names d) (MultiplyFault names d) (multiply_at names d)
  multiply_judged d =
      table_judged statement_faults multiply_keys (HasMultiply names) (MultiplyKeysFault names) multiply_parts multiply_keys_judged d

  -- ## Branches

  abbrev branch_parts : Members → Reading StatementFault (ℕ × Taken)
  branch_parts ms = pair statement_faults (address_in names (codes "at") ms) (taken_in ms)

  branch_keys_judged :
      (ms : Members)
      → Judges statement_faults (HasBranch names ms) (BranchKeysFault names ms) (branch_parts ms)
  branch_keys_judged ms =
      judged_as
      statement_faults
      (λ a. AtKey (codes "at") ms (λ d. IsAddress names d a.0) × AtKey (codes "taken") ms (λ d. IsNamed named_taken d a.1))
      (HasBranch names ms)
      (BranchKeysFault names ms)
      (BranchKeysFault names ms)
      (λ a. (λ h. record { address = h.0; taken = h.1 }, λ h. (h.address, h.taken)))
      (λ f. (λ y. y, λ y. y))
      (branch_parts ms)
      (pair_judged statement_faults _ _ _ _ _ _ (address_in_judged names (codes "at") ms) (word_in_judged named_taken (codes "taken") ms))

  pub branch_judged :
      (d : Data)
      → Judges statement_faults (StatesBranch names d) (BranchFault names d) (branch_at names d)
  branch_judged d =
      table_judged statement_faults branch_keys (HasBranch names) (BranchKeysFault names) branch_parts branch_keys_judged d
