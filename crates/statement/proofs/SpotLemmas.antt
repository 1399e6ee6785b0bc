-- A document has a fault exactly where some spot has it.
use Rattle.std.proofs.Common.{◌≡◌, ◌≢◌, ℕ, zero, suc, ◌<◌, ◌⊎◌, ◌↔◌, true, false, ◌&&◌, List, [], length, Option, Some, None, IsSomeAnd, MatchOption, Any, Ordering, inl, inr, refl, sym, ap, subst, ◌∙◌, arith}
use Rattle.std.specs.Prelude.{codes, is_some, unwrap_or, IsSome}
use Rattle.std.specs.List.{slice_get}
use Rattle.std.specs.Option.{option_and_then}
use Rattle.std.specs.Ordering.{match_ordering, nat_cmp}
use Rattle.std.specs.Cmp.Lexicographic.{slice_cmp}
use Rattle.std.specs.declared.cmp.Ordering.TheVariants.{Less, Equal, Greater}
use Rattle.std.specs.Cmp.{tied_itself}
use Rattle.std.proofs.Math.Bool.{and-false}
use Rattle.std.proofs.lemmas.Bool.{cases_Bool, false≢true, true≢false}
use Rattle.std.proofs.lemmas.Cmp.{nat_list_cmp_total}
use Rattle.std.proofs.lemmas.Map.Lookups.{exact_bytes}
use Rattle.std.proofs.lemmas.Option.{none-some}
use Rattle.toml.specs.Data.{Data, Members, as_table, get_member, member, no_members}
use Rattle.toml_reading.specs.Documents.{has_only_keys, is_one_of, items_at}
use Rattle.toml_reading.specs.Lists.{HasRepeat, ListUpToFault}
use Rattle.toml_reading.specs.Lowest.{AtKey, IsNamed, KeysFault, TableFault, entries_at}
use Rattle.image.specs.Labels.{Names}
use Rattle.statement.specs.Places.{DestinationFault, GoesOn, InStretch, InTable, IsFaultAt, IsRepeatAt, IsSecond, KeyFault, PartFault, end_of, has_destinations, key_name, keys_of, list_key, most_of}
use Rattle.statement.specs.Statement.{access_keys, branch_keys, loop_keys, multiply_keys, named_kind, pair_at, rule_keys, target_keys}
use Rattle.statement.specs.StatementFaults.{statement_faults}
use Rattle.statement.specs.StatementRules.{AccessKeysFault, AddressFault, AreReversed, BranchKeysFault, DestinationsFault, HasFault, HasMisplaced, IsAddress, IsAt, IsMisplaced, IsReversed, IsRuleAt, IsTwice, LoopKeysFault, MultiplyKeysFault, PartsFault, RuleKeysFault, StretchFault, TargetKeysFault, ToFault}
use Rattle.statement.specs.declared.faults.StatementFault.{StatementFault}
use Rattle.statement.specs.declared.faults.StatementFault.TheVariants.{OutOfRange, Twice, UnknownKey, WrongKind}
use Rattle.statement.specs.declared.spots.Key.{Key}
use Rattle.statement.specs.declared.spots.Key.TheVariants.{Entry, Leave, Returns, Header, First, Last, Bound, At, Kind, To, Class, Register as Base, Cycles, Taken}
use Rattle.statement.specs.declared.spots.Part.{Part}
use Rattle.statement.specs.declared.spots.Part.TheVariants.{Unknown, Value, Missing}
use Rattle.statement.specs.declared.spots.Spot.{Spot}
use Rattle.statement.specs.declared.spots.Spot.TheVariants as spot
use Rattle.statement.specs.declared.spots.TableList.{TableList}
use Rattle.statement.specs.declared.spots.TableList.TheVariants.{Loops, Targets, Accesses, Rules, Multiplies, Branches}
use Rattle.statement.specs.declared.stated.TargetKind.{TargetKind}
use Rattle.statement.specs.declared.stated.TargetKind.TheVariants.{Jump, Call, Return, Leave as Leaving}
use Rattle.statement.proofs.RepeatLemmas.{any_index, index_any, index_repeat, repeat_index, some_or_none}

-- ## Options

in_some : {A : Type 0} (P : A → Type 0) (o : Option A) → IsSomeAnd o P → (a : A) × (o ≡ Some a) × P a
in_some P None h = absurd h
in_some P (Some a) h = (a, refl, h)

of_some : {A : Type 0} (P : A → Type 0) (o : Option A) (a : A) → o ≡ Some a → P a → IsSomeAnd o P
of_some P o a is h = subst (λ (p : Option _). IsSomeAnd p P) (sym is) h

table_cases :
    {A : Type 0} (P : A → Type 0) (Q : Type 0) (o : Option A)
    → MatchOption o Q P
    ↔ (((o ≡ None) × Q) ⊎ IsSomeAnd o P)
table_cases P Q None = (λ h. inl (refl, h), λ h. elim h [ inl n ↦ n.1 | inr s ↦ absurd s ])
table_cases P Q (Some a) = (λ h. inr h, λ h. elim h [ inl n ↦ absurd (none-some a (sym n.0)) | inr s ↦ s ])

some_if : {A : Type 0} (o : Option A) → o ≢ None → IsSome o
some_if None h = absurd (h refl)
some_if (Some a) h = refl

if_some : {A : Type 0} (o : Option A) → IsSome o → o ≢ None
if_some None h e = false≢true h
if_some (Some a) h e = none-some a (sym e)

-- ## Keys that a table may not have

module _ (keys : List (List ℕ)) where
  later_by : (o : Ordering) (x : Option Data) (d : Data) → IsSome x → IsSome (match_ordering o x (Some d) x)
  later_by Less x d h = h
  later_by Equal x d h = refl
  later_by Greater x d h = h

  first_by : (o : Ordering) (x : Option Data) (d : Data) → o ≡ Equal → IsSome (match_ordering o x (Some d) x)
  first_by o x d is = ap (λ p. is_some (match_ordering p x (Some d) x)) is

  unknown_of :
      (ms : Members)
      → has_only_keys keys ms ≡ false
      → (k : List ℕ) × IsSome (get_member k ms) × (is_one_of keys k ≡ false)
  unknown_of no_members e = absurd (true≢false e)
  unknown_of (member l d ms) e = elim (cases_Bool (is_one_of keys l)) [
    | inl known ↦ let u = unknown_of ms (rw known at e) in (u.0, later_by (slice_cmp nat_cmp u.0 l) (get_member u.0 ms) d u.1, u.2)
    | inr unknown ↦ (l, first_by (slice_cmp nat_cmp l l) (get_member l ms) d (tied_itself nat_list_cmp_total l), unknown)
  ]

  of_unknown :
      (ms : Members) (k : List ℕ)
      → IsSome (get_member k ms)
      → is_one_of keys k ≡ false
      → has_only_keys keys ms ≡ false
  of_unknown no_members k s u = absurd (false≢true s)
  of_unknown (member l d ms) k s u =
      by_order (slice_cmp nat_cmp k l) refl s
      (λ h. ap (λ b. is_one_of keys l && b) (of_unknown ms k h u) ∙ and-false (is_one_of keys l))
    where
      by_order :
          (o : Ordering)
          → o ≡ slice_cmp nat_cmp k l
          → IsSome (match_ordering o (get_member k ms) (Some d) (get_member k ms))
          → (IsSome (get_member k ms) → (is_one_of keys l && has_only_keys keys ms) ≡ false)
          → (is_one_of keys l && has_only_keys keys ms) ≡ false
      by_order Less is h elsewhere = elsewhere h
      by_order Equal is h elsewhere =
          ap (λ b. b && has_only_keys keys ms) (ap (is_one_of keys) (sym (exact_bytes k l (sym is))) ∙ u)
      by_order Greater is h elsewhere = elsewhere h

-- ## Lists

module _ (limit : ℕ) (Has : Data → StatementFault → Type 0) (f : StatementFault) where
  abbrev ListSpot : Option Data → List Data → Type 0
  ListSpot o ds =
      IsSomeAnd o (λ d. (items_at d ≡ None) × (f ≡ WrongKind))
      ⊎ ((limit < length ds) × (f ≡ OutOfRange))
      ⊎ ((n : ℕ) × IsSomeAnd (slice_get ds n) (λ e. Has e f))

  abbrev ItemSpot : Option (List Data) → List Data → Type 0
  ItemSpot l ds =
      ((l ≡ None) × (f ≡ WrongKind))
      ⊎ ((limit < length ds) × (f ≡ OutOfRange))
      ⊎ ((n : ℕ) × IsSomeAnd (slice_get ds n) (λ e. Has e f))

  abbrev ItemFault : Option (List Data) → Type 0
  ItemFault l =
      MatchOption l (f ≡ WrongKind) (λ ds. ((limit < length ds) × (f ≡ OutOfRange)) ⊎ Any (λ e. Has e f) ds)

  item_spot : (l : Option (List Data)) → ItemFault l ↔ ItemSpot l (unwrap_or l [])
  item_spot None = (
    λ h. inl (refl, h),
    λ h. elim h [
      | inl n ↦ n.1
      | inr m ↦ elim m [ inl z ↦ let low = z.0 in absurd (omega arith) | inr at ↦ absurd at.1 ]
    ],
  )
  item_spot (Some ds) = (
    λ h. elim h [ inl z ↦ inr (inl z) | inr a ↦ inr (inr (any_index (λ e. Has e f) ds a)) ],
    λ h. elim h [
      | inl n ↦ absurd (none-some ds (sym n.0))
      | inr m ↦ elim m [ inl z ↦ inl z | inr at ↦ inr (index_any (λ e. Has e f) ds at.0 at.1) ]
    ],
  )

  list_spot :
      (o : Option Data)
      → IsSomeAnd o (λ d. ListUpToFault statement_faults limit Has d f)
      ↔ ListSpot o (unwrap_or (option_and_then items_at o) [])
  list_spot None = (
    λ h. absurd h,
    λ h. elim h [
      | inl n ↦ n
      | inr m ↦ elim m [ inl z ↦ let low = z.0 in absurd (omega arith) | inr at ↦ at.1 ]
    ],
  )
  list_spot (Some d) = item_spot (items_at d)

module _ (names : Names) where
  -- ## Keys

  key_part :
      (of : Option TableList) (key : Key) (ms : Members) (f : StatementFault)
      → KeyFault names of key ms f
      → (p : Part) × PartFault names of p ms f
  key_part of key ms f h = elim (some_or_none (get_member (key_name key) ms)) [
    | inl s ↦ (Value key, (s, h))
    | inr n ↦ (Missing key, (n, h))
  ]

  unknown_part :
      (of : Option TableList) (ms : Members) (f : StatementFault)
      → has_only_keys (keys_of of) ms ≡ false
      → f ≡ UnknownKey
      → (p : Part) × PartFault names of p ms f
  unknown_part of ms f none is =
      let u = unknown_of (keys_of of) ms none in
      (Unknown (record { ref_ptr = (0, 0); now = u.0 }), (u.1, u.2, is))

  -- a part is of an unknown key, or of a known one
  part_cases :
      (of : Option TableList) (p : Part) (ms : Members) (f : StatementFault)
      → PartFault names of p ms f
      → ((has_only_keys (keys_of of) ms ≡ false) × (f ≡ UnknownKey)) ⊎ ((key : Key) × KeyFault names of key ms f)
  part_cases of (Unknown key) ms f h = inl (of_unknown (keys_of of) ms key.now h.0 h.1, h.2)
  part_cases of (Value key) ms f h = inr (key, h.1)
  part_cases of (Missing key) ms f h = inr (key, h.1)

  -- ## Loops

  abbrev LoopSpot : Members → StatementFault → Type 0
  LoopSpot t f = (p : Part) × PartFault names (Some Loops) p t f

  loop_keys_spot : (t : Members) (f : StatementFault) → LoopKeysFault names t f → LoopSpot t f
  loop_keys_spot t f (inl h) = key_part (Some Loops) First t f h
  loop_keys_spot t f (inr (inl h)) = key_part (Some Loops) Last t f h
  loop_keys_spot t f (inr (inr (inl h))) = key_part (Some Loops) Header t f h
  loop_keys_spot t f (inr (inr (inr h))) = key_part (Some Loops) Bound t f h

  loop_key_fault : (key : Key) (t : Members) (f : StatementFault) → KeyFault names (Some Loops) key t f → LoopKeysFault names t f
  loop_key_fault First t f h = inl h
  loop_key_fault Last t f h = inr (inl h)
  loop_key_fault Header t f h = inr (inr (inl h))
  loop_key_fault Bound t f h = inr (inr (inr h))
  loop_key_fault _ t f h = absurd h

  abbrev LoopTableFault : Members → StatementFault → Type 0
  LoopTableFault t f = KeysFault statement_faults loop_keys (LoopKeysFault names) t f

  loop_spot : (t : Members) (f : StatementFault) → LoopTableFault t f → LoopSpot t f
  loop_spot t f (inl h) = unknown_part (Some Loops) t f h.0 h.1
  loop_spot t f (inr h) = loop_keys_spot t f h

  loop_part_fault : (p : Part) (t : Members) (f : StatementFault) → PartFault names (Some Loops) p t f → LoopTableFault t f
  loop_part_fault p t f h = elim (part_cases (Some Loops) p t f h) [
    | inl u ↦ inl u
    | inr k ↦ inr (loop_key_fault k.0 t f k.1)
  ]

  -- ## Accesses

  access_spot :
      (t : Members) (f : StatementFault)
      → KeysFault statement_faults access_keys (AccessKeysFault names) t f
      → (p : Part) × PartFault names (Some Accesses) p t f
  access_spot t f (inl h) = unknown_part (Some Accesses) t f h.0 h.1
  access_spot t f (inr (inl h)) = key_part (Some Accesses) At t f h
  access_spot t f (inr (inr h)) = key_part (Some Accesses) Class t f h

  access_key_fault : (key : Key) (t : Members) (f : StatementFault) → KeyFault names (Some Accesses) key t f → AccessKeysFault names t f
  access_key_fault At t f h = inl h
  access_key_fault Class t f h = inr h
  access_key_fault _ t f h = absurd h

  access_part_fault :
      (p : Part) (t : Members) (f : StatementFault)
      → PartFault names (Some Accesses) p t f
      → KeysFault statement_faults access_keys (AccessKeysFault names) t f
  access_part_fault p t f h = elim (part_cases (Some Accesses) p t f h) [
    | inl u ↦ inl u
    | inr k ↦ inr (access_key_fault k.0 t f k.1)
  ]

  -- ## Multiplies and branches

  multiply_spot :
      (t : Members) (f : StatementFault)
      → KeysFault statement_faults multiply_keys (MultiplyKeysFault names) t f
      → (p : Part) × PartFault names (Some Multiplies) p t f
  multiply_spot t f (inl h) = unknown_part (Some Multiplies) t f h.0 h.1
  multiply_spot t f (inr (inl h)) = key_part (Some Multiplies) At t f h
  multiply_spot t f (inr (inr h)) = key_part (Some Multiplies) Cycles t f h

  multiply_key_fault : (key : Key) (t : Members) (f : StatementFault) → KeyFault names (Some Multiplies) key t f → MultiplyKeysFault names t f
  multiply_key_fault At t f h = inl h
  multiply_key_fault Cycles t f h = inr h
  multiply_key_fault _ t f h = absurd h

  multiply_part_fault :
      (p : Part) (t : Members) (f : StatementFault)
      → PartFault names (Some Multiplies) p t f
      → KeysFault statement_faults multiply_keys (MultiplyKeysFault names) t f
  multiply_part_fault p t f h = elim (part_cases (Some Multiplies) p t f h) [
    | inl u ↦ inl u
    | inr k ↦ inr (multiply_key_fault k.0 t f k.1)
  ]

  branch_spot :
      (t : Members) (f : StatementFault)
      → KeysFault statement_faults branch_keys (BranchKeysFault names) t f
      → (p : Part) × PartFault names (Some Branches) p t f
  branch_spot t f (inl h) = unknown_part (Some Branches) t f h.0 h.1
  branch_spot t f (inr (inl h)) = key_part (Some Branches) At t f h
  branch_spot t f (inr (inr h)) = key_part (Some Branches) Taken t f h

  branch_key_fault : (key : Key) (t : Members) (f : StatementFault) → KeyFault names (Some Branches) key t f → BranchKeysFault names t f
  branch_key_fault At t f h = inl h
  branch_key_fault Taken t f h = inr h
  branch_key_fault _ t f h = absurd h

  branch_part_fault :
      (p : Part) (t : Members) (f : StatementFault)
      → PartFault names (Some Branches) p t f
      → KeysFault statement_faults branch_keys (BranchKeysFault names) t f
  branch_part_fault p t f h = elim (part_cases (Some Branches) p t f h) [
    | inl u ↦ inl u
    | inr k ↦ inr (branch_key_fault k.0 t f k.1)
  ]

  -- ## Rules

  abbrev RuleSpot : Members → StatementFault → Type 0
  RuleSpot t f = ((p : Part) × PartFault names (Some Rules) p t f) ⊎ (IsReversed names t × (f ≡ OutOfRange))

  rule_keys_spot : (t : Members) (f : StatementFault) → RuleKeysFault names t f → RuleSpot t f
  rule_keys_spot t f (inl h) = inl (key_part (Some Rules) Base t f h)
  rule_keys_spot t f (inr (inl h)) = inl (key_part (Some Rules) Class t f h)
  rule_keys_spot t f (inr (inr (inl h))) = inl (key_part (Some Rules) First t f h)
  rule_keys_spot t f (inr (inr (inr (inl h)))) = inl (key_part (Some Rules) Last t f h)
  rule_keys_spot t f (inr (inr (inr (inr h)))) = inr h

  rule_key_fault : (key : Key) (t : Members) (f : StatementFault) → KeyFault names (Some Rules) key t f → RuleKeysFault names t f
  rule_key_fault Base t f h = inl h
  rule_key_fault Class t f h = inr (inl h)
  rule_key_fault First t f h = inr (inr (inl h))
  rule_key_fault Last t f h = inr (inr (inr (inl h)))
  rule_key_fault _ t f h = absurd h

  abbrev RuleTableFault : Members → StatementFault → Type 0
  RuleTableFault t f = KeysFault statement_faults rule_keys (RuleKeysFault names) t f

  rule_spot : (t : Members) (f : StatementFault) → RuleTableFault t f → RuleSpot t f
  rule_spot t f (inl h) = inl (unknown_part (Some Rules) t f h.0 h.1)
  rule_spot t f (inr h) = rule_keys_spot t f h

  rule_part_fault : (p : Part) (t : Members) (f : StatementFault) → PartFault names (Some Rules) p t f → RuleTableFault t f
  rule_part_fault p t f h = elim (part_cases (Some Rules) p t f h) [
    | inl u ↦ inl u
    | inr k ↦ inr (rule_key_fault k.0 t f k.1)
  ]

  -- ## Targets

  abbrev ToSpot : List Data → StatementFault → Type 0
  ToSpot ds f =
      ((ds ≡ []) × (f ≡ WrongKind))
      ⊎ ((64 < length ds) × (f ≡ OutOfRange))
      ⊎ ((i : ℕ) × DestinationFault names i ds f)

  abbrev SomeFault : Option (List Data) → StatementFault → Type 0
  SomeFault l f =
      (IsSomeAnd l (λ ds. ds ≡ []) × (f ≡ WrongKind))
      ⊎ ItemFault 64 (AddressFault names) f l
      ⊎ (IsSomeAnd l (HasRepeat (IsAddress names)) × (f ≡ Twice))

  to_items : (f : StatementFault) (l : Option (List Data)) → SomeFault l f ↔ ToSpot (unwrap_or l []) f
  to_items f None = (
    λ h. elim h [ inl z ↦ absurd z.0 | inr m ↦ elim m [ inl e ↦ inl (refl, e) | inr t ↦ absurd t.0 ] ],
    λ h. elim h [
      | inl z ↦ inr (inl z.1)
      | inr m ↦ elim m [
        | inl z ↦ let low = z.0 in absurd (omega arith)
        | inr at ↦ elim at.1 [ inl v ↦ absurd v | inr r ↦ absurd r.0.1 ]
      ]
    ],
  )
  to_items f (Some ds) = (
    λ h. elim h [
      | inl z ↦ inl z
      | inr m ↦ elim m [
        | inl i ↦ elim i [
          | inl z ↦ inr (inl z)
          | inr a ↦ let at = any_index (λ e. AddressFault names e f) ds a in inr (inr (at.0, inl at.1))
        ]
        | inr t ↦ let at = repeat_index (IsAddress names) ds t.0 in inr (inr (at.0, inr (at.1, t.1)))
      ]
    ],
    λ h. elim h [
      | inl z ↦ inl z
      | inr m ↦ elim m [
        | inl z ↦ inr (inl (inl z))
        | inr at ↦ elim at.1 [
          | inl v ↦ inr (inl (inr (index_any (λ e. AddressFault names e f) ds at.0 v)))
          | inr r ↦ inr (inr (index_repeat (IsAddress names) ds at.0 r.0, r.1))
        ]
      ]
    ],
  )

  to_spot :
      (f : StatementFault) (o : Option Data)
      → MatchOption o (f ≡ WrongKind) (λ d. DestinationsFault names d f)
      ↔ ToSpot (unwrap_or (option_and_then items_at o) []) f
  to_spot f None = (
    λ h. inl (refl, h),
    λ h. elim h [
      | inl z ↦ z.1
      | inr m ↦ elim m [
        | inl z ↦ let low = z.0 in absurd (omega arith)
        | inr at ↦ elim at.1 [ inl v ↦ absurd v | inr r ↦ absurd r.0.1 ]
      ]
    ],
  )
  to_spot f (Some d) = to_items f (items_at d)

  abbrev TargetSpot : Members → StatementFault → Type 0
  TargetSpot t f =
      ((p : Part) × PartFault names (Some Targets) p t f)
      ⊎ (GoesOn false t × IsSome (get_member (codes "to") t) × (f ≡ WrongKind))
      ⊎ (GoesOn true t × (64 < length (entries_at (codes "to") t)) × (f ≡ OutOfRange))
      ⊎ ((i : ℕ) × GoesOn true t × DestinationFault names i (entries_at (codes "to") t) f)

  going_spot : (t : Members) (f : StatementFault) → GoesOn true t → ToSpot (entries_at (codes "to") t) f → TargetSpot t f
  going_spot t f goes (inl z) = inl (key_part (Some Targets) To t f (goes, z.0, z.1))
  going_spot t f goes (inr (inl z)) = inr (inr (inl (goes, z.0, z.1)))
  going_spot t f goes (inr (inr at)) = inr (inr (inr (at.0, goes, at.1)))

  kind_spot :
      (t : Members) (f : StatementFault) (kind : TargetKind)
      → AtKey (codes "kind") t (λ d. IsNamed named_kind d kind)
      → ToFault names kind (get_member (codes "to") t) f
      → TargetSpot t f
  kind_spot t f Jump named h = going_spot t f (Jump, named, refl) ((to_spot f (get_member (codes "to") t)).0 h)
  kind_spot t f Call named h = going_spot t f (Call, named, refl) ((to_spot f (get_member (codes "to") t)).0 h)
  kind_spot t f Return named h = inr (inl ((Return, named, refl), some_if (get_member (codes "to") t) h.0, h.1))
  kind_spot t f Leaving named h = inr (inl ((Leaving, named, refl), some_if (get_member (codes "to") t) h.0, h.1))

  abbrev TargetTableFault : Members → StatementFault → Type 0
  TargetTableFault t f = KeysFault statement_faults target_keys (TargetKeysFault names) t f

  target_spot : (t : Members) (f : StatementFault) → TargetTableFault t f → TargetSpot t f
  target_spot t f (inl h) = inl (unknown_part (Some Targets) t f h.0 h.1)
  target_spot t f (inr (inl h)) = inl (key_part (Some Targets) At t f h)
  target_spot t f (inr (inr (inl h))) = inl (key_part (Some Targets) Kind t f h)
  target_spot t f (inr (inr (inr h))) = kind_spot t f h.0 h.1 h.2

  going_fault :
      (o : Option Data) (f : StatementFault) (kind : TargetKind)
      → has_destinations kind ≡ true
      → MatchOption o (f ≡ WrongKind) (λ d. DestinationsFault names d f)
      → ToFault names kind o f
  going_fault o f Jump e h = h
  going_fault o f Call e h = h
  going_fault o f Return e h = absurd (false≢true e)
  going_fault o f Leaving e h = absurd (false≢true e)

  staying_fault :
      (o : Option Data) (f : StatementFault) (kind : TargetKind)
      → has_destinations kind ≡ false
      → IsSome o
      → f ≡ WrongKind
      → ToFault names kind o f
  staying_fault o f Jump e s h = absurd (true≢false e)
  staying_fault o f Call e s h = absurd (true≢false e)
  staying_fault o f Return e s h = (if_some o s, h)
  staying_fault o f Leaving e s h = (if_some o s, h)

  of_going : (t : Members) (f : StatementFault) → GoesOn true t → ToSpot (entries_at (codes "to") t) f → TargetTableFault t f
  of_going t f goes h =
      inr (inr (inr (goes.0, goes.1, going_fault (get_member (codes "to") t) f goes.0 goes.2 ((to_spot f (get_member (codes "to") t)).1 h))))

  of_staying : (t : Members) (f : StatementFault) → GoesOn false t → IsSome (get_member (codes "to") t) → f ≡ WrongKind → TargetTableFault t f
  of_staying t f stays s is =
      inr (inr (inr (stays.0, stays.1, staying_fault (get_member (codes "to") t) f stays.0 stays.2 s is)))

  target_key_fault : (key : Key) (t : Members) (f : StatementFault) → KeyFault names (Some Targets) key t f → TargetTableFault t f
  target_key_fault At t f h = inr (inl h)
  target_key_fault Kind t f h = inr (inr (inl h))
  target_key_fault To t f h = of_going t f h.0 (inl (h.1, h.2))
  target_key_fault _ t f h = absurd h

  target_part_fault : (p : Part) (t : Members) (f : StatementFault) → PartFault names (Some Targets) p t f → TargetTableFault t f
  target_part_fault p t f h = elim (part_cases (Some Targets) p t f h) [
    | inl u ↦ inl u
    | inr k ↦ target_key_fault k.0 t f k.1
  ]

  -- ## The statement

  abbrev SpotOf : Members → StatementFault → Type 0
  SpotOf ms f = (s : Spot) × IsFaultAt names ms s f

  -- a table that an entry of a list is
  in_table :
      (list : TableList) (n : ℕ) (ms : Members) (P : Members → Type 0) (d : Data) (t : Members)
      → slice_get (entries_at (list_key list) ms) n ≡ Some d
      → as_table d ≡ Some t
      → P t
      → InTable list n ms P
  in_table list n ms P d t at is h =
      of_some (λ e. IsSomeAnd (as_table e) P) (slice_get (entries_at (list_key list) ms) n) d at (of_some P (as_table d) t is h)

  -- a part of such a table
  part_of : (list : TableList) (ms : Members) (f : StatementFault) (n : ℕ) (d : Data) (t : Members) → slice_get (entries_at (list_key list) ms) n ≡ Some d → as_table d ≡ Some t → (p : Part) × PartFault names (Some list) p t f → SpotOf ms f
  part_of list ms f n d t at is p =
      (spot.Listed list n p.0, in_table list n ms (λ t. PartFault names (Some list) p.0 t f) d t at is p.1)

  target_of : (ms : Members) (f : StatementFault) (n : ℕ) (d : Data) (t : Members) → slice_get (entries_at (codes "target") ms) n ≡ Some d → as_table d ≡ Some t → TargetSpot t f → SpotOf ms f
  target_of ms f n d t at is (inl p) = part_of Targets ms f n d t at is p
  target_of ms f n d t at is (inr (inl h)) =
      (spot.Unwanted n, in_table Targets n ms (λ t. GoesOn false t × IsSome (get_member (codes "to") t) × (f ≡ WrongKind)) d t at is h)
  target_of ms f n d t at is (inr (inr (inl h))) =
      (spot.TooManyDestinations n, in_table Targets n ms (λ t. GoesOn true t × (64 < length (entries_at (codes "to") t)) × (f ≡ OutOfRange)) d t at is h)
  target_of ms f n d t at is (inr (inr (inr h))) =
      (spot.Destination n h.0, in_table Targets n ms (λ t. GoesOn true t × DestinationFault names h.0 (entries_at (codes "to") t) f) d t at is (h.1, h.2))

  rule_of : (ms : Members) (f : StatementFault) (n : ℕ) (d : Data) (t : Members) → slice_get (entries_at (codes "base") ms) n ≡ Some d → as_table d ≡ Some t → RuleSpot t f → SpotOf ms f
  rule_of ms f n d t at is (inl p) = part_of Rules ms f n d t at is p
  rule_of ms f n d t at is (inr h) =
      (spot.Reversed n, in_table Rules n ms (λ t. IsReversed names t × (f ≡ OutOfRange)) d t at is h)

  -- the faults of a list, where those of its tables have spots
  list_of :
      (list : TableList) (keys : List (List ℕ)) (Has : Members → StatementFault → Type 0) (ms : Members) (f : StatementFault)
      → ((n : ℕ) (d : Data) (t : Members) → slice_get (entries_at (list_key list) ms) n ≡ Some d → as_table d ≡ Some t → KeysFault statement_faults keys Has t f → SpotOf ms f)
      → AtKey (list_key list) ms (λ d. ListUpToFault statement_faults (most_of list) (TableFault statement_faults keys Has) d f)
      → SpotOf ms f
  list_of list keys Has ms f each h =
      elim ((list_spot (most_of list) (TableFault statement_faults keys Has) f (get_member (list_key list) ms)).0 h) [
        | inl n ↦ (spot.NoList list, n)
        | inr m ↦ elim m [
          | inl z ↦ (spot.TooMany list, z)
          | inr at ↦ entry_of at.0 (in_some (λ e. TableFault statement_faults keys Has e f) (slice_get (entries_at (list_key list) ms) at.0) at.1)
        ]
      ]
    where
      entry_of :
          (n : ℕ)
          → (d : Data) × (slice_get (entries_at (list_key list) ms) n ≡ Some d) × TableFault statement_faults keys Has d f
          → SpotOf ms f
      entry_of n u =
          elim ((table_cases (λ t. KeysFault statement_faults keys Has t f) (f ≡ WrongKind) (as_table u.0)).0 u.2) [
            | inl none ↦ (spot.NoTable list n, of_some (λ d. (as_table d ≡ None) × (f ≡ WrongKind)) (slice_get (entries_at (list_key list) ms) n) u.0 u.1 none)
            | inr some ↦ let t = in_some (λ t. KeysFault statement_faults keys Has t f) (as_table u.0) some in each n u.0 t.0 u.1 t.1 t.2
          ]

  -- ## Stretches apart

  abbrev EndsFault : Data × Data → StatementFault → Type 0
  EndsFault ends f = AddressFault names ends.0 f ⊎ AddressFault names ends.1 f ⊎ (AreReversed names ends × (f ≡ OutOfRange))

  -- a list of two that an entry of `apart` is
  in_stretch :
      (n : ℕ) (ms : Members) (P : Data × Data → Type 0) (d : Data) (ends : Data × Data)
      → slice_get (entries_at (codes "apart") ms) n ≡ Some d
      → pair_at d ≡ Some ends
      → P ends
      → InStretch n ms P
  in_stretch n ms P d ends at is h =
      of_some (λ e. IsSomeAnd (pair_at e) P) (slice_get (entries_at (codes "apart") ms) n) d at (of_some P (pair_at d) ends is h)

  ends_spot : (n : ℕ) (ms : Members) (f : StatementFault) (d : Data) (ends : Data × Data) → slice_get (entries_at (codes "apart") ms) n ≡ Some d → pair_at d ≡ Some ends → EndsFault ends f → SpotOf ms f
  ends_spot n ms f d ends at is (inl h) =
      (spot.StretchEnd n 0, in_stretch n ms (λ e. IsSomeAnd (end_of e 0) (λ v. AddressFault names v f)) d ends at is h)
  ends_spot n ms f d ends at is (inr (inl h)) =
      (spot.StretchEnd n 1, in_stretch n ms (λ e. IsSomeAnd (end_of e 1) (λ v. AddressFault names v f)) d ends at is h)
  ends_spot n ms f d ends at is (inr (inr h)) =
      (spot.ReversedStretch n, in_stretch n ms (λ e. AreReversed names e × (f ≡ OutOfRange)) d ends at is h)

  stretch_spot : (n : ℕ) (ms : Members) (f : StatementFault) → (d : Data) × (slice_get (entries_at (codes "apart") ms) n ≡ Some d) × StretchFault names d f → SpotOf ms f
  stretch_spot n ms f u =
      elim ((table_cases (λ ends. EndsFault ends f) (f ≡ WrongKind) (pair_at u.0)).0 u.2) [
        | inl none ↦ (spot.NoStretch n, of_some (λ d. (pair_at d ≡ None) × (f ≡ WrongKind)) (slice_get (entries_at (codes "apart") ms) n) u.0 u.1 none)
        | inr some ↦ let e = in_some (λ ends. EndsFault ends f) (pair_at u.0) some in ends_spot n ms f u.0 e.0 u.1 e.1 e.2
      ]

  stretches_spot : (ms : Members) (f : StatementFault) → AtKey (codes "apart") ms (λ d. ListUpToFault statement_faults 256 (StretchFault names) d f) → SpotOf ms f
  stretches_spot ms f h =
      elim ((list_spot 256 (StretchFault names) f (get_member (codes "apart") ms)).0 h) [
        | inl n ↦ (spot.NoStretches, n)
        | inr m ↦ elim m [
          | inl z ↦ (spot.TooManyStretches, z)
          | inr at ↦ stretch_spot at.0 ms f (in_some (λ e. StretchFault names e f) (slice_get (entries_at (codes "apart") ms) at.0) at.1)
        ]
      ]

  end_fault : (i : ℕ) (ends : Data × Data) (f : StatementFault) → IsSomeAnd (end_of ends i) (λ d. AddressFault names d f) → EndsFault ends f
  end_fault zero ends f h = inl h
  end_fault (suc zero) ends f h = inr (inl h)
  end_fault (suc (suc i)) ends f h = absurd h

  of_stretches : (ms : Members) (f : StatementFault) → ListSpot 256 (StretchFault names) f (get_member (codes "apart") ms) (entries_at (codes "apart") ms) → HasFault names ms f
  of_stretches ms f h = inr (inr (inr (inr (inr (inl ((list_spot 256 (StretchFault names) f (get_member (codes "apart") ms)).1 h))))))

  of_stretch : (n : ℕ) (ms : Members) (f : StatementFault) (d : Data) → slice_get (entries_at (codes "apart") ms) n ≡ Some d → StretchFault names d f → HasFault names ms f
  of_stretch n ms f d at h =
      of_stretches ms f (inr (inr (n, of_some (λ e. StretchFault names e f) (slice_get (entries_at (codes "apart") ms) n) d at h)))

  of_ends : (n : ℕ) (ms : Members) (f : StatementFault) (P : Data × Data → Type 0) → ((ends : Data × Data) → P ends → EndsFault ends f) → InStretch n ms P → HasFault names ms f
  of_ends n ms f P each h =
      let u = in_some (λ d. IsSomeAnd (pair_at d) P) (slice_get (entries_at (codes "apart") ms) n) h in
      let e = in_some P (pair_at u.0) u.2 in
      of_stretch n ms f u.0 u.1 ((table_cases (λ ends. EndsFault ends f) (f ≡ WrongKind) (pair_at u.0)).1 (inr (of_some (λ ends. EndsFault ends f) (pair_at u.0) e.0 e.1 (each e.0 e.2))))

  -- ## Headers outside first to last

  abbrev OutsideAt : ℕ → Members → StatementFault → Type 0
  OutsideAt n ms f = IsFaultAt names ms (spot.Misplaced n) f

  misplaced_spot : (ms : Members) (f : StatementFault) → HasMisplaced names ms → f ≡ OutOfRange → (n : ℕ) × OutsideAt n ms f
  misplaced_spot ms f h is =
      let at = any_index (λ d. IsSomeAnd (as_table d) (IsMisplaced names h.0)) (entries_at (codes "loop") ms) h.2 in
      let u = in_some (λ d. IsSomeAnd (as_table d) (IsMisplaced names h.0)) (slice_get (entries_at (codes "loop") ms) at.0) at.1 in
      let t = in_some (IsMisplaced names h.0) (as_table u.0) u.2 in
      (at.0, (h.0, h.1, in_table Loops at.0 ms (λ t. IsMisplaced names h.0 t × (f ≡ OutOfRange)) u.0 t.0 u.1 t.1 (t.2, is)))

  spot_misplaced : (ms : Members) (n : ℕ) (f : StatementFault) → OutsideAt n ms f → HasMisplaced names ms × (f ≡ OutOfRange)
  spot_misplaced ms n f h =
      let u = in_some (λ d. IsSomeAnd (as_table d) (λ t. IsMisplaced names h.0 t × (f ≡ OutOfRange))) (slice_get (entries_at (codes "loop") ms) n) h.2 in
      let t = in_some (λ t. IsMisplaced names h.0 t × (f ≡ OutOfRange)) (as_table u.0) u.2 in
      let outside = of_some (λ d. IsSomeAnd (as_table d) (IsMisplaced names h.0)) (slice_get (entries_at (codes "loop") ms) n) u.0 u.1 (of_some (IsMisplaced names h.0) (as_table u.0) t.0 t.1 t.2.0) in
      ((h.0, h.1, index_any (λ d. IsSomeAnd (as_table d) (IsMisplaced names h.0)) (entries_at (codes "loop") ms) n outside), t.2.1)

  -- two entries of one number
  module _ (Is : Data → ℕ → Type 0) where
    second_in :
        (o : Option Data)
        → IsSomeAnd o (λ d. IsSomeAnd (items_at d) (HasRepeat Is))
        → (n : ℕ) × IsRepeatAt Is (unwrap_or (option_and_then items_at o) []) n
    second_in None h = absurd h
    second_in (Some d) h = by_items (items_at d) h
      where
        by_items : (l : Option (List Data)) → IsSomeAnd l (HasRepeat Is) → (n : ℕ) × IsRepeatAt Is (unwrap_or l []) n
        by_items None h = absurd h
        by_items (Some ds) h = repeat_index Is ds h

    in_second :
        (o : Option Data) (n : ℕ)
        → IsRepeatAt Is (unwrap_or (option_and_then items_at o) []) n
        → IsSomeAnd o (λ d. IsSomeAnd (items_at d) (HasRepeat Is))
    in_second None n h = absurd h.1
    in_second (Some d) n h = by_items (items_at d) h
      where
        by_items : (l : Option (List Data)) → IsRepeatAt Is (unwrap_or l []) n → IsSomeAnd l (HasRepeat Is)
        by_items None h = absurd h.1
        by_items (Some ds) h = index_repeat Is ds n h

  twice_spot : (ms : Members) → IsTwice names ms → (list : TableList) × (n : ℕ) × IsSecond names list n ms
  twice_spot ms (inl two) = let at = second_in (IsAt names) (get_member (codes "target") ms) two in (Targets, at.0, at.1)
  twice_spot ms (inr (inl two)) = let at = second_in (IsAt names) (get_member (codes "access") ms) two in (Accesses, at.0, at.1)
  twice_spot ms (inr (inr (inl two))) =
      let at = second_in (IsRuleAt names two.0) (get_member (codes "base") ms) two.1 in (Rules, at.0, (two.0, at.1))
  twice_spot ms (inr (inr (inr (inl two)))) = let at = second_in (IsAt names) (get_member (codes "multiply") ms) two in (Multiplies, at.0, at.1)
  twice_spot ms (inr (inr (inr (inr two)))) = let at = second_in (IsAt names) (get_member (codes "branch") ms) two in (Branches, at.0, at.1)

  second_twice : (ms : Members) (list : TableList) (n : ℕ) → IsSecond names list n ms → IsTwice names ms
  second_twice ms Loops n h = absurd h
  second_twice ms Targets n h = inl (in_second (IsAt names) (get_member (codes "target") ms) n h)
  second_twice ms Accesses n h = inr (inl (in_second (IsAt names) (get_member (codes "access") ms) n h))
  second_twice ms Rules n h = inr (inr (inl (h.0, in_second (IsRuleAt names h.0) (get_member (codes "base") ms) n h.1)))
  second_twice ms Multiplies n h = inr (inr (inr (inl (in_second (IsAt names) (get_member (codes "multiply") ms) n h))))
  second_twice ms Branches n h = inr (inr (inr (inr (in_second (IsAt names) (get_member (codes "branch") ms) n h))))

  parts_spot : (ms : Members) (f : StatementFault) → PartsFault names ms f → SpotOf ms f
  parts_spot ms f (inl h) = let p = key_part None Entry ms f h in (spot.Own p.0, p.1)
  parts_spot ms f (inr (inl h)) = let p = key_part None Leave ms f h in (spot.Own p.0, p.1)
  parts_spot ms f (inr (inr (inl h))) = let p = key_part None Returns ms f h in (spot.Own p.0, p.1)
  parts_spot ms f (inr (inr (inr (inl h)))) =
      list_of Loops loop_keys (LoopKeysFault names) ms f (λ n d t at is k. part_of Loops ms f n d t at is (loop_spot t f k)) h
  parts_spot ms f (inr (inr (inr (inr (inl h))))) = stretches_spot ms f h
  parts_spot ms f (inr (inr (inr (inr (inr (inl h)))))) = let at = misplaced_spot ms f h.0 h.1 in (spot.Misplaced at.0, at.1)
  parts_spot ms f (inr (inr (inr (inr (inr (inr (inl h))))))) =
      list_of Targets target_keys (TargetKeysFault names) ms f (λ n d t at is k. target_of ms f n d t at is (target_spot t f k)) h
  parts_spot ms f (inr (inr (inr (inr (inr (inr (inr (inl h)))))))) =
      list_of Accesses access_keys (AccessKeysFault names) ms f (λ n d t at is k. part_of Accesses ms f n d t at is (access_spot t f k)) h
  parts_spot ms f (inr (inr (inr (inr (inr (inr (inr (inr (inl h))))))))) =
      list_of Rules rule_keys (RuleKeysFault names) ms f (λ n d t at is k. rule_of ms f n d t at is (rule_spot t f k)) h
  parts_spot ms f (inr (inr (inr (inr (inr (inr (inr (inr (inr (inl h)))))))))) =
      list_of Multiplies multiply_keys (MultiplyKeysFault names) ms f (λ n d t at is k. part_of Multiplies ms f n d t at is (multiply_spot t f k)) h
  parts_spot ms f (inr (inr (inr (inr (inr (inr (inr (inr (inr (inr (inl h))))))))))) =
      list_of Branches branch_keys (BranchKeysFault names) ms f (λ n d t at is k. part_of Branches ms f n d t at is (branch_spot t f k)) h
  parts_spot ms f (inr (inr (inr (inr (inr (inr (inr (inr (inr (inr (inr h))))))))))) = let at = twice_spot ms h.0 in (spot.Second at.0 at.1, (at.2, h.1))

  -- a fault has a spot
  pub fault_spot : (ms : Members) (f : StatementFault) → HasFault names ms f → SpotOf ms f
  fault_spot ms f (inl h) = let p = unknown_part None ms f h.0 h.1 in (spot.Own p.0, p.1)
  fault_spot ms f (inr h) = parts_spot ms f h

  -- ## From a spot

  own_key_fault : (key : Key) (ms : Members) (f : StatementFault) → KeyFault names None key ms f → PartsFault names ms f
  own_key_fault Entry ms f h = inl h
  own_key_fault Leave ms f h = inr (inl h)
  own_key_fault Returns ms f h = inr (inr (inl h))
  own_key_fault _ ms f h = absurd h

  abbrev keys_in : TableList → List (List ℕ)
  keys_in list = keys_of (Some list)

  abbrev KeysOf : TableList → Members → StatementFault → Type 0
  KeysOf Loops ms f = LoopKeysFault names ms f
  KeysOf Targets ms f = TargetKeysFault names ms f
  KeysOf Accesses ms f = AccessKeysFault names ms f
  KeysOf Rules ms f = RuleKeysFault names ms f
  KeysOf Multiplies ms f = MultiplyKeysFault names ms f
  KeysOf Branches ms f = BranchKeysFault names ms f

  listed : (list : TableList) (ms : Members) (f : StatementFault) → AtKey (list_key list) ms (λ d. ListUpToFault statement_faults (most_of list) (TableFault statement_faults (keys_in list) (KeysOf list)) d f) → HasFault names ms f
  listed Loops ms f h = inr (inr (inr (inr (inl h))))
  listed Targets ms f h = inr (inr (inr (inr (inr (inr (inr (inl h)))))))
  listed Accesses ms f h = inr (inr (inr (inr (inr (inr (inr (inr (inl h))))))))
  listed Rules ms f h = inr (inr (inr (inr (inr (inr (inr (inr (inr (inl h)))))))))
  listed Multiplies ms f h = inr (inr (inr (inr (inr (inr (inr (inr (inr (inr (inl h))))))))))
  listed Branches ms f h = inr (inr (inr (inr (inr (inr (inr (inr (inr (inr (inr (inl h)))))))))))

  of_list : (list : TableList) (ms : Members) (f : StatementFault) → ListSpot (most_of list) (TableFault statement_faults (keys_in list) (KeysOf list)) f (get_member (list_key list) ms) (entries_at (list_key list) ms) → HasFault names ms f
  of_list list ms f h =
      listed list ms f ((list_spot (most_of list) (TableFault statement_faults (keys_in list) (KeysOf list)) f (get_member (list_key list) ms)).1 h)

  -- the fault of a table that an entry of a list is
  of_table :
      (list : TableList) (n : ℕ) (ms : Members) (f : StatementFault) (P : Members → Type 0)
      → ((t : Members) → P t → KeysFault statement_faults (keys_in list) (KeysOf list) t f)
      → InTable list n ms P
      → HasFault names ms f
  of_table list n ms f P each h =
      let u = in_some (λ d. IsSomeAnd (as_table d) P) (slice_get (entries_at (list_key list) ms) n) h in
      let t = in_some P (as_table u.0) u.2 in
      let fault = (table_cases (λ t. KeysFault statement_faults (keys_in list) (KeysOf list) t f) (f ≡ WrongKind) (as_table u.0)).1 (inr (of_some (λ t. KeysFault statement_faults (keys_in list) (KeysOf list) t f) (as_table u.0) t.0 t.1 (each t.0 t.2))) in
      of_list list ms f (inr (inr (n, of_some (λ e. TableFault statement_faults (keys_in list) (KeysOf list) e f) (slice_get (entries_at (list_key list) ms) n) u.0 u.1 fault)))

  of_no_table : (list : TableList) (n : ℕ) (ms : Members) (f : StatementFault) → IsSomeAnd (slice_get (entries_at (list_key list) ms) n) (λ d. (as_table d ≡ None) × (f ≡ WrongKind)) → HasFault names ms f
  of_no_table list n ms f h =
      let u = in_some (λ d. (as_table d ≡ None) × (f ≡ WrongKind)) (slice_get (entries_at (list_key list) ms) n) h in
      let fault = (table_cases (λ t. KeysFault statement_faults (keys_in list) (KeysOf list) t f) (f ≡ WrongKind) (as_table u.0)).1 (inl u.2) in
      of_list list ms f (inr (inr (n, of_some (λ e. TableFault statement_faults (keys_in list) (KeysOf list) e f) (slice_get (entries_at (list_key list) ms) n) u.0 u.1 fault)))

  part_fault : (list : TableList) (p : Part) (t : Members) (f : StatementFault) → PartFault names (Some list) p t f → KeysFault statement_faults (keys_in list) (KeysOf list) t f
  part_fault Loops p t f h = loop_part_fault p t f h
  part_fault Targets p t f h = target_part_fault p t f h
  part_fault Accesses p t f h = access_part_fault p t f h
  part_fault Rules p t f h = rule_part_fault p t f h
  part_fault Multiplies p t f h = multiply_part_fault p t f h
  part_fault Branches p t f h = branch_part_fault p t f h

  -- a spot has a fault of the document
  pub spot_fault : (ms : Members) (s : Spot) (f : StatementFault) → IsFaultAt names ms s f → HasFault names ms f
  spot_fault ms (spot.Own p) f h = elim (part_cases None p ms f h) [
    | inl u ↦ inl u
    | inr k ↦ inr (own_key_fault k.0 ms f k.1)
  ]
  spot_fault ms (spot.NoList list) f h = of_list list ms f (inl h)
  spot_fault ms (spot.TooMany list) f h = of_list list ms f (inr (inl h))
  spot_fault ms (spot.NoTable list n) f h = of_no_table list n ms f h
  spot_fault ms (spot.Listed list n p) f h = of_table list n ms f (λ t. PartFault names (Some list) p t f) (λ t k. part_fault list p t f k) h
  spot_fault ms (spot.Misplaced n) f h = let at = spot_misplaced ms n f h in inr (inr (inr (inr (inr (inr (inl at))))))
  spot_fault ms spot.NoStretches f h = of_stretches ms f (inl h)
  spot_fault ms spot.TooManyStretches f h = of_stretches ms f (inr (inl h))
  spot_fault ms (spot.NoStretch n) f h =
      let u = in_some (λ d. (pair_at d ≡ None) × (f ≡ WrongKind)) (slice_get (entries_at (codes "apart") ms) n) h in
      of_stretch n ms f u.0 u.1 ((table_cases (λ ends. EndsFault ends f) (f ≡ WrongKind) (pair_at u.0)).1 (inl u.2))
  spot_fault ms (spot.StretchEnd n i) f h =
      of_ends n ms f (λ ends. IsSomeAnd (end_of ends i) (λ d. AddressFault names d f)) (λ ends k. end_fault i ends f k) h
  spot_fault ms (spot.ReversedStretch n) f h = of_ends n ms f (λ ends. AreReversed names ends × (f ≡ OutOfRange)) (λ ends k. inr (inr k)) h
  spot_fault ms (spot.Unwanted n) f h =
      of_table Targets n ms f (λ t. GoesOn false t × IsSome (get_member (codes "to") t) × (f ≡ WrongKind)) (λ t k. of_staying t f k.0 k.1 k.2) h
  spot_fault ms (spot.TooManyDestinations n) f h =
      of_table Targets n ms f (λ t. GoesOn true t × (64 < length (entries_at (codes "to") t)) × (f ≡ OutOfRange)) (λ t k. of_going t f k.0 (inr (inl (k.1, k.2)))) h
  spot_fault ms (spot.Destination n i) f h =
      of_table Targets n ms f (λ t. GoesOn true t × DestinationFault names i (entries_at (codes "to") t) f) (λ t k. of_going t f k.0 (inr (inr (i, k.1)))) h
  spot_fault ms (spot.Reversed n) f h =
      of_table Rules n ms f (λ t. IsReversed names t × (f ≡ OutOfRange)) (λ t k. inr (inr (inr (inr (inr k))))) h
  spot_fault ms (spot.Second list n) f h =
      inr (inr (inr (inr (inr (inr (inr (inr (inr (inr (inr (inr (second_twice ms list n h.0, h.1))))))))))))
