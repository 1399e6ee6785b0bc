-- Each key's faults in a machine file are those of a row of its table; what is read has the faults of its tables.
use Rattle.std.proofs.Common.{◌≡◌, ◌⊎◌, ◌↔◌, ◌-◌, ◌^◌, ℕ, pos, true, false, List, [], ◌∷◌, map, codes, Any, Option, Some, None, Ok, Err, IsSomeAnd, MatchOption, is_some, unwrap_or, option_and_then, inl, inr, refl, ap, subst}
use Rattle.std.specs.Prelude.{⊤}
use Rattle.std.specs.List.{list_all}
use Rattle.std.proofs.lemmas.Bool.{false≢true, true≢false}
use Rattle.toml.specs.Data.{Data, Members, as_integer, as_str, as_table, get_member}
use Rattle.arm2_effect.specs.declared.modes.Reg.{Reg}
use Rattle.memc.specs.declared.spots.PageSize.{PageSize}
use Rattle.toml_reading.specs.Documents.{items_at}
use Rattle.toml_reading.specs.Lowest.{AtKey, AtKeyOr, IsLowest, IsNoAddress, IsOutside, NameFault}
use Rattle.toml_reading.proofs.LowestLemmas.{Judges, judged_as, judged_fault, judged_value}
use Rattle.toml_reading.proofs.LowestParts.{any_cases, any_first, any_later, any_none, any_one_of}
use Rattle.machine_file.specs.MachineFaults.{machine_faults}
use Rattle.machine_file.specs.MachineFaultRules.{AreNoRequests, HasMachineFault, IsNoPutAddress, IsNoTable, Word, event_shape, file_shape, ioc_shape, map_shape, may_have, needs, register_shape, put_word_shape, vidc_shape}
use Rattle.machine_file.specs.declared.rows.Takes.{Takes}
use Rattle.machine_file.specs.declared.rows.Takes.TheVariants.{UpTo, Address, PutAddress, Size, LatchedBits, ModeName, FlagLetters, LineNames}
use Rattle.machine_file.specs.MachineFile.{is_letter, is_single, machine_in}
use Rattle.machine_file.specs.MachinePlaces.{KindFault}
use Rattle.ioc.specs.LineNames.{line_named}
use Rattle.machine_file.specs.MachineRules.{IsIoc, IsVidc, StatesMachine, kilobytes}
use Rattle.machine_file.specs.Started.{ioc_start, vidc_start}
use Rattle.ioc.specs.Interrupts as ioc
use Rattle.vidc.specs.Video as vidc
use Rattle.machine_file.specs.Names.{name_of, named_mode, named_registers}
use Rattle.machine_file.specs.Stated.{Stated}
use Rattle.machine_file.specs.declared.machine_faults.MachineFileFault.{MachineFileFault}
use Rattle.machine_file.specs.declared.machine_faults.MachineFileFault.TheVariants.{WrongKind, OutOfRange, Twice}
use Rattle.machine_file.proofs.FaultTableLemmas.{In, RowFault, ShapeFault, TablesFault, any_map, from_machine_fault, to_machine_fault}
use Rattle.machine_file.proofs.KeyFaults.{AddressFault, EventFault, FlagsFault, HasKeyFault, IocFault, LinesFault, PageFault, PutAddressFault, PutWordFault, RegistersFault, RequestsFault, SizeFault, UpToAt, UpToFault, VidcFault, WordFault}
use Rattle.machine_file.proofs.MachineRuleLemmas.{machine_judged}
use Rattle.machine_file.proofs.MachineValueLemmas.{one_rank}

-- ## Equivalent claims

same : {A : Type 0} → A ↔ A
same = (λ a. a, λ a. a)

either : {A B C D : Type 0} → (A ↔ B) → (C ↔ D) → A ⊎ C ↔ B ⊎ D
either x y = (
  λ h. elim h [ inl a ↦ inl (x.0 a) | inr c ↦ inr (y.0 c) ],
  λ h. elim h [ inl b ↦ inl (x.1 b) | inr d ↦ inr (y.1 d) ],
)

along : {A B C : Type 0} → (A ↔ B) → (B ↔ C) → A ↔ C
along x y = (λ a. y.0 (x.0 a), λ c. x.1 (y.1 c))

module _ {X : Type 0} where
  any_iff : (P Q : X → Type 0) → ((x : X) → P x ↔ Q x) → (xs : List X) → Any P xs ↔ Any Q xs
  any_iff P Q each xs = (any_map P Q (λ x. (each x).0) xs, any_map Q P (λ x. (each x).1) xs)

  to_mapped : {Y : Type 0} (P : Y → Type 0) (g : X → Y) (xs : List X) → Any (λ x. P (g x)) xs
      → Any P (map g xs)
  to_mapped P g [] h = absurd (any_none (λ x. P (g x)) h)
  to_mapped P g (x ∷ xs) h = elim (any_cases (λ x. P (g x)) x xs h) [
    | inl p ↦ any_first P (g x) (map g xs) p
    | inr a ↦ any_later P (g x) (map g xs) (to_mapped P g xs a)
  ]

  of_mapped : {Y : Type 0} (P : Y → Type 0) (g : X → Y) (xs : List X) → Any P (map g xs)
      → Any (λ x. P (g x)) xs
  of_mapped P g [] h = absurd (any_none P h)
  of_mapped P g (x ∷ xs) h = elim (any_cases P (g x) (map g xs) h) [
    | inl p ↦ any_first (λ x. P (g x)) x xs p
    | inr a ↦ any_later (λ x. P (g x)) x xs (of_mapped P g xs a)
  ]

module _ (f : MachineFileFault) where
  abbrev W : Type 0
  W = f ≡ WrongKind

  -- ## Values

  number_parts : {X : Type 0} (O : X → Type 0) (o : Option X)
      → MatchOption o W (λ z. O z × (f ≡ OutOfRange)) ↔ ((o ≡ None) × W) ⊎ (IsSomeAnd o O × (f ≡ OutOfRange))
  number_parts O None = (λ e. inl (refl, e), λ x. elim x [ inl y ↦ y.1 | inr y ↦ absurd y.0 ])
  number_parts O (Some z) =
      (λ e. inr e, λ x. elim x [ inl y ↦ absurd (true≢false (ap is_some y.0)) | inr y ↦ y ])

  alone : {A : Type 0} → A ↔ A ⊎ (⊥ × (f ≡ OutOfRange))
  alone = (λ a. inl a, λ x. elim x [ inl a ↦ a | inr y ↦ absurd y.0 ])

  up_to_kind : (limit : ℕ) (d : Data) → UpToFault limit d f ↔ KindFault f (UpTo limit) d
  up_to_kind limit d = number_parts (IsOutside limit) (as_integer d)

  address_kind : (d : Data) → AddressFault d f ↔ KindFault f Address d
  address_kind d = number_parts IsNoAddress (as_integer d)

  put_address_kind : (d : Data) → PutAddressFault d f ↔ KindFault f PutAddress d
  put_address_kind d = number_parts IsNoPutAddress (as_integer d)

  size_kind : (d : Data) → SizeFault d f ↔ KindFault f Size d
  size_kind d = number_parts (λ z. (size : PageSize) → z ≡ pos (kilobytes size) → ⊥) (as_integer d)

  requests_kind : (d : Data) → RequestsFault d f ↔ KindFault f LatchedBits d
  requests_kind d = number_parts AreNoRequests (as_integer d)

  mode_kind : (d : Data) → NameFault machine_faults named_mode d f ↔ KindFault f ModeName d
  mode_kind d = alone

  lines_parts : (N : Data → Type 0) (o : Option (List Data))
      → MatchOption o W (Any (λ e. N e × W)) ↔ (MatchOption o ⊤ (Any N) × W) ⊎ (⊥ × (f ≡ OutOfRange))
  lines_parts N None = (λ e. inl (tt, e), λ x. elim x [ inl y ↦ y.1 | inr y ↦ absurd y.0 ])
  lines_parts N (Some ds) = (
    λ a. inl ((a.0, a.1, a.2, a.3, a.4.0), a.4.1),
    λ x. elim x [ inl y ↦ (y.0.0, y.0.1, y.0.2, y.0.3, (y.0.4, y.1)) | inr y ↦ absurd y.0 ],
  )

  lines_kind : (d : Data) → LinesFault d f ↔ KindFault f LineNames d
  lines_kind d = lines_parts (λ e. option_and_then line_named (as_str e) ≡ None) (items_at d)

  letters_parts : (A B : List ℕ → Type 0) (o : Option (List ℕ))
      → MatchOption o W (λ t. (A t × W) ⊎ (B t × (f ≡ Twice))) ↔ ((MatchOption o ⊤ A × W) ⊎ (⊥ × (f ≡ OutOfRange))) ⊎ (IsSomeAnd o B × (f ≡ Twice))
  letters_parts A B None = (
    λ e. inl (inl (tt, e)),
    λ x. elim x [ inl y ↦ elim y [ inl z ↦ z.1 | inr z ↦ absurd z.0 ] | inr y ↦ absurd y.0 ],
  )
  letters_parts A B (Some t) = (
    λ h. elim h [ inl y ↦ inl (inl y) | inr y ↦ inr y ],
    λ x. elim x [ inl y ↦ elim y [ inl z ↦ inl z | inr z ↦ absurd z.0 ] | inr y ↦ inr y ],
  )

  flags_kind : (d : Data)
      → FlagsFault d f ↔ KindFault f FlagLetters d ⊎ (IsSomeAnd (as_str d) (λ text. is_single text ≡ false) × (f ≡ Twice))
  flags_kind d =
      letters_parts (λ text. list_all is_letter text ≡ false) (λ text. is_single text ≡ false) (as_str d)

  -- ## Rows

  needs_parts : (V K : Data → Type 0) → ((d : Data) → V d ↔ K d) → (o : Option Data)
      → MatchOption o W V ↔ MatchOption o ((true ≡ true) × W) K
  needs_parts V K each None = (λ e. (refl, e), λ x. x.1)
  needs_parts V K each (Some d) = each d

  may_parts : (V K : Data → Type 0) → ((d : Data) → V d ↔ K d) → (o : Option Data)
      → IsSomeAnd o V ↔ MatchOption o ((false ≡ true) × W) K
  may_parts V K each None = (λ h. absurd h, λ x. absurd (false≢true x.0))
  may_parts V K each (Some d) = each d

  also_parts : (V K L : Data → Type 0) (C : Type 0) → ((d : Data) → V d ↔ K d ⊎ (L d × C))
      → (o : Option Data) → IsSomeAnd o V ↔ MatchOption o ((false ≡ true) × W) K ⊎ (IsSomeAnd o L × C)
  also_parts V K L C each None = (
    λ h. absurd h,
    λ x. elim x [ inl y ↦ absurd (false≢true y.0) | inr y ↦ absurd y.0 ],
  )
  also_parts V K L C each (Some d) = each d

  module _ (t : Members) where
    needs_row : (key : List ℕ) (takes : Takes) (V : Data → Type 0)
        → ((d : Data) → V d ↔ KindFault f takes d) → AtKeyOr key t W V ↔ RowFault f t (needs key takes)
    needs_row key takes V each = needs_parts V (KindFault f takes) each (get_member key t)

    may_row : (key : List ℕ) (takes : Takes) (V : Data → Type 0) → ((d : Data) → V d ↔ KindFault f takes d)
        → AtKey key t V ↔ RowFault f t (may_have key takes)
    may_row key takes V each = may_parts V (KindFault f takes) each (get_member key t)

  -- ## Tables

  table_parts : (V T : Members → Type 0) → ((t : Members) → V t ↔ T t) → (o : Option Members)
      → MatchOption o W V ↔ ((o ≡ None) × W) ⊎ IsSomeAnd o T
  table_parts V T each None = (λ e. inl (refl, e), λ x. elim x [ inl y ↦ y.1 | inr y ↦ absurd y ])
  table_parts V T each (Some t) = (
    λ h. inr ((each t).0 h),
    λ x. elim x [ inl y ↦ absurd (true≢false (ap is_some y.0)) | inr y ↦ (each t).1 y ],
  )

  value_parts : (A N T : Data → Type 0) → ((d : Data) → A d ↔ (N d × W) ⊎ T d) → (o : Option Data)
      → IsSomeAnd o A ↔ (IsSomeAnd o N × W) ⊎ IsSomeAnd o T
  value_parts A N T each None = (λ h. absurd h, λ x. elim x [ inl y ↦ absurd y.0 | inr y ↦ absurd y ])
  value_parts A N T each (Some d) = each d

  module _ (A N T : Data → Type 0) (each : (d : Data) → A d ↔ (N d × W) ⊎ T d) where
    split_any : (ds : List Data) → Any A ds → (Any N ds × W) ⊎ Any T ds
    split_any ds a = elim ((each a.1).0 a.4) [
      | inl n ↦ inl ((a.0, a.1, a.2, a.3, n.0), n.1)
      | inr t ↦ inr (a.0, a.1, a.2, a.3, t)
    ]

    join_any : (ds : List Data) → (Any N ds × W) ⊎ Any T ds → Any A ds
    join_any ds (inl n) = (n.0.0, n.0.1, n.0.2, n.0.3, (each n.0.1).1 (inl (n.0.4, n.1)))
    join_any ds (inr t) = (t.0, t.1, t.2, t.3, (each t.1).1 (inr t.4))

    items_parts : (o : Option (List Data))
        → MatchOption o W (Any A) ↔ (MatchOption o ⊤ (Any N) × W) ⊎ Any T (unwrap_or o [])
    items_parts None = (λ e. inl (tt, e), λ x. elim x [ inl y ↦ y.1 | inr y ↦ absurd (any_none T y) ])
    items_parts (Some ds) = (split_any ds, join_any ds)

    list_parts : (o : Option Data)
        → IsSomeAnd o (λ d. MatchOption (items_at d) W (Any A)) ↔ (IsSomeAnd o (λ d. MatchOption (items_at d) ⊤ (Any N)) × W) ⊎ Any T (unwrap_or (option_and_then items_at o) [])
    list_parts None = (λ h. absurd h, λ x. elim x [ inl y ↦ absurd y.0 | inr y ↦ absurd (any_none T y) ])
    list_parts (Some d) = items_parts (items_at d)

  word_needed : (t : Members) (key : List ℕ)
      → AtKeyOr key t W (λ e. WordFault e f) ↔ RowFault f t (needs key Word)
  word_needed t key = needs_row t key Word (λ e. WordFault e f) (up_to_kind (2 ^ 32 - 1))

  registers_parts : (d : Data) → RegistersFault d f ↔ (IsNoTable d × W) ⊎ In (ShapeFault f register_shape) d
  registers_parts d =
      table_parts
      _
      (ShapeFault f register_shape)
      (λ t. either same (along
      (any_iff (λ r. AtKey (name_of r) t (λ e. WordFault e f)) (λ r. RowFault f t (may_have (name_of r) Word)) (λ r. may_row t (name_of r) Word (λ e. WordFault e f) (up_to_kind (2 ^ 32 - 1))) named_registers)
      (to_mapped (RowFault f t) (λ (r : Reg). may_have (name_of r) Word) named_registers, of_mapped (RowFault f t) (λ (r : Reg). may_have (name_of r) Word) named_registers)))
      (as_table d)

  ended : {A B : Type 0} → (A ↔ B) → A ↔ B ⊎ ⊥
  ended x = (λ a. inl (x.0 a), λ h. elim h [ inl b ↦ x.1 b | inr z ↦ absurd z ])

  page_parts : (d : Data) → PageFault d f ↔ (IsNoTable d × W) ⊎ In (ShapeFault f map_shape) d
  page_parts d =
      table_parts
      _
      (ShapeFault f map_shape)
      (λ t. either same (along (either (word_needed t (codes "logical")) (either (word_needed t (codes "physical")) (ended (word_needed t (codes "level"))))) (any_one_of (RowFault f t) map_shape.rows)))
      (as_table d)

  event_parts : (d : Data) → EventFault d f ↔ (IsNoTable d × W) ⊎ In (ShapeFault f event_shape) d
  event_parts d =
      table_parts
      _
      (ShapeFault f event_shape)
      (λ t. either same (along
      (either
      (needs_row t (codes "step") (UpTo 65535) (λ e. UpToFault 65535 e f) (up_to_kind 65535))
      (either
      (may_row t (codes "bursts") (UpTo 65535) (λ e. UpToFault 65535 e f) (up_to_kind 65535))
      (either
      (may_row t (codes "lines") LineNames (λ e. LinesFault e f) lines_kind)
      (ended (may_row t (codes "port") Word (λ e. WordFault e f) (up_to_kind (2 ^ 32 - 1)))))))
      (any_one_of (RowFault f t) event_shape.rows)))
      (as_table d)

  put_word_parts : (d : Data) → PutWordFault d f ↔ (IsNoTable d × W) ⊎ In (ShapeFault f put_word_shape) d
  put_word_parts d =
      table_parts
      _
      (ShapeFault f put_word_shape)
      (λ t. either same (along
      (either (needs_row t (codes "at") PutAddress (λ e. PutAddressFault e f) put_address_kind) (ended (word_needed t (codes "value"))))
      (any_one_of (RowFault f t) put_word_shape.rows)))
      (as_table d)

  number_row : (t : Members) (key : List ℕ) (limit : ℕ) → UpToAt key limit t f ↔ RowFault f t (may_have key (UpTo limit))
  number_row t key limit = may_row t key (UpTo limit) (λ e. UpToFault limit e f) (up_to_kind limit)

  ioc_parts : (d : Data) → IocFault d f ↔ (IsNoTable d × W) ⊎ In (ShapeFault f ioc_shape) d
  ioc_parts d =
      table_parts
      _
      (ShapeFault f ioc_shape)
      (λ t. either same (along
      (either (number_row t (codes "mask_a") 0xFF)
      (either (number_row t (codes "mask_b") 0xFF)
      (either (number_row t (codes "mask_fiq") 0xFF)
      (either (may_row t (codes "requests_a") LatchedBits (λ e. RequestsFault e f) requests_kind)
      (either (number_row t (codes "timer_0") 0xFFFF)
      (either (number_row t (codes "count_0") 0xFFFF)
      (either (number_row t (codes "timer_1") 0xFFFF) (ended (number_row t (codes "count_1") 0xFFFF)))))))))
      (any_one_of (RowFault f t) ioc_shape.rows)))
      (as_table d)

  vidc_parts : (d : Data) → VidcFault d f ↔ (IsNoTable d × W) ⊎ In (ShapeFault f vidc_shape) d
  vidc_parts d =
      table_parts
      _
      (ShapeFault f vidc_shape)
      (λ t. either same (along
      (either (number_row t (codes "horizontal_cycle") 0x3FF)
      (either (number_row t (codes "vertical_cycle") 0x3FF)
      (either (number_row t (codes "display_end") 0x3FF)
      (either (number_row t (codes "pixel_rate") 3) (ended (number_row t (codes "ticks") (2 ^ 32 - 1)))))))
      (any_one_of (RowFault f t) vidc_shape.rows)))
      (as_table d)

-- ## The file

gathered : {K PC MO FL LO HI SI ST PO R M E W I X NR NM NE NW NI NX V U LT PT SP WT T : Type 0}
    → K ⊎ ((PC ⊎ (MO ⊎ ((FL ⊎ (LT × T)) ⊎ (((NR × V) ⊎ R) ⊎ (LO ⊎ (HI ⊎ (SI ⊎ (((NM × V) ⊎ M) ⊎ (ST ⊎ (PO ⊎ (((NE × V) ⊎ E) ⊎ (((NW × V) ⊎ W) ⊎ (((NI × V) ⊎ I) ⊎ ((NX × V) ⊎ X)))))))))))))) ⊎ (U ⊎ ((PT × T) ⊎ ((SP × T) ⊎ (WT × T)))))
    → ((K ⊎ (PC ⊎ (MO ⊎ (FL ⊎ (LO ⊎ (HI ⊎ (SI ⊎ (ST ⊎ (PO ⊎ ⊥))))))))) ⊎ (R ⊎ (M ⊎ (E ⊎ (W ⊎ (I ⊎ X)))))) ⊎ (((NR ⊎ (NM ⊎ (NE ⊎ (NW ⊎ (NI ⊎ NX))))) × V) ⊎ (U ⊎ ((LT ⊎ (PT ⊎ (SP ⊎ WT))) × T)))
gathered (inl x) = inl (inl (inl x))
gathered (inr (inl (inl x))) = inl (inl (inr (inl x)))
gathered (inr (inl (inr (inl x)))) = inl (inl (inr (inr (inl x))))
gathered (inr (inl (inr (inr (inl (inl x)))))) = inl (inl (inr (inr (inr (inl x)))))
gathered (inr (inl (inr (inr (inl (inr x)))))) = inr (inr (inr (inl x.0, x.1)))
gathered (inr (inl (inr (inr (inr (inl (inl x))))))) = inr (inl (inl x.0, x.1))
gathered (inr (inl (inr (inr (inr (inl (inr x))))))) = inl (inr (inl x))
gathered (inr (inl (inr (inr (inr (inr (inl x))))))) = inl (inl (inr (inr (inr (inr (inl x))))))
gathered (inr (inl (inr (inr (inr (inr (inr (inl x)))))))) = inl (inl (inr (inr (inr (inr (inr (inl x)))))))
gathered (inr (inl (inr (inr (inr (inr (inr (inr (inl x))))))))) =
    inl (inl (inr (inr (inr (inr (inr (inr (inl x))))))))
gathered (inr (inl (inr (inr (inr (inr (inr (inr (inr (inl (inl x))))))))))) =
    inr (inl (inr (inl x.0), x.1))
gathered (inr (inl (inr (inr (inr (inr (inr (inr (inr (inl (inr x))))))))))) = inl (inr (inr (inl x)))
gathered (inr (inl (inr (inr (inr (inr (inr (inr (inr (inr (inl x))))))))))) =
    inl (inl (inr (inr (inr (inr (inr (inr (inr (inl x)))))))))
gathered (inr (inl (inr (inr (inr (inr (inr (inr (inr (inr (inr (inl x)))))))))))) =
    inl (inl (inr (inr (inr (inr (inr (inr (inr (inr (inl x))))))))))
gathered (inr (inl (inr (inr (inr (inr (inr (inr (inr (inr (inr (inr (inl (inl x)))))))))))))) =
    inr (inl (inr (inr (inl x.0)), x.1))
gathered (inr (inl (inr (inr (inr (inr (inr (inr (inr (inr (inr (inr (inl (inr x)))))))))))))) =
    inl (inr (inr (inr (inl x))))
gathered (inr (inl (inr (inr (inr (inr (inr (inr (inr (inr (inr (inr (inr (inl (inl x))))))))))))))) =
    inr (inl (inr (inr (inr (inl x.0))), x.1))
gathered (inr (inl (inr (inr (inr (inr (inr (inr (inr (inr (inr (inr (inr (inl (inr x))))))))))))))) =
    inl (inr (inr (inr (inr (inl x)))))
gathered (inr (inl (inr (inr (inr (inr (inr (inr (inr (inr (inr (inr (inr (inr (inl (inl x)))))))))))))))) =
    inr (inl (inr (inr (inr (inr (inl x.0)))), x.1))
gathered (inr (inl (inr (inr (inr (inr (inr (inr (inr (inr (inr (inr (inr (inr (inl (inr x)))))))))))))))) =
    inl (inr (inr (inr (inr (inr (inl x))))))
gathered (inr (inl (inr (inr (inr (inr (inr (inr (inr (inr (inr (inr (inr (inr (inr (inl x)))))))))))))))) =
    inr (inl (inr (inr (inr (inr (inr x.0)))), x.1))
gathered (inr (inl (inr (inr (inr (inr (inr (inr (inr (inr (inr (inr (inr (inr (inr (inr x)))))))))))))))) =
    inl (inr (inr (inr (inr (inr (inr x))))))
gathered (inr (inr (inl x))) = inr (inr (inl x))
gathered (inr (inr (inr (inl x)))) = inr (inr (inr (inr (inl x.0), x.1)))
gathered (inr (inr (inr (inr (inl x))))) = inr (inr (inr (inr (inr (inl x.0)), x.1)))
gathered (inr (inr (inr (inr (inr x))))) = inr (inr (inr (inr (inr (inr x.0)), x.1)))

scattered : {K PC MO FL LO HI SI ST PO R M E W I X NR NM NE NW NI NX V U LT PT SP WT T : Type 0}
    → ((K ⊎ (PC ⊎ (MO ⊎ (FL ⊎ (LO ⊎ (HI ⊎ (SI ⊎ (ST ⊎ (PO ⊎ ⊥))))))))) ⊎ (R ⊎ (M ⊎ (E ⊎ (W ⊎ (I ⊎ X)))))) ⊎ (((NR ⊎ (NM ⊎ (NE ⊎ (NW ⊎ (NI ⊎ NX))))) × V) ⊎ (U ⊎ ((LT ⊎ (PT ⊎ (SP ⊎ WT))) × T)))
    → K ⊎ ((PC ⊎ (MO ⊎ ((FL ⊎ (LT × T)) ⊎ (((NR × V) ⊎ R) ⊎ (LO ⊎ (HI ⊎ (SI ⊎ (((NM × V) ⊎ M) ⊎ (ST ⊎ (PO ⊎ (((NE × V) ⊎ E) ⊎ (((NW × V) ⊎ W) ⊎ (((NI × V) ⊎ I) ⊎ ((NX × V) ⊎ X)))))))))))))) ⊎ (U ⊎ ((PT × T) ⊎ ((SP × T) ⊎ (WT × T)))))
scattered (inl (inl (inl x))) = inl x
scattered (inl (inl (inr (inl x)))) = inr (inl (inl x))
scattered (inl (inl (inr (inr (inl x))))) = inr (inl (inr (inl x)))
scattered (inl (inl (inr (inr (inr (inl x)))))) = inr (inl (inr (inr (inl (inl x)))))
scattered (inl (inl (inr (inr (inr (inr (inl x))))))) = inr (inl (inr (inr (inr (inr (inl x))))))
scattered (inl (inl (inr (inr (inr (inr (inr (inl x)))))))) =
    inr (inl (inr (inr (inr (inr (inr (inl x)))))))
scattered (inl (inl (inr (inr (inr (inr (inr (inr (inl x))))))))) =
    inr (inl (inr (inr (inr (inr (inr (inr (inl x))))))))
scattered (inl (inl (inr (inr (inr (inr (inr (inr (inr (inl x)))))))))) =
    inr (inl (inr (inr (inr (inr (inr (inr (inr (inr (inl x))))))))))
scattered (inl (inl (inr (inr (inr (inr (inr (inr (inr (inr (inl x))))))))))) =
    inr (inl (inr (inr (inr (inr (inr (inr (inr (inr (inr (inl x)))))))))))
scattered (inl (inl (inr (inr (inr (inr (inr (inr (inr (inr (inr x))))))))))) = absurd x
scattered (inl (inr (inl x))) = inr (inl (inr (inr (inr (inl (inr x))))))
scattered (inl (inr (inr (inl x)))) = inr (inl (inr (inr (inr (inr (inr (inr (inr (inl (inr x))))))))))
scattered (inl (inr (inr (inr (inl x))))) =
    inr (inl (inr (inr (inr (inr (inr (inr (inr (inr (inr (inr (inl (inr x)))))))))))))
scattered (inl (inr (inr (inr (inr (inl x)))))) =
    inr (inl (inr (inr (inr (inr (inr (inr (inr (inr (inr (inr (inr (inl (inr x))))))))))))))
scattered (inl (inr (inr (inr (inr (inr (inl x))))))) =
    inr (inl (inr (inr (inr (inr (inr (inr (inr (inr (inr (inr (inr (inr (inl (inr x)))))))))))))))
scattered (inl (inr (inr (inr (inr (inr (inr x))))))) =
    inr (inl (inr (inr (inr (inr (inr (inr (inr (inr (inr (inr (inr (inr (inr (inr x)))))))))))))))
scattered (inr (inr (inl x))) = inr (inr (inl x))
scattered (inr (inl x)) = elim x.0 [
  | inl y ↦ inr (inl (inr (inr (inr (inl (inl (y, x.1)))))))
  | inr z ↦ elim z [
    | inl y ↦ inr (inl (inr (inr (inr (inr (inr (inr (inr (inl (inl (y, x.1)))))))))))
    | inr w ↦ elim w [
      | inl y ↦ inr (inl (inr (inr (inr (inr (inr (inr (inr (inr (inr (inr (inl (inl (y, x.1))))))))))))))
      | inr v ↦ elim v [
        | inl y ↦ inr (inl (inr (inr (inr (inr (inr (inr (inr (inr (inr (inr (inr (inl (inl (y, x.1)))))))))))))))
        | inr u ↦ elim u [
          | inl y ↦ inr (inl (inr (inr (inr (inr (inr (inr (inr (inr (inr (inr (inr (inr (inl (inl (y, x.1))))))))))))))))
          | inr y ↦ inr (inl (inr (inr (inr (inr (inr (inr (inr (inr (inr (inr (inr (inr (inr (inl (y, x.1))))))))))))))))
        ]
      ]
    ]
  ]
]
scattered (inr (inr (inr x))) = elim x.0 [
  | inl y ↦ inr (inl (inr (inr (inl (inr (y, x.1))))))
  | inr z ↦ elim z [
    | inl y ↦ inr (inr (inr (inl (y, x.1))))
    | inr w ↦ elim w [
      | inl y ↦ inr (inr (inr (inr (inl (y, x.1)))))
      | inr y ↦ inr (inr (inr (inr (inr (y, x.1)))))
    ]
  ]
]

regrouped : {K PC MO FL LO HI SI ST PO R M E W I X NR NM NE NW NI NX V U LT PT SP WT T : Type 0}
    → K ⊎ ((PC ⊎ (MO ⊎ ((FL ⊎ (LT × T)) ⊎ (((NR × V) ⊎ R) ⊎ (LO ⊎ (HI ⊎ (SI ⊎ (((NM × V) ⊎ M) ⊎ (ST ⊎ (PO ⊎ (((NE × V) ⊎ E) ⊎ (((NW × V) ⊎ W) ⊎ (((NI × V) ⊎ I) ⊎ ((NX × V) ⊎ X)))))))))))))) ⊎ (U ⊎ ((PT × T) ⊎ ((SP × T) ⊎ (WT × T))))) ↔ ((K ⊎ (PC ⊎ (MO ⊎ (FL ⊎ (LO ⊎ (HI ⊎ (SI ⊎ (ST ⊎ (PO ⊎ ⊥))))))))) ⊎ (R ⊎ (M ⊎ (E ⊎ (W ⊎ (I ⊎ X)))))) ⊎ (((NR ⊎ (NM ⊎ (NE ⊎ (NW ⊎ (NI ⊎ NX))))) × V) ⊎ (U ⊎ ((LT ⊎ (PT ⊎ (SP ⊎ WT))) × T)))
regrouped = (λ h. gathered h, λ h. scattered h)

module _ (ms : Members) (f : MachineFileFault) where
  key_tables : HasKeyFault ms f ↔ TablesFault ms f
  key_tables =
      along
      (either same (either
      (either (needs_row f ms (codes "pc") Address (λ d. AddressFault d f) (address_kind f))
      (either (may_row f ms (codes "mode") ModeName (λ d. NameFault machine_faults named_mode d f) (mode_kind f))
      (either (also_parts f (λ d. FlagsFault d f) (KindFault f FlagLetters) (λ d. IsSomeAnd (as_str d) (λ text. is_single text ≡ false)) (f ≡ Twice) (flags_kind f) (get_member (codes "flags") ms))
      (either (value_parts f (λ d. RegistersFault d f) IsNoTable (In (ShapeFault f register_shape)) (registers_parts f) (get_member (codes "registers") ms))
      (either (may_row f ms (codes "low_rom") (UpTo 3) (λ d. UpToFault 3 d f) (up_to_kind f 3))
      (either (may_row f ms (codes "high_rom") (UpTo 3) (λ d. UpToFault 3 d f) (up_to_kind f 3))
      (either (may_row f ms (codes "pages") Size (λ d. SizeFault d f) (size_kind f))
      (either (list_parts f (λ d. PageFault d f) IsNoTable (In (ShapeFault f map_shape)) (page_parts f) (get_member (codes "map") ms))
      (either (may_row f ms (codes "steps") (UpTo 65536) (λ d. UpToFault 65536 d f) (up_to_kind f 65536))
      (either (may_row f ms (codes "port") Word (λ d. WordFault d f) (up_to_kind f (2 ^ 32 - 1)))
      (either (list_parts f (λ d. EventFault d f) IsNoTable (In (ShapeFault f event_shape)) (event_parts f) (get_member (codes "event") ms))
      (either (list_parts f (λ d. PutWordFault d f) IsNoTable (In (ShapeFault f put_word_shape)) (put_word_parts f) (get_member (codes "word") ms))
      (either (value_parts f (λ d. IocFault d f) IsNoTable (In (ShapeFault f ioc_shape)) (ioc_parts f) (get_member (codes "ioc") ms))
      (value_parts f (λ d. VidcFault d f) IsNoTable (In (ShapeFault f vidc_shape)) (vidc_parts f) (get_member (codes "vidc") ms)))))))))))))))
      same))
      (along regrouped (either (either (either same (any_one_of (RowFault f ms) file_shape.rows)) same) same))

  faults_iff : HasKeyFault ms f ↔ HasMachineFault ms f
  faults_iff = along key_tables (to_machine_fault ms f, from_machine_fault ms f)

tables_judged : (ms : Members) → Judges machine_faults (StatesMachine ms) (HasMachineFault ms) (machine_in ms)
tables_judged ms =
    judged_as
    machine_faults
    (StatesMachine ms)
    (StatesMachine ms)
    (HasKeyFault ms)
    (HasMachineFault ms)
    (λ s. same)
    (faults_iff ms)
    (machine_in ms)
    (machine_judged ms)

pub machine_stated : (ms : Members) (stated : Stated) → machine_in ms ≡ Ok stated ↔ StatesMachine ms stated
machine_stated ms stated =
    judged_value
    machine_faults
    (StatesMachine ms)
    (HasMachineFault ms)
    (machine_in ms)
    (tables_judged ms)
    stated

pub machine_fault : (ms : Members) (fault : MachineFileFault)
    → machine_in ms ≡ Err fault ↔ IsLowest machine_faults (HasMachineFault ms) fault
machine_fault ms fault =
    judged_fault
    machine_faults
    (StatesMachine ms)
    (HasMachineFault ms)
    one_rank
    (machine_in ms)
    (tables_judged ms)
    fault

-- ## Without tables of devices

if_missing : {M : Type 0} (P : Data → Type 0) (o : Option Data) → MatchOption o M P → o ≡ None → M
if_missing {M} P o h none = subst (λ (x : Option Data). MatchOption x M P) none h

pub missing_ioc : (ms : Members) (stated : Stated) → machine_in ms ≡ Ok stated → get_member (codes "ioc") ms ≡ None
    → ioc_start stated.ioc ≡ ioc.fresh
missing_ioc ms stated read none =
    let states = (machine_stated ms stated).0 read in
    ap ioc_start (if_missing (λ d. IsIoc d stated.ioc) (get_member (codes "ioc") ms) states.ioc none)

pub missing_vidc : (ms : Members) (stated : Stated) → machine_in ms ≡ Ok stated → get_member (codes "vidc") ms ≡ None
    → vidc_start stated.vidc ≡ vidc.fresh
missing_vidc ms stated read none =
    let states = (machine_stated ms stated).0 read in
    ap vidc_start (if_missing (λ d. IsVidc d stated.vidc) (get_member (codes "vidc") ms) states.vidc none)
