-- The faults of a machine file key by key are those of its tables.
use Rattle.std.proofs.Common.{◌≡◌, ◌⊎◌, true, List, codes, Any, Option, Some, None, IsSomeAnd, MatchOption, is_some, inl, inr, refl, ap}
use Rattle.std.proofs.lemmas.Bool.{true≢false}
use Rattle.toml.specs.Data.{Data, Members, as_table, get_member}
use Rattle.toml_reading.specs.Lowest.{AtKey, entries_at}
use Rattle.toml_reading.proofs.LowestParts.{some_weaker}
use Rattle.machine_file.specs.MachineFaultRules.{AreNoTables, HasMachineFault, HasOtherKey, HasOtherKind, HasOtherNumber, HasWrongKind, IsLetterTwice, IsNoTable, IsOtherKind, IsOtherNumber, IsPageTwice, IsStepTwice, IsUnmappable, IsWordTwice, LacksKey, OfSomeTable, Row, Shape, event_shape, file_shape, ioc_shape, map_shape, register_shape, put_word_shape, vidc_shape}
use Rattle.machine_file.specs.declared.rows.Takes.{Takes}
use Rattle.machine_file.specs.MachinePlaces.{KindFault}
use Rattle.machine_file.specs.declared.machine_faults.MachineFileFault.{MachineFileFault}
use Rattle.machine_file.specs.declared.machine_faults.MachineFileFault.TheVariants.{UnknownKey, WrongKind, OutOfRange, Twice}

-- ## Some table of the file

module _ {X : Type 0} where
  pub any_map : (P Q : X → Type 0) → ((x : X) → P x → Q x) → (xs : List X) → Any P xs → Any Q xs
  any_map P Q f xs h = (h.0, h.1, h.2, h.3, f h.1 h.4)

  any_sum : (P Q R : X → Type 0) → ((x : X) → P x → Q x ⊎ R x) → (xs : List X) → Any P xs
      → Any Q xs ⊎ Any R xs
  any_sum P Q R f xs h =
      elim (f h.1 h.4) [ inl q ↦ inl (h.0, h.1, h.2, h.3, q) | inr r ↦ inr (h.0, h.1, h.2, h.3, r) ]

  some_sum : (P Q R : X → Type 0) → ((x : X) → P x → Q x ⊎ R x) → (o : Option X) → IsSomeAnd o P
      → IsSomeAnd o Q ⊎ IsSomeAnd o R
  some_sum P Q R f None h = absurd h
  some_sum P Q R f (Some x) h = f x h

  pub some_fact : (P : X → Type 0) (C : Type 0) → ((x : X) → P x → C) → (o : Option X) → IsSomeAnd o P → C
  some_fact P C f None h = absurd h
  some_fact P C f (Some x) h = f x h

abbrev pub In : (Members → Type 0) → Data → Type 0
In T d = IsSomeAnd (as_table d) T

module _ (P Q : Shape → Members → Type 0) (f : (s : Shape) (t : Members) → P s t → Q s t) (ms : Members) where
  in_map : (s : Shape) (d : Data) → In (P s) d → In (Q s) d
  in_map s d h = some_weaker (P s) (Q s) (f s) (as_table d) h

  table_map : OfSomeTable P ms → OfSomeTable Q ms
  table_map (inl h) = inl (f file_shape ms h)
  table_map (inr (inl h)) =
      inr (inl (some_weaker (In (P register_shape)) (In (Q register_shape)) (in_map register_shape) (get_member (codes "registers") ms) h))
  table_map (inr (inr (inl h))) =
      inr (inr (inl (any_map (In (P map_shape)) (In (Q map_shape)) (in_map map_shape) (entries_at (codes "map") ms) h)))
  table_map (inr (inr (inr (inl h)))) =
      inr (inr (inr (inl (any_map (In (P event_shape)) (In (Q event_shape)) (in_map event_shape) (entries_at (codes "event") ms) h))))
  table_map (inr (inr (inr (inr (inl h))))) =
      inr (inr (inr (inr (inl (any_map (In (P put_word_shape)) (In (Q put_word_shape)) (in_map put_word_shape) (entries_at (codes "word") ms) h)))))
  table_map (inr (inr (inr (inr (inr (inl h)))))) =
      inr (inr (inr (inr (inr (inl (some_weaker (In (P ioc_shape)) (In (Q ioc_shape)) (in_map ioc_shape) (get_member (codes "ioc") ms) h))))))
  table_map (inr (inr (inr (inr (inr (inr h)))))) =
      inr (inr (inr (inr (inr (inr (some_weaker (In (P vidc_shape)) (In (Q vidc_shape)) (in_map vidc_shape) (get_member (codes "vidc") ms) h))))))

module _ (P Q R : Shape → Members → Type 0) (f : (s : Shape) (t : Members) → P s t → Q s t ⊎ R s t)
    (ms : Members) where
  in_sum : (s : Shape) (d : Data) → In (P s) d → In (Q s) d ⊎ In (R s) d
  in_sum s d h = some_sum (P s) (Q s) (R s) (f s) (as_table d) h

  table_sum : OfSomeTable P ms → OfSomeTable Q ms ⊎ OfSomeTable R ms
  table_sum (inl h) = elim (f file_shape ms h) [ inl q ↦ inl (inl q) | inr r ↦ inr (inl r) ]
  table_sum (inr (inl h)) =
      elim (some_sum (In (P register_shape)) (In (Q register_shape)) (In (R register_shape)) (in_sum register_shape) (get_member (codes "registers") ms) h) [
        | inl q ↦ inl (inr (inl q))
        | inr r ↦ inr (inr (inl r))
      ]
  table_sum (inr (inr (inl h))) =
      elim (any_sum (In (P map_shape)) (In (Q map_shape)) (In (R map_shape)) (in_sum map_shape) (entries_at (codes "map") ms) h) [
        | inl q ↦ inl (inr (inr (inl q)))
        | inr r ↦ inr (inr (inr (inl r)))
      ]
  table_sum (inr (inr (inr (inl h)))) =
      elim (any_sum (In (P event_shape)) (In (Q event_shape)) (In (R event_shape)) (in_sum event_shape) (entries_at (codes "event") ms) h) [
        | inl q ↦ inl (inr (inr (inr (inl q))))
        | inr r ↦ inr (inr (inr (inr (inl r))))
      ]
  table_sum (inr (inr (inr (inr (inl h))))) =
      elim (any_sum (In (P put_word_shape)) (In (Q put_word_shape)) (In (R put_word_shape)) (in_sum put_word_shape) (entries_at (codes "word") ms) h) [
        | inl q ↦ inl (inr (inr (inr (inr (inl q)))))
        | inr r ↦ inr (inr (inr (inr (inr (inl r)))))
      ]
  table_sum (inr (inr (inr (inr (inr (inl h)))))) =
      elim (some_sum (In (P ioc_shape)) (In (Q ioc_shape)) (In (R ioc_shape)) (in_sum ioc_shape) (get_member (codes "ioc") ms) h) [
        | inl q ↦ inl (inr (inr (inr (inr (inr (inl q))))))
        | inr r ↦ inr (inr (inr (inr (inr (inr (inl r))))))
      ]
  table_sum (inr (inr (inr (inr (inr (inr h)))))) =
      elim (some_sum (In (P vidc_shape)) (In (Q vidc_shape)) (In (R vidc_shape)) (in_sum vidc_shape) (get_member (codes "vidc") ms) h) [
        | inl q ↦ inl (inr (inr (inr (inr (inr (inr q))))))
        | inr r ↦ inr (inr (inr (inr (inr (inr (inr r))))))
      ]

module _ (P : Shape → Members → Type 0) (C : Type 0) (f : (s : Shape) (t : Members) → P s t → C)
    (ms : Members) where
  in_fact : (s : Shape) (d : Data) → In (P s) d → C
  in_fact s d h = some_fact (P s) C (f s) (as_table d) h

  table_fact : OfSomeTable P ms → C
  table_fact (inl h) = f file_shape ms h
  table_fact (inr (inl h)) =
      some_fact (In (P register_shape)) C (in_fact register_shape) (get_member (codes "registers") ms) h
  table_fact (inr (inr (inl h))) = in_fact map_shape h.1 h.4
  table_fact (inr (inr (inr (inl h)))) = in_fact event_shape h.1 h.4
  table_fact (inr (inr (inr (inr (inl h))))) = in_fact put_word_shape h.1 h.4
  table_fact (inr (inr (inr (inr (inr (inl h)))))) =
      some_fact (In (P ioc_shape)) C (in_fact ioc_shape) (get_member (codes "ioc") ms) h
  table_fact (inr (inr (inr (inr (inr (inr h)))))) =
      some_fact (In (P vidc_shape)) C (in_fact vidc_shape) (get_member (codes "vidc") ms) h

-- ## The faults of one table

module _ (f : MachineFileFault) where
  abbrev pub RowFault : Members → Row → Type 0
  RowFault t row =
      MatchOption (get_member row.key t) ((row.required ≡ true) × (f ≡ WrongKind)) (KindFault f row.takes)

  abbrev pub ShapeFault : Shape → Members → Type 0
  ShapeFault shape t = (HasOtherKey shape t × (f ≡ UnknownKey)) ⊎ Any (RowFault t) shape.rows

  abbrev Lacking : Shape → Members → Type 0
  Lacking shape t = (LacksKey shape t ⊎ HasOtherKind shape t) × (f ≡ WrongKind)

  abbrev OtherNumber : Shape → Members → Type 0
  OtherNumber shape t = HasOtherNumber shape t × (f ≡ OutOfRange)

  row_split : (takes : Takes) (R : Type 0) (o : Option Data)
      → MatchOption o (R × (f ≡ WrongKind)) (KindFault f takes)
      → ((R × (o ≡ None)) × (f ≡ WrongKind)) ⊎ ((IsSomeAnd o (IsOtherKind takes) × (f ≡ WrongKind)) ⊎ (IsSomeAnd o (IsOtherNumber takes) × (f ≡ OutOfRange)))
  row_split takes R None h = inl ((h.0, refl), h.1)
  row_split takes R (Some d) (inl h) = inr (inl h)
  row_split takes R (Some d) (inr h) = inr (inr h)

  rows_split : (shape : Shape) (t : Members) → Any (RowFault t) shape.rows
      → Lacking shape t ⊎ OtherNumber shape t
  rows_split shape t h = elim (row_split h.1.takes (h.1.required ≡ true) (get_member h.1.key t) h.4) [
    | inl x ↦ inl (inl (h.0, h.1, h.2, h.3, x.0), x.1)
    | inr y ↦ elim y [
      | inl x ↦ inl (inr (h.0, h.1, h.2, h.3, x.0), x.1)
      | inr x ↦ inr ((h.0, h.1, h.2, h.3, x.0), x.1)
    ]
  ]

  shape_split : (shape : Shape) (t : Members) → ShapeFault shape t
      → (HasOtherKey shape t × (f ≡ UnknownKey)) ⊎ (Lacking shape t ⊎ OtherNumber shape t)
  shape_split shape t (inl h) = inl h
  shape_split shape t (inr h) = inr (rows_split shape t h)

  row_missing : (takes : Takes) (R : Type 0) (o : Option Data) → f ≡ WrongKind → R × (o ≡ None)
      → MatchOption o (R × (f ≡ WrongKind)) (KindFault f takes)
  row_missing takes R None e h = (h.0, e)
  row_missing takes R (Some d) e h = absurd (true≢false (ap is_some h.1))

  row_kind : (takes : Takes) (R : Type 0) (o : Option Data) → f ≡ WrongKind
      → IsSomeAnd o (IsOtherKind takes) → MatchOption o (R × (f ≡ WrongKind)) (KindFault f takes)
  row_kind takes R None e h = absurd h
  row_kind takes R (Some d) e h = inl (h, e)

  row_number : (takes : Takes) (R : Type 0) (o : Option Data) → f ≡ OutOfRange
      → IsSomeAnd o (IsOtherNumber takes) → MatchOption o (R × (f ≡ WrongKind)) (KindFault f takes)
  row_number takes R None e h = absurd h
  row_number takes R (Some d) e h = inr (h, e)

  lacks_shape : f ≡ WrongKind → (shape : Shape) (t : Members) → LacksKey shape t → ShapeFault shape t
  lacks_shape e shape t h =
      inr (h.0, h.1, h.2, h.3, row_missing h.1.takes (h.1.required ≡ true) (get_member h.1.key t) e h.4)

  kind_shape : f ≡ WrongKind → (shape : Shape) (t : Members) → HasOtherKind shape t → ShapeFault shape t
  kind_shape e shape t h =
      inr (h.0, h.1, h.2, h.3, row_kind h.1.takes (h.1.required ≡ true) (get_member h.1.key t) e h.4)

  number_shape : f ≡ OutOfRange → (shape : Shape) (t : Members) → HasOtherNumber shape t → ShapeFault shape t
  number_shape e shape t h =
      inr (h.0, h.1, h.2, h.3, row_number h.1.takes (h.1.required ≡ true) (get_member h.1.key t) e h.4)

-- ## The faults of the file, table by table

module _ (ms : Members) (f : MachineFileFault) where
  abbrev pub NoTables : Type 0
  NoTables =
      AtKey (codes "registers") ms IsNoTable
      ⊎ AtKey (codes "map") ms AreNoTables
      ⊎ AtKey (codes "event") ms AreNoTables
      ⊎ AtKey (codes "word") ms AreNoTables
      ⊎ AtKey (codes "ioc") ms IsNoTable
      ⊎ AtKey (codes "vidc") ms IsNoTable

  abbrev pub Repeated : Type 0
  Repeated = IsLetterTwice ms ⊎ IsPageTwice ms ⊎ IsStepTwice ms ⊎ IsWordTwice ms

  abbrev pub TablesFault : Type 0
  TablesFault =
      OfSomeTable (ShapeFault f) ms
      ⊎ (NoTables × (f ≡ WrongKind))
      ⊎ (IsUnmappable ms × (f ≡ OutOfRange))
      ⊎ (Repeated × (f ≡ Twice))

  of_tables : OfSomeTable (ShapeFault f) ms → HasMachineFault ms f
  of_tables h = elim (table_sum (ShapeFault f) (λ s t. HasOtherKey s t × (f ≡ UnknownKey)) (λ s t. Lacking f s t ⊎ OtherNumber f s t) (shape_split f) ms h) [
    | inl x ↦ inl (table_map (λ s t. HasOtherKey s t × (f ≡ UnknownKey)) HasOtherKey (λ s t y. y.0) ms x, table_fact (λ s t. HasOtherKey s t × (f ≡ UnknownKey)) (f ≡ UnknownKey) (λ s t y. y.1) ms x)
    | inr z ↦ elim (table_sum (λ s t. Lacking f s t ⊎ OtherNumber f s t) (Lacking f) (OtherNumber f) (λ s t y. y) ms z) [
      | inl x ↦
          let kind = table_fact (Lacking f) (f ≡ WrongKind) (λ s t y. y.1) ms x in
          elim (table_sum (Lacking f) LacksKey HasOtherKind (λ s t y. y.0) ms x) [
            | inl y ↦ inr (inl (inl y, kind))
            | inr y ↦ inr (inl (inr (inl y), kind))
          ]
      | inr x ↦ inr (inr (inl (inl (table_map (OtherNumber f) HasOtherNumber (λ s t y. y.0) ms x), table_fact (OtherNumber f) (f ≡ OutOfRange) (λ s t y. y.1) ms x)))
    ]
  ]

  pub to_machine_fault : TablesFault → HasMachineFault ms f
  to_machine_fault (inl h) = of_tables h
  to_machine_fault (inr (inl h)) = inr (inl (inr (inr h.0), h.1))
  to_machine_fault (inr (inr (inl h))) = inr (inr (inl (inr h.0, h.1)))
  to_machine_fault (inr (inr (inr h))) = inr (inr (inr h))

  from_kind : HasWrongKind ms → f ≡ WrongKind → TablesFault
  from_kind (inl h) e = inl (table_map LacksKey (ShapeFault f) (lacks_shape f e) ms h)
  from_kind (inr (inl h)) e = inl (table_map HasOtherKind (ShapeFault f) (kind_shape f e) ms h)
  from_kind (inr (inr h)) e = inr (inl (h, e))

  from_range : OfSomeTable HasOtherNumber ms ⊎ IsUnmappable ms → f ≡ OutOfRange → TablesFault
  from_range (inl h) e = inl (table_map HasOtherNumber (ShapeFault f) (number_shape f e) ms h)
  from_range (inr h) e = inr (inr (inl (h, e)))

  pub from_machine_fault : HasMachineFault ms f → TablesFault
  from_machine_fault (inl h) = inl (table_map HasOtherKey (ShapeFault f) (λ s t y. inl (y, h.1)) ms h.0)
  from_machine_fault (inr (inl h)) = from_kind h.0 h.1
  from_machine_fault (inr (inr (inl h))) = from_range h.0 h.1
  from_machine_fault (inr (inr (inr h))) = inr (inr (inr h))
