-- A machine file's document has a fault exactly where some spot has it.
use Rattle.std.proofs.Common.{◌≡◌, ℕ, ◌≤◌, ◌⊎◌, ◌↔◌, true, false, List, [], Option, Some, None, IsSomeAnd, MatchOption, Any, inl, inr, refl, sym}
use Rattle.std.specs.Prelude.{⊤, unwrap_or}
use Rattle.std.specs.Borrow.{Bor}
use Rattle.std.specs.List.{slice_get}
use Rattle.std.specs.Option.{option_and_then}
use Rattle.std.proofs.lemmas.Bool.{false≢true}
use Rattle.std.proofs.lemmas.Option.{none-some}
use Rattle.toml.specs.Data.{Data, Members, as_table, get_member}
use Rattle.toml_reading.specs.Documents.{are_distinct, items_at}
use Rattle.toml_reading.specs.Lowest.{AtKey, entries_at, number_of_entry, numbers_at}
use Rattle.machine_file.specs.MachineFaultRules.{AreNoTables, HasMachineFault, IsNoTable, IsUnmappable, OfLimit, OfSomeTable, Shape, file_shape}
use Rattle.machine_file.specs.MachinePlaces.{AtEntry, AtNumber, IsAmongFirst, IsMachineFaultAt, KindFault, PartFault, differs, list_key, number_key, number_list, shape_in, shape_of, table_key}
use Rattle.machine_file.specs.declared.machine_faults.MachineFileFault.{MachineFileFault}
use Rattle.machine_file.specs.declared.machine_faults.MachineFileFault.TheVariants.{WrongKind, OutOfRange, Twice}
use Rattle.machine_file.specs.declared.spots.EntryNumber.{EntryNumber}
use Rattle.machine_file.specs.declared.spots.EntryNumber.TheVariants as number
use Rattle.machine_file.specs.declared.spots.MachineList.{MachineList}
use Rattle.machine_file.specs.declared.spots.MachineList.TheVariants.{Pages, Events, Words}
use Rattle.machine_file.specs.declared.spots.MachineTable.{MachineTable}
use Rattle.machine_file.specs.declared.spots.MachineTable.TheVariants.{Registers, Ioc, Vidc}
use Rattle.machine_file.specs.declared.spots.MachineSpot.{MachineSpot}
use Rattle.machine_file.specs.declared.spots.MachineSpot.TheVariants as spot
use Rattle.machine_file.specs.declared.spots.Part.{Part}
use Rattle.machine_file.specs.declared.spots.Part.TheVariants.{Unknown, Value, Missing}
use Rattle.machine_file.proofs.FaultTableLemmas.{In, NoTables, Repeated, RowFault, ShapeFault, TablesFault, from_machine_fault, to_machine_fault}
use Rattle.machine_file.proofs.RepeatLemmas.{index_past, index_repeat, past_index, repeat_index}
use Rattle.machine_file.proofs.TestLemmas.{any_index, in_some, index_any, of_some, of_unknown, unknown_of}

module _ (ms : Members) (f : MachineFileFault) where
  abbrev SpotOf : Type 0
  SpotOf = (s : MachineSpot) × IsMachineFaultAt ms s f

  -- ## One table

  lent : List ℕ → Bor (List ℕ)
  lent w = record { ref_ptr = (0, 0); now = w }

  abbrev PartOf : Shape → Members → Type 0
  PartOf shape t = (p : Part) × PartFault shape p t f

  row_part : (shape : Shape) (t : Members) → Any (RowFault f t) shape.rows → PartOf shape t
  unfolding lent
  row_part shape t h = by_value (get_member h.1.key t) refl h.4
    where
      by_value :
          (o : Option Data)
          → o ≡ get_member h.1.key t
          → MatchOption o ((h.1.required ≡ true) × (f ≡ WrongKind)) (KindFault f h.1.takes)
          → PartOf shape t
      by_value None is k =
          (Missing (lent h.1.key), ((h.0, h.1, h.2, h.3, (refl, k.0, sym is)), k.1))
      by_value (Some d) is k =
          (Value (lent h.1.key), (h.0, h.1, h.2, h.3, (refl, of_some (KindFault f h.1.takes) (get_member h.1.key t) d (sym is) k)))

  shape_part : (shape : Shape) (t : Members) → ShapeFault f shape t → PartOf shape t
  unfolding lent
  shape_part shape t (inl h) =
      let u = unknown_of shape.keys t h.0 in (Unknown (lent u.0), (u.1, u.2, h.1))
  shape_part shape t (inr h) = row_part shape t h

  part_shape : (shape : Shape) (p : Part) (t : Members) → PartFault shape p t f → ShapeFault f shape t
  part_shape shape (Unknown key) t h = inl (of_unknown shape.keys t key.now h.0 h.1, h.2)
  part_shape shape (Value key) t h = inr (h.0, h.1, h.2, h.3, by_value (get_member h.1.key t) h.4.1)
    where
      by_value :
          (o : Option Data)
          → IsSomeAnd o (KindFault f h.1.takes)
          → MatchOption o ((h.1.required ≡ true) × (f ≡ WrongKind)) (KindFault f h.1.takes)
      by_value None k = absurd k
      by_value (Some d) k = k
  part_shape shape (Missing key) t h =
      let row = h.0 in inr (row.0, row.1, row.2, row.3, by_value (get_member row.1.key t) row.4.2)
    where
      by_value :
          (o : Option Data)
          → o ≡ None
          → MatchOption o ((h.0.1.required ≡ true) × (f ≡ WrongKind)) (KindFault f h.0.1.takes)
      by_value None is = (h.0.4.1, h.1)
      by_value (Some d) is = absurd (none-some d (sym is))

  -- ## Lists

  listed : (list : MachineList) → Any (In (ShapeFault f (shape_in list))) (entries_at (list_key list) ms) → SpotOf
  listed list h =
      let at = any_index (In (ShapeFault f (shape_in list))) (entries_at (list_key list) ms) h in
      let d = in_some (In (ShapeFault f (shape_in list))) (slice_get (entries_at (list_key list) ms) at.0) at.1 in
      let t = in_some (ShapeFault f (shape_in list)) (as_table d.0) d.2 in
      let p = shape_part (shape_in list) t.0 t.2 in (
        spot.Listed list at.0 p.0,
        of_some (λ e. IsSomeAnd (as_table e) (λ u. PartFault (shape_in list) p.0 u f)) (slice_get (entries_at (list_key list) ms) at.0) d.0 d.1
            (of_some (λ u. PartFault (shape_in list) p.0 u f) (as_table d.0) t.0 t.1 p.1),
      )

  inner : (table : MachineTable) → AtKey (table_key table) ms (In (ShapeFault f (shape_of table))) → SpotOf
  inner table h =
      let d = in_some (In (ShapeFault f (shape_of table))) (get_member (table_key table) ms) h in
      let t = in_some (ShapeFault f (shape_of table)) (as_table d.0) d.2 in
      let p = shape_part (shape_of table) t.0 t.2 in (
        spot.Inner table p.0,
        of_some (λ e. IsSomeAnd (as_table e) (λ u. PartFault (shape_of table) p.0 u f)) (get_member (table_key table) ms) d.0 d.1
            (of_some (λ u. PartFault (shape_of table) p.0 u f) (as_table d.0) t.0 t.1 p.1),
      )

  of_table : OfSomeTable (ShapeFault f) ms → SpotOf
  of_table (inl h) = let p = shape_part file_shape ms h in (spot.Own p.0, p.1)
  of_table (inr (inl h)) = inner Registers h
  of_table (inr (inr (inl h))) = listed Pages h
  of_table (inr (inr (inr (inl h)))) = listed Events h
  of_table (inr (inr (inr (inr (inl h))))) = listed Words h
  of_table (inr (inr (inr (inr (inr (inl h)))))) = inner Ioc h
  of_table (inr (inr (inr (inr (inr (inr h)))))) = inner Vidc h

  -- the value of a list's key is no list, or an entry is no table
  abbrev NoTablesAt : Option Data → Type 0
  NoTablesAt o =
      IsSomeAnd o (λ d. items_at d ≡ None)
      ⊎ ((n : ℕ) × IsSomeAnd (slice_get (unwrap_or (option_and_then items_at o) []) n) IsNoTable)

  no_items :
      (l : Option (List Data))
      → MatchOption l ⊤ (Any IsNoTable)
      ↔ ((l ≡ None) ⊎ ((n : ℕ) × IsSomeAnd (slice_get (unwrap_or l []) n) IsNoTable))
  no_items None = (λ h. inl refl, λ h. tt)
  no_items (Some ds) = (
    λ h. inr (any_index IsNoTable ds h),
    λ h. elim h [ inl none ↦ absurd (none-some ds (sym none)) | inr at ↦ index_any IsNoTable ds at.0 at.1 ],
  )

  no_tables : (o : Option Data) → IsSomeAnd o AreNoTables ↔ NoTablesAt o
  no_tables None = (λ h. absurd h, λ h. elim h [ inl n ↦ n | inr at ↦ at.1 ])
  no_tables (Some d) = no_items (items_at d)

  no_table_in : (list : MachineList) → f ≡ WrongKind → AtKey (list_key list) ms AreNoTables → SpotOf
  no_table_in list e h = elim ((no_tables (get_member (list_key list) ms)).0 h) [
    | inl none ↦ (spot.NoList list, (none, e))
    | inr at ↦ (spot.NoTable list at.0, (at.1, e))
  ]

  of_no_table : NoTables ms f → f ≡ WrongKind → SpotOf
  of_no_table (inl h) e = (spot.NoInner Registers, (h, e))
  of_no_table (inr (inl h)) e = no_table_in Pages e h
  of_no_table (inr (inr (inl h))) e = no_table_in Events e h
  of_no_table (inr (inr (inr (inl h)))) e = no_table_in Words e h
  of_no_table (inr (inr (inr (inr (inl h))))) e = (spot.NoInner Ioc, (h, e))
  of_no_table (inr (inr (inr (inr (inr h))))) e = (spot.NoInner Vidc, (h, e))

  -- ## Numbers

  abbrev entries : EntryNumber → List Data
  entries number = entries_at (list_key (number_list number)) ms

  abbrev num : EntryNumber → Data → Option ℕ
  num number = number_of_entry (number_key number)

  unmappable : f ≡ OutOfRange → IsUnmappable ms → SpotOf
  unmappable e (inl h) =
      let at = past_index (num number.Logical) _ (entries number.Logical) h.2 in
      (spot.Unmappable number.Logical at.0, ((h.0, h.1, at.1), e))
  unmappable e (inr (inl h)) =
      let at = past_index (num number.Physical) _ (entries number.Physical) h in
      (spot.Unmappable number.Physical at.0, (at.1, e))
  unmappable e (inr (inr h)) =
      let at = past_index (num number.Level) _ (entries number.Level) h in
      (spot.Unmappable number.Level at.0, (at.1, e))

  second : (number : EntryNumber) → f ≡ Twice → differs number ≡ true → are_distinct (numbers_at (number_key number) (entries number)) ≡ false → SpotOf
  second number e may h =
      let at = repeat_index (num number) (entries number) h in (spot.Second number at.0, (may, at.1, e))

  repeated : Repeated ms f → f ≡ Twice → SpotOf
  repeated (inl h) e = (spot.FlagTwice, (h, e))
  repeated (inr (inl (inl h))) e = second number.Logical e refl h
  repeated (inr (inl (inr h))) e = second number.Physical e refl h
  repeated (inr (inr (inl h))) e = second number.Step e refl h
  repeated (inr (inr (inr h))) e = second number.Address e refl h

  spot_of : TablesFault ms f → SpotOf
  spot_of (inl h) = of_table h
  spot_of (inr (inl h)) = of_no_table h.0 h.1
  spot_of (inr (inr (inl h))) = unmappable h.1 h.0
  spot_of (inr (inr (inr h))) = repeated h.0 h.1

  -- a fault has a spot
  pub fault_spot : HasMachineFault ms f → SpotOf
  fault_spot h = spot_of (from_machine_fault ms f h)

  -- ## From a spot

  in_list : (list : MachineList) → Any (In (ShapeFault f (shape_in list))) (entries_at (list_key list) ms) → TablesFault ms f
  in_list Pages h = inl (inr (inr (inl h)))
  in_list Events h = inl (inr (inr (inr (inl h))))
  in_list Words h = inl (inr (inr (inr (inr (inl h)))))

  in_inner : (table : MachineTable) → AtKey (table_key table) ms (In (ShapeFault f (shape_of table))) → TablesFault ms f
  in_inner Registers h = inl (inr (inl h))
  in_inner Ioc h = inl (inr (inr (inr (inr (inr (inl h))))))
  in_inner Vidc h = inl (inr (inr (inr (inr (inr (inr h))))))

  -- the fault of a table
  part_in : (shape : Shape) (p : Part) (d : Data) → IsSomeAnd (as_table d) (λ t. PartFault shape p t f) → In (ShapeFault f shape) d
  part_in shape p d h =
      let t = in_some (λ u. PartFault shape p u f) (as_table d) h in
      of_some (ShapeFault f shape) (as_table d) t.0 t.1 (part_shape shape p t.0 t.2)

  of_listed : (list : MachineList) (n : ℕ) (p : Part) → AtEntry list n ms (λ d. IsSomeAnd (as_table d) (λ t. PartFault (shape_in list) p t f)) → TablesFault ms f
  of_listed list n p h =
      let at = slice_get (entries_at (list_key list) ms) n in
      let d = in_some (λ d. IsSomeAnd (as_table d) (λ t. PartFault (shape_in list) p t f)) at h in
      in_list list
      (index_any (In (ShapeFault f (shape_in list))) (entries_at (list_key list) ms) n
      (of_some (In (ShapeFault f (shape_in list))) at d.0 d.1 (part_in (shape_in list) p d.0 d.2)))

  of_inner : (table : MachineTable) (p : Part) → AtKey (table_key table) ms (λ d. IsSomeAnd (as_table d) (λ t. PartFault (shape_of table) p t f)) → TablesFault ms f
  of_inner table p h =
      let d = in_some (λ d. IsSomeAnd (as_table d) (λ t. PartFault (shape_of table) p t f)) (get_member (table_key table) ms) h in
      in_inner table (of_some (In (ShapeFault f (shape_of table))) (get_member (table_key table) ms) d.0 d.1 (part_in (shape_of table) p d.0 d.2))

  of_no_inner : (table : MachineTable) → f ≡ WrongKind → AtKey (table_key table) ms IsNoTable → TablesFault ms f
  of_no_inner Registers e h = inr (inl (inl h, e))
  of_no_inner Ioc e h = inr (inl (inr (inr (inr (inr (inl h)))), e))
  of_no_inner Vidc e h = inr (inl (inr (inr (inr (inr (inr h)))), e))

  no_tables_in : (list : MachineList) → f ≡ WrongKind → AtKey (list_key list) ms AreNoTables → TablesFault ms f
  no_tables_in Pages e h = inr (inl (inr (inl h), e))
  no_tables_in Events e h = inr (inl (inr (inr (inl h)), e))
  no_tables_in Words e h = inr (inl (inr (inr (inr (inl h))), e))

  of_unmappable : (number : EntryNumber) (n : ℕ) → f ≡ OutOfRange → OfLimit number ms (λ limit. AtNumber number n ms (λ a. limit ≤ a)) → TablesFault ms f
  of_unmappable number.Logical n e h =
      inr (inr (inl (inl (h.0, h.1, index_past (num number.Logical) _ (entries number.Logical) n h.2), e)))
  of_unmappable number.Physical n e h =
      inr (inr (inl (inr (inl (index_past (num number.Physical) _ (entries number.Physical) n h)), e)))
  of_unmappable number.Level n e h =
      inr (inr (inl (inr (inr (index_past (num number.Level) _ (entries number.Level) n h)), e)))
  of_unmappable number.Step n e h = absurd h
  of_unmappable number.Address n e h = absurd h

  of_second : (number : EntryNumber) (n : ℕ) → f ≡ Twice → differs number ≡ true → AtNumber number n ms (IsAmongFirst number n ms) → TablesFault ms f
  of_second number.Logical n e may h =
      inr (inr (inr (inr (inl (inl (index_repeat (num number.Logical) (entries number.Logical) n h))), e)))
  of_second number.Physical n e may h =
      inr (inr (inr (inr (inl (inr (index_repeat (num number.Physical) (entries number.Physical) n h))), e)))
  of_second number.Level n e may h = absurd (false≢true may)
  of_second number.Step n e may h =
      inr (inr (inr (inr (inr (inl (index_repeat (num number.Step) (entries number.Step) n h))), e)))
  of_second number.Address n e may h =
      inr (inr (inr (inr (inr (inr (index_repeat (num number.Address) (entries number.Address) n h))), e)))

  of_spot : (s : MachineSpot) → IsMachineFaultAt ms s f → TablesFault ms f
  of_spot (spot.Own p) h = inl (inl (part_shape file_shape p ms h))
  of_spot spot.FlagTwice h = inr (inr (inr (inl h.0, h.1)))
  of_spot (spot.NoInner table) h = of_no_inner table h.1 h.0
  of_spot (spot.Inner table p) h = of_inner table p h
  of_spot (spot.NoList list) h =
      no_tables_in list h.1 ((no_tables (get_member (list_key list) ms)).1 (inl h.0))
  of_spot (spot.NoTable list n) h =
      no_tables_in list h.1 ((no_tables (get_member (list_key list) ms)).1 (inr (n, h.0)))
  of_spot (spot.Listed list n p) h = of_listed list n p h
  of_spot (spot.Unmappable number n) h = of_unmappable number n h.1 h.0
  of_spot (spot.Second number n) h = of_second number n h.2 h.0 h.1

  -- a spot has a fault of the document
  pub spot_fault : (s : MachineSpot) → IsMachineFaultAt ms s f → HasMachineFault ms f
  spot_fault s h = to_machine_fault ms f (of_spot s h)
