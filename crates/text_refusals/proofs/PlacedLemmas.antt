-- A fault of a document has a row in the text whose items it is of.
use Rattle.std.proofs.Common.{◌≤◌, ◌≡◌, ◌↔◌, ◌<◌, ◌==◌, ◌&&◌, ◌||◌, not, zero, suc, ℕ, Bool, true, false, List, [], ◌∷◌, ◌++◌, length, get_or, Option, Some, None, IsSomeAnd, inl, inr, refl, sym, ap, subst, ◌∙◌, arith}
use Rattle.std.specs.Prelude.{Contains, IsSome, codes, if◌then◌else◌}
use Rattle.std.specs.Cmp.Derive.{both_true}
use Rattle.std.specs.List.{slice_get}
use Rattle.std.specs.Str.{bytes_eq}
use Rattle.std.proofs.lemmas.List.Elements.{Contains-append_left, Contains-append_right}
use Rattle.std.proofs.lemmas.Bool.{false≢true}
use Rattle.std.proofs.lemmas.Option.{none-some}
use Rattle.toml.specs.Data.{Data, Members, as_table, get_member}
use Rattle.toml_reading.specs.Documents.{is_one_of, items_at}
use Rattle.toml_reading.specs.Lowest.{AtKey, IsNamed, NameFault, entries_at}
use Rattle.arm2_decode.specs.declared.names.Register.{Register}
use Rattle.asm_text.specs.Registers.{register_of}
use Rattle.toml_reading.proofs.LowestParts.{some_weaker}
use Rattle.image.specs.Labels.{NamedAddresses, address_of}
use Rattle.statement.specs.PlaceTests.{holds_of}
use Rattle.statement.proofs.SpotLemmas.{fault_spot}
use Rattle.statement.specs.Statement.{pair_at, named_leave, named_returns}
use Rattle.statement.specs.StatementFaults.{statement_faults}
use Rattle.statement.specs.StatementRules.{AddressFault, AreReversed, HasFault, IsAddress, IsAt, IsFirst, IsLast, IsMisplaced, IsReversed, IsRuleAt}
use Rattle.statement.specs.Places.{DestinationFault, GoesOn, InStretch, InTable, IsFaultAt, IsRepeatAt, PartFault, all_keys, end_of, key_name, keys_of, list_key, most_of, named_key}
use Rattle.statement.specs.declared.reading.TheConstants.{MOST_STRETCHES}
use Rattle.statement.specs.declared.faults.StatementFault.{StatementFault}
use Rattle.statement.specs.declared.faults.StatementFault.TheVariants.{OutOfRange, UnknownKey, WrongKind}
use Rattle.statement.specs.declared.spots.Key.{Key}
use Rattle.statement.specs.declared.spots.Key.TheVariants as key
use Rattle.statement.specs.declared.spots.Part.{Part}
use Rattle.statement.specs.declared.spots.Part.TheVariants.{Missing, Unknown, Value}
use Rattle.statement.specs.declared.spots.Spot.{Spot}
use Rattle.statement.specs.declared.spots.Spot.TheVariants as spot
use Rattle.statement.specs.declared.spots.TableList.{TableList}
use Rattle.statement.specs.declared.spots.TableList.TheVariants.{Loops, Targets, Accesses, Rules, Multiplies, Branches}
use Rattle.text_refusals.specs.Courses.{after, at_front, begun, entry_list, is_at_key, is_stretch_table, key_head, named_list}
use Rattle.text_refusals.specs.FaultyItems.{has_destination, has_end, has_no_list, has_no_stretch, has_no_stretches, has_no_table, has_part, has_reversed_stretch, has_second, has_unknown, has_value, is_faulty, is_hidden, is_listed, is_shown, lent, second_key, target_number}
use Rattle.text_refusals.specs.Outline.{Begins, Ends, Item, KeyValue, States, Table}
use Rattle.text_refusals.specs.Placed.{AreOf, IsEntry, IsThere, Shows, TableShows, ValueShows, placed}
use Rattle.text_refusals.specs.Nearest.{meant_text}
use Rattle.text_refusals.specs.Refused.{Limit, Row, list_names, access_limit, all_rows, apart_table_rows, branch_limit, limits, multiply_limit, reversed_rows, rows_of_limits, rule_limit, entry_rows, extra_row, extra_rows, extra_stretch_row, extra_stretch_rows, extra_table_row, first_after, header_rows, is_stretch_item, item_rows, list_rows, long_rows, loop_limit, misplaced_rows, missing_row, missing_rows, no_list_rows, no_table_rows, one_stretch_rows, past_stretches, past_stretches_rows, row_if, rows, rows_of_table, said_row, stretch_header_rows, stretch_rows, stretch_table_rows, stretches_in, table_row, table_rows, tables_in, target_limit, target_rows, unknown_rows, unwanted_rows, value_rows, value_words, value_table_rows, whole_rows}
use Rattle.text_refusals.specs.declared.course.Course.{Course}
use Rattle.text_refusals.proofs.RefusedLemmas.{one_row}

-- ## Tests and rows

or_first : (a b : Bool) → a ≡ true → (a || b) ≡ true
or_first a b e = ap (λ x. x || b) e

or_second : (a b : Bool) → b ≡ true → (a || b) ≡ true
or_second true b e = refl
or_second false b e = e

some_of : {A : Type 0} (P : A → Type 0) (o : Option A) → IsSomeAnd o P → IsSome o
some_of P None h = absurd h
some_of P (Some a) h = refl

abbrev pub HasRow : List Row → Type 0
HasRow rs = (row : Row) × Contains rs row

pub row_of_if : (b : Bool) (row : Row) → b ≡ true → HasRow (row_if b row)
row_of_if b row e = (row, subst (λ (x : Bool). Contains (row_if x row) row) (sym e) (0, omega arith, refl))

pub in_first : (xs ys : List Row) → HasRow xs → HasRow (xs ++ ys)
in_first xs ys h = (h.0, Contains-append_left xs ys h.0 h.1)

pub in_second : (xs ys : List Row) → HasRow ys → HasRow (xs ++ ys)
in_second xs ys h = (h.0, Contains-append_right xs ys h.0 h.1)

-- ## An item's rows are rows of the text

module _ (has : Spot → Bool) where
  at_index :
      (c0 : Course) (items : List Item) (c : Course) (i : Item) (k : ℕ)
      → k < length (placed c0 items)
      → get_or (placed c0 items) k (c, i) ≡ (c, i)
      → ((rest : List Item) → HasRow (item_rows has c i rest))
      → HasRow (rows has c0 items)
  at_index c0 [] c i k low is each = absurd (omega arith)
  at_index c0 (j ∷ items) c i zero low is each =
      subst HasRow (sym (one_row has c0 j items))
      (in_first (item_rows has c0 j items) (rows has (after c0 j) items)
      (subst (λ (x : Course × Item). HasRow (item_rows has x.0 x.1 items)) (sym is) (each items)))
  at_index c0 (j ∷ items) c i (suc k) low is each =
      subst HasRow (sym (one_row has c0 j items))
      (in_second (item_rows has c0 j items) (rows has (after c0 j) items)
      (at_index (after c0 j) items c i k (omega arith) is each))

-- ## Stretches apart

-- a row of an item that is one
stretch_row_of : (i : Item) → is_stretch_item i ≡ true → HasRow (past_stretches_rows i)
stretch_row_of (Begins t) e = (table_row t past_stretches [], (0, omega arith, refl))
stretch_row_of (States p) e = (said_row p past_stretches, (0, omega arith, refl))
stretch_row_of Ends e = absurd (false≢true e)

-- the first after so many
abbrev FirstOf : ℕ → List Item → Type 0
FirstOf most xs = (i : Item) × (first_after most xs ≡ Some i) × (is_stretch_item i ≡ true)

stretch_first : (most : ℕ) (items : List Item) → most < length (stretches_in items) → FirstOf most (stretches_in items)
unfolding stretches_in
stretch_first most [] low = absurd (omega arith)
stretch_first most (j ∷ items) low = by_test most (is_stretch_item j) refl low (λ m k. stretch_first m items k)
  where
    by_test :
        (m : ℕ) (b : Bool)
        → is_stretch_item j ≡ b
        → m < length (if b then j ∷ stretches_in items else stretches_in items)
        → ((k : ℕ) → k < length (stretches_in items) → FirstOf k (stretches_in items))
        → FirstOf m (if b then j ∷ stretches_in items else stretches_in items)
    by_test zero true e low later = (j, refl, e)
    by_test (suc m) true e low later = later m (omega (arith, low))
    by_test m false e low later = later m low

module _ (names : NamedAddresses) (ms : Members) (f : StatementFault) (has : Spot → Bool)
    (tells : (s : Spot) → has s ≡ true ↔ IsFaultAt (address_of names) ms s f) where
  abbrev At : Spot → Type 0
  At s = IsFaultAt (address_of names) ms s f

  found : (s : Spot) → At s → has s ≡ true
  found s h = (tells s).1 h

  -- ## Values

  own_part :
      (c : Course) (p : KeyValue) (part : Part)
      → (length p.list == 0) ≡ true
      → has (spot.Own part) ≡ true
      → has_part has c p part ≡ true
  own_part c p part own e =
      ap (λ b. if b then has (spot.Own part) else holds_of (λ x. has (spot.Listed x.0 x.1 part)) c.entry) own ∙ e

  listed_part :
      (c : Course) (p : KeyValue) (list : TableList) (n : ℕ) (part : Part)
      → (length p.list == 0) ≡ false
      → c.entry ≡ Some (list, n)
      → has (spot.Listed list n part) ≡ true
      → has_part has c p part ≡ true
  listed_part c p list n part other at e =
      ap (λ b. if b then has (spot.Own part) else holds_of (λ x. has (spot.Listed x.0 x.1 part)) c.entry) other
      ∙ (ap (holds_of (λ x. has (spot.Listed x.0 x.1 part))) at ∙ e)

  faulty_row : (c : Course) (p : KeyValue) → is_faulty has c p ≡ true → HasRow (value_rows has c p)
  faulty_row c p e = in_first (row_if (is_faulty has c p) (said_row p (value_words has c p))) (stretch_rows has c p) (row_of_if (is_faulty has c p) (said_row p (value_words has c p)) e)

  shown_faulty : (c : Course) (p : KeyValue) → is_hidden p ≡ false → is_shown has c p ≡ true → HasRow (value_rows has c p)
  shown_faulty c p hidden e =
      faulty_row c p (or_second (has_unknown has c p) (not (is_hidden p) && is_shown has c p) (both_true (ap not hidden) e))

  one_stretch_row : (c : Course) (p : KeyValue) → HasRow (one_stretch_rows has c p) → HasRow (value_rows has c p)
  one_stretch_row c p h =
      in_second (row_if (is_faulty has c p) (said_row p (value_words has c p))) (stretch_rows has c p)
      (in_second (row_if (has_no_stretches has p) (said_row p (codes " has to be a list of lists of two addresses"))) (one_stretch_rows has c p) h)

  value_shown :
      (c : Course) (p : KeyValue) (k : Key)
      → (p.depth == 0) ≡ true
      → named_key (key_head p.key) ≡ Some k
      → has_part has c p (Value k) ≡ true
      → is_shown has c p ≡ true
  value_shown c p k flat named e =
      or_first (has_value has c p) (has_no_list has p || is_listed has c p)
      (both_true flat (ap (holds_of (λ key. has_part has c p (Value key))) named ∙ e))

  listed_shown : (c : Course) (p : KeyValue) → is_listed has c p ≡ true → is_shown has c p ≡ true
  listed_shown c p e =
      or_second (has_value has c p) (has_no_list has p || is_listed has c p) (or_second (has_no_list has p) (is_listed has c p) e)

  unknown_faulty : (c : Course) (p : KeyValue) → (p.depth == 0) ≡ true → has_part has c p (Unknown (lent (key_head p.key))) ≡ true → HasRow (value_rows has c p)
  unknown_faulty c p flat e =
      faulty_row c p (or_first (has_unknown has c p) (not (is_hidden p) && is_shown has c p) (both_true flat e))

  value_faulty : (c : Course) (p : KeyValue) (s : Spot) → At s → ValueShows c p s → HasRow (value_rows has c p)
  value_faulty c p (spot.Own (Unknown k)) h v =
      unknown_faulty c p v.1
      (own_part c p (Unknown (lent (key_head p.key))) v.0
      (found (spot.Own (Unknown (lent (key_head p.key))))
      (subst (λ (w : List ℕ). IsSome (get_member w ms) × (is_one_of (keys_of None) w ≡ false) × (f ≡ UnknownKey)) (sym v.2) h)))
  value_faulty c p (spot.Own (Value k)) h v =
      shown_faulty c p v.2.1 (value_shown c p k v.1 v.2.0 (own_part c p (Value k) v.0 (found (spot.Own (Value k)) h)))
  value_faulty c p (spot.Own (Missing k)) h v = absurd v.2
  value_faulty c p (spot.Listed list n (Unknown k)) h v =
      unknown_faulty c p v.1
      (listed_part c p list n (Unknown (lent (key_head p.key))) v.0 v.2
      (found (spot.Listed list n (Unknown (lent (key_head p.key))))
      (subst
      (λ (w : List ℕ). InTable list n ms (λ t. IsSome (get_member w t) × (is_one_of (keys_of (Some list)) w ≡ false) × (f ≡ UnknownKey)))
      (sym v.3)
      h)))
  value_faulty c p (spot.Listed list n (Value k)) h v =
      shown_faulty c p v.3.1
      (value_shown c p k v.1 v.3.0 (listed_part c p list n (Value k) v.0 v.2 (found (spot.Listed list n (Value k)) h)))
  value_faulty c p (spot.Listed list n (Missing k)) h v = absurd v.3
  value_faulty c p (spot.NoList list) h v =
      shown_faulty c p v.3
      (or_second (has_value has c p) (has_no_list has p || is_listed has c p)
      (or_first (has_no_list has p) (is_listed has c p)
      (both_true v.0 (both_true v.1 (ap (holds_of (λ l. has (spot.NoList l))) v.2 ∙ found (spot.NoList list) h)))))
  value_faulty c p (spot.NoTable list n) h v =
      shown_faulty c p v.2
      (listed_shown c p
      (or_first (has_no_table has c p) (has_destination has c p || (has_end has c p || has_second has c p))
      (ap (holds_of (λ l. has (spot.NoTable l (begun l c)))) v.0
      ∙ (ap (λ m. has (spot.NoTable list m)) v.1 ∙ found (spot.NoTable list n) h))))
  value_faulty c p (spot.Destination n i) h v =
      shown_faulty c p v.3
      (listed_shown c p
      (or_second (has_no_table has c p) (has_destination has c p || (has_end has c p || has_second has c p))
      (or_first (has_destination has c p) (has_end has c p || has_second has c p)
      (both_true v.0
      (ap (λ e. holds_of (λ m. has (spot.Destination m c.destinations)) (target_number e)) v.1
      ∙ (ap (λ m. has (spot.Destination n m)) v.2 ∙ found (spot.Destination n i) h))))))
  value_faulty c p (spot.Second list n) h v =
      shown_faulty c p v.3
      (listed_shown c p
      (or_second (has_no_table has c p) (has_destination has c p || (has_end has c p || has_second has c p))
      (or_second (has_destination has c p) (has_end has c p || has_second has c p)
      (or_second (has_end has c p) (has_second has c p)
      (both_true (ap not v.0)
      (ap (holds_of (λ e. is_at_key 0 (second_key e.0) p && has (spot.Second e.0 e.1))) v.2
      ∙ both_true v.1 (found (spot.Second list n) h)))))))
  value_faulty c p spot.NoStretches h v =
      in_second (row_if (is_faulty has c p) (said_row p (value_words has c p))) (stretch_rows has c p)
      (in_first (row_if (has_no_stretches has p) (said_row p (codes " has to be a list of lists of two addresses"))) (one_stretch_rows has c p)
      (row_of_if (has_no_stretches has p) (said_row p (codes " has to be a list of lists of two addresses"))
      (both_true v.0 (both_true v.1 (both_true v.2 (found spot.NoStretches h))))))
  value_faulty c p (spot.NoStretch n) h v =
      one_stretch_row c p
      (in_first (row_if (has_no_stretch has c p) (said_row p (codes " has to be a list of two addresses"))) (row_if (has_reversed_stretch has c p) (said_row p (codes " ends before it begins")))
      (row_of_if (has_no_stretch has c p) (said_row p (codes " has to be a list of two addresses"))
      (both_true v.0 (ap (λ m. has (spot.NoStretch m)) v.1 ∙ found (spot.NoStretch n) h))))
  value_faulty c p (spot.ReversedStretch n) h v =
      one_stretch_row c p
      (in_second (row_if (has_no_stretch has c p) (said_row p (codes " has to be a list of two addresses"))) (row_if (has_reversed_stretch has c p) (said_row p (codes " ends before it begins")))
      (row_of_if (has_reversed_stretch has c p) (said_row p (codes " ends before it begins"))
      (both_true v.0 (ap (λ m. has (spot.ReversedStretch m)) v.1 ∙ found (spot.ReversedStretch n) h))))
  value_faulty c p (spot.StretchEnd n i) h v =
      shown_faulty c p v.3
      (listed_shown c p
      (or_second (has_no_table has c p) (has_destination has c p || (has_end has c p || has_second has c p))
      (or_second (has_destination has c p) (has_end has c p || has_second has c p)
      (or_first (has_end has c p) (has_second has c p)
      (both_true v.0
      (ap (λ m. has (spot.StretchEnd m c.ends)) v.1 ∙ (ap (λ m. has (spot.StretchEnd n m)) v.2 ∙ found (spot.StretchEnd n i) h)))))))
  value_faulty c p (spot.TooMany list) h v = absurd v
  value_faulty c p (spot.Misplaced n) h v = absurd v
  value_faulty c p (spot.Unwanted n) h v = absurd v
  value_faulty c p (spot.Reversed n) h v = absurd v
  value_faulty c p (spot.TooManyDestinations n) h v = absurd v
  value_faulty c p spot.TooManyStretches h v = absurd v

  -- ## Tables

  header_row : (c : Course) (t : Table) (rest : List Item) → entry_list t ≡ None → HasRow (header_rows has c t) → HasRow (table_rows has c t rest)
  header_row c t rest none h = subst (λ (o : Option TableList). HasRow (rows_of_table has c t rest o)) (sym none) h

  stretch_header_row : (c : Course) (t : Table) (rest : List Item) → entry_list t ≡ None → HasRow (stretch_header_rows has c t) → HasRow (table_rows has c t rest)
  stretch_header_row c t rest none h =
      header_row c t rest none
      (in_second (unknown_rows has t) (value_table_rows has t ++ stretch_header_rows has c t) (in_second (value_table_rows has t) (stretch_header_rows has c t) h))

  entry_row :
      (c : Course) (t : Table) (rest : List Item) (list : TableList) (n : ℕ)
      → IsEntry c t list n
      → HasRow (entry_rows has list n t rest)
      → HasRow (table_rows has c t rest)
  entry_row c t rest list n entry h =
      subst (λ (o : Option TableList). HasRow (rows_of_table has c t rest o)) (sym entry.0)
      (subst (λ (m : ℕ). HasRow (entry_rows has list m t rest)) (sym entry.1) h)

  missing_in :
      (list : TableList) (n : ℕ) (t : Table) (k : Key) (keys : List Key)
      → Contains keys k
      → has (spot.Listed list n (Missing k)) ≡ true
      → HasRow (missing_rows has list n t keys)
  missing_in list n t k keys at e = by_index keys at.0 at.1 at.2
    where
      by_index : (keys : List Key) (m : ℕ) → m < length keys → get_or keys m k ≡ k → HasRow (missing_rows has list n t keys)
      by_index [] m low is = absurd (omega arith)
      by_index (j ∷ keys) zero low is =
          in_first (missing_row has list n t j) (missing_rows has list n t keys)
          (subst (λ (x : Key). HasRow (missing_row has list n t x)) (sym is) (row_of_if (has (spot.Listed list n (Missing k))) (table_row t (codes " has no ") (key_name k)) e))
      by_index (j ∷ keys) (suc m) low is =
          in_second (missing_row has list n t j) (missing_rows has list n t keys) (by_index keys m (omega arith) is)

  in_all_keys : (k : Key) → Contains all_keys k
  in_all_keys key.Entry = (0, omega arith, refl)
  in_all_keys key.Leave = (1, omega arith, refl)
  in_all_keys key.Returns = (2, omega arith, refl)
  in_all_keys key.Header = (3, omega arith, refl)
  in_all_keys key.First = (4, omega arith, refl)
  in_all_keys key.Last = (5, omega arith, refl)
  in_all_keys key.Bound = (6, omega arith, refl)
  in_all_keys key.At = (7, omega arith, refl)
  in_all_keys key.Kind = (8, omega arith, refl)
  in_all_keys key.To = (9, omega arith, refl)
  in_all_keys key.Class = (10, omega arith, refl)
  in_all_keys key.Register = (11, omega arith, refl)
  in_all_keys key.Cycles = (12, omega arith, refl)
  in_all_keys key.Taken = (13, omega arith, refl)

  table_row_of : (c : Course) (t : Table) (rest : List Item) (s : Spot) → At s → TableShows c t s → HasRow (table_rows has c t rest)
  table_row_of c t rest (spot.Own (Unknown k)) h v =
      header_row c t rest v.0
      (in_first (unknown_rows has t) (value_table_rows has t ++ stretch_header_rows has c t)
      (row_of_if (has (spot.Own (Unknown (lent (key_head t.name))))) (table_row t (codes " is no list of statements") (meant_text list_names (key_head t.name)))
      (found (spot.Own (Unknown (lent (key_head t.name))))
      (subst (λ (w : List ℕ). IsSome (get_member w ms) × (is_one_of (keys_of None) w ≡ false) × (f ≡ UnknownKey)) (sym v.1) h))))
  table_row_of c t rest (spot.Own (Value k)) h v =
      header_row c t rest v.0
      (in_second (unknown_rows has t) (value_table_rows has t ++ stretch_header_rows has c t)
      (in_first (value_table_rows has t) (stretch_header_rows has c t)
      (in_first (no_table_rows has t) (no_list_rows has t)
      (row_of_if (holds_of (λ key. has (spot.Own (Value key))) (named_key (key_head t.name))) (table_row t (codes " may be no table") [])
      (ap (holds_of (λ key. has (spot.Own (Value key)))) v.1 ∙ found (spot.Own (Value k)) h)))))
  table_row_of c t rest (spot.Own (Missing k)) h v = absurd v.1
  table_row_of c t rest (spot.NoList list) h v =
      header_row c t rest v.0
      (in_second (unknown_rows has t) (value_table_rows has t ++ stretch_header_rows has c t)
      (in_first (value_table_rows has t) (stretch_header_rows has c t)
      (in_second (no_table_rows has t) (no_list_rows has t)
      (row_of_if (holds_of (λ l. has (spot.NoList l)) (named_list (key_head t.name))) (table_row t (codes " has to be in double brackets") [])
      (ap (holds_of (λ l. has (spot.NoList l))) v.1 ∙ found (spot.NoList list) h)))))
  table_row_of c t rest (spot.Listed list n (Unknown k)) h v = absurd v
  table_row_of c t rest (spot.Listed list n (Value k)) h v = absurd v
  table_row_of c t rest (spot.Listed list n (Missing k)) h v =
      entry_row c t rest list n v
      (in_first (missing_rows has list n t all_keys) (list_rows has list n t rest)
      (missing_in list n t k all_keys (in_all_keys k) (found (spot.Listed list n (Missing k)) h)))
  table_row_of c t rest (spot.Misplaced n) h v =
      entry_row c t rest Loops n v
      (in_second (missing_rows has Loops n t all_keys) (misplaced_rows has n t)
      (row_of_if (has (spot.Misplaced n)) (table_row t (codes " has its header outside first to last, or only one of these apart") []) (found (spot.Misplaced n) h)))
  table_row_of c t rest (spot.Unwanted n) h v =
      entry_row c t rest Targets n v
      (in_second (missing_rows has Targets n t all_keys) (target_rows has n t rest)
      (in_first (unwanted_rows has n t) (long_rows has n rest)
      (row_of_if (has (spot.Unwanted n)) (table_row t (codes " may have no to") []) (found (spot.Unwanted n) h))))
  table_row_of c t rest (spot.Reversed n) h v =
      entry_row c t rest Rules n v
      (in_second (missing_rows has Rules n t all_keys) (reversed_rows has n t)
      (row_of_if (has (spot.Reversed n)) (table_row t (codes " has its last before its first") []) (found (spot.Reversed n) h)))
  table_row_of c t rest spot.NoStretches h v =
      stretch_header_row c t rest v.0
      (in_first (apart_table_rows has t) (stretch_table_rows has c t)
      (row_of_if (bytes_eq (key_head t.name) (codes "apart") && has spot.NoStretches) (table_row t (codes " may be no table") []) (both_true v.1 (found spot.NoStretches h))))
  table_row_of c t rest (spot.NoStretch n) h v =
      stretch_header_row c t rest v.0
      (in_second (apart_table_rows has t) (stretch_table_rows has c t)
      (row_of_if (is_stretch_table t && has (spot.NoStretch c.stretches)) (table_row t (codes " may be no table") [])
      (both_true v.1 (ap (λ m. has (spot.NoStretch m)) v.2 ∙ found (spot.NoStretch n) h))))
  table_row_of c t rest spot.TooManyStretches h v = absurd v
  table_row_of c t rest (spot.StretchEnd n i) h v = absurd v
  table_row_of c t rest (spot.ReversedStretch n) h v = absurd v
  table_row_of c t rest (spot.TooManyDestinations n) h v = absurd v
  table_row_of c t rest (spot.TooMany list) h v = absurd v
  table_row_of c t rest (spot.NoTable list n) h v = absurd v
  table_row_of c t rest (spot.Destination n i) h v = absurd v
  table_row_of c t rest (spot.Second list n) h v = absurd v

  item_row : (c : Course) (i : Item) (s : Spot) → At s → Shows c i s → (rest : List Item) → HasRow (item_rows has c i rest)
  item_row c (Begins t) s h v rest = table_row_of c t rest s h v
  item_row c (States p) s h v rest = value_faulty c p s h v
  item_row c Ends s h v rest = absurd v

  -- ## The text

  module _ (items : List Item) (are : AreOf items ms) where
    shown_row : (s : Spot) → At s → IsThere ms s → HasRow (all_rows has items)
    shown_row s h there =
        let at = are.shown s there in
        in_second (whole_rows has items) (rows has at_front items)
        (at_index has at_front items at.0 at.1 at.2.0 at.2.1 at.2.2 (item_row at.0 at.1 s h at.3))

    in_table : (list : TableList) (n : ℕ) (P Q : Members → Type 0) → ((t : Members) → P t → Q t) → InTable list n ms P → InTable list n ms Q
    in_table list n P Q to h =
        some_weaker (λ d. IsSomeAnd (as_table d) P) (λ d. IsSomeAnd (as_table d) Q)
        (λ d k. some_weaker P Q to (as_table d) k)
        (slice_get (entries_at (list_key list) ms) n) h

    first_of : (most : ℕ) (ts : List Table) → most < length ts → (t : Table) × (first_after most ts ≡ Some t)
    first_of most [] low = absurd (omega arith)
    first_of zero (t ∷ ts) low = (t, refl)
    first_of (suc most) (t ∷ ts) low = first_of most ts (omega arith)

    extra_of : (limit : Limit) → At (spot.TooMany limit.list) → HasRow (extra_row has limit items)
    extra_of limit h =
        let few = are.tables limit.list in
        let many = h.0 in
        let low : most_of limit.list < length (tables_in (list_key limit.list) items) = omega arith in
        let t = first_of (most_of limit.list) (tables_in (list_key limit.list) items) low in
        subst (λ (b : Bool). HasRow (if b then extra_table_row limit (first_after (most_of limit.list) (tables_in (list_key limit.list) items)) else []))
        (sym (found (spot.TooMany limit.list) h))
        (subst (λ (o : Option Table). HasRow (extra_table_row limit o)) (sym t.1) (table_row t.0 limit.words [], (0, omega arith, refl)))

    limit_row : (ls : List Limit) (limit : Limit) → Contains ls limit → HasRow (extra_row has limit items) → HasRow (rows_of_limits has ls items)
    limit_row ls limit at h = by_index ls at.0 at.1 at.2
      where
        by_index : (ls : List Limit) (m : ℕ) → m < length ls → get_or ls m limit ≡ limit → HasRow (rows_of_limits has ls items)
        by_index [] m low is = absurd (omega arith)
        by_index (l ∷ ls) zero low is =
            in_first (extra_row has l items) (rows_of_limits has ls items)
            (subst (λ (x : Limit). HasRow (extra_row has x items)) (sym is) h)
        by_index (l ∷ ls) (suc m) low is =
            in_second (extra_row has l items) (rows_of_limits has ls items) (by_index ls m (omega arith) is)

    extra_some : (list : TableList) → At (spot.TooMany list) → HasRow (rows_of_limits has limits items)
    extra_some Loops h = limit_row limits loop_limit (0, omega arith, refl) (extra_of loop_limit h)
    extra_some Targets h = limit_row limits target_limit (1, omega arith, refl) (extra_of target_limit h)
    extra_some Accesses h = limit_row limits access_limit (2, omega arith, refl) (extra_of access_limit h)
    extra_some Rules h = limit_row limits rule_limit (3, omega arith, refl) (extra_of rule_limit h)
    extra_some Multiplies h = limit_row limits multiply_limit (4, omega arith, refl) (extra_of multiply_limit h)
    extra_some Branches h = limit_row limits branch_limit (5, omega arith, refl) (extra_of branch_limit h)

    extra_stretch_of : At spot.TooManyStretches → HasRow (extra_stretch_rows has items)
    extra_stretch_of h =
        let few = are.stretches in
        let many = h.0 in
        let low : MOST_STRETCHES < length (stretches_in items) = omega arith in
        let i = stretch_first MOST_STRETCHES items low in
        subst (λ (b : Bool). HasRow (if b then extra_stretch_row (first_after MOST_STRETCHES (stretches_in items)) else []))
        (sym (found spot.TooManyStretches h))
        (subst (λ (o : Option Item). HasRow (extra_stretch_row o)) (sym i.1) (stretch_row_of i.0 i.2))

    in_stretch : (n : ℕ) (P Q : Data × Data → Type 0) → ((e : Data × Data) → P e → Q e) → InStretch n ms P → InStretch n ms Q
    in_stretch n P Q to h =
        some_weaker (λ d. IsSomeAnd (pair_at d) P) (λ d. IsSomeAnd (pair_at d) Q)
        (λ d k. some_weaker P Q to (pair_at d) k)
        (slice_get (entries_at (codes "apart") ms) n) h

    whole_row : HasRow (whole_rows has items) → HasRow (all_rows has items)
    whole_row h = in_first (whole_rows has items) (rows has at_front items) h

    no_key : (P : Data → Type 0) (o : Option Data) → o ≡ None → IsSomeAnd o P → ⊥
    no_key P None e h = h
    no_key P (Some d) e h = none-some d (sym e)

    own_missing : (k : Key) → At (spot.Own (Missing k)) → HasRow (all_rows has items)
    own_missing key.Entry h =
        whole_row (in_first _ (extra_rows has items) (row_of_if (has (spot.Own (Missing key.Entry))) _ (found (spot.Own (Missing key.Entry)) h)))
    own_missing key.Leave h = absurd (no_key (λ d. NameFault statement_faults named_leave d f) (get_member (codes "leave") ms) h.0 h.1)
    own_missing key.Returns h = absurd (no_key (λ d. NameFault statement_faults named_returns d f) (get_member (codes "returns") ms) h.0 h.1)
    own_missing _ h = absurd h.1

    dest_there :
        (ds : List Data) (i : ℕ)
        → DestinationFault (address_of names) i ds f
        → IsSome (slice_get ds i)
    dest_there ds i (inl h) = some_of (λ d. AddressFault (address_of names) d f) (slice_get ds i) h
    dest_there ds i (inr h) = some_of (λ d. IsAddress (address_of names) d h.0.0) (slice_get ds i) h.0.1

    at_there : (o : Option Members) (a : ℕ) → IsSomeAnd o (λ t. AtKey (codes "at") t (λ e. IsAddress (address_of names) e a)) → IsSomeAnd o (λ t. IsSome (get_member (codes "at") t))
    at_there None a h = absurd h
    at_there (Some t) a h = some_of (λ e. IsAddress (address_of names) e a) (get_member (codes "at") t) h

    entry_there :
        (list : TableList) (n : ℕ)
        → IsRepeatAt (IsAt (address_of names)) (entries_at (list_key list) ms) n
        → InTable list n ms (λ t. IsSome (get_member (codes "at") t))
    entry_there list n h =
        some_weaker (λ d. IsAt (address_of names) d h.0) (λ d. IsSomeAnd (as_table d) (λ t. IsSome (get_member (codes "at") t)))
        (λ d k. at_there (as_table d) h.0 k)
        (slice_get (entries_at (list_key list) ms) n) h.1

    register_there :
        (o : Option Members) (base : Register) (a : ℕ)
        → IsSomeAnd o (λ t. AtKey (codes "register") t (λ e. IsNamed register_of e base)
        × ((first : ℕ) × (last : ℕ) × IsFirst (address_of names) t first × IsLast (address_of names) t last × (first ≤ a) × (a ≤ last)))
        → IsSomeAnd o (λ t. IsSome (get_member (codes "register") t))
    register_there None base a h = absurd h
    register_there (Some t) base a h = some_of (λ e. IsNamed register_of e base) (get_member (codes "register") t) h.0

    rule_there :
        (n : ℕ) (base : Register)
        → IsRepeatAt (IsRuleAt (address_of names) base) (entries_at (codes "base") ms) n
        → InTable Rules n ms (λ t. IsSome (get_member (codes "register") t))
    rule_there n base h =
        some_weaker (λ d. IsRuleAt (address_of names) base d h.0) (λ d. IsSomeAnd (as_table d) (λ t. IsSome (get_member (codes "register") t)))
        (λ d k. register_there (as_table d) base h.0 k)
        (slice_get (entries_at (codes "base") ms) n) h.1

    second_there : (list : TableList) (n : ℕ) → At (spot.Second list n) → IsThere ms (spot.Second list n)
    second_there Loops n h = absurd h.0
    second_there Targets n h = entry_there Targets n h.0
    second_there Accesses n h = entry_there Accesses n h.0
    second_there Rules n h = rule_there n h.0.0 h.0.1
    second_there Multiplies n h = entry_there Multiplies n h.0
    second_there Branches n h = entry_there Branches n h.0

    spot_row : (s : Spot) → At s → HasRow (all_rows has items)
    spot_row (spot.Own (Unknown k)) h = shown_row (spot.Own (Unknown k)) h h.0
    spot_row (spot.Own (Value k)) h = shown_row (spot.Own (Value k)) h h.0
    spot_row (spot.Own (Missing k)) h = own_missing k h
    spot_row (spot.NoList list) h =
        shown_row (spot.NoList list) h (some_of (λ d. (items_at d ≡ None) × (f ≡ WrongKind)) (get_member (list_key list) ms) h)
    spot_row (spot.TooMany list) h =
        whole_row (in_second _ (extra_rows has items) (in_first (rows_of_limits has limits items) (extra_stretch_rows has items) (extra_some list h)))
    spot_row (spot.NoTable list n) h =
        shown_row (spot.NoTable list n) h
        (some_weaker (λ d. (as_table d ≡ None) × (f ≡ WrongKind)) (λ d. as_table d ≡ None) (λ d k. k.0) (slice_get (entries_at (list_key list) ms) n) h)
    spot_row (spot.Listed list n (Unknown k)) h =
        shown_row (spot.Listed list n (Unknown k)) h
        (in_table list n (λ t. PartFault (address_of names) (Some list) (Unknown k) t f) (λ t. IsSome (get_member k.now t)) (λ t u. u.0) h)
    spot_row (spot.Listed list n (Value k)) h =
        shown_row (spot.Listed list n (Value k)) h
        (in_table list n (λ t. PartFault (address_of names) (Some list) (Value k) t f) (λ t. IsSome (get_member (key_name k) t)) (λ t u. u.0) h)
    spot_row (spot.Listed list n (Missing k)) h =
        shown_row (spot.Listed list n (Missing k)) h
        (in_table list n (λ t. PartFault (address_of names) (Some list) (Missing k) t f) (λ t. Unit {0}) (λ t u. tt) h)
    spot_row (spot.Misplaced n) h =
        shown_row (spot.Misplaced n) h
        (in_table Loops n (λ t. IsMisplaced (address_of names) h.0 t × (f ≡ OutOfRange)) (λ t. Unit {0}) (λ t u. tt) h.2)
    spot_row (spot.Unwanted n) h =
        shown_row (spot.Unwanted n) h
        (in_table Targets n (λ t. GoesOn false t × IsSome (get_member (codes "to") t) × (f ≡ WrongKind)) (λ t. Unit {0}) (λ t u. tt) h)
    spot_row (spot.Reversed n) h =
        shown_row (spot.Reversed n) h
        (in_table Rules n (λ t. IsReversed (address_of names) t × (f ≡ OutOfRange)) (λ t. Unit {0}) (λ t u. tt) h)
    spot_row (spot.TooManyDestinations n) h =
        absurd (are.short n
        (in_table Targets n (λ t. GoesOn true t × (64 < length (entries_at (codes "to") t)) × (f ≡ OutOfRange)) (λ t. 64 < length (entries_at (codes "to") t)) (λ t u. u.1) h))
    spot_row (spot.Destination n i) h =
        shown_row (spot.Destination n i) h
        (in_table Targets n (λ t. GoesOn true t × DestinationFault (address_of names) i (entries_at (codes "to") t) f)
        (λ t. IsSome (slice_get (entries_at (codes "to") t) i))
        (λ t u. dest_there (entries_at (codes "to") t) i u.1) h)
    spot_row spot.NoStretches h =
        shown_row spot.NoStretches h (some_of (λ d. (items_at d ≡ None) × (f ≡ WrongKind)) (get_member (codes "apart") ms) h)
    spot_row spot.TooManyStretches h =
        whole_row (in_second _ (extra_rows has items) (in_second (rows_of_limits has limits items) (extra_stretch_rows has items) (extra_stretch_of h)))
    spot_row (spot.NoStretch n) h =
        shown_row (spot.NoStretch n) h (some_of (λ d. (pair_at d ≡ None) × (f ≡ WrongKind)) (slice_get (entries_at (codes "apart") ms) n) h)
    spot_row (spot.StretchEnd n i) h =
        shown_row (spot.StretchEnd n i) h
        (in_stretch n (λ e. IsSomeAnd (end_of e i) (λ d. AddressFault (address_of names) d f)) (λ e. IsSome (end_of e i))
        (λ e u. some_of (λ d. AddressFault (address_of names) d f) (end_of e i) u) h)
    spot_row (spot.ReversedStretch n) h =
        shown_row (spot.ReversedStretch n) h
        (in_stretch n (λ e. AreReversed (address_of names) e × (f ≡ OutOfRange)) (λ e. Unit {0}) (λ e u. tt) h)
    spot_row (spot.Second list n) h = shown_row (spot.Second list n) h (second_there list n h)

    -- a fault has a row
    pub fault_row : HasFault (address_of names) ms f → HasRow (all_rows has items)
    fault_row h = let s = fault_spot (address_of names) ms f h in spot_row s.0 s.1
