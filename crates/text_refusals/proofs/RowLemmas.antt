-- A row is of a spot that has the fault.
use Rattle.std.proofs.Common.{◌≡◌, ◌<◌, ◌-◌, ◌⊎◌, ◌==◌, ◌&&◌, ◌||◌, not, zero, suc, ℕ, Bool, true, false, List, [], ◌∷◌, ◌++◌, length, get_or, Option, Some, None, inl, inr, refl, sym, ap, subst, ◌∙◌, arith}
use Rattle.std.specs.Prelude.{Contains, codes, if◌then◌else◌}
use Rattle.std.specs.Str.{bytes_eq}
use Rattle.std.proofs.lemmas.Bool.{and_parts, cases_Bool, false≢true}
use Rattle.std.proofs.lemmas.List.Elements.{Contains-append_cases}
use Rattle.std.proofs.lemmas.Option.{none-some, same_Some}
use Rattle.statement.specs.PlaceTests.{holds_of}
use Rattle.statement.specs.Places.{all_keys, key_name, list_key, most_of, named_key}
use Rattle.statement.specs.declared.entries.TheConstants.{MOST_DESTINATIONS}
use Rattle.statement.specs.declared.reading.TheConstants.{MOST_STRETCHES}
use Rattle.statement.specs.declared.spots.Key.{Key}
use Rattle.statement.specs.declared.spots.Key.TheVariants as key
use Rattle.statement.specs.declared.spots.Part.{Part}
use Rattle.statement.specs.declared.spots.Part.TheVariants.{Missing, Unknown, Value}
use Rattle.statement.specs.declared.spots.Spot.{Spot}
use Rattle.statement.specs.declared.spots.Spot.TheVariants as spot
use Rattle.statement.specs.declared.spots.TableList.{TableList}
use Rattle.statement.specs.declared.spots.TableList.TheVariants.{Loops, Targets, Accesses, Rules, Multiplies, Branches}
use Rattle.text_refusals.specs.Courses.{after, at_front, begun, entry_list, is_at_key, is_destination, is_end, is_stretch, is_stretch_table, key_head, named_list, value_list}
use Rattle.text_refusals.specs.FaultyItems.{has_destination, has_end, has_no_list, has_no_stretch, has_no_stretches, has_reversed_stretch, has_no_table, has_part, has_second, has_unknown, has_value, is_faulty, is_hidden, is_listed, is_shown, lent, second_key, target_number}
use Rattle.text_refusals.specs.Outline.{Begins, Ends, Item, KeyValue, States, Table}
use Rattle.text_refusals.specs.Placed.{IsPartOf, IsRowOf, Shows, TableShows, ValueShows, line_of, placed}
use Rattle.text_refusals.specs.Nearest.{meant_text}
use Rattle.text_refusals.specs.Refused.{Limit, Row, list_names, all_rows, apart_table_rows, extra_destination_row, extra_row, extra_rows, extra_stretch_row, extra_stretch_rows, past_stretches, past_stretches_rows, limits, rows_of_limits, extra_table_row, first_after, header_rows, item_rows, list_rows, long_rows, missing_row, missing_rows, no_list_rows, no_table_rows, one_stretch_rows, row_if, rows, rows_of_table, said_row, stated_at, stretch_header_rows, stretch_rows, stretch_table_rows, stretches_in, table_row, table_rows, tables_in, unknown_rows, unwanted_rows, value_rows, value_words, value_table_rows, whole_rows}
use Rattle.text_refusals.specs.declared.course.Course.{Course}
use Rattle.text_refusals.proofs.RefusedLemmas.{no_items, one_row}

-- ## Tests and lists

true_or : (a b : Bool) → (a || b) ≡ true → (a ≡ true) ⊎ (b ≡ true)
true_or true b e = inl refl
true_or false b e = inr e

false_of_not : (b : Bool) → not b ≡ true → b ≡ false
false_of_not true e = absurd (false≢true e)
false_of_not false e = refl

holds_some : {A : Type 0} (test : A → Bool) (o : Option A) → holds_of test o ≡ true → (a : A) × (o ≡ Some a) × (test a ≡ true)
holds_some test None e = absurd (false≢true e)
holds_some test (Some a) e = (a, refl, e)

pub in_none : {A : Type 0} (x : A) → Contains [] x → ⊥
in_none x h = let low : h.0 < 0 = h.1 in omega (arith, low)

pub in_cons : {A : Type 0} (y x : A) (xs : List A) → Contains (y ∷ xs) x → (y ≡ x) ⊎ Contains xs x
in_cons y x xs h = at h.0 h.1 h.2
  where
    at : (k : ℕ) → k < length (y ∷ xs) → get_or (y ∷ xs) k x ≡ x → (y ≡ x) ⊎ Contains xs x
    at zero low is = inl is
    at (suc k) low is = inr (k, omega arith, is)

pub in_head : {A : Type 0} (x : A) (xs : List A) → Contains (x ∷ xs) x
in_head x xs = (0, omega arith, refl)

pub in_tail : {A : Type 0} (y x : A) (xs : List A) → Contains xs x → Contains (y ∷ xs) x
in_tail y x xs h = let low : h.0 < length xs = h.1 in (suc h.0, omega (arith, low), h.2)

pub in_one : {A : Type 0} (y x : A) → Contains (y ∷ []) x → x ≡ y
in_one y x h = elim (in_cons y x [] h) [ inl is ↦ sym is | inr none ↦ absurd (in_none x none) ]

pub in_if : (b : Bool) (row r : Row) → Contains (row_if b row) r → (b ≡ true) × (r ≡ row)
in_if true row r h = (refl, in_one row r h)
in_if false row r h = absurd (in_none r h)

first_in : {A : Type 0} (most : ℕ) (xs : List A) (x : A) → first_after most xs ≡ Some x → Contains xs x
first_in zero [] x e = absurd (none-some x e)
first_in zero (y ∷ xs) x e = subst (Contains (y ∷ xs)) (same_Some y x e) (in_head y xs)
first_in (suc most) [] x e = absurd (none-some x e)
first_in (suc most) (y ∷ xs) x e = in_tail y x xs (first_in most xs x e)

stated_in : (items : List Item) (depth : ℕ) (key : List ℕ) (p : KeyValue) → Contains (stated_at depth key items) p → Contains items (States p)
unfolding stated_at
stated_in [] depth key p h = absurd (in_none p h)
stated_in (Begins t ∷ items) depth key p h = absurd (in_none p h)
stated_in (Ends ∷ items) depth key p h = absurd (in_none p h)
stated_in (States q ∷ items) depth key p h = by_test (is_at_key depth key q) h (λ k. stated_in items depth key p k)
  where
    by_test : (b : Bool) → Contains (if b then q ∷ stated_at depth key items else stated_at depth key items) p → (Contains (stated_at depth key items) p → Contains items (States p)) → Contains (States q ∷ items) (States p)
    by_test true h later = elim (in_cons q p (stated_at depth key items) h) [
      | inl is ↦ subst (λ (r : KeyValue). Contains (States q ∷ items) (States r)) is (in_head (States q) items)
      | inr more ↦ in_tail (States q) (States p) items (later more)
    ]
    by_test false h later = in_tail (States q) (States p) items (later h)

target_of : (o : Option (TableList × ℕ)) (n : ℕ) → target_number o ≡ Some n → o ≡ Some (Targets, n)
target_of None n e = absurd (none-some n e)
target_of (Some (Loops, m)) n e = absurd (none-some n e)
target_of (Some (Targets, m)) n e = ap (λ k. Some (Targets, k)) (same_Some m n e)
target_of (Some (Accesses, m)) n e = absurd (none-some n e)
target_of (Some (Rules, m)) n e = absurd (none-some n e)
target_of (Some (Multiplies, m)) n e = absurd (none-some n e)
target_of (Some (Branches, m)) n e = absurd (none-some n e)

module _ (has : Spot → Bool) where
  -- ## Values

  abbrev OfValue : Course → KeyValue → Type 0
  OfValue c p = (s : Spot) × (has s ≡ true) × ValueShows c p s

  part_sound : (c : Course) (p : KeyValue) (part : Part) → IsPartOf p part → (p.depth == 0) ≡ true → has_part has c p part ≡ true → OfValue c p
  part_sound c p part is flat e =
      let choice : (b : Bool) → Bool = λ b. if b then has (spot.Own part) else holds_of (λ x. has (spot.Listed x.0 x.1 part)) c.entry in
      elim (cases_Bool (length p.list == 0)) [
        | inl own ↦ (spot.Own part, sym (ap choice own) ∙ e, (own, flat, is))
        | inr other ↦
            let at = holds_some (λ x. has (spot.Listed x.0 x.1 part)) c.entry (sym (ap choice other) ∙ e) in
            (spot.Listed at.0.0 at.0.1 part, at.2, (other, flat, at.1, is))
      ]

  value_sound : (c : Course) (p : KeyValue) → is_faulty has c p ≡ true → OfValue c p
  value_sound c p e = elim (true_or (has_unknown has c p) (not (is_hidden p) && is_shown has c p) e) [
    | inl u ↦
        let h = and_parts (p.depth == 0) (has_part has c p (Unknown (lent (key_head p.key)))) u in
        part_sound c p (Unknown (lent (key_head p.key))) refl h.0 h.1
    | inr s ↦
        let h = and_parts (not (is_hidden p)) (is_shown has c p) s in
        of_shown (false_of_not (is_hidden p) h.0) h.1
  ]
    where
      of_listed : is_hidden p ≡ false → is_listed has c p ≡ true → OfValue c p
      of_listed hidden e = elim (true_or (has_no_table has c p) (has_destination has c p || (has_end has c p || has_second has c p)) e) [
        | inl t ↦
            let at = holds_some (λ l. has (spot.NoTable l (begun l c))) (value_list p) t in
            (spot.NoTable at.0 (begun at.0 c), at.2, (at.1, refl, hidden))
        | inr r ↦ elim (true_or (has_destination has c p) (has_end has c p || has_second has c p) r) [
          | inl d ↦
              let h = and_parts (is_destination p) (holds_of (λ n. has (spot.Destination n c.destinations)) (target_number c.entry)) d in
              let at = holds_some (λ n. has (spot.Destination n c.destinations)) (target_number c.entry) h.1 in
              (spot.Destination at.0 c.destinations, at.2, (h.0, target_of c.entry at.0 at.1, refl, hidden))
          | inr s ↦ elim (true_or (has_end has c p) (has_second has c p) s) [
            | inl d ↦
                let h = and_parts (is_end p) (has (spot.StretchEnd (c.stretches - 1) c.ends)) d in
                (spot.StretchEnd (c.stretches - 1) c.ends, h.1, (h.0, refl, refl, hidden))
            | inr t ↦
                let h = and_parts (not (length p.list == 0)) (holds_of (λ e. is_at_key 0 (second_key e.0) p && has (spot.Second e.0 e.1)) c.entry) t in
                let at = holds_some (λ e. is_at_key 0 (second_key e.0) p && has (spot.Second e.0 e.1)) c.entry h.1 in
                let k = and_parts (is_at_key 0 (second_key at.0.0) p) (has (spot.Second at.0.0 at.0.1)) at.2 in
                (spot.Second at.0.0 at.0.1, k.1, (false_of_not (length p.list == 0) h.0, k.0, at.1, hidden))
          ]
        ]
      ]

      of_shown : is_hidden p ≡ false → is_shown has c p ≡ true → OfValue c p
      of_shown hidden e = elim (true_or (has_value has c p) (has_no_list has p || is_listed has c p) e) [
        | inl v ↦
            let h = and_parts (p.depth == 0) (holds_of (λ key. has_part has c p (Value key)) (named_key (key_head p.key))) v in
            let at = holds_some (λ key. has_part has c p (Value key)) (named_key (key_head p.key)) h.1 in
            part_sound c p (Value at.0) (at.1, hidden) h.0 at.2
        | inr r ↦ elim (true_or (has_no_list has p) (is_listed has c p) r) [
          | inl n ↦
              let h = and_parts (length p.list == 0) (p.depth == 0 && holds_of (λ l. has (spot.NoList l)) (named_list (key_head p.key))) n in
              let k = and_parts (p.depth == 0) (holds_of (λ l. has (spot.NoList l)) (named_list (key_head p.key))) h.1 in
              let at = holds_some (λ l. has (spot.NoList l)) (named_list (key_head p.key)) k.1 in
              (spot.NoList at.0, at.2, (h.0, k.0, at.1, hidden))
          | inr l ↦ of_listed hidden l
        ]
      ]

  one_stretch_sound : (c : Course) (p : KeyValue) (r : Row) → Contains (one_stretch_rows has c p) r → OfValue c p × (r.line ≡ p.line)
  one_stretch_sound c p r h =
      elim (Contains-append_cases (row_if (has_no_stretch has c p) (said_row p (codes " has to be a list of two addresses"))) (row_if (has_reversed_stretch has c p) (said_row p (codes " ends before it begins"))) r h) [
        | inl u ↦
            let k = in_if (has_no_stretch has c p) (said_row p (codes " has to be a list of two addresses")) r u in
            let is = and_parts (is_stretch p) (has (spot.NoStretch c.stretches)) k.0 in
            ((spot.NoStretch c.stretches, is.1, (is.0, refl)), ap (λ (x : Row). x.line) k.1)
        | inr u ↦
            let k = in_if (has_reversed_stretch has c p) (said_row p (codes " ends before it begins")) r u in
            let is = and_parts (is_stretch p) (has (spot.ReversedStretch c.stretches)) k.0 in
            ((spot.ReversedStretch c.stretches, is.1, (is.0, refl)), ap (λ (x : Row). x.line) k.1)
      ]

  stretch_sound : (c : Course) (p : KeyValue) (r : Row) → Contains (stretch_rows has c p) r → OfValue c p × (r.line ≡ p.line)
  stretch_sound c p r h =
      elim (Contains-append_cases (row_if (has_no_stretches has p) (said_row p (codes " has to be a list of lists of two addresses"))) (one_stretch_rows has c p) r h) [
        | inl u ↦
            let k = in_if (has_no_stretches has p) (said_row p (codes " has to be a list of lists of two addresses")) r u in
            let named = bytes_eq (key_head p.key) (codes "apart") in
            let own = and_parts (length p.list == 0) (p.depth == 0 && (named && has spot.NoStretches)) k.0 in
            let flat = and_parts (p.depth == 0) (named && has spot.NoStretches) own.1 in
            let is = and_parts named (has spot.NoStretches) flat.1 in
            ((spot.NoStretches, is.1, (own.0, flat.0, is.0)), ap (λ (x : Row). x.line) k.1)
        | inr u ↦ one_stretch_sound c p r u
      ]

  rows_of_value_sound : (c : Course) (p : KeyValue) (r : Row) → Contains (value_rows has c p) r → OfValue c p × (r.line ≡ p.line)
  rows_of_value_sound c p r h = elim (Contains-append_cases (row_if (is_faulty has c p) (said_row p (value_words has c p))) (stretch_rows has c p) r h) [
    | inl u ↦ let k = in_if (is_faulty has c p) (said_row p (value_words has c p)) r u in (value_sound c p k.0, ap (λ (x : Row). x.line) k.1)
    | inr u ↦ stretch_sound c p r u
  ]

  -- ## Tables

  -- of a spot that the table shows, or that the target is too long
  abbrev OfTable : Course → Table → List Item → Row → Type 0
  OfTable c t rest r =
      (s : Spot)
      × (has s ≡ true)
      × ((TableShows c t s × (r.line ≡ t.line))
      ⊎ ((n : ℕ) × (p : KeyValue) × (s ≡ spot.TooManyDestinations n) × Contains rest (States p) × (r.line ≡ p.line)))

  stretch_header_sound : (c : Course) (t : Table) (rest : List Item) (r : Row) → entry_list t ≡ None → Contains (stretch_header_rows has c t) r → OfTable c t rest r
  stretch_header_sound c t rest r none h = elim (Contains-append_cases (apart_table_rows has t) (stretch_table_rows has c t) r h) [
    | inl u ↦
        let named = bytes_eq (key_head t.name) (codes "apart") in
        let k = in_if (named && has spot.NoStretches) (table_row t (codes " may be no table") []) r u in
        let is = and_parts named (has spot.NoStretches) k.0 in
        (spot.NoStretches, is.1, inl ((none, is.0), ap (λ (x : Row). x.line) k.1))
    | inr u ↦
        let k = in_if (is_stretch_table t && has (spot.NoStretch c.stretches)) (table_row t (codes " may be no table") []) r u in
        let is = and_parts (is_stretch_table t) (has (spot.NoStretch c.stretches)) k.0 in
        (spot.NoStretch c.stretches, is.1, inl ((none, is.0, refl), ap (λ (x : Row). x.line) k.1))
  ]

  header_sound : (c : Course) (t : Table) (rest : List Item) (r : Row) → entry_list t ≡ None → Contains (header_rows has c t) r → OfTable c t rest r
  header_sound c t rest r none h = elim (Contains-append_cases (unknown_rows has t) (value_table_rows has t ++ stretch_header_rows has c t) r h) [
    | inl u ↦
        let k = in_if (has (spot.Own (Unknown (lent (key_head t.name))))) (table_row t (codes " is no list of statements") (meant_text list_names (key_head t.name))) r u in
        (spot.Own (Unknown (lent (key_head t.name))), k.0, inl ((none, refl), ap (λ (x : Row). x.line) k.1))
    | inr w ↦ elim (Contains-append_cases (value_table_rows has t) (stretch_header_rows has c t) r w) [
      | inl v ↦ elim (Contains-append_cases (no_table_rows has t) (no_list_rows has t) r v) [
        | inl u ↦
            let k = in_if (holds_of (λ key. has (spot.Own (Value key))) (named_key (key_head t.name))) (table_row t (codes " may be no table") []) r u in
            let at = holds_some (λ key. has (spot.Own (Value key))) (named_key (key_head t.name)) k.0 in
            (spot.Own (Value at.0), at.2, inl ((none, at.1), ap (λ (x : Row). x.line) k.1))
        | inr u ↦
            let k = in_if (holds_of (λ l. has (spot.NoList l)) (named_list (key_head t.name))) (table_row t (codes " has to be in double brackets") []) r u in
            let at = holds_some (λ l. has (spot.NoList l)) (named_list (key_head t.name)) k.0 in
            (spot.NoList at.0, at.2, inl ((none, at.1), ap (λ (x : Row). x.line) k.1))
      ]
      | inr s ↦ stretch_header_sound c t rest r none s
    ]
  ]

  missing_sound : (c : Course) (t : Table) (rest : List Item) (r : Row) (list : TableList) → entry_list t ≡ Some list → (keys : List Key) → Contains (missing_rows has list (begun list c) t keys) r → OfTable c t rest r
  missing_sound c t rest r list is [] h = absurd (in_none r h)
  missing_sound c t rest r list is (k ∷ keys) h = elim (Contains-append_cases (missing_row has list (begun list c) t k) (missing_rows has list (begun list c) t keys) r h) [
    | inl m ↦
        let u = in_if (has (spot.Listed list (begun list c) (Missing k))) (table_row t (codes " has no ") (key_name k)) r m in
        (spot.Listed list (begun list c) (Missing k), u.0, inl ((is, refl), ap (λ (x : Row). x.line) u.1))
    | inr m ↦ missing_sound c t rest r list is keys m
  ]

  long_sound : (c : Course) (t : Table) (rest : List Item) (r : Row) (n : ℕ) → Contains (long_rows has n rest) r → OfTable c t rest r
  long_sound c t rest r n h = by_test (has (spot.TooManyDestinations n)) refl h
    where
      by_first : (o : Option KeyValue) → o ≡ first_after MOST_DESTINATIONS (stated_at 1 (codes "to") rest) → Contains (extra_destination_row o) r → (p : KeyValue) × Contains rest (States p) × (r.line ≡ p.line)
      by_first None is h = absurd (in_none r h)
      by_first (Some p) is h =
          (p, stated_in rest 1 (codes "to") p (first_in MOST_DESTINATIONS (stated_at 1 (codes "to") rest) p (sym is)), ap (λ (x : Row). x.line) (in_one _ r h))

      by_test : (b : Bool) → has (spot.TooManyDestinations n) ≡ b → Contains (if b then extra_destination_row (first_after MOST_DESTINATIONS (stated_at 1 (codes "to") rest)) else []) r → OfTable c t rest r
      by_test true e h =
          let p = by_first (first_after MOST_DESTINATIONS (stated_at 1 (codes "to") rest)) refl h in
          (spot.TooManyDestinations n, e, inr (n, p.0, refl, p.1, p.2))
      by_test false e h = absurd (in_none r h)

  list_sound : (c : Course) (t : Table) (rest : List Item) (r : Row) (list : TableList) → entry_list t ≡ Some list → Contains (list_rows has list (begun list c) t rest) r → OfTable c t rest r
  list_sound c t rest r Loops is h =
      let u = in_if (has (spot.Misplaced (begun Loops c))) (table_row t (codes " has its header outside first to last, or only one of these apart") []) r h in
      (spot.Misplaced (begun Loops c), u.0, inl ((is, refl), ap (λ (x : Row). x.line) u.1))
  list_sound c t rest r Targets is h = elim (Contains-append_cases (unwanted_rows has (begun Targets c) t) (long_rows has (begun Targets c) rest) r h) [
    | inl u ↦
        let k = in_if (has (spot.Unwanted (begun Targets c))) (table_row t (codes " may have no to") []) r u in
        (spot.Unwanted (begun Targets c), k.0, inl ((is, refl), ap (λ (x : Row). x.line) k.1))
    | inr l ↦ long_sound c t rest r (begun Targets c) l
  ]
  list_sound c t rest r Accesses is h = absurd (in_none r h)
  list_sound c t rest r Rules is h =
      let u = in_if (has (spot.Reversed (begun Rules c))) (table_row t (codes " has its last before its first") []) r h in
      (spot.Reversed (begun Rules c), u.0, inl ((is, refl), ap (λ (x : Row). x.line) u.1))
  list_sound c t rest r Multiplies is h = absurd (in_none r h)
  list_sound c t rest r Branches is h = absurd (in_none r h)

  table_sound : (c : Course) (t : Table) (rest : List Item) (r : Row) → Contains (table_rows has c t rest) r → OfTable c t rest r
  table_sound c t rest r h = by_list (entry_list t) refl h
    where
      by_list : (o : Option TableList) → entry_list t ≡ o → Contains (rows_of_table has c t rest o) r → OfTable c t rest r
      by_list None is h = header_sound c t rest r is h
      by_list (Some list) is h = elim (Contains-append_cases (missing_rows has list (begun list c) t all_keys) (list_rows has list (begun list c) t rest) r h) [
        | inl m ↦ missing_sound c t rest r list is all_keys m
        | inr l ↦ list_sound c t rest r list is l
      ]

  -- ## The text

  -- the row is of a spot that an item shows, by where that is
  abbrev OfItems : List (Course × Item) → List Item → Row → Type 0
  OfItems places items r =
      (s : Spot)
      × (has s ≡ true)
      × (((n : ℕ) × (p : KeyValue) × (s ≡ spot.TooManyDestinations n) × Contains items (States p) × (r.line ≡ p.line))
      ⊎ ((c : Course) × (i : Item) × Contains places (c, i) × Shows c i s × (r.line ≡ line_of i)))

  item_sound : (c : Course) (i : Item) (items : List Item) (places : List (Course × Item)) (r : Row) → Contains (item_rows has c i items) r → OfItems ((c, i) ∷ places) (i ∷ items) r
  item_sound c (Begins t) items places r h =
      let u = table_sound c t items r h in (
        u.0,
        u.1,
        elim u.2 [
          | inl s ↦ inr (c, Begins t, in_head (c, Begins t) places, s.0, s.1)
          | inr l ↦ inl (l.0, l.1, l.2, in_tail (Begins t) (States l.1) items l.3, l.4)
        ],
      )
  item_sound c (States p) items places r h =
      let u = rows_of_value_sound c p r h in
      (u.0.0, u.0.1, inr (c, States p, in_head (c, States p) places, u.0.2, u.1))
  item_sound c Ends items places r h = absurd (in_none r h)

  later : (c : Course) (i : Item) (items : List Item) (places : List (Course × Item)) (r : Row) → OfItems places items r → OfItems ((c, i) ∷ places) (i ∷ items) r
  later c i items places r u = (
    u.0,
    u.1,
    elim u.2 [
      | inl l ↦ inl (l.0, l.1, l.2, in_tail i (States l.1) items l.3, l.4)
      | inr s ↦ inr (s.0, s.1, in_tail (c, i) (s.0, s.1) places s.2, s.3, s.4)
    ],
  )

  rows_sound : (c : Course) (items : List Item) (r : Row) → Contains (rows has c items) r → OfItems (placed c items) items r
  rows_sound c [] r h = absurd (in_none r (subst (λ (rs : List Row). Contains rs r) (no_items has c) h))
  rows_sound c (i ∷ items) r h =
      elim (Contains-append_cases (item_rows has c i items) (rows has (after c i) items) r (subst (λ (rs : List Row). Contains rs r) (one_row has c i items) h)) [
        | inl u ↦ item_sound c i items (placed (after c i) items) r u
        | inr u ↦ later c i items (placed (after c i) items) r (rows_sound (after c i) items r u)
      ]

  abbrev OfText : List Item → Row → Type 0
  OfText items r = (s : Spot) × (has s ≡ true) × IsRowOf items r s

  extra_sound : (items : List Item) (r : Row) (limit : Limit) → Contains (extra_row has limit items) r → OfText items r
  extra_sound items r limit h = by_test (has (spot.TooMany limit.list)) refl h
    where
      by_first : (o : Option Table) → o ≡ first_after (most_of limit.list) (tables_in (list_key limit.list) items) → Contains (extra_table_row limit o) r → (t : Table) × Contains (tables_in (list_key limit.list) items) t × (r.line ≡ t.line)
      by_first None is h = absurd (in_none r h)
      by_first (Some t) is h =
          (t, first_in (most_of limit.list) (tables_in (list_key limit.list) items) t (sym is), ap (λ (x : Row). x.line) (in_one _ r h))

      by_test : (b : Bool) → has (spot.TooMany limit.list) ≡ b → Contains (if b then extra_table_row limit (first_after (most_of limit.list) (tables_in (list_key limit.list) items)) else []) r → OfText items r
      by_test true e h =
          let t = by_first (first_after (most_of limit.list) (tables_in (list_key limit.list) items)) refl h in
          (spot.TooMany limit.list, e, inr (inl (limit.list, t.0, refl, t.1, t.2)))
      by_test false e h = absurd (in_none r h)

  extras_sound : (items : List Item) (r : Row) (ls : List Limit) → Contains (rows_of_limits has ls items) r → OfText items r
  extras_sound items r [] h = absurd (in_none r h)
  extras_sound items r (limit ∷ ls) h = elim (Contains-append_cases (extra_row has limit items) (rows_of_limits has ls items) r h) [
    | inl u ↦ extra_sound items r limit u
    | inr v ↦ extras_sound items r ls v
  ]

  extra_stretch_sound : (items : List Item) (r : Row) → Contains (extra_stretch_rows has items) r → OfText items r
  extra_stretch_sound items r h = by_test (has spot.TooManyStretches) refl h
    where
      by_item : (i : Item) → Contains (past_stretches_rows i) r → r.line ≡ line_of i
      by_item (Begins t) h = ap (λ (x : Row). x.line) (in_one (table_row t past_stretches []) r h)
      by_item (States p) h = ap (λ (x : Row). x.line) (in_one (said_row p past_stretches) r h)
      by_item Ends h = absurd (in_none r h)

      by_first : (o : Option Item) → o ≡ first_after MOST_STRETCHES (stretches_in items) → Contains (extra_stretch_row o) r → (i : Item) × Contains (stretches_in items) i × (r.line ≡ line_of i)
      by_first None is h = absurd (in_none r h)
      by_first (Some i) is h = (i, first_in MOST_STRETCHES (stretches_in items) i (sym is), by_item i h)

      by_test : (b : Bool) → has spot.TooManyStretches ≡ b → Contains (if b then extra_stretch_row (first_after MOST_STRETCHES (stretches_in items)) else []) r → OfText items r
      by_test true e h =
          let i = by_first (first_after MOST_STRETCHES (stretches_in items)) refl h in
          (spot.TooManyStretches, e, inr (inr (inr (inl (i.0, refl, i.1, i.2)))))
      by_test false e h = absurd (in_none r h)

  all_extra_sound : (items : List Item) (r : Row) → Contains (extra_rows has items) r → OfText items r
  all_extra_sound items r h = elim (Contains-append_cases (rows_of_limits has limits items) (extra_stretch_rows has items) r h) [
    | inl u ↦ extras_sound items r limits u
    | inr u ↦ extra_stretch_sound items r u
  ]

  whole_sound : (items : List Item) (r : Row) → Contains (whole_rows has items) r → OfText items r
  whole_sound items r h = elim (Contains-append_cases (row_if (has (spot.Own (Missing key.Entry))) (record { line = 1; text = codes "the statement has no entry" })) (extra_rows has items) r h) [
    | inl u ↦
        let k = in_if (has (spot.Own (Missing key.Entry))) (record { line = 1; text = codes "the statement has no entry" }) r u in
        (spot.Own (Missing key.Entry), k.0, inl (refl, ap (λ (x : Row). x.line) k.1))
    | inr u ↦ all_extra_sound items r u
  ]

  -- a row is of a spot that has the fault
  pub row_sound : (items : List Item) (r : Row) → Contains (all_rows has items) r → OfText items r
  row_sound items r h = elim (Contains-append_cases (whole_rows has items) (rows has at_front items) r h) [
    | inl u ↦ whole_sound items r u
    | inr u ↦
        let s = rows_sound at_front items r u in (
          s.0,
          s.1,
          elim s.2 [
            | inl l ↦ inr (inr (inl l))
            | inr l ↦ inr (inr (inr (inr l)))
          ],
        )
  ]
