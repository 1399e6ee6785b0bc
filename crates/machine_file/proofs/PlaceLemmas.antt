-- What is tested at a spot of a machine file, against the fault that the document has there.
use Rattle.std.proofs.Common.{◌≡◌, ℕ, ◌<◌, ◌≤◌, ◌-◌, ◌^◌, ◌↔◌, Bool, true, false, not, ◌&&◌, leb, List, Option, Some, None, Ok, Err, IsSomeAnd, MatchOption, Any, ℤ, pos, negsuc, inl, inr, refl, sym, ap, subst, ◌∙◌, arith}
use Rattle.std.specs.Prelude.{⊤, IsTrue, codes, is_some, nat_le}
use Rattle.std.specs.List.{list_all}
use Rattle.std.specs.Option.{option_and_then}
use Rattle.std.specs.Result.{is_err, result_ok}
use Rattle.std.specs.Str.{bytes_eq}
use Rattle.std.proofs.lemmas.Bool.{eq-eqb, eqb-true, false≢true, le-leb, leb-true, lt-ltb, ltb-true, true≢false}
use Rattle.std.proofs.lemmas.Option.{same_Some}
use Rattle.std.proofs.lemmas.Slice.Eq.{bytes_eq-Decides}
use Rattle.toml.specs.Data.{Data, Members, as_integer, as_str, as_table, get_member}
use Rattle.bus_ticks.specs.Prices.{is_word_address}
use Rattle.image.specs.Image.{may_hold}
use Rattle.memc.specs.Memory.{shift_of_size}
use Rattle.memc.specs.declared.spots.PageSize.{PageSize}
use Rattle.memc.specs.declared.spots.PageSize.TheVariants.{K4}
use Rattle.toml_reading.specs.Documents.{in_space, is_one_of, items_at}
use Rattle.toml_reading.specs.Lowest.{AtKey, AtKeyOr, IsNoAddress, IsOutside, NamesNothing, entries_at, number_of_entry}
use Rattle.toml_reading.specs.Readings.{Faults, Reading}
use Rattle.toml_reading.proofs.AddressLemmas.{integer_judged}
use Rattle.toml_reading.proofs.LowestLemmas.{AnswersBy, judged_value, optional_judged}
use Rattle.toml_reading.proofs.LowestParts.{not_whole, whole_same}
use Rattle.ioc.specs.LineNames.{line_named}
use Rattle.machine_file.specs.MachineFaultRules.{AreNoRequests, IsLetterTwice, IsNoPutAddress, IsNoTable, IsOtherKind, IsOtherNumber, OfLimit, Row, Shape, file_shape}
use Rattle.machine_file.specs.MachineFaults.{machine_faults, number_of}
use Rattle.machine_file.specs.MachineFile.{Read, are_latched, is_letter, is_single, put_address_of, requests_of, size_at, size_in, size_of}
use Rattle.machine_file.specs.MachinePlaces.{AtNumber, IsAmongFirst, IsMachineFaultAt, KindFault, PartFault, differs, list_key, number_key, number_list, shape_in, shape_of, table_key}
use Rattle.machine_file.specs.MachinePlaceTests.{are_no_lines, are_other_letters, entry_at, found, has_letter_twice, holds_of, is_no_list, is_no_table, is_other_kind, is_other_number, is_outside, is_past, is_same, is_second, is_twice_text, is_unmappable, kind_gives, logical_limit, misses_one, names_no_line, number_at, part_gives, value_gives, values_give}
use Rattle.machine_file.specs.MachineRules.{IsSize, kilobytes}
use Rattle.machine_file.specs.Names.{named_mode}
use Rattle.machine_file.specs.declared.machine_faults.MachineFileFault.{MachineFileFault}
use Rattle.machine_file.specs.declared.machine_faults.MachineFileFault.TheVariants.{Memory, NotToml, UnknownKey, WrongKind, OutOfRange, Twice}
use Rattle.machine_file.specs.declared.rows.Takes.{Takes}
use Rattle.machine_file.specs.declared.rows.Takes.TheVariants.{UpTo, Address, PutAddress, Size, LatchedBits, ModeName, FlagLetters, LineNames}
use Rattle.machine_file.specs.declared.spots.EntryNumber.{EntryNumber}
use Rattle.machine_file.specs.declared.spots.EntryNumber.TheVariants as number
use Rattle.machine_file.specs.declared.spots.MachineSpot.{MachineSpot}
use Rattle.machine_file.specs.declared.spots.MachineSpot.TheVariants as spot
use Rattle.machine_file.specs.declared.spots.Part.{Part}
use Rattle.machine_file.specs.declared.spots.Part.TheVariants.{Unknown, Value, Missing}
use Rattle.machine_file.proofs.KeyFaults.{SizeFault}
use Rattle.machine_file.proofs.MachineValueLemmas.{one_rank, size_answers, size_judged}
use Rattle.machine_file.proofs.DeviceLemmas.{requests_answers}
use Rattle.machine_file.proofs.PutWordLemmas.{put_address_answers}
use Rattle.machine_file.proofs.RepeatLemmas.{repeat_is}
use Rattle.machine_file.proofs.TestLemmas.{and_is, by_way, holds_inside, holds_is, list_any_is, no_some_is, none_is, not_is, same_test}

-- ## Faults

same_is : (g f : MachineFileFault) → is_same g f ≡ true ↔ (f ≡ g)
same_is g f = (
  λ e. one_rank f g (sym (eqb-true (number_of g) (number_of f) e)),
  λ e. eq-eqb (number_of g) (number_of f) (ap number_of (sym e)),
)

-- a test beside a fault
module _ (g f : MachineFileFault) (b : Bool) (P : Type 0) (is : b ≡ true ↔ P) where
  beside : (is_same g f && b) ≡ true ↔ (P × (f ≡ g))
  beside =
      let both = and_is (is_same g f) b (same_is g f) is in
      (λ e. let h = both.0 e in (h.1, h.0), λ h. both.1 (h.1, h.0))

pub never : {P : Type 0} → (P → ⊥) → false ≡ true ↔ P
never none = (λ e. absurd (false≢true e), λ h. absurd (none h))

-- ## Values

err_is : {F A : Type 0} (fs : Faults F) (S : A → Type 0) (H : F → Type 0) (r : Reading F A) → AnswersBy fs S H r → is_err r ≡ true ↔ ((a : A) → ¬ S a)
err_is fs S H (Ok a) h = (λ e. absurd (false≢true e), λ none. absurd (none a h.0.stated))
err_is fs S H (Err g) h = (λ e. h.0, λ none. refl)

pub outside_is : (limit : ℕ) (z : ℤ) → is_outside limit z ≡ true ↔ IsOutside limit z
outside_is limit (pos m) = (
  λ e n is. subst (λ (k : ℕ). limit < k) (whole_same m n is) (ltb-true limit m e),
  λ h. lt-ltb limit m (h m refl),
)
outside_is limit (negsuc m) = (λ e n is. absurd (not_whole m n is), λ h. refl)

curried : {z : ℤ} (Q : ℕ → Type 0) → ((a : ℕ) → ¬ ((z ≡ pos a) × Q a)) ↔ ((a : ℕ) → z ≡ pos a → ¬ Q a)
curried Q = (λ h a is q. h a (is, q), λ h a p. h a p.0 p.1)

no_address_is : (z : ℤ) → is_err (in_space machine_faults z) ≡ true ↔ IsNoAddress z
no_address_is z =
    by_way
    (err_is machine_faults _ _ (in_space machine_faults z) (integer_judged machine_faults z).answers)
    (curried (λ a. IsTrue (is_word_address a)))

no_put_address_is : (z : ℤ) → is_err (put_address_of z) ≡ true ↔ IsNoPutAddress z
no_put_address_is z =
    by_way
    (err_is machine_faults _ _ (put_address_of z) (put_address_answers z).answers)
    (curried (λ a. IsTrue (may_hold a)))

no_requests_is : (z : ℤ) → is_err (requests_of z) ≡ true ↔ AreNoRequests z
no_requests_is z =
    by_way
    (err_is machine_faults _ _ (requests_of z) (requests_answers z).answers)
    (curried (λ n. IsTrue (are_latched n)))

never_of : (o : Option ℤ) → holds_of (λ z. false) o ≡ true ↔ ⊥
never_of None = never (λ h. h)
never_of (Some z) = never (λ h. h)

number_is : (takes : Takes) (d : Data) → is_other_number takes d ≡ true ↔ IsOtherNumber takes d
number_is (UpTo limit) d = holds_is (is_outside limit) (IsOutside limit) (outside_is limit) (as_integer d)
number_is Address d =
    holds_is (λ z. is_err (in_space machine_faults z)) IsNoAddress no_address_is (as_integer d)
number_is PutAddress d = holds_is (λ z. is_err (put_address_of z)) IsNoPutAddress no_put_address_is (as_integer d)
number_is Size d =
    holds_is (λ z. is_err (size_of z)) (λ z. (s : PageSize) → z ≡ pos (kilobytes s) → ⊥)
    (λ z. err_is machine_faults _ _ (size_of z) (size_answers z)) (as_integer d)
number_is LatchedBits d = holds_is (λ z. is_err (requests_of z)) AreNoRequests no_requests_is (as_integer d)
number_is ModeName d = never_of (as_integer d)
number_is FlagLetters d = never_of (as_integer d)
number_is LineNames d = never_of (as_integer d)

letters_is : (o : Option (List ℕ)) → are_other_letters o ≡ true ↔ MatchOption o ⊤ (λ text. list_all is_letter text ≡ false)
letters_is None = (λ e. tt, λ h. refl)
letters_is (Some text) = not_is (list_all is_letter text)

lines_is : (o : Option (List Data)) → are_no_lines o ≡ true ↔ MatchOption o ⊤ (Any (NamesNothing line_named))
lines_is None = (λ e. tt, λ h. refl)
lines_is (Some ds) = list_any_is names_no_line (NamesNothing line_named) (λ d. none_is (option_and_then line_named (as_str d))) ds

kind_is : (takes : Takes) (d : Data) → is_other_kind takes d ≡ true ↔ IsOtherKind takes d
kind_is (UpTo limit) d = none_is (as_integer d)
kind_is Address d = none_is (as_integer d)
kind_is PutAddress d = none_is (as_integer d)
kind_is Size d = none_is (as_integer d)
kind_is LatchedBits d = none_is (as_integer d)
kind_is ModeName d = none_is (option_and_then named_mode (as_str d))
kind_is FlagLetters d = letters_is (as_str d)
kind_is LineNames d = lines_is (items_at d)

neither : (f : MachineFileFault) (takes : Takes) (d : Data) → (f ≡ WrongKind → ⊥) → (f ≡ OutOfRange → ⊥) → false ≡ true ↔ KindFault f takes d
neither f takes d kind range = never (λ h. elim h [ inl x ↦ kind x.1 | inr x ↦ range x.1 ])

unlike : (f g : MachineFileFault) → (number_of f ≡ number_of g → ⊥) → f ≡ g → ⊥
unlike f g other e = other (ap number_of e)

value_is : (f : MachineFileFault) (takes : Takes) (d : Data) → kind_gives takes f d ≡ true ↔ KindFault f takes d
value_is WrongKind takes d =
    let is = kind_is takes d in (
      λ e. inl (is.0 e, refl),
      λ h. elim h [ inl x ↦ is.1 x.0 | inr x ↦ absurd (unlike WrongKind OutOfRange (λ e. omega (arith, e)) x.1) ],
    )
value_is OutOfRange takes d =
    let is = number_is takes d in (
      λ e. inr (is.0 e, refl),
      λ h. elim h [ inl x ↦ absurd (unlike OutOfRange WrongKind (λ e. omega (arith, e)) x.1) | inr x ↦ is.1 x.0 ],
    )
value_is Memory takes d =
    neither Memory takes d (unlike Memory WrongKind (λ e. omega (arith, e))) (unlike Memory OutOfRange (λ e. omega (arith, e)))
value_is NotToml takes d =
    neither NotToml takes d (unlike NotToml WrongKind (λ e. omega (arith, e))) (unlike NotToml OutOfRange (λ e. omega (arith, e)))
value_is UnknownKey takes d =
    neither UnknownKey takes d (unlike UnknownKey WrongKind (λ e. omega (arith, e))) (unlike UnknownKey OutOfRange (λ e. omega (arith, e)))
value_is Twice takes d =
    neither Twice takes d (unlike Twice WrongKind (λ e. omega (arith, e))) (unlike Twice OutOfRange (λ e. omega (arith, e)))

-- ## Keys

pub bytes_is : (xs ys : List ℕ) → bytes_eq xs ys ≡ true ↔ (xs ≡ ys)
bytes_is xs ys = (λ e. (bytes_eq-Decides xs ys).0 e, λ e. (bytes_eq-Decides xs ys).1 e)

values_is :
    (rows : List Row) (key : List ℕ) (ms : Members) (f : MachineFileFault)
    → values_give rows key ms f ≡ true
    ↔ Any (λ row. (row.key ≡ key) × AtKey row.key ms (KindFault f row.takes)) rows
values_is rows key ms f =
    list_any_is
    (λ row. bytes_eq row.key key && value_gives row.key row.takes ms f)
    (λ row. (row.key ≡ key) × AtKey row.key ms (KindFault f row.takes))
    (λ row. and_is (bytes_eq row.key key) (value_gives row.key row.takes ms f) (bytes_is row.key key)
    (holds_is (kind_gives row.takes f) (KindFault f row.takes) (value_is f row.takes) (get_member row.key ms)))
    rows

pub in_line : {A B C : Type 0} → (A × (B × C)) ↔ (A × B × C)
in_line = (λ h. (h.0, h.1.0, h.1.1), λ h. (h.0, (h.1, h.2)))

misses_is :
    (rows : List Row) (key : List ℕ) (ms : Members)
    → misses_one rows key ms ≡ true
    ↔ Any (λ row. (row.key ≡ key) × (row.required ≡ true) × (get_member row.key ms ≡ None)) rows
misses_is rows key ms =
    list_any_is
    (λ row. bytes_eq row.key key && (row.required && not (is_some (get_member row.key ms))))
    (λ row. (row.key ≡ key) × (row.required ≡ true) × (get_member row.key ms ≡ None))
    (λ row. by_way
    (and_is (bytes_eq row.key key) (row.required && not (is_some (get_member row.key ms))) (bytes_is row.key key)
    (and_is row.required (not (is_some (get_member row.key ms))) (same_test row.required) (no_some_is (get_member row.key ms))))
    in_line)
    rows

pub three : {A B C : Type 0} → ((A × B) × C) ↔ (A × B × C)
three = (λ h. (h.0.0, h.0.1, h.1), λ h. ((h.0, h.1), h.2))

part_is : (shape : Shape) (part : Part) (ms : Members) (f : MachineFileFault) → part_gives shape part ms f ≡ true ↔ PartFault shape part ms f
part_is shape (Unknown key) ms f =
    let b = is_one_of shape.keys key.now in
    let there = is_some (get_member key.now ms) in
    by_way
    (beside UnknownKey f (there && not b) ((there ≡ true) × (b ≡ false)) (and_is there (not b) (same_test there) (not_is b)))
    three
part_is shape (Value key) ms f = values_is shape.rows key.now ms f
part_is shape (Missing key) ms f = beside WrongKind f _ _ (misses_is shape.rows key.now ms)

-- ## Numbers

pub le_is : (m n : ℕ) → leb m n ≡ true ↔ (m ≤ n)
le_is m n = (λ e. leb-true m n e, λ h. le-leb m n h)

past_is : (number : EntryNumber) (n : ℕ) (ms : Members) (limit : ℕ) → is_past (Some limit) (number_at number n ms) ≡ true ↔ AtNumber number n ms (λ a. limit ≤ a)
past_is number n ms limit =
    holds_inside (number_of_entry (number_key number)) (nat_le limit) (λ a. limit ≤ a) (le_is limit) (entry_at (number_list number) n ms)

same_ok : (r : Read PageSize) (a b : PageSize) → r ≡ Ok a → r ≡ Ok b → a ≡ b
same_ok r a b e k = same_Some a b (sym (ap result_ok e) ∙ ap result_ok k)

no_ok : (r : Read PageSize) (g : MachineFileFault) (a : PageSize) → r ≡ Err g → r ≡ Ok a → ⊥
no_ok r g a e k = true≢false (sym (ap is_err e) ∙ ap is_err k)

logical_is :
    (r : Read PageSize) (o : Option ℕ) (P : ℕ → Type 0)
    → ((limit : ℕ) → is_past (Some limit) o ≡ true ↔ P limit)
    → is_past (logical_limit r) o ≡ true
    ↔ ((size : PageSize) × (r ≡ Ok size) × P (2 ^ (25 - shift_of_size size)))
logical_is (Ok size) o P each = (
  λ e. (size, refl, (each (2 ^ (25 - shift_of_size size))).0 e),
  λ h. (each (2 ^ (25 - shift_of_size size))).1 (subst (λ (s : PageSize). P (2 ^ (25 - shift_of_size s))) (sym (same_ok (Ok size) size h.0 refl h.1)) h.2),
)
logical_is (Err g) o P each = (λ e. absurd (false≢true e), λ h. absurd (no_ok (Err g) g h.0 refl h.1))

size_read : (ms : Members) (size : PageSize) → size_in ms ≡ Ok size ↔ AtKeyOr (codes "pages") ms (size ≡ K4) (λ d. IsSize d size)
size_read ms size =
    judged_value machine_faults (λ s. AtKeyOr (codes "pages") ms (s ≡ K4) (λ d. IsSize d s)) (λ f. AtKey (codes "pages") ms (λ d. SizeFault d f)) (size_in ms)
    (optional_judged machine_faults IsSize SizeFault size_at size_judged K4 (get_member (codes "pages") ms)) size

unmappable_is : (number : EntryNumber) (n : ℕ) (ms : Members) → is_unmappable number n ms ≡ true ↔ OfLimit number ms (λ limit. AtNumber number n ms (λ a. limit ≤ a))
unmappable_is number.Logical n ms =
    by_way
    (logical_is (size_in ms) (number_at number.Logical n ms) (λ limit. AtNumber number.Logical n ms (λ a. limit ≤ a)) (past_is number.Logical n ms))
    (λ h. (h.0, (size_read ms h.0).0 h.1, h.2), λ h. (h.0, (size_read ms h.0).1 h.1, h.2))
unmappable_is number.Physical n ms = past_is number.Physical n ms _
unmappable_is number.Level n ms = past_is number.Level n ms _
unmappable_is number.Step n ms = never (λ h. h)
unmappable_is number.Address n ms = never (λ h. h)

second_is : (number : EntryNumber) (n : ℕ) (ms : Members) → is_second number n ms ≡ true ↔ ((differs number ≡ true) × AtNumber number n ms (IsAmongFirst number n ms))
second_is number n ms =
    and_is _ _ (same_test (differs number))
    (repeat_is (number_of_entry (number_key number)) (entries_at (list_key (number_list number)) ms) n)

-- ## Spots

text_is : (o : Option (List ℕ)) → is_twice_text o ≡ true ↔ IsSomeAnd o (λ text. is_single text ≡ false)
text_is None = never (λ h. h)
text_is (Some text) = not_is (is_single text)

letter_is : (o : Option Data) → has_letter_twice o ≡ true ↔ IsSomeAnd o (λ d. IsSomeAnd (as_str d) (λ text. is_single text ≡ false))
letter_is None = never (λ h. h)
letter_is (Some d) = text_is (as_str d)

no_list_is : (o : Option Data) → is_no_list o ≡ true ↔ IsSomeAnd o (λ d. items_at d ≡ None)
no_list_is None = never (λ h. h)
no_list_is (Some d) = none_is (items_at d)

no_table_is : (o : Option Data) → is_no_table o ≡ true ↔ IsSomeAnd o IsNoTable
no_table_is None = never (λ h. h)
no_table_is (Some d) = none_is (as_table d)

pub found_is : (ms : Members) (s : MachineSpot) (f : MachineFileFault) → found ms s f ≡ true ↔ IsMachineFaultAt ms s f
found_is ms (spot.Own part) f = part_is file_shape part ms f
found_is ms spot.FlagTwice f =
    beside Twice f (has_letter_twice (get_member (codes "flags") ms)) (IsLetterTwice ms) (letter_is (get_member (codes "flags") ms))
found_is ms (spot.NoInner table) f =
    beside WrongKind f (is_no_table (get_member (table_key table) ms)) _ (no_table_is (get_member (table_key table) ms))
found_is ms (spot.Inner table part) f =
    holds_inside as_table (λ t. part_gives (shape_of table) part t f) (λ t. PartFault (shape_of table) part t f) (λ t. part_is (shape_of table) part t f) (get_member (table_key table) ms)
found_is ms (spot.NoList list) f =
    beside WrongKind f (is_no_list (get_member (list_key list) ms)) _ (no_list_is (get_member (list_key list) ms))
found_is ms (spot.NoTable list n) f =
    beside WrongKind f (is_no_table (entry_at list n ms)) _ (no_table_is (entry_at list n ms))
found_is ms (spot.Listed list n part) f =
    holds_inside as_table (λ t. part_gives (shape_in list) part t f) (λ t. PartFault (shape_in list) part t f) (λ t. part_is (shape_in list) part t f) (entry_at list n ms)
found_is ms (spot.Unmappable number n) f =
    beside OutOfRange f (is_unmappable number n ms) _ (unmappable_is number n ms)
found_is ms (spot.Second number n) f =
    by_way (beside Twice f (is_second number n ms) _ (second_is number n ms)) three
