-- What is tested at a spot, against the fault that the document has there.
use Rattle.std.proofs.Common.{◌≡◌, ◌⊎◌, ℕ, ℤ, ◌-◌, arith, ◌||◌, ◌<◌, ◌↔◌, Bool, true, false, not, ◌&&◌, eqb, ltb, List, [], length, map, Option, Some, None, Ok, Err, IsSomeAnd, MatchOption, inl, inr, refl, sym, ap, subst, ◌∙◌, option_map}
use Rattle.std.specs.Prelude.{codes, is_none, is_some, IsSome}
use Rattle.std.specs.List.{slice_get}
use Rattle.std.specs.Result.{result_ok}
use Rattle.std.proofs.Math.Bool.{and-false}
use Rattle.std.specs.Option.{option_and_then}
use Rattle.std.proofs.lemmas.Bool.{eq-eqb, eqb-true, false≢true, lt-ltb, ltb-true}
use Rattle.std.proofs.lemmas.List.{nil_from_length}
use Rattle.std.proofs.lemmas.Option.{none-some, same_Some}
use Rattle.toml.specs.Data.{Data, Members, as_integer, as_table, get_member, integer, string}
use Rattle.walks.specs.declared.limits.TheConstants.{MOST_ROUNDS}
use Rattle.toml_reading.specs.Documents.{is_one_of, items_at}
use Rattle.toml_reading.specs.Lowest.{AtKey, IsNamed, NameFault, NumberFault, entries_at}
use Rattle.toml_reading.proofs.LowestLemmas.{AnswersBy, Judges, judged_value, one_by_rank}
use Rattle.toml_reading.proofs.LowestParts.{number_in_judged}
use Rattle.image.specs.Labels.{Names}
use Rattle.statement.specs.PlaceTests.{is_second, address_of_entry, address_of_table, address_of_value, are_reversed, destination_gives, destinations_of, end_gives, ends_early, entry_at, found, gives, goes_on, has_no_destinations, holds_of, is_misplaced, is_no_list, is_no_stretch, is_no_table, is_outside, is_reversed, is_same, is_set, is_too_long, is_unwanted, key_gives, kind_goes, lies_outside, part_gives, repeats, repeats_of, stays, stretch_ends, stretch_entry, table_at}
use Rattle.statement.specs.Places.{DestinationFault, GoesOn, InTable, IsFaultAt, IsRepeatAt, IsSecond, KeyFault, PartFault, end_of, has_destinations, key_name, keys_of, list_key, most_of}
use Rattle.statement.specs.Stated.{MayStand, may_stand}
use Rattle.statement.specs.Statement.{Read, address_at, address_in, address_or, apart_in, first_in, kind_in, last_in, named_class, named_kind, named_leave, named_returns, named_taken, pair_at}
use Rattle.statement.specs.StatementFaults.{number_of, statement_faults}
use Rattle.statement.specs.StatementRules.{AddressFault, AreReversed, AreStretches, CyclesFault, IsAddress, IsAt, IsFirst, IsLast, IsMisplaced, IsReversed, NamesLabel, RequiredFault}
use Rattle.asm_text.specs.Registers.{register_of}
use Rattle.bus_ticks.specs.declared.space.TheConstants.{SPACE_END}
use Rattle.statement.specs.declared.apart.ApartStretch.{ApartStretch}
use Rattle.statement.specs.declared.faults.StatementFault.{StatementFault}
use Rattle.statement.specs.declared.faults.StatementFault.TheVariants.{OutOfRange, Twice, UnknownKey, UnknownLabel, WrongKind}
use Rattle.statement.specs.declared.spots.Key.{Key}
use Rattle.statement.specs.declared.spots.Key.TheVariants.{Entry, Leave, Returns, Header, First, Last, Bound, At, Kind, To, Class, Register as Base, Cycles, Taken}
use Rattle.statement.specs.declared.spots.Part.{Part}
use Rattle.statement.specs.declared.spots.Part.TheVariants.{Unknown, Value, Missing}
use Rattle.statement.specs.declared.spots.Spot.{Spot}
use Rattle.statement.specs.declared.spots.Spot.TheVariants as spot
use Rattle.statement.specs.declared.spots.TableList.{TableList}
use Rattle.statement.specs.declared.spots.TableList.TheVariants.{Loops, Targets, Accesses, Rules, Multiplies, Branches}
use Rattle.statement.specs.declared.stated.TargetKind.{TargetKind}
use Rattle.statement.proofs.DocumentLemmas.{fault_at, leave_judged, numbered_back, returns_judged}
use Rattle.statement.proofs.RepeatLemmas.{and_is, false_unless_none, holds_inside, holds_is, none_is, not_is, ok_is, or_is, repeat_is, same_test, true_unless_none}
use Rattle.statement.proofs.MeetLemmas.{meeting_is}
use Rattle.statement.proofs.PlacedLemmas.{stretches_judged}
use Rattle.statement.proofs.StandLemmas.{stand_is}
use Rattle.statement.proofs.RuleLemmas.{address_in_judged, address_judged, address_or_judged, word_in_judged}
use Rattle.statement.proofs.TableLemmas.{cycles_in_judged}

-- ## Faults

same_is : (g f : StatementFault) → is_same g f ≡ true ↔ (f ≡ g)
same_is g f = (
  λ e. one_by_rank statement_faults fault_at numbered_back f g (sym (eqb-true (number_of g) (number_of f) e)),
  λ e. eq-eqb (number_of g) (number_of f) (ap number_of (sym e)),
)

-- one fault at most
abbrev Single : (StatementFault → Type 0) → Type 0
Single Has = (f g : StatementFault) → Has f → Has g → f ≡ g

module _ {A : Type 0} (S : A → Type 0) (H : StatementFault → Type 0) where
  gives_by :
      (r : Read A)
      → AnswersBy statement_faults S H r
      → Single H
      → (f : StatementFault)
      → gives r f ≡ true ↔ H f
  gives_by (Ok a) h one f = (λ e. absurd (false≢true e), λ k. absurd (h.1 f k))
  gives_by (Err g) h one f =
      (λ e. subst H (sym ((same_is g f).0 e)) h.1.has, λ k. (same_is g f).1 (one f g k h.1.has))

  -- a reading with one fault at most gives the fault that there is
  gives_is :
      (r : Read A)
      → Judges statement_faults S H r
      → Single H
      → (f : StatementFault)
      → gives r f ≡ true ↔ H f
  gives_is r h one f = gives_by r h.answers one f

single_text :
    (Named Out : Type 0)
    → Single (λ f. ((¬ Named) × (f ≡ UnknownLabel)) ⊎ (Named × Out × (f ≡ OutOfRange)))
single_text Named Out f g (inl h) (inl k) = h.1 ∙ sym k.1
single_text Named Out f g (inl h) (inr k) = absurd (h.0 k.0)
single_text Named Out f g (inr h) (inl k) = absurd (k.0 h.0)
single_text Named Out f g (inr h) (inr k) = h.2 ∙ sym k.2

single_number : (o : Option ℤ) (P : ℤ → Type 0) → Single (λ f. MatchOption o (f ≡ WrongKind) (λ z. P z × (f ≡ OutOfRange)))
single_number None P f g h k = h ∙ sym k
single_number (Some z) P f g h k = h.1 ∙ sym k.1

single_required :
    (H : Data → StatementFault → Type 0)
    → ((d : Data) → Single (H d))
    → (o : Option Data)
    → Single (λ f. MatchOption o (f ≡ WrongKind) (λ d. H d f))
single_required H one None f g h k = h ∙ sym k
single_required H one (Some d) f g h k = one d f g h k

single_optional :
    (H : Data → StatementFault → Type 0)
    → ((d : Data) → Single (H d))
    → (o : Option Data)
    → Single (λ f. IsSomeAnd o (λ d. H d f))
single_optional H one None f g h k = absurd h
single_optional H one (Some d) f g h k = one d f g h k

single_name : {A : Type 0} (named : List ℕ → Option A) (d : Data) → Single (NameFault statement_faults named d)
single_name named d f g h k = h.1 ∙ sym k.1

-- ## Targets

by_kind :
    (r : Read TargetKind) (b : Bool)
    → option_map has_destinations (result_ok r) ≡ Some b
    ↔ ((kind : TargetKind) × (r ≡ Ok kind) × (has_destinations kind ≡ b))
by_kind (Ok kind) b = (
  λ e. (kind, refl, same_Some (has_destinations kind) b e),
  λ h. ap (λ k. Some (has_destinations k)) (same_Some kind h.0 (ap result_ok h.1)) ∙ ap Some h.2,
)
by_kind (Err g) b = (λ e. absurd (none-some b e), λ h. absurd (none-some h.0 (ap result_ok h.1)))

kind_is : (ms : Members) (b : Bool) → kind_goes ms ≡ Some b ↔ GoesOn b ms
kind_is ms b =
    let by = by_kind (kind_in ms) b in
    let read = λ (kind : TargetKind). judged_value statement_faults (λ k. AtKey (codes "kind") ms (λ d. IsNamed named_kind d k)) (RequiredFault (codes "kind") ms (NameFault statement_faults named_kind)) (kind_in ms) (word_in_judged named_kind (codes "kind") ms) kind in (
      λ e. let h = by.0 e in (h.0, (read h.0).0 h.1, h.2),
      λ h. by.1 (h.0, (read h.0).1 h.1, h.2),
    )

goes_on_is : (ms : Members) → goes_on ms ≡ true ↔ GoesOn true ms
goes_on_is ms =
    let some = true_unless_none (kind_goes ms) in
    let kind = kind_is ms true in
    (λ e. kind.0 (some.0 e), λ h. some.1 (kind.1 h))

stays_is : (ms : Members) → stays ms ≡ true ↔ GoesOn false ms
stays_is ms =
    let some = false_unless_none (kind_goes ms) in
    let kind = kind_is ms false in
    (λ e. kind.0 (some.0 e), λ h. some.1 (kind.1 h))

empty_is : (ds : List Data) → eqb (length ds) 0 ≡ true ↔ (ds ≡ [])
empty_is ds = (
  λ e. nil_from_length ds (eqb-true (length ds) 0 e),
  λ e. eq-eqb (length ds) 0 (ap (λ (xs : List Data). length xs) e),
)

less_is : (m n : ℕ) → ltb m n ≡ true ↔ (m < n)
less_is m n = (λ e. ltb-true m n e, λ h. lt-ltb m n h)

-- ## A test beside a fault

module _ (g f : StatementFault) (b : Bool) (P : Type 0) (is : b ≡ true ↔ P) where
  beside : (is_same g f && b) ≡ true ↔ (P × (f ≡ g))
  beside =
      let both = and_is (is_same g f) b (same_is g f) is in
      (λ e. let h = both.0 e in (h.1, h.0), λ h. both.1 (h.1, h.0))

some_beside :
    {A : Type 0} (P : A → Type 0) (f g : StatementFault) (o : Option A)
    → (IsSomeAnd o P × (f ≡ g)) ↔ IsSomeAnd o (λ a. P a × (f ≡ g))
some_beside P f g None = (λ h. h.0, λ h. absurd h)
some_beside P f g (Some a) = (λ h. h, λ h. h)

some_inside :
    {A B : Type 0} (at : A → Option B) (P : B → Type 0) (f g : StatementFault) (o : Option A)
    → (IsSomeAnd o (λ a. IsSomeAnd (at a) P) × (f ≡ g)) ↔ IsSomeAnd o (λ a. IsSomeAnd (at a) (λ b. P b × (f ≡ g)))
some_inside at P f g None = (λ h. h.0, λ h. absurd h)
some_inside at P f g (Some a) = some_beside P f g (at a)

by_way : {A B C : Type 0} → A ↔ B → B ↔ C → A ↔ C
by_way h k = (λ a. k.0 (h.0 a), λ c. h.1 (k.1 c))

module _ (names : Names) where
  -- ## Values

  single_address : (d : Data) → Single (AddressFault names d)
  single_address (integer z) f g h k = h.1 ∙ sym k.1
  single_address (string text) f g h k = single_text (NamesLabel names text) _ f g h k
  single_address _ f g h k = h ∙ sym k

  address_gives : (d : Data) (f : StatementFault) → gives (address_at names d) f ≡ true ↔ AddressFault names d f
  address_gives d f =
      gives_is (IsAddress names d) (AddressFault names d) (address_at names d) (address_judged names d) (single_address d) f

  address_key :
      (key : List ℕ) (ms : Members) (f : StatementFault)
      → gives (address_in names key ms) f ≡ true ↔ RequiredFault key ms (AddressFault names) f
  address_key key ms f =
      gives_is _ (RequiredFault key ms (AddressFault names)) (address_in names key ms) (address_in_judged names key ms)
      (single_required (AddressFault names) single_address (get_member key ms)) f

  optional_key :
      (key : List ℕ) (missing : ℕ) (ms : Members) (f : StatementFault)
      → gives (address_or names key missing ms) f ≡ true ↔ AtKey key ms (λ d. AddressFault names d f)
  optional_key key missing ms f =
      gives_is _ (λ g. AtKey key ms (λ d. AddressFault names d g)) (address_or names key missing ms) (address_or_judged names key missing ms)
      (single_optional (AddressFault names) single_address (get_member key ms)) f

  -- ## Keys

  key_is : (of : Option TableList) (key : Key) (ms : Members) (f : StatementFault) → key_gives names of key ms f ≡ true ↔ KeyFault names of key ms f
  key_is None Entry ms f = address_key (codes "entry") ms f
  key_is None Leave ms f =
      gives_is _ (λ g. AtKey (codes "leave") ms (λ d. NameFault statement_faults named_leave d g)) _ (leave_judged ms)
      (single_optional (NameFault statement_faults named_leave) (single_name named_leave) (get_member (codes "leave") ms)) f
  key_is None Returns ms f =
      gives_is _ (λ g. AtKey (codes "returns") ms (λ d. NameFault statement_faults named_returns d g)) _ (returns_judged ms)
      (single_optional (NameFault statement_faults named_returns) (single_name named_returns) (get_member (codes "returns") ms)) f
  key_is None _ ms f = (λ e. absurd (false≢true e), λ h. absurd h)
  key_is (Some Loops) Header ms f = address_key (codes "header") ms f
  key_is (Some Loops) First ms f = address_key (codes "first") ms f
  key_is (Some Loops) Last ms f = address_key (codes "last") ms f
  key_is (Some Loops) Bound ms f =
      gives_is _ (RequiredFault (codes "bound") ms (NumberFault statement_faults MOST_ROUNDS)) _ (number_in_judged statement_faults MOST_ROUNDS (codes "bound") ms)
      (single_required (NumberFault statement_faults MOST_ROUNDS) (λ d. single_number (as_integer d) _) (get_member (codes "bound") ms)) f
  key_is (Some Loops) _ ms f = (λ e. absurd (false≢true e), λ h. absurd h)
  key_is (Some Targets) At ms f = address_key (codes "at") ms f
  key_is (Some Targets) Kind ms f =
      gives_is _ (RequiredFault (codes "kind") ms (NameFault statement_faults named_kind)) _ (word_in_judged named_kind (codes "kind") ms)
      (single_required (NameFault statement_faults named_kind) (single_name named_kind) (get_member (codes "kind") ms)) f
  key_is (Some Targets) To ms f =
      let ds = entries_at (codes "to") ms in
      let none = and_is (goes_on ms) (eqb (length ds) 0) (goes_on_is ms) (empty_is ds) in
      let is = beside WrongKind f (has_no_destinations ms) (GoesOn true ms × (ds ≡ [])) none in
      (λ e. let h = is.0 e in (h.0.0, h.0.1, h.1), λ h. is.1 ((h.0, h.1), h.2))
  key_is (Some Targets) _ ms f = (λ e. absurd (false≢true e), λ h. absurd h)
  key_is (Some Accesses) At ms f = address_key (codes "at") ms f
  key_is (Some Accesses) Class ms f =
      gives_is _ (RequiredFault (codes "class") ms (NameFault statement_faults named_class)) _ (word_in_judged named_class (codes "class") ms)
      (single_required (NameFault statement_faults named_class) (single_name named_class) (get_member (codes "class") ms)) f
  key_is (Some Accesses) _ ms f = (λ e. absurd (false≢true e), λ h. absurd h)
  key_is (Some Rules) Base ms f =
      gives_is _ (RequiredFault (codes "register") ms (NameFault statement_faults register_of)) _ (word_in_judged register_of (codes "register") ms)
      (single_required (NameFault statement_faults register_of) (single_name register_of) (get_member (codes "register") ms)) f
  key_is (Some Rules) Class ms f =
      gives_is _ (RequiredFault (codes "class") ms (NameFault statement_faults named_class)) _ (word_in_judged named_class (codes "class") ms)
      (single_required (NameFault statement_faults named_class) (single_name named_class) (get_member (codes "class") ms)) f
  key_is (Some Rules) First ms f = optional_key (codes "first") 0 ms f
  key_is (Some Rules) Last ms f = optional_key (codes "last") (SPACE_END - 4) ms f
  key_is (Some Rules) _ ms f = (λ e. absurd (false≢true e), λ h. absurd h)
  key_is (Some Multiplies) At ms f = address_key (codes "at") ms f
  key_is (Some Multiplies) Cycles ms f =
      gives_is _ (RequiredFault (codes "cycles") ms CyclesFault) _ (cycles_in_judged ms)
      (single_required CyclesFault (λ d. single_number (as_integer d) _) (get_member (codes "cycles") ms)) f
  key_is (Some Multiplies) _ ms f = (λ e. absurd (false≢true e), λ h. absurd h)
  key_is (Some Branches) At ms f = address_key (codes "at") ms f
  key_is (Some Branches) Taken ms f =
      gives_is _ (RequiredFault (codes "taken") ms (NameFault statement_faults named_taken)) _ (word_in_judged named_taken (codes "taken") ms)
      (single_required (NameFault statement_faults named_taken) (single_name named_taken) (get_member (codes "taken") ms)) f
  key_is (Some Branches) _ ms f = (λ e. absurd (false≢true e), λ h. absurd h)

  part_is : (of : Option TableList) (part : Part) (ms : Members) (f : StatementFault) → part_gives names of part ms f ≡ true ↔ PartFault names of part ms f
  part_is of (Unknown key) ms f =
      let b = is_one_of (keys_of of) key.now in
      let there = is_some (get_member key.now ms) in
      let both = and_is there (not b) (same_test there) (not_is b) in
      let is = beside UnknownKey f (there && not b) ((there ≡ true) × (b ≡ false)) both in
      (λ e. let h = is.0 e in (h.0.0, h.0.1, h.1), λ h. is.1 ((h.0, h.1), h.2))
  part_is of (Value key) ms f =
      let there = is_some (get_member (key_name key) ms) in
      and_is there (key_gives names of key ms f) (same_test there) (key_is of key ms f)
  part_is of (Missing key) ms f =
      and_is (is_none (get_member (key_name key) ms)) (key_gives names of key ms f) (none_is (get_member (key_name key) ms)) (key_is of key ms f)

  -- ## Loops

  abbrev LiesOutside : List ApartStretch → Read ℕ → Read ℕ → Read ℕ → Type 0
  LiesOutside apart r s t =
      (first : ℕ) × (last : ℕ) × (header : ℕ) × (r ≡ Ok first) × (s ≡ Ok last) × (t ≡ Ok header) × ¬ MayStand apart first header last

  no_value : {A : Type 0} (g : StatementFault) (a : A) → Err g ≡ Ok a → ⊥
  no_value g a e = none-some a (ap result_ok e)

  not_standing : (b : Bool) (P : Type 0) → b ≡ true ↔ P → not b ≡ true ↔ (¬ P)
  not_standing true P is = (λ e. absurd (false≢true e), λ n. absurd (n (is.0 refl)))
  not_standing false P is = (λ e p. false≢true (is.1 p), λ n. refl)

  outside_by : (apart : List ApartStretch) (r s t : Read ℕ) → lies_outside apart r s t ≡ true ↔ LiesOutside apart r s t
  outside_by apart (Ok first) (Ok last) (Ok header) =
      let is = not_standing (may_stand apart first header last) (MayStand apart first header last) (stand_is apart first header last) in (
        λ e. (first, last, header, refl, refl, refl, is.0 e),
        λ h. is.1 (
            subst (λ (y : ℕ). ¬ MayStand apart y header last) (sym (same_Some first h.0 (ap result_ok h.3)))
            (subst (λ (y : ℕ). ¬ MayStand apart h.0 y last) (sym (same_Some header h.2 (ap result_ok h.5)))
            (subst (λ (y : ℕ). ¬ MayStand apart h.0 h.2 y) (sym (same_Some last h.1 (ap result_ok h.4))) h.6))),
      )
  outside_by apart (Ok first) (Ok last) (Err g) = (λ e. absurd (false≢true e), λ h. absurd (no_value g h.2 h.5))
  outside_by apart (Ok first) (Err g) t = (λ e. absurd (false≢true e), λ h. absurd (no_value g h.1 h.4))
  outside_by apart (Err g) s t = (λ e. absurd (false≢true e), λ h. absurd (no_value g h.0 h.3))

  address_read :
      (key : List ℕ) (ms : Members) (a : ℕ)
      → address_in names key ms ≡ Ok a ↔ AtKey key ms (λ d. IsAddress names d a)
  address_read key ms a =
      judged_value statement_faults (λ b. AtKey key ms (λ d. IsAddress names d b)) (RequiredFault key ms (AddressFault names)) (address_in names key ms) (address_in_judged names key ms) a

  outside_is : (apart : List ApartStretch) (ms : Members) → is_outside names apart ms ≡ true ↔ IsMisplaced names apart ms
  outside_is apart ms =
      let by = outside_by apart (address_in names (codes "first") ms) (address_in names (codes "last") ms) (address_in names (codes "header") ms) in (
        λ e. let h = by.0 e in (h.0, h.1, h.2, (address_read (codes "first") ms h.0).0 h.3, (address_read (codes "last") ms h.1).0 h.4, (address_read (codes "header") ms h.2).0 h.5, h.6),
        λ h. by.1 (h.0, h.1, h.2, (address_read (codes "first") ms h.0).1 h.3, (address_read (codes "last") ms h.1).1 h.4, (address_read (codes "header") ms h.2).1 h.5, h.6),
      )

  -- ## Rules

  abbrev EndsEarly : Read ℕ → Read ℕ → Type 0
  EndsEarly r s = (first : ℕ) × (last : ℕ) × (r ≡ Ok first) × (s ≡ Ok last) × (last < first)

  early_by : (r s : Read ℕ) → ends_early r s ≡ true ↔ EndsEarly r s
  early_by (Ok first) (Ok last) = (
    λ e. (first, last, refl, refl, ltb-true last first e),
    λ h.
        let is_first = same_Some first h.0 (ap result_ok h.2) in
        let is_last = same_Some last h.1 (ap result_ok h.3) in
        let low = h.4 in
        lt-ltb last first (omega arith),
  )
  early_by (Ok first) (Err g) = (λ e. absurd (false≢true e), λ h. absurd (no_value g h.1 h.3))
  early_by (Err g) s = (λ e. absurd (false≢true e), λ h. absurd (no_value g h.0 h.2))

  first_read : (ms : Members) (a : ℕ) → first_in names ms ≡ Ok a ↔ IsFirst names ms a
  first_read ms a =
      judged_value statement_faults (IsFirst names ms) (λ f. AtKey (codes "first") ms (λ d. AddressFault names d f)) (first_in names ms) (address_or_judged names (codes "first") 0 ms) a

  last_read : (ms : Members) (a : ℕ) → last_in names ms ≡ Ok a ↔ IsLast names ms a
  last_read ms a =
      judged_value statement_faults (IsLast names ms) (λ f. AtKey (codes "last") ms (λ d. AddressFault names d f)) (last_in names ms) (address_or_judged names (codes "last") (SPACE_END - 4) ms) a

  reversed_is : (ms : Members) → is_reversed names ms ≡ true ↔ IsReversed names ms
  reversed_is ms =
      let by = early_by (first_in names ms) (last_in names ms) in (
        λ e. let h = by.0 e in (h.0, h.1, (first_read ms h.0).0 h.2, (last_read ms h.1).0 h.3, h.4),
        λ h. by.1 (h.0, h.1, (first_read ms h.0).1 h.2, (last_read ms h.1).1 h.3, h.4),
      )

  -- ## Repeats

  value_number : (d : Data) (a : ℕ) → address_of_value names d ≡ Some a ↔ IsAddress names d a
  value_number d a =
      by_way (ok_is (address_at names d) a) (judged_value statement_faults (IsAddress names d) (AddressFault names d) (address_at names d) (address_judged names d) a)

  entry_by :
      (o : Option Members) (a : ℕ)
      → option_and_then (address_of_table names) o ≡ Some a
      ↔ IsSomeAnd o (λ ms. AtKey (codes "at") ms (λ e. IsAddress names e a))
  entry_by None a = (λ e. absurd (none-some a e), λ h. absurd h)
  entry_by (Some ms) a = by_way (ok_is (address_in names (codes "at") ms) a) (address_read (codes "at") ms a)

  entry_number : (d : Data) (a : ℕ) → address_of_entry names d ≡ Some a ↔ IsAt names d a
  entry_number d a = entry_by (as_table d) a

  entry_repeat :
      (key : List ℕ) (ms : Members) (n : ℕ)
      → is_set (repeats (map (address_of_entry names) (entries_at key ms))) n ≡ true
      ↔ IsRepeatAt (IsAt names) (entries_at key ms) n
  entry_repeat key ms n = repeat_is (IsAt names) (address_of_entry names) entry_number (entries_at key ms) n

  second_is : (list : TableList) (n : ℕ) (ms : Members) → is_second names list n ms ≡ true ↔ IsSecond names list n ms
  second_is Loops n ms = (λ e. absurd (false≢true e), λ h. absurd h)
  second_is Targets n ms = entry_repeat (codes "target") ms n
  second_is Accesses n ms = entry_repeat (codes "access") ms n
  second_is Rules n ms = meeting_is names (entries_at (codes "base") ms) n
  second_is Multiplies n ms = entry_repeat (codes "multiply") ms n
  second_is Branches n ms = entry_repeat (codes "branch") ms n

  -- ## Destinations

  destination_by :
      (i : ℕ) (f : StatementFault) (o : Option Members)
      → (holds_of (λ table. destination_gives names i table f) o || (is_same Twice f && (holds_of goes_on o && is_set (repeats (map (address_of_value names) (destinations_of o))) i))) ≡ true
      ↔ IsSomeAnd o (λ table. GoesOn true table × DestinationFault names i (entries_at (codes "to") table) f)
  destination_by i f None = (
    λ e. absurd (false≢true (sym (and-false (is_same Twice f)) ∙ e)),
    λ h. absurd h,
  )
  destination_by i f (Some table) =
      let ds = entries_at (codes "to") table in
      let at = slice_get ds i in
      let value = holds_is (λ d. gives (address_at names d) f) (λ d. AddressFault names d f) (λ d. address_gives d f) at in
      let goes = goes_on_is table in
      let there = and_is (goes_on table) (holds_of (λ d. gives (address_at names d) f) at) goes value in
      let again = repeat_is (IsAddress names) (address_of_value names) value_number ds i in
      let second = and_is (goes_on table) (is_set (repeats (map (address_of_value names) ds)) i) goes again in
      let twice = beside Twice f _ _ second in
      let either = or_is _ _ there twice in (
        λ e. elim (either.0 e) [ inl h ↦ (h.0, inl h.1) | inr h ↦ (h.0.0, inr (h.0.1, h.1)) ],
        λ h. either.1 (elim h.1 [ inl v ↦ inl (h.0, v) | inr t ↦ inr ((h.0, t.0), t.1) ]),
      )

  destination_in :
      (i : ℕ) (f : StatementFault) (o : Option Data)
      → (holds_of (λ table. destination_gives names i table f) (option_and_then as_table o) || (is_same Twice f && (holds_of goes_on (option_and_then as_table o) && is_set (repeats_of names o) i))) ≡ true
      ↔ IsSomeAnd o (λ d. IsSomeAnd (as_table d) (λ table. GoesOn true table × DestinationFault names i (entries_at (codes "to") table) f))
  destination_in i f None = (
    λ e. absurd (false≢true (sym (and-false (is_same Twice f)) ∙ e)),
    λ h. absurd h,
  )
  destination_in i f (Some d) = destination_by i f (as_table d)

  -- ## Spots

  no_list_is : (o : Option Data) → is_no_list o ≡ true ↔ IsSomeAnd o (λ d. items_at d ≡ None)
  no_list_is None = (λ e. absurd (false≢true e), λ h. absurd h)
  no_list_is (Some d) = none_is (items_at d)

  no_table_is : (o : Option Data) → is_no_table o ≡ true ↔ IsSomeAnd o (λ d. as_table d ≡ None)
  no_table_is None = (λ e. absurd (false≢true e), λ h. absurd h)
  no_table_is (Some d) = none_is (as_table d)

  in_table :
      (list : TableList) (n : ℕ) (ms : Members) (g f : StatementFault) (test : Members → Bool) (P : Members → Type 0)
      → ((t : Members) → test t ≡ true ↔ P t)
      → (is_same g f && holds_of test (table_at list n ms)) ≡ true ↔ InTable list n ms (λ t. P t × (f ≡ g))
  in_table list n ms g f test P each =
      by_way
      (beside g f (holds_of test (table_at list n ms)) _ (holds_inside as_table test P each (entry_at list n ms)))
      (some_inside as_table P f g (entry_at list n ms))

  unwanted_is : (ms : Members) → is_unwanted ms ≡ true ↔ (GoesOn false ms × IsSome (get_member (codes "to") ms))
  unwanted_is ms =
      and_is (stays ms) (is_some (get_member (codes "to") ms)) (stays_is ms) (same_test (is_some (get_member (codes "to") ms)))

  long_is : (ms : Members) → is_too_long ms ≡ true ↔ (GoesOn true ms × (64 < length (entries_at (codes "to") ms)))
  long_is ms =
      and_is (goes_on ms) (ltb 64 (length (entries_at (codes "to") ms))) (goes_on_is ms) (less_is 64 (length (entries_at (codes "to") ms)))

  three : {A B C : Type 0} → ((A × B) × C) ↔ (A × B × C)
  three = (λ h. (h.0.0, h.0.1, h.1), λ h. ((h.0, h.1), h.2))

  three_inside :
      {A B : Type 0} (at : A → Option B) (P Q : B → Type 0) (R : Type 0) (o : Option A)
      → IsSomeAnd o (λ a. IsSomeAnd (at a) (λ b. (P b × Q b) × R)) ↔ IsSomeAnd o (λ a. IsSomeAnd (at a) (λ b. P b × Q b × R))
  three_inside at P Q R None = (λ h. absurd h, λ h. absurd h)
  three_inside at P Q R (Some a) = by_value (at a)
    where
      by_value : (o : Option _) → IsSomeAnd o (λ b. (P b × Q b) × R) ↔ IsSomeAnd o (λ b. P b × Q b × R)
      by_value None = (λ h. absurd h, λ h. absurd h)
      by_value (Some b) = three

  -- ## Stretches apart

  no_stretch_is : (o : Option Data) → is_no_stretch o ≡ true ↔ IsSomeAnd o (λ d. pair_at d ≡ None)
  no_stretch_is None = (λ e. absurd (false≢true e), λ h. absurd h)
  no_stretch_is (Some d) = none_is (pair_at d)

  end_is : (i : ℕ) (ends : Data × Data) (f : StatementFault) → end_gives names i ends f ≡ true ↔ IsSomeAnd (end_of ends i) (λ d. AddressFault names d f)
  end_is i ends f = holds_is (λ d. gives (address_at names d) f) (λ d. AddressFault names d f) (λ d. address_gives d f) (end_of ends i)

  value_read : (d : Data) (a : ℕ) → address_at names d ≡ Ok a ↔ IsAddress names d a
  value_read d a = judged_value statement_faults (IsAddress names d) (AddressFault names d) (address_at names d) (address_judged names d) a

  reversed_ends : (ends : Data × Data) → are_reversed names ends ≡ true ↔ AreReversed names ends
  reversed_ends ends =
      let by = early_by (address_at names ends.0) (address_at names ends.1) in (
        λ e. let h = by.0 e in (h.0, h.1, (value_read ends.0 h.0).0 h.2, (value_read ends.1 h.1).0 h.3, h.4),
        λ h. by.1 (h.0, h.1, (value_read ends.0 h.0).1 h.2, (value_read ends.1 h.1).1 h.3, h.4),
      )

  stretches_read : (ms : Members) (apart : List ApartStretch) → apart_in names ms ≡ Ok apart ↔ AreStretches names ms apart
  stretches_read ms apart = judged_value statement_faults (AreStretches names ms) _ (apart_in names ms) (stretches_judged names ms) apart

  -- a header outside first to last, by the stretches that are read
  misplaced_by :
      (n : ℕ) (ms : Members) (f : StatementFault) (r : Read (List ApartStretch))
      → ((apart : List ApartStretch) → r ≡ Ok apart ↔ AreStretches names ms apart)
      → (is_same OutOfRange f && is_misplaced names (result_ok r) n ms) ≡ true
      ↔ ((apart : List ApartStretch) × AreStretches names ms apart × InTable Loops n ms (λ t. IsMisplaced names apart t × (f ≡ OutOfRange)))
  misplaced_by n ms f (Ok apart) read =
      let by = in_table Loops n ms OutOfRange f (is_outside names apart) (IsMisplaced names apart) (outside_is apart) in (
        λ e. (apart, (read apart).0 refl, by.0 e),
        λ h. by.1 (subst (λ (a : List ApartStretch). InTable Loops n ms (λ t. IsMisplaced names a t × (f ≡ OutOfRange))) (sym (same_Some apart h.0 (ap result_ok ((read h.0).1 h.1)))) h.2),
      )
  misplaced_by n ms f (Err g) read =
      (λ e. absurd (false≢true (sym (and-false (is_same OutOfRange f)) ∙ e)), λ h. absurd (no_value g h.0 ((read h.0).1 h.1)))

  pub found_is : (ms : Members) (s : Spot) (f : StatementFault) → found names ms s f ≡ true ↔ IsFaultAt names ms s f
  found_is ms (spot.Own part) f = part_is None part ms f
  found_is ms (spot.NoList list) f =
      by_way
      (beside WrongKind f (is_no_list (get_member (list_key list) ms)) _ (no_list_is (get_member (list_key list) ms)))
      (some_beside (λ d. items_at d ≡ None) f WrongKind (get_member (list_key list) ms))
  found_is ms (spot.TooMany list) f =
      beside OutOfRange f _ _ (less_is (most_of list) (length (entries_at (list_key list) ms)))
  found_is ms (spot.NoTable list n) f =
      by_way
      (beside WrongKind f (is_no_table (entry_at list n ms)) _ (no_table_is (entry_at list n ms)))
      (some_beside (λ d. as_table d ≡ None) f WrongKind (entry_at list n ms))
  found_is ms (spot.Listed list n part) f =
      holds_inside as_table (λ t. part_gives names (Some list) part t f) (λ t. PartFault names (Some list) part t f) (λ t. part_is (Some list) part t f) (entry_at list n ms)
  found_is ms (spot.Misplaced n) f = misplaced_by n ms f (apart_in names ms) (stretches_read ms)
  found_is ms (spot.Unwanted n) f =
      by_way
      (in_table Targets n ms WrongKind f is_unwanted (λ t. GoesOn false t × IsSome (get_member (codes "to") t)) unwanted_is)
      (three_inside as_table (GoesOn false) (λ t. IsSome (get_member (codes "to") t)) (f ≡ WrongKind) (entry_at Targets n ms))
  found_is ms (spot.TooManyDestinations n) f =
      by_way
      (in_table Targets n ms OutOfRange f is_too_long (λ t. GoesOn true t × (64 < length (entries_at (codes "to") t))) long_is)
      (three_inside as_table (GoesOn true) (λ t. 64 < length (entries_at (codes "to") t)) (f ≡ OutOfRange) (entry_at Targets n ms))
  found_is ms (spot.Destination n i) f = destination_in i f (entry_at Targets n ms)
  found_is ms (spot.Reversed n) f = in_table Rules n ms OutOfRange f (is_reversed names) (IsReversed names) reversed_is
  found_is ms spot.NoStretches f =
      by_way
      (beside WrongKind f (is_no_list (get_member (codes "apart") ms)) _ (no_list_is (get_member (codes "apart") ms)))
      (some_beside (λ d. items_at d ≡ None) f WrongKind (get_member (codes "apart") ms))
  found_is ms spot.TooManyStretches f = beside OutOfRange f _ _ (less_is 256 (length (entries_at (codes "apart") ms)))
  found_is ms (spot.NoStretch n) f =
      by_way
      (beside WrongKind f (is_no_stretch (stretch_entry n ms)) _ (no_stretch_is (stretch_entry n ms)))
      (some_beside (λ d. pair_at d ≡ None) f WrongKind (stretch_entry n ms))
  found_is ms (spot.StretchEnd n i) f =
      holds_inside pair_at (λ ends. end_gives names i ends f) (λ ends. IsSomeAnd (end_of ends i) (λ d. AddressFault names d f)) (λ ends. end_is i ends f) (stretch_entry n ms)
  found_is ms (spot.ReversedStretch n) f =
      by_way
      (beside OutOfRange f (holds_of (are_reversed names) (stretch_ends n ms)) _ (holds_inside pair_at (are_reversed names) (AreReversed names) reversed_ends (stretch_entry n ms)))
      (some_inside pair_at (AreReversed names) f OutOfRange (stretch_entry n ms))
  found_is ms (spot.Second list n) f =
      beside Twice f (is_second names list n ms) (IsSecond names list n ms) (second_is list n ms)
