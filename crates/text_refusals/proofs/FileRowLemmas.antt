-- Each row of a file is of a spot that has the fault, and where a spot that is shown has it there is a row.
use Rattle.std.proofs.Common.{◌≡◌, Bool, true, false, List, [], ◌∷◌, inl, inr, refl, subst, sym, ◌∙◌}
use Rattle.std.specs.Prelude.{Contains, if◌then◌else◌}
use Rattle.std.proofs.lemmas.Bool.{false≢true}
use Rattle.std.proofs.lemmas.List.Elements.{Contains-append_cases}
use Rattle.given_facts.specs.declared.spots.GivenSpot.{GivenSpot}
use Rattle.machine_file.specs.declared.spots.MachineSpot.{MachineSpot}
use Rattle.machine_file.specs.declared.spots.ProfileSpot.{ProfileSpot}
use Rattle.text_refusals.specs.FileCourses.{after, at_front}
use Rattle.text_refusals.specs.FileRows.{IsItemRow, IsFileRowOf, IsShown, absent_row, absent_spots, each_row, file_rows, first_row, given_has, item_rows, item_spots, machine_has, placed, profile_has, rows, said_table, said_value, table_spots, value_spots}
use Rattle.text_refusals.specs.FileTexts.{given_rows, machine_rows, profile_rows}
use Rattle.text_refusals.specs.Outline.{Begins, Ends, Item, States}
use Rattle.text_refusals.specs.Refused.{Row, row_if}
use Rattle.text_refusals.specs.declared.asked_file.FileKind.{FileKind}
use Rattle.text_refusals.specs.declared.asked_file.FileKind.TheVariants as kind
use Rattle.text_refusals.specs.declared.asked_file.FileSpot.{FileSpot}
use Rattle.text_refusals.specs.declared.asked_file.FileSpot.TheVariants.{Given, Machine, Profile}
use Rattle.text_refusals.specs.declared.file_course.FileCourse.{FileCourse}
use Rattle.text_refusals.proofs.FileLemmas.{no_items, one_row}
use Rattle.text_refusals.proofs.PlacedLemmas.{HasRow, in_first, in_second, row_of_if}
use Rattle.text_refusals.proofs.RowLemmas.{in_cons, in_head, in_if, in_none, in_one, in_tail}

module _ (has : FileSpot → Bool) where
  -- the row is of one of the spots, which has the fault
  abbrev OfSpots : (FileSpot → Row) → List FileSpot → Row → Type 0
  OfSpots row ss r = (s : FileSpot) × (has s ≡ true) × Contains ss s × (r ≡ row s)

  more_spots : (row : FileSpot → Row) (s : FileSpot) (ss : List FileSpot) (r : Row) → OfSpots row ss r → OfSpots row (s ∷ ss) r
  more_spots row s ss r h = (h.0, h.1, in_tail s h.0 ss h.2, h.3)

  each_sound : (row : FileSpot → Row) (ss : List FileSpot) (r : Row) → Contains (each_row has row ss) r → OfSpots row ss r
  each_sound row [] r h = absurd (in_none r h)
  each_sound row (s ∷ ss) r h = elim (Contains-append_cases (row_if (has s) (row s)) (each_row has row ss) r h) [
    | inl one ↦ let k = in_if (has s) (row s) r one in (s, k.0, in_head s ss, k.1)
    | inr more ↦ more_spots row s ss r (each_sound row ss r more)
  ]

  first_sound : (row : FileSpot → Row) (ss : List FileSpot) (r : Row) → Contains (first_row has row ss) r → OfSpots row ss r
  first_sound row [] r h = absurd (in_none r h)
  first_sound row (s ∷ ss) r h = by_test (has s) refl h (λ k. more_spots row s ss r (first_sound row ss r k))
    where
      by_test : (b : Bool) → has s ≡ b → Contains (if b then row s ∷ [] else first_row has row ss) r → (Contains (first_row has row ss) r → OfSpots row (s ∷ ss) r) → OfSpots row (s ∷ ss) r
      by_test true e h later = (s, e, in_head s ss, in_one (row s) r h)
      by_test false e h later = later h

  each_row_of : (row : FileSpot → Row) (ss : List FileSpot) (s : FileSpot) → has s ≡ true → Contains ss s → HasRow (each_row has row ss)
  each_row_of row [] s e at = absurd (in_none s at)
  each_row_of row (t ∷ ss) s e at = elim (in_cons t s ss at) [
    | inl is ↦
        in_first (row_if (has t) (row t)) (each_row has row ss)
        (subst (λ (u : FileSpot). HasRow (row_if (has u) (row u))) (sym is) (row_of_if (has s) (row s) e))
    | inr more ↦ in_second (row_if (has t) (row t)) (each_row has row ss) (each_row_of row ss s e more)
  ]

  first_row_of : (row : FileSpot → Row) (ss : List FileSpot) (s : FileSpot) → has s ≡ true → Contains ss s → HasRow (first_row has row ss)
  first_row_of row [] s e at = absurd (in_none s at)
  first_row_of row (t ∷ ss) s e at = by_test (has t) refl (λ more. first_row_of row ss s e more)
    where
      by_test : (b : Bool) → has t ≡ b → (Contains ss s → HasRow (first_row has row ss)) → HasRow (if b then row t ∷ [] else first_row has row ss)
      by_test true u later = (row t, in_head (row t) [])
      by_test false u later = elim (in_cons t s ss at) [
        | inl is ↦ absurd (false≢true (sym u ∙ subst (λ (x : FileSpot). has x ≡ true) (sym is) e))
        | inr more ↦ later more
      ]

  module _ (k : FileKind) where
    -- the row is of a spot with the fault, which an item shows
    abbrev OfItems : List (FileCourse × Item) → Row → Type 0
    OfItems places r =
        (s : FileSpot)
        × (has s ≡ true)
        × ((c : FileCourse) × (i : Item) × Contains places (c, i) × Contains (item_spots k c i) s × IsItemRow i s r)

    item_sound : (c : FileCourse) (i : Item) (places : List (FileCourse × Item)) (r : Row) → Contains (item_rows has k c i) r → OfItems ((c, i) ∷ places) r
    item_sound c (Begins t) places r h =
        let u = each_sound (said_table t) (table_spots k c t) r h in
        (u.0, u.1, (c, Begins t, in_head (c, Begins t) places, u.2, u.3))
    item_sound c (States p) places r h =
        let u = first_sound (said_value p) (value_spots k c p) r h in
        (u.0, u.1, (c, States p, in_head (c, States p) places, u.2, u.3))
    item_sound c Ends places r h = absurd (in_none r h)

    later : (c : FileCourse) (i : Item) (places : List (FileCourse × Item)) (r : Row) → OfItems places r → OfItems ((c, i) ∷ places) r
    later c i places r u = (u.0, u.1, (u.2.0, u.2.1, in_tail (c, i) (u.2.0, u.2.1) places u.2.2, u.2.3, u.2.4))

    rows_sound : (c : FileCourse) (items : List Item) (r : Row) → Contains (rows has k c items) r → OfItems (placed c items) r
    rows_sound c [] r h = absurd (in_none r (subst (λ (rs : List Row). Contains rs r) (no_items has k c) h))
    rows_sound c (i ∷ items) r h =
        elim (Contains-append_cases (item_rows has k c i) (rows has k (after c i) items) r (subst (λ (rs : List Row). Contains rs r) (one_row has k c i items) h)) [
          | inl u ↦ item_sound c i (placed (after c i) items) r u
          | inr u ↦ later c i (placed (after c i) items) r (rows_sound (after c i) items r u)
        ]

    file_sound : (items : List Item) (r : Row) → Contains (file_rows has k items) r → (s : FileSpot) × (has s ≡ true) × IsFileRowOf k items r s
    file_sound items r h = elim (Contains-append_cases (each_row has absent_row (absent_spots k)) (rows has k at_front items) r h) [
      | inl a ↦ let u = each_sound absent_row (absent_spots k) r a in (u.0, u.1, inl (u.2, u.3))
      | inr b ↦ let u = rows_sound at_front items r b in (u.0, u.1, inr u.2)
    ]

    item_row_of : (c : FileCourse) (i : Item) (s : FileSpot) → has s ≡ true → Contains (item_spots k c i) s → HasRow (item_rows has k c i)
    item_row_of c (Begins t) s e at = each_row_of (said_table t) (table_spots k c t) s e at
    item_row_of c (States p) s e at = first_row_of (said_value p) (value_spots k c p) s e at
    item_row_of c Ends s e at = absurd (in_none s at)

    row_at : (c0 : FileCourse) (items : List Item) (c : FileCourse) (i : Item) → HasRow (item_rows has k c i) → Contains (placed c0 items) (c, i) → HasRow (rows has k c0 items)
    row_at c0 [] c i h at = absurd (in_none (c, i) at)
    row_at c0 (j ∷ items) c i h at = subst HasRow (sym (one_row has k c0 j items)) (elim (in_cons (c0, j) (c, i) (placed (after c0 j) items) at) [
      | inl is ↦
          in_first (item_rows has k c0 j) (rows has k (after c0 j) items)
          (subst (λ (x : FileCourse × Item). HasRow (item_rows has k x.0 x.1)) (sym is) h)
      | inr more ↦ in_second (item_rows has k c0 j) (rows has k (after c0 j) items) (row_at (after c0 j) items c i h more)
    ])

    pub shown_row : (items : List Item) (s : FileSpot) → has s ≡ true → IsShown k items s → HasRow (file_rows has k items)
    shown_row items s e h = elim h [
      | inl a ↦ in_first (each_row has absent_row (absent_spots k)) (rows has k at_front items) (each_row_of absent_row (absent_spots k) s e a)
      | inr b ↦
          in_second (each_row has absent_row (absent_spots k)) (rows has k at_front items)
          (row_at at_front items b.0 b.1 (item_row_of b.0 b.1 s e b.3) b.2)
    ]

pub machine_sound : (has : MachineSpot → Bool) (items : List Item) (r : Row) → Contains (machine_rows has items) r → (s : MachineSpot) × (has s ≡ true) × IsFileRowOf kind.Machine items r (Machine s)
machine_sound has items r h = let u = file_sound (machine_has has) kind.Machine items r h in of_machine u.0 u.1 u.2
  where
    of_machine : (s : FileSpot) → machine_has has s ≡ true → IsFileRowOf kind.Machine items r s → (s : MachineSpot) × (has s ≡ true) × IsFileRowOf kind.Machine items r (Machine s)
    of_machine (Machine s) e is = (s, e, is)
    of_machine (Profile s) e is = absurd (false≢true e)
    of_machine (Given s) e is = absurd (false≢true e)

pub profile_sound : (has : ProfileSpot → Bool) (items : List Item) (r : Row) → Contains (profile_rows has items) r → (s : ProfileSpot) × (has s ≡ true) × IsFileRowOf kind.Profile items r (Profile s)
profile_sound has items r h = let u = file_sound (profile_has has) kind.Profile items r h in of_profile u.0 u.1 u.2
  where
    of_profile : (s : FileSpot) → profile_has has s ≡ true → IsFileRowOf kind.Profile items r s → (s : ProfileSpot) × (has s ≡ true) × IsFileRowOf kind.Profile items r (Profile s)
    of_profile (Profile s) e is = (s, e, is)
    of_profile (Machine s) e is = absurd (false≢true e)
    of_profile (Given s) e is = absurd (false≢true e)

pub given_sound : (has : GivenSpot → Bool) (items : List Item) (r : Row) → Contains (given_rows has items) r → (s : GivenSpot) × (has s ≡ true) × IsFileRowOf kind.Given items r (Given s)
given_sound has items r h = let u = file_sound (given_has has) kind.Given items r h in of_given u.0 u.1 u.2
  where
    of_given : (s : FileSpot) → given_has has s ≡ true → IsFileRowOf kind.Given items r s → (s : GivenSpot) × (has s ≡ true) × IsFileRowOf kind.Given items r (Given s)
    of_given (Given s) e is = (s, e, is)
    of_given (Machine s) e is = absurd (false≢true e)
    of_given (Profile s) e is = absurd (false≢true e)
