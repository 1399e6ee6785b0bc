-- Rows of files one after another, and what is asked of their documents.
use Rattle.std.proofs.Common.{◌≡◌, ◌↔◌, ◌<◌, ◌+◌, ◌++◌, ℕ, Bool, true, List, [], ◌∷◌, length, get_or, drop, map, refl, ap, subst, ◌∙◌}
use Rattle.std.proofs.lemmas.List.{at_drop_more, drop_more}
use Rattle.std.specs.Prelude.{String, if◌then◌else◌}
use Rattle.std.specs.BTreeMap.{BTreeMap}
use Rattle.std.specs.declared.alloc.Global.{Global}
use Rattle.toml.specs.Data.{Members}
use Rattle.toml.specs.View.{table_view}
use Rattle.toml.specs.declared.value.Value.{Value}
use Rattle.given_facts.specs.GivenPlaceTests.{found as found_fact}
use Rattle.given_facts.specs.GivenPlaces.{IsGivenFaultAt}
use Rattle.given_facts.specs.declared.faults.GivenFault.{GivenFault}
use Rattle.given_facts.specs.declared.spots.GivenSpot.{GivenSpot}
use Rattle.given_facts.specs.declared.spots.GivenSpot.TheVariants as given
use Rattle.given_facts.proofs.PlaceLemmas.{found_is as found_fact_is}
use Rattle.machine_file.specs.MachinePlaceTests.{found}
use Rattle.machine_file.specs.MachinePlaces.{IsMachineFaultAt}
use Rattle.machine_file.specs.ProfilePlaceTests.{found as found_price}
use Rattle.machine_file.specs.ProfilePlaces.{IsProfileFaultAt}
use Rattle.machine_file.specs.declared.machine_faults.MachineFileFault.{MachineFileFault}
use Rattle.machine_file.specs.declared.profile_faults.ProfileFileFault.{ProfileFileFault}
use Rattle.machine_file.specs.declared.spots.MachineSpot.{MachineSpot}
use Rattle.machine_file.specs.declared.spots.MachineSpot.TheVariants as machine
use Rattle.machine_file.specs.declared.spots.Part.TheVariants as part
use Rattle.machine_file.specs.declared.spots.ProfileSpot.{ProfileSpot}
use Rattle.machine_file.specs.declared.spots.ProfileSpot.TheVariants as profile
use Rattle.machine_file.proofs.PlaceLemmas.{found_is}
use Rattle.machine_file.proofs.PricePlaceLemmas.{found_is as found_price_is}
use Rattle.text_refusals.specs.FileCourses.{after}
use Rattle.text_refusals.specs.FileRows.{each_row, first_row, given_spot_of, item_rows, machine_spot_of, profile_spot_of, rows, spot_of}
use Rattle.text_refusals.specs.Outline.{Item, item_of}
use Rattle.text_refusals.specs.Refused.{Row, row_if}
use Rattle.text_refusals.specs.declared.asked_file.FileKind.{FileKind}
use Rattle.text_refusals.specs.declared.asked_file.FileSpot.{FileSpot}
use Rattle.text_refusals.specs.declared.file_course.FileCourse.{FileCourse}
use Rattle.text_refusals.specs.declared.outline.OutlineItem.{OutlineItem as CodeItem}

-- ## Rows

pub one_row : (has : FileSpot → Bool) (k : FileKind) (c : FileCourse) (i : Item) (items : List Item) → rows has k c (i ∷ items) ≡ item_rows has k c i ++ rows has k (after c i) items
unfolding rows
one_row has k c i items = refl

pub no_items : (has : FileSpot → Bool) (k : FileKind) (c : FileCourse) → rows has k c [] ≡ []
unfolding rows
no_items has k c = refl

-- the rows of the item at an index, and of those that follow
pub rows_more : (has : FileSpot → Bool) (k : FileKind) (c : FileCourse) (items : List CodeItem) (n : ℕ) (d : CodeItem) → n < length items
    → rows has k c (map item_of (drop n items)) ≡ item_rows has k c (item_of (get_or items n d)) ++ rows has k (after c (item_of (get_or items n d))) (map item_of (drop (n + 1) items))
rows_more has k c items n d inside =
    ap (λ (es : List CodeItem). rows has k c (map item_of es)) (drop_more items n d inside)
    ∙ one_row has k c (item_of (get_or items n d)) (map item_of (drop (n + 1) items))

-- the row of the spot at an index, and those of the spots that follow
pub each_more : (has : FileSpot → Bool) (row : FileSpot → Row) (spots : List FileSpot) (n : ℕ) (d : FileSpot) → n < length spots
    → each_row has row (map spot_of (drop n spots)) ≡ row_if (has (spot_of (get_or spots n d))) (row (spot_of (get_or spots n d))) ++ each_row has row (map spot_of (drop (n + 1) spots))
each_more has row spots n d inside = at_drop_more (λ (ss : List FileSpot). each_row has row (map spot_of ss)) spots n d inside

-- the first of the spots that are left has the fault
pub first_at : (has : FileSpot → Bool) (row : FileSpot → Row) (spots : List FileSpot) (n : ℕ) (d : FileSpot) → n < length spots → has (spot_of (get_or spots n d)) ≡ true
    → first_row has row (map spot_of (drop n spots)) ≡ row (spot_of (get_or spots n d)) ∷ []
first_at has row spots n d inside e =
    at_drop_more (λ (ss : List FileSpot). first_row has row (map spot_of ss)) spots n d inside
    ∙ ap (λ (b : Bool). if b then row (spot_of (get_or spots n d)) ∷ [] else first_row has row (map spot_of (drop (n + 1) spots))) e

-- ## Spots by the words that they are of

pub machine_same : (ms : Members) (s : MachineSpot) (f : MachineFileFault) → found ms (machine_spot_of s) f ≡ found ms s f
machine_same ms (machine.Own (part.Unknown k)) f = refl
machine_same ms (machine.Own (part.Value k)) f = refl
machine_same ms (machine.Own (part.Missing k)) f = refl
machine_same ms machine.FlagTwice f = refl
machine_same ms (machine.NoInner table) f = refl
machine_same ms (machine.Inner table (part.Unknown k)) f = refl
machine_same ms (machine.Inner table (part.Value k)) f = refl
machine_same ms (machine.Inner table (part.Missing k)) f = refl
machine_same ms (machine.NoList list) f = refl
machine_same ms (machine.NoTable list n) f = refl
machine_same ms (machine.Listed list n (part.Unknown k)) f = refl
machine_same ms (machine.Listed list n (part.Value k)) f = refl
machine_same ms (machine.Listed list n (part.Missing k)) f = refl
machine_same ms (machine.Unmappable number n) f = refl
machine_same ms (machine.Second number n) f = refl

pub profile_same : (ms : Members) (s : ProfileSpot) (f : ProfileFileFault) → found_price ms (profile_spot_of s) f ≡ found_price ms s f
profile_same ms (profile.Own (part.Unknown k)) f = refl
profile_same ms (profile.Own (part.Value k)) f = refl
profile_same ms (profile.Own (part.Missing k)) f = refl
profile_same ms (profile.Item list n) f = refl
profile_same ms (profile.Price n) f = refl
profile_same ms (profile.Disordered order) f = refl

pub given_same : (ms : Members) (s : GivenSpot) (f : GivenFault) → found_fact ms (given_spot_of s) f ≡ found_fact ms s f
given_same ms (given.Unknown k) f = refl
given_same ms given.NoList f = refl
given_same ms (given.NoTable n) f = refl
given_same ms (given.Fact n (part.Unknown k)) f = refl
given_same ms (given.Fact n (part.Value k)) f = refl
given_same ms (given.Fact n (part.Missing k)) f = refl
given_same ms (given.Disordered n) f = refl
given_same ms (given.Second n) f = refl

-- a fault at a spot is one at the spot as it is listed
pub machine_fault_of : (ms : Members) (s : MachineSpot) (f : MachineFileFault) → IsMachineFaultAt ms s f → IsMachineFaultAt ms (machine_spot_of s) f
machine_fault_of ms s f h = (found_is ms (machine_spot_of s) f).0 (machine_same ms s f ∙ (found_is ms s f).1 h)

pub profile_fault_of : (ms : Members) (s : ProfileSpot) (f : ProfileFileFault) → IsProfileFaultAt ms s f → IsProfileFaultAt ms (profile_spot_of s) f
profile_fault_of ms s f h = (found_price_is ms (profile_spot_of s) f).0 (profile_same ms s f ∙ (found_price_is ms s f).1 h)

pub given_fault_of : (ms : Members) (s : GivenSpot) (f : GivenFault) → IsGivenFaultAt ms s f → IsGivenFaultAt ms (given_spot_of s) f
given_fault_of ms s f h = (found_fact_is ms (given_spot_of s) f).0 (given_same ms s f ∙ (found_fact_is ms s f).1 h)

-- ## The document answers as its table says

pub given_tells : (t u : BTreeMap (String Global) Value) (f : GivenFault) → t ≡ u → (s : GivenSpot) → found_fact (table_view t) s f ≡ true ↔ IsGivenFaultAt (table_view u) s f
given_tells t u f same s =
    subst (λ (m : Members). found_fact (table_view t) s f ≡ true ↔ IsGivenFaultAt m s f) (ap table_view same) (found_fact_is (table_view t) s f)

pub machine_tells : (t u : BTreeMap (String Global) Value) (f : MachineFileFault) → t ≡ u → (s : MachineSpot) → found (table_view t) s f ≡ true ↔ IsMachineFaultAt (table_view u) s f
machine_tells t u f same s =
    subst (λ (m : Members). found (table_view t) s f ≡ true ↔ IsMachineFaultAt m s f) (ap table_view same) (found_is (table_view t) s f)

pub profile_tells : (t : BTreeMap (String Global) Value) (f : ProfileFileFault) (s : ProfileSpot) → found_price (table_view t) s f ≡ true ↔ IsProfileFaultAt (table_view t) s f
profile_tells t f s = found_price_is (table_view t) s f
