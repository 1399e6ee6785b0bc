-- Lines that follow one another up to the last are those of a certificate.
use Rattle.std.proofs.Common.{◌≡◌, ◌∙◌, Bool, true, false, ℕ, zero, suc, List, [], ◌∷◌, ◌++◌, Option, Some, None, option_and_then, map, refl, ap, if◌then◌else◌}
use Rattle.std.specs.List.{AllByRecursion}
use Rattle.control_flow.specs.declared.places.Place.{Place}
use Rattle.longest_walk.specs.declared.rows.PlaceRow.{PlaceRow}
use Rattle.longest_walk.specs.declared.rows.InstanceRow.{InstanceRow}
use Rattle.longest_walk.specs.Rows.{header_of_row, place_of_row}
use Rattle.certificate.specs.declared.draft.Stage.{Stage}
use Rattle.certificate.specs.declared.draft.Stage.TheVariants as s
use Rattle.certificate.specs.declared.line.WalkLine.{WalkLine}
use Rattle.certificate.specs.declared.line.Line.{Line}
use Rattle.certificate.specs.declared.line.Line.TheVariants as l
use Rattle.certificate.specs.Follows.{Reached, at_stage, close_walk, comes_after, follows, in_walk}
use Rattle.certificate.specs.Walk.{Nest, follow_all, nest_after}
use Rattle.certificate.specs.Words.{InstanceFits, LineFits, PlaceFits, WalkFits}
use Rattle.certificate.proofs.FollowLaws.{Ascends, at}

-- ## From the end of the lines to their beginning

pub record Instances (last : Option Place) (lines : List Line) : Type 0 where
  pub rows : List InstanceRow
  pub lines_are : lines ≡ map l.Instance rows ++ l.Stop ∷ []
  pub ascend : Ascends last (map header_of_row rows)
  pub fit : AllByRecursion InstanceFits rows

abbrev pub Ends : Reached → List Line → Type 0
Ends from lines = (r : Reached) × (follow_all follows from lines ≡ Some r) × (r.stage ≡ s.Done)

pub not_done : {from : Reached} (r : Reached) → Some from ≡ Some r → r.stage ≡ s.Done → from.stage ≡ s.Done
not_done {from} r e d = let same : from ≡ r = cc in ap (λ (x : Reached). x.stage) same ∙ d

-- nothing follows the last line
pub stops : (n : Nest) (lines : List Line) → Ends (at n s.Done) lines → lines ≡ []
stops n [] ends = refl
stops n (x ∷ lines) ends = absurd (cc ends.1)

-- a step by a test is one where the test holds
taken : (n : Nest) (stage : Stage) (lines : List Line) {r : Reached} (b : Bool) → option_and_then (λ t. follow_all follows t lines) (if b then at_stage n stage else None) ≡ Some r
    → (b ≡ true) × (follow_all follows (at n stage) lines ≡ Some r)
taken n stage lines true e = (refl, e)
taken n stage lines false e = absurd (cc e)

instances_in : (n : Nest) (last : Option Place) (lines : List Line) → AllByRecursion LineFits lines → Ends (at n (s.Instances last)) lines → Instances last lines
instances_in n last [] fits ends = absurd (cc (not_done ends.0 ends.1 ends.2))
instances_in n last (l.Instance r ∷ lines) fits ends =
    let step = taken n _ lines (comes_after last (header_of_row r)) ends.1 in
    let rest = instances_in n (Some (header_of_row r)) lines fits.1 (ends.0, step.1, ends.2) in
    record { rows = r ∷ rest.rows; lines_are = ap (λ (xs : List Line). l.Instance r ∷ xs) rest.lines_are; ascend = (step.0, rest.ascend); fit = (fits.0, rest.fit) }
instances_in n last (l.Stop ∷ lines) fits ends =
    record { rows = []; lines_are = ap (λ (xs : List Line). l.Stop ∷ xs) (stops n lines ends); ascend = tt; fit = tt }
instances_in n last (x ∷ lines) fits ends = absurd (cc ends.1)

pub record Rows (last : Option Place) (lines : List Line) : Type 0 where
  pub places : List PlaceRow
  pub rest : List Line
  pub instances : Instances None rest
  pub lines_are : lines ≡ map l.Place places ++ rest
  pub ascend : Ascends last (map place_of_row places)
  pub fit : AllByRecursion PlaceFits places

rows_in : (n : Nest) (last : Option Place) (lines : List Line) → AllByRecursion LineFits lines → Ends (at n (s.Places last)) lines → Rows last lines
rows_in n last [] fits ends = absurd (cc (not_done ends.0 ends.1 ends.2))
rows_in n last (l.Place r ∷ lines) fits ends =
    let step = taken n _ lines (comes_after last (place_of_row r)) ends.1 in
    let more = rows_in n (Some (place_of_row r)) lines fits.1 (ends.0, step.1, ends.2) in
    record { places = r ∷ more.places; rest = more.rest; instances = more.instances; lines_are = ap (λ (xs : List Line). l.Place r ∷ xs) more.lines_are; ascend = (step.0, more.ascend); fit = (fits.0, more.fit) }
rows_in n last (l.Instance r ∷ lines) fits ends =
    let more = instances_in n (Some (header_of_row r)) lines fits.1 ends in
    record {
      places = [];
      rest = l.Instance r ∷ lines;
      instances = record { rows = r ∷ more.rows; lines_are = ap (λ (xs : List Line). l.Instance r ∷ xs) more.lines_are; ascend = (refl, more.ascend); fit = (fits.0, more.fit) };
      lines_are = refl;
      ascend = tt;
      fit = tt;
    }
rows_in n last (l.Stop ∷ lines) fits ends =
    record {
      places = [];
      rest = l.Stop ∷ lines;
      instances = record { rows = []; lines_are = ap (λ (xs : List Line). l.Stop ∷ xs) (stops n lines ends); ascend = tt; fit = tt };
      lines_are = refl;
      ascend = tt;
      fit = tt;
    }
rows_in n last (x ∷ lines) fits ends = absurd (cc ends.1)

pub record Walked (from : Nest) (lines : List Line) : Type 0 where
  pub walk : List WalkLine
  pub rest : List Line
  pub rows : Rows None rest
  pub lines_are : lines ≡ map l.Walk walk ++ l.Close ∷ rest
  pub to : Nest
  pub nested : follow_all nest_after from walk ≡ Some to
  pub whole : to.opened ≡ 0
  pub fit : AllByRecursion WalkFits walk

pub walked_in : (n : Nest) (lines : List Line) → AllByRecursion LineFits lines → Ends (at n s.Walk) lines → Walked n lines
walked_in n [] fits ends = absurd (cc (not_done ends.0 ends.1 ends.2))
walked_in n (l.Walk w ∷ lines) fits ends = by (λ m e. walked_in m lines fits.1 (ends.0, e, ends.2)) (nest_after n w) refl ends.1
  where
    by : ((m : Nest) → follow_all follows (at m s.Walk) lines ≡ Some ends.0 → Walked m lines) → (o : Option Nest) → nest_after n w ≡ o → option_and_then (λ t. follow_all follows t lines) (in_walk o) ≡ Some ends.0 → Walked n (l.Walk w ∷ lines)
    by again None is e = absurd (cc e)
    by again (Some m) is e =
        let more = again m e in
        record {
          walk = w ∷ more.walk;
          rest = more.rest;
          rows = more.rows;
          lines_are = ap (λ (xs : List Line). l.Walk w ∷ xs) more.lines_are;
          to = more.to;
          nested = ap (option_and_then (λ k. follow_all nest_after k more.walk)) is ∙ more.nested;
          whole = more.whole;
          fit = (fits.0, more.fit);
        }
walked_in n (l.Close ∷ lines) fits ends = by n.opened refl ends.1
  where
    by : (k : ℕ) → n.opened ≡ k → option_and_then (λ t. follow_all follows t lines) (close_walk n k) ≡ Some ends.0 → Walked n (l.Close ∷ lines)
    by zero is e =
        record { walk = []; rest = lines; rows = rows_in n None lines fits.1 (ends.0, e, ends.2); lines_are = refl; to = n; nested = refl; whole = is; fit = tt }
    by (suc k) is e = absurd (cc e)
walked_in n (x ∷ lines) fits ends = absurd (cc ends.1)
