-- The lines of a certificate, and its text.
use Rattle.std.specs.Prelude.{ℕ, ◌<◌, ◌==◌, List, [], ◌∷◌, ◌++◌, map, if◌then◌else◌}
use Rattle.std.specs.Cmp.Lexicographic.{pointwise}
use Rattle.std.specs.List.{AllByRecursion}
use Rattle.std.specs.List.Sorted.{IsStrictlySortedBy}
use Rattle.walks.specs.declared.limits.TheConstants.{COST_LIMIT}
use Rattle.bus_ticks.specs.Numbers.{numbers_of, profile_one}
use Rattle.control_flow.specs.Places.{place_cmp}
use Rattle.longest_walk.specs.declared.folded.Longest.{Longest}
use Rattle.longest_walk.specs.declared.rows.PlaceRow.{PlaceRow}
use Rattle.longest_walk.specs.declared.rows.InstanceRow.{InstanceRow}
use Rattle.longest_walk.specs.Rows.{place_of_row, header_of_row}
use Rattle.certificate.specs.declared.cert.Cert.{Cert}
use Rattle.certificate.specs.declared.line.Version.TheVariants.{One, Two}
use Rattle.certificate.specs.declared.line.WalkLine.{WalkLine}
use Rattle.certificate.specs.declared.line.Line.{Line}
use Rattle.certificate.specs.declared.line.Line.TheVariants as l
use Rattle.certificate.specs.Walk.{AreNested, cert_walk_lines, walk_lines}
use Rattle.certificate.specs.Words.{InstanceFits, IsProfile, PlaceFits, WalkFits, text_of}

-- what a certificate says: the numbers of its profile, the bound, the lines of the walk, and the rows
pub record Said : Type 0 where
  pub numbers : List ℕ
  pub bound : ℕ
  pub walk : List WalkLine
  pub places : List PlaceRow
  pub instances : List InstanceRow

abbrev pub said_by : Cert → Said
said_by c =
    record {
      numbers = numbers_of c.profile;
      bound = c.bound;
      walk = cert_walk_lines c.walk;
      places = c.places;
      instances = c.instances;
    }

-- what the certificate of a greatest walk says
abbrev pub said_of : Longest → Said
said_of g =
    record {
      numbers = numbers_of g.profile;
      bound = g.bound;
      walk = walk_lines g.walk;
      places = g.potentials.places;
      instances = g.potentials.instances;
    }

-- ## The lines

-- the first version is that of the first profile
abbrev pub head_lines : List ℕ → List Line
head_lines numbers =
    if pointwise ◌==◌ numbers profile_one then l.Title One ∷ [] else l.Title Two ∷ l.Profile numbers ∷ []

abbrev pub cert_lines : Said → List Line
cert_lines c =
    head_lines c.numbers ++ l.Bound c.bound
    ∷ (map l.Walk c.walk ++ l.Close ∷ (map l.Place c.places ++ (map l.Instance c.instances ++ l.Stop ∷ [])))

abbrev pub cert_text : Said → List ℕ
cert_text c = text_of (cert_lines c)

-- ## What can be spelled

pub record CanSpell (c : Said) : Type 0 where
  pub profile : IsProfile c.numbers
  pub bound : c.bound < COST_LIMIT
  pub steps : AllByRecursion WalkFits c.walk
  pub nested : AreNested c.walk
  pub places : AllByRecursion PlaceFits c.places
  pub places_ascend : IsStrictlySortedBy place_cmp (map place_of_row c.places)
  pub instances : AllByRecursion InstanceFits c.instances
  pub instances_ascend : IsStrictlySortedBy place_cmp (map header_of_row c.instances)
