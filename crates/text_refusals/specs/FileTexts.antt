-- The text that shows why a machine file, a cycle profile or a file of facts is refused.
use Rattle.std.specs.Prelude.{ℕ, Bool, List}
use Rattle.given_facts.specs.GivenPlaces.{IsGivenFaultAt}
use Rattle.given_facts.specs.declared.faults.GivenFault.{GivenFault}
use Rattle.given_facts.specs.declared.faults.GivenFault.TheVariants as given_fault
use Rattle.given_facts.specs.declared.spots.GivenSpot.{GivenSpot}
use Rattle.machine_file.specs.MachinePlaces.{IsMachineFaultAt}
use Rattle.machine_file.specs.ProfilePlaces.{IsProfileFaultAt}
use Rattle.machine_file.specs.declared.machine_faults.MachineFileFault.{MachineFileFault}
use Rattle.machine_file.specs.declared.machine_faults.MachineFileFault.TheVariants as machine_fault
use Rattle.machine_file.specs.declared.profile_faults.ProfileFileFault.{ProfileFileFault}
use Rattle.machine_file.specs.declared.profile_faults.ProfileFileFault.TheVariants as profile_fault
use Rattle.machine_file.specs.declared.spots.MachineSpot.{MachineSpot}
use Rattle.machine_file.specs.declared.spots.ProfileSpot.{ProfileSpot}
use Rattle.text_refusals.specs.FileRows.{file_rows, given_has, machine_has, profile_has}
use Rattle.text_refusals.specs.GivenSpots.{given_tables}
use Rattle.text_refusals.specs.MachineSpots.{machine_tables}
use Rattle.text_refusals.specs.Outline.{Item}
use Rattle.text_refusals.specs.ProfileSpots.{profile_tables}
use Rattle.text_refusals.specs.Refused.{IsRowsText, IsTomlText, Row}
use Rattle.text_refusals.specs.declared.asked_file.FileKind.TheVariants as kind

abbrev pub machine_rows : (MachineSpot → Bool) → List Item → List Row
machine_rows has items = file_rows (machine_has has) kind.Machine items

abbrev pub profile_rows : (ProfileSpot → Bool) → List Item → List Row
profile_rows has items = file_rows (profile_has has) kind.Profile items

abbrev pub given_rows : (GivenSpot → Bool) → List Item → List Row
given_rows has items = file_rows (given_has has) kind.Given items

-- the rows, or where it is no TOML a line of it
abbrev pub IsMachineText : List ℕ → MachineFileFault → List ℕ → Type 0
IsMachineText text machine_fault.NotToml out = IsTomlText text out
IsMachineText text fault out = IsRowsText IsMachineFaultAt machine_rows machine_tables text fault out

abbrev pub IsProfileText : List ℕ → ProfileFileFault → List ℕ → Type 0
IsProfileText text profile_fault.NotToml out = IsTomlText text out
IsProfileText text fault out = IsRowsText IsProfileFaultAt profile_rows profile_tables text fault out

abbrev pub IsGivenText : List ℕ → GivenFault → List ℕ → Type 0
IsGivenText text given_fault.NotToml out = IsTomlText text out
IsGivenText text fault out = IsRowsText IsGivenFaultAt given_rows given_tables text fault out
