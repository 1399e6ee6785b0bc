use Rattle.text_refusals.specs.FileRows.{given_has, given_spot_of, machine_has, machine_spot_of, profile_has, profile_spot_of}
use Rattle.text_refusals.specs.declared.asked_file.FileKind.TheVariants as kind
use Rattle.text_refusals.specs.declared.asked_file.FileSpot.TheVariants.{Given, Machine, Profile}
use Rattle.text_refusals.proofs.FileLemmas.{given_fault_of, machine_fault_of, profile_fault_of}
use Rattle.text_refusals.proofs.FileRowLemmas.{given_sound, machine_sound, profile_sound, shown_row}
use Rattle.text_refusals.proofs.law.file_rows_show_faults.Goals as goal

pub returns-clause-machine : goal.returns-clause-machine
returns-clause-machine c = λ ms fault has items tells row h.
    let s = machine_sound has items row h in
    (s.0, (tells s.0).0 s.1, s.2)

pub returns-clause-profile : goal.returns-clause-profile
returns-clause-profile c = λ ms fault has items tells row h.
    let s = profile_sound has items row h in
    (s.0, (tells s.0).0 s.1, s.2)

pub returns-clause-machine_rows : goal.returns-clause-machine_rows
returns-clause-machine_rows c = λ ms fault has items tells s at shown.
    shown_row (machine_has has) kind.Machine items (Machine (machine_spot_of s)) ((tells (machine_spot_of s)).1 (machine_fault_of ms s fault at)) shown

pub returns-clause-profile_rows : goal.returns-clause-profile_rows
returns-clause-profile_rows c = λ ms fault has items tells s at shown.
    shown_row (profile_has has) kind.Profile items (Profile (profile_spot_of s)) ((tells (profile_spot_of s)).1 (profile_fault_of ms s fault at)) shown

pub returns-clause-given : goal.returns-clause-given
returns-clause-given c = λ ms fault has items tells row h.
    let s = given_sound has items row h in
    (s.0, (tells s.0).0 s.1, s.2)

pub returns-clause-given_rows : goal.returns-clause-given_rows
returns-clause-given_rows c = λ ms fault has items tells s at shown.
    shown_row (given_has has) kind.Given items (Given (given_spot_of s)) ((tells (given_spot_of s)).1 (given_fault_of ms s fault at)) shown
