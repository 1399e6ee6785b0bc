-- The machine of a source and a machine file, and when each refusal of it is answered.
use Rattle.std.specs.Prelude.{◌≡◌, ◌≢◌, ◌⊎◌, ℕ, true, false, List}
use Rattle.std.specs.Prelude.{Ok, Err}
use Rattle.bus_ticks.specs.declared.profile.Profile.{Profile}
use Rattle.arm2_exec.specs.State.{State}
use Rattle.arm2_exec.specs.declared.machine.Input.{Input}
use Rattle.image.specs.Image.{Words}
use Rattle.loader.specs.Loading.{lacks_page, put_words}
use Rattle.loader.specs.declared.loading.LoadFault.{LoadFault}
use Rattle.loader.specs.declared.loading.LoadFault.TheVariants.{NoPage}
use Rattle.image.specs.Labels.{Names}
use Rattle.machine_file.specs.Inputs.{AreInputs}
use Rattle.machine_file.specs.MachineFile.{IsMachineFile}
use Rattle.machine_file.specs.Started.{IsStarted}
use Rattle.machine_file.specs.Stated.{Stated}
use Rattle.machine_file.specs.declared.machine_faults.MachineFileFault.{MachineFileFault}
use Rattle.machine_file.specs.declared.machine_faults.MachineFileFault.TheVariants as machine_fault
use Rattle.handlers.specs.Source.{IsSourceFault}
use Rattle.handlers.specs.declared.fault.ReportFault.{ReportFault}
use Rattle.handlers.specs.declared.fault.ReportFault.TheVariants as report_fault
use Rattle.sources.specs.Source.{source_of}
use Rattle.sources.specs.File.{File}

-- ## The machine

-- the words of a source, and what a machine file states
pub record IsStated (source : File) (machine : List ℕ) (words : Words) (file : Stated) : Type 0 where
  pub names : Names
  pub source_is : source_of source ≡ Ok (words, names)
  pub file_is : IsMachineFile machine (Ok file)

-- the machine before its first step: the one that the file states, in which no word of the image or of the
-- file lacks a page, with the words of the image put in, and then those of the file
pub record IsPlaced (source : File) (machine : List ℕ) (profile : Profile) (file : Stated)
    (state : State) : Type 0 where
  pub words : Words
  pub start : State
  pub stated : IsStated source machine words file
  pub started : IsStarted file profile start
  pub fits : lacks_page start.bus.memc words ≡ false
  pub file_fits : lacks_page start.bus.memc file.words ≡ false
  pub loaded : state ≡ put_words file.words (put_words words start)

-- the same, and the inputs of its steps
pub record IsLoaded (source : File) (machine : List ℕ) (profile : Profile) (state : State)
    (inputs : List Input) : Type 0 where
  pub file : Stated
  pub placed : IsPlaced source machine profile file state
  pub inputs_are : AreInputs file.schedule inputs

-- ## Refusals

-- both texts can be read, and the machine can be loaded
pub record IsRunnable (source : File) (machine : List ℕ) (profile : Profile) : Type 0 where
  pub file : Stated
  pub state : State
  pub placed : IsPlaced source machine profile file state

-- a fault of the machine file, of a source that has an image
pub record IsFileRefused (source : File) (machine : List ℕ) (fault : MachineFileFault) : Type 0 where
  pub words : Words
  pub names : Names
  pub source_is : source_of source ≡ Ok (words, names)
  pub not_memory : fault ≢ machine_fault.Memory
  pub file_is : IsMachineFile machine (Err fault)

-- a word of the image, or one of the file, has no place in the machine
abbrev pub LacksPage : State → Words → Stated → Type 0
LacksPage start words file =
    (lacks_page start.bus.memc words ≡ true) ⊎ (lacks_page start.bus.memc file.words ≡ true)

pub record IsLoadRefused (source : File) (machine : List ℕ) (profile : Profile)
    (fault : LoadFault) : Type 0 where
  pub words : Words
  pub file : Stated
  pub start : State
  pub stated : IsStated source machine words file
  pub started : IsStarted file profile start
  pub fault_is : fault ≡ NoPage
  pub lacks : LacksPage start words file

-- when each refusal is answered: the first in the order of the work. An output may fail whatever the texts
abbrev pub IsRunRefused : File → List ℕ → Profile → ReportFault → Type 0
IsRunRefused source machine profile report_fault.Device = Unit {0}
IsRunRefused source machine profile (report_fault.MachineFile fault) = IsFileRefused source machine fault
IsRunRefused source machine profile (report_fault.Load fault) = IsLoadRefused source machine profile fault
IsRunRefused source machine profile fault = IsSourceFault source fault
