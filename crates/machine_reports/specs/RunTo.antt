-- A run that ends before the instruction at an address, its report, and when each refusal of it is answered.
use Rattle.std.specs.Prelude.{◌≡◌, ◌↔◌, ◌++◌, ◌⊎◌, ◌<◌, ℕ, Bool, IsTrue, List, length, take}
use Rattle.std.specs.Prelude.{Option, Some, None, Result, Ok}
use Rattle.std.specs.Result.{result_ok}
use Rattle.bus_ticks.specs.declared.profile.Profile.{Profile}
use Rattle.image.specs.Image.{Words}
use Rattle.image.specs.Labels.{Names}
use Rattle.arm2_exec.specs.Run.{Runs}
use Rattle.arm2_exec.specs.State.{State}
use Rattle.arm2_exec.specs.Step.{address_in as next_address}
use Rattle.arm2_exec.specs.declared.machine.Input.{Input}
use Rattle.arm2_exec.specs.declared.machine.Ran.{Ran}
use Rattle.debugger.specs.Commands.{address_in}
use Rattle.sources.specs.Source.{source_of}
use Rattle.handlers.specs.Answers.{Answers}
use Rattle.handlers.specs.Placing.{IsFileRefused, IsLoadRefused, IsLoaded, IsRunRefused, IsRunnable}
use Rattle.handlers.specs.declared.fault.ReportFault.{ReportFault}
use Rattle.handlers.specs.declared.fault.ReportFault.TheVariants as report_fault
use Rattle.machine_reports.specs.Machine.{End, Front}
use Rattle.sources.specs.File.{File}

-- ## Where it ends

-- the address that a word says, a number or a label of the source, as the debugger takes it
abbrev pub end_of : Names → (word : List ℕ) → Option ℕ
end_of names word = result_ok (address_in names 1 word)

-- after so many steps the instruction at the address is next
abbrev pub IsNextAfter : (to : ℕ) → State → List Input → (steps : ℕ) → Type 0
IsNextAfter to s inputs steps =
    (ran : Ran) × (after : State) × Runs s (take steps inputs) ran after × (next_address after.regs ≡ to)

-- the fewest steps after which it is, or all where there is no such number
pub record AreFewest (to : ℕ) (s : State) (inputs : List Input) (steps : ℕ) : Type 0 where
  pub fewer : (n : ℕ) → n < steps → ¬ IsNextAfter to s inputs n
  pub enough : IsNextAfter to s inputs steps ⊎ (steps ≡ length inputs)

-- the run of the fewest steps, what it reports and where it ends
pub record RunsTo (to : ℕ) (s : State) (inputs : List Input) (steps : ℕ) (ran : Ran)
    (after : State) : Type 0 where
  pub fewest : AreFewest to s inputs steps
  pub runs : Runs s (take steps inputs) ran after

-- that run, and what a report shows of it in front of its end
pub record ShowsRunTo (Shows : Front) (to : ℕ) (s : State) (inputs : List Input) (ran : Ran) (after : State)
    (front : List ℕ) : Type 0 where
  pub steps : ℕ
  pub runs : RunsTo to s inputs steps ran after
  pub shows : Shows s (take steps inputs) after front

-- ## Its report

-- the report of the run, and whether the machine did not stop
pub record IsRunToReport (Shows : Front) (ends : End) (source : File) (machine word : List ℕ)
    (profile : Profile) (done : Bool) (text : List ℕ) : Type 0 where
  pub state : State
  pub inputs : List Input
  pub loaded : IsLoaded source machine profile state inputs
  pub to : ℕ
  pub to_is : end_of loaded.placed.stated.names word ≡ Some to
  pub ran : Ran
  pub after : State
  pub front : List ℕ
  pub shown : ShowsRunTo Shows to state inputs ran after front
  pub done_is : IsTrue done ↔ (ran.stopped ≡ None)
  pub text_is : text ≡ front ++ ends (Some to) ran after

-- ## Refusals

module _ (source : File) (word : List ℕ) where
  -- the source has words and labels, and the word is an address by them
  pub record HasEnd : Type 0 where
    pub words : Words
    pub names : Names
    pub source_is : source_of source ≡ Ok (words, names)
    pub to : ℕ
    pub to_is : end_of names word ≡ Some to

  -- the source has words and labels, and the word is no address by them
  pub record HasNoEnd : Type 0 where
    pub words : Words
    pub names : Names
    pub source_is : source_of source ≡ Ok (words, names)
    pub to_is : end_of names word ≡ None

module _ (source : File) (machine word : List ℕ) (profile : Profile) where
  -- all texts can be read, and the machine can be loaded
  pub record IsRunnableTo : Type 0 where
    pub end : HasEnd source word
    pub runnable : IsRunnable source machine profile

  -- when each refusal is answered: the source's first, then that the word is no address, and then those of
  -- the machine
  abbrev pub IsRunToRefused : ReportFault → Type 0
  IsRunToRefused report_fault.NoSuchEntry = HasNoEnd source word
  IsRunToRefused (report_fault.MachineFile fault) = HasEnd source word × IsFileRefused source machine fault
  IsRunToRefused (report_fault.Load fault) =
      HasEnd source word × IsLoadRefused source machine profile fault
  IsRunToRefused fault = IsRunRefused source machine profile fault

-- the answer to a source, a machine file and a word: the report of the run
abbrev pub ReportsRunTo : {O : Type 0} → Front → End → (O → Option (List ℕ)) → (O → ℕ)
    → (source : File) (machine word : List ℕ) → Profile → O → O → Result Bool ReportFault → Type 0
ReportsRunTo Shows ends taken failures source machine word profile old new result =
    Answers taken failures (IsRunToReport Shows ends source machine word profile)
    (IsRunnableTo source machine word profile) (IsRunToRefused source machine word profile) old new result
