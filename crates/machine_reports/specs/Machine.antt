-- What the reports of a machine's run print.
use Rattle.std.specs.Prelude.{◌≡◌, ◌==◌, ◌↔◌, ◌++◌, ℕ, Bool, IsTrue, List, [], codes, if◌then◌else◌, Option}
use Rattle.std.specs.Prelude.{Some, None, Result}
use Rattle.bus_ticks.specs.declared.profile.Profile.{Profile}
use Rattle.arm2_effect.specs.declared.step_end.Why.{Why}
use Rattle.arm2_effect.specs.Modes.{r15_in}
use Rattle.arm2_effect.specs.ProgramCounter.{address_of}
use Rattle.arm2_exec.specs.Run.{Runs}
use Rattle.arm2_exec.specs.State.{State}
use Rattle.arm2_exec.specs.Step.{address_in}
use Rattle.arm2_exec.specs.declared.machine.Input.{Input}
use Rattle.arm2_exec.specs.declared.machine.Ran.{Ran}
use Rattle.asm_text.specs.Hex.{hex}
use Rattle.json_trace.specs.Records.{RecordsRun, end_line}
use Rattle.text_trace.specs.TraceText.{TracesRun, registers_text, stop_text, ticks_text}
use Rattle.handlers.specs.Answers.{Answers}
use Rattle.handlers.specs.declared.fault.ReportFault.{ReportFault}
use Rattle.handlers.specs.Placing.{IsLoaded, IsRunRefused, IsRunnable}
use Rattle.sources.specs.File.{File}

-- ## The texts

-- where and why a machine stopped, if it did
abbrev pub stopped_text : Option Why → (r15 : ℕ) → List ℕ
stopped_text None r15 = []
stopped_text (Some why) r15 = stop_text why (address_of r15)

abbrev pub end_text : Ran → State → List ℕ
end_text ran after = stopped_text ran.stopped (r15_in after.regs) ++ ticks_text ran.ticks ran.elapsed

-- what is in front of a report's end: of the machine before the run, its inputs, and the machine after it
abbrev pub Front : Type 1
Front = State → List Input → State → List ℕ → Type 0

abbrev pub ShowsRegisters : Front
ShowsRegisters state inputs after front = front ≡ registers_text after.regs

abbrev pub ShowsSteps : Front
ShowsSteps state inputs after front = TracesRun state inputs front

abbrev pub ShowsRecords : Front
ShowsRecords state inputs after front = RecordsRun state inputs front

-- what a report ends with: of the address to which the run was to go, if any, the run, and the machine after
-- it
abbrev pub End : Type 0
End = (to : Option ℕ) → Ran → State → List ℕ

-- that the instruction at the address is next, if it is
abbrev pub reached_text : (to next : ℕ) → List ℕ
reached_text to next = if next == to then codes "reached " ++ (hex to ++ codes "\n") else []

abbrev pub reached_if : Option ℕ → (next : ℕ) → List ℕ
reached_if None next = []
reached_if (Some to) next = reached_text to next

abbrev pub lines_end : End
lines_end to ran after = reached_if to (address_in after.regs) ++ end_text ran after

abbrev pub record_end : End
record_end to ran after = end_line ran after

-- the report of the run, and whether it did all its steps
pub record IsMachineReport (Shows : Front) (ends : End) (source : File) (machine : List ℕ) (profile : Profile)
    (done : Bool) (text : List ℕ) : Type 0 where
  pub state : State
  pub inputs : List Input
  pub ran : Ran
  pub after : State
  pub front : List ℕ
  pub loaded : IsLoaded source machine profile state inputs
  pub runs : Runs state inputs ran after
  pub shows : Shows state inputs after front
  pub done_is : IsTrue done ↔ (ran.stopped ≡ None)
  pub text_is : text ≡ front ++ ends None ran after

-- the answer to a source and a machine file: the report of the run
abbrev pub ReportsRun : {O : Type 0} → Front → End → (O → Option (List ℕ)) → (O → ℕ) → File → List ℕ → Profile
    → O → O → Result Bool ReportFault → Type 0
ReportsRun Shows ends taken failures source machine profile old new result =
    Answers taken failures (IsMachineReport Shows ends source machine profile) (IsRunnable source machine profile)
    (IsRunRefused source machine profile) old new result
