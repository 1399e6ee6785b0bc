-- What the report of a debugger's session prints.
use Rattle.std.specs.Prelude.{ℕ, List}
use Rattle.bus_ticks.specs.declared.profile.Profile.{Profile}
use Rattle.arm2_exec.specs.State.{State}
use Rattle.asm_text.specs.Source.{lines_of}
use Rattle.machine_file.specs.Stated.{Stated}
use Rattle.debugger.specs.Conversation.{Converses}
use Rattle.debugger.specs.SessionState.{begun}
use Rattle.handlers.specs.Placing.{IsPlaced}
use Rattle.sources.specs.File.{File}

-- the session of the loaded machine by the lines of the commands and the labels of the source, with the
-- file's word at the port; its steps and events are not used
pub record IsDebugReport (source : File) (machine commands : List ℕ) (profile : Profile)
    (text : List ℕ) : Type 0 where
  pub file : Stated
  pub state : State
  pub placed : IsPlaced source machine profile file state
  pub converses : Converses placed.stated.names (begun state file.schedule.port) (lines_of commands) text
