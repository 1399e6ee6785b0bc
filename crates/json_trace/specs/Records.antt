-- The lines of a run.
use Rattle.std.specs.Prelude.{◌≡◌, ℕ, ◌+◌, ◌*◌, List, [], ◌∷◌, ◌++◌, codes, decimal, if◌then◌else◌}
use Rattle.std.specs.Prelude.{option_map}
use Rattle.arm2_effect.specs.Effects.{is_stopped}
use Rattle.arm2_exec.specs.Run.{why_stopped}
use Rattle.arm2_exec.specs.State.{State}
use Rattle.arm2_exec.specs.Step.{Step, address_in, traced_word}
use Rattle.arm2_exec.specs.declared.machine.Input.{Input}
use Rattle.arm2_exec.specs.declared.machine.Ran.{Ran}
use Rattle.arm2_exec.specs.declared.machine.Stepped.{Stepped}
use Rattle.text_trace.specs.TraceText.{Goes, why_name}
use Rattle.json_trace.specs.Json.{member, name_value, object, word_value}
use Rattle.json_trace.specs.StepLine.{IsStepLine, StepFacts, transfers_in}

-- the ticks that pass in a step, with those of its bursts; none in a stopped one
abbrev pub ticks_passed : (burst : ℕ) → Input → Stepped → ℕ
ticks_passed burst i stepped =
    if is_stopped stepped.kind then 0 else stepped.ticks + burst * i.bursts

-- a step of the machine, after so many steps and ticks
abbrev pub facts_of : (number elapsed : ℕ) → (s : State) → (i : Input) → (stepped : Stepped) → (after : State)
    → Step s i stepped after → StepFacts
facts_of number elapsed s i stepped after step =
    record {
      number = number;
      elapsed = elapsed + ticks_passed s.profile.burst i stepped;
      stepped = stepped;
      word = traced_word s i;
      transfers = transfers_in step.moved.accesses;
      lines = i.lines.0;
      before = s.regs;
      after = after;
    }

-- the lines of a run's steps, after so many steps and ticks, in their order, up to that of the first that is
-- stopped
abbrev pub RecordsFrom : (number elapsed : ℕ) → State → List Input → List ℕ → Type 0
RecordsFrom number elapsed s [] text = text ≡ []
RecordsFrom number elapsed s (i ∷ rest) text =
    (stepped : Stepped) × (next : State) × (step : Step s i stepped next) × (line : List ℕ)
    × IsStepLine (facts_of number elapsed s i stepped next step) line × (more : List ℕ)
    × Goes (why_stopped stepped.kind) more
    (RecordsFrom (number + 1) (elapsed + ticks_passed s.profile.burst i stepped) next rest more) × (text ≡ line ++ more)

abbrev pub RecordsRun : State → List Input → List ℕ → Type 0
RecordsRun s inputs text = RecordsFrom 0 0 s inputs text

-- ## The end

-- what the whole run was, and the address of the instruction that is next
abbrev pub end_members : Ran → State → List (List ℕ)
end_members ran after =
    member (codes "steps") (decimal ran.steps)
    ∷ member (codes "ticks") (decimal ran.ticks)
    ∷ member (codes "elapsed") (decimal ran.elapsed)
    ∷ member (codes "stopped") (name_value (option_map why_name ran.stopped))
    ∷ member (codes "next") (word_value (address_in after.regs)) ∷ []

abbrev pub end_line : Ran → State → List ℕ
end_line ran after = object (end_members ran after) ++ codes "\n"
