-- What the code knows of a step. It is here since clauses cite it.
use Rattle.std.specs.Prelude.{List, [], Option}
use Rattle.arm2_effect.specs.declared.step_end.Kind.{Kind}
use Rattle.arm2_effect.specs.declared.step_end.Kind.TheVariants.{Plain, Taken, Stopped}
use Rattle.arm2_exec.specs.State.{State}
use Rattle.json_trace.specs.Planned.{moved_words}
use Rattle.json_trace.specs.StepLine.{StepFacts, Transfer}
use Rattle.json_trace.specs.declared.step_line.StepRecord.{StepRecord}
use Rattle.json_trace.specs.declared.moved_words.Transfers.{Transfers}

-- of a step that took an exception or stopped nothing was moved
abbrev pub carried : Kind → Option Transfers → List Transfer
carried Plain planned = moved_words planned
carried (Taken vector) planned = []
carried (Stopped why) planned = []

abbrev pub facts_with : StepRecord → (after : State) → StepFacts
facts_with r after =
    record {
      number = r.number;
      elapsed = r.elapsed;
      stepped = r.traced.stepped;
      word = r.traced.word;
      transfers = carried r.traced.stepped.kind r.transfers;
      lines = r.lines.0;
      before = r.before;
      after = after;
    }
