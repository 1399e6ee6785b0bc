use Rattle.std.proofs.Common.{◌≡◌, ◌++◌, Bool, refl, string_bytes, subst}
use Rattle.arm2_effect.specs.Modes.{r15_in}
use Rattle.json_trace.specs.Facts.{facts_with}
use Rattle.json_trace.specs.Json.{ended}
use Rattle.json_trace.specs.StepLine.{IsTextValue, fetched_members, instruction_members, is_done, outcome_members}
use Rattle.json_trace.proofs.JsonLaws.{ended_more}
use Rattle.json_trace.proofs.step_line.put_instruction.Goals as goal

pub returns : goal.returns
returns c =
    let step = c.args.step.now in
    let text = c.as_str.result.now in
    let is : IsTextValue step.traced.word step.traced.stepped.from text =
    rw c.as_str.ensures.value c.text_value-text.ensures in
    let outcome =
    subst
    (λ (done : Bool). string_bytes c.put_outcome.new.out ≡ string_bytes c.put_fetched.new.out ++ ended (outcome_members step.traced.stepped.kind done))
    c.is_done-done.ensures c.in_ok-put_outcome.ensures in (
      ended (instruction_members (facts_with step c.args.machine.now) text),
      (text, is, refl),
      ended_more _ _ _ (fetched_members step.number step.traced.stepped.from step.traced.word text)
          (outcome_members step.traced.stepped.kind (is_done step.traced.word (r15_in step.before) step.traced.stepped.kind))
          c.in_ok-put_fetched.ensures outcome,
    )
