use Rattle.std.proofs.Common.{◌∙◌, [], ◌∷◌, ◌++◌, List, ℕ, ap, codes, refl, string_bytes}
use Rattle.std.specs.Prelude.{decimal}
use Rattle.json_trace.specs.Facts.{facts_with}
use Rattle.json_trace.specs.Json.{member, word_value}
use Rattle.json_trace.specs.StepLine.{bus_members, instruction_members, processor_members}
use Rattle.json_trace.proofs.JsonLaws.{line_of_four}
use Rattle.json_trace.proofs.step_line.put_step.Goals as goal

pub returns : goal.returns
returns c =
    let step = c.args.step.now in
    let facts = facts_with c.args.step.now c.args.machine.now in
    let added = c.in_ok-put_instruction.ensures in
    let text = added.1.0 in
    let instruction =
    added.2 ∙ ap (λ (t : List ℕ). string_bytes c.push_str.new.self ++ t) added.1.2 in (
      _,
      (text, added.1.1, refl),
      line_of_four _ _ _ _ _ _ _ (instruction_members facts text) (processor_members facts) (bus_members facts)
          (member (codes "elapsed") (decimal step.elapsed) ∷ member (codes "next") (word_value step.traced.stepped.to) ∷ [])
          (member (codes "ticks") (decimal step.traced.stepped.ticks))
          c.in_ok-push_str.ensures.bytes instruction c.in_ok-put_processor.ensures c.in_ok-put_bus.ensures
          c.in_ok-put_time.ensures c.in_ok-push_str-2.ensures.bytes,
    )
