use Rattle.std.proofs.Common.{◌≡◌, ◌∙◌, ◌++◌, ℕ, List, ap, codes, string_bytes, subst}
use Rattle.arm2_effect.specs.Modes.{r15_in}
use Rattle.arm2_effect.specs.ProgramCounter.{mode_of}
use Rattle.json_trace.specs.Json.{ended, quoted}
use Rattle.json_trace.specs.StepLine.{flags_text, mode_members, mode_name, registers_value}
use Rattle.json_trace.proofs.JsonLaws.{named_value}
use Rattle.json_trace.proofs.step_line.put_processor.Goals as goal

pub returns : goal.returns
returns c =
    let regs = c.args.machine.now.regs in
    let r15 = r15_in regs in
    let name : List ℕ = quoted (codes "registers") ++ codes ":" in
    let old = string_bytes c.args.out.now in
    let put = string_bytes c.put_mode.new.out in
    let mode_is : c.mode_name-mode.result.now ≡ mode_name (mode_of r15) =
    c.mode_name-mode.ensures
    ∙ ap (λ m. mode_name m) (c.mode_of.ensures ∙ ap (λ (r : ℕ). mode_of r) c.get-r15.ensures) in
    let flags_are : c.as_str.result.now ≡ flags_text r15 =
    c.as_str.ensures.value ∙ c.flags_text-flags.ensures ∙ ap (λ (r : ℕ). flags_text r) c.get-r15.ensures in
    let with_mode : put ≡ old ++ (ended (mode_members (mode_name (mode_of r15)) c.as_str.result.now) ++ name) =
    subst (λ (mode : List ℕ). put ≡ old ++ (ended (mode_members mode c.as_str.result.now) ++ name)) mode_is
    c.in_ok-put_mode.ensures in
    let members : put ≡ old ++ (ended (mode_members (mode_name (mode_of r15)) (flags_text r15)) ++ name) =
    subst (λ (flags : List ℕ). put ≡ old ++ (ended (mode_members (mode_name (mode_of r15)) flags) ++ name)) flags_are
    with_mode in
    let registers : string_bytes c.put_registers.new.out ≡ put ++ registers_value c.args.step.now.before regs =
    subst
    (λ (after : List ℕ). string_bytes c.put_registers.new.out ≡ put ++ registers_value c.args.step.now.before after)
    c.registers.ensures c.in_ok-put_registers.ensures in
    named_value old put (string_bytes c.put_registers.new.out) _ (mode_members (mode_name (mode_of r15)) (flags_text r15)) name
    (registers_value c.args.step.now.before regs) members registers c.in_ok-push_str.ensures.bytes
