use Rattle.std.proofs.Common.{◌≡◌, ◌∙◌, ◌++◌, ℕ, List, ap, codes, string_bytes, subst}
use Rattle.arm2_effect.specs.Modes.{r15_in}
use Rattle.arm2_effect.specs.declared.modes.Mode.TheVariants.{User, Fiq, Irq, Svc}
use Rattle.json_trace.specs.Json.{member, word_value}
use Rattle.json_trace.specs.StepLine.{changed}
use Rattle.json_trace.proofs.JsonLaws.{object_of_five}
use Rattle.json_trace.proofs.registers.put_registers.Goals as goal

pub returns : goal.returns
returns c =
    let before = c.args.before.now in
    let after = c.args.after.now in
    let last : string_bytes c.put_last.new.out
    ≡ string_bytes c.put_bank-4.new.out ++ (member (codes "R15") (word_value (r15_in after)) ++ codes "}") =
    let value : c.as_str.result.now ≡ word_value (r15_in after) =
    c.as_str.ensures.value ∙ c.word_or_null-value.ensures ∙ ap (λ (w : ℕ). word_value w) c.get.ensures.word in
    subst
    (λ (v : List ℕ). string_bytes c.put_last.new.out ≡ string_bytes c.put_bank-4.new.out ++ (member (codes "R15") v ++ codes "}"))
    value c.in_ok-put_last.ensures in
    object_of_five _ _ _ _ _ _ _ (changed User before after 0 15) (changed Fiq before after 8 7)
    (changed Irq before after 13 2) (changed Svc before after 13 2) (member (codes "R15") (word_value (r15_in after)))
    c.in_ok-push_str.ensures.bytes c.in_ok-put_bank.ensures c.in_ok-put_bank-2.ensures c.in_ok-put_bank-3.ensures
    c.in_ok-put_bank-4.ensures last
