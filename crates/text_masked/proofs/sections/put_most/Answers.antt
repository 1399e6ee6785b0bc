use Rattle.std.proofs.Common.{◌∙◌, List, ℕ, ◌++◌, ap, append_assoc}
use Rattle.std.specs.Prelude.{codes, decimal}
use Rattle.std.proofs.lemmas.Result.{on_ok_weaker}
use Rattle.text_masked.proofs.sections.put_most.Goals as goal

pub returns : goal.returns
returns c =
    let out = c.args.out.now.items in
    let front = codes " is set here, at most " in
    let number = decimal c.args.ticks in
    let back = codes " ticks at a time:\n" in
    on_ok_weaker c.put-2.result
    (λ is. is ∙ ap (λ (v : List ℕ). v ++ back) (c.in_ok-put_decimal.ensures ∙ ap (λ (v : List ℕ). v ++ number) c.in_ok-put.ensures) ∙ append_assoc (out ++ front) number back ∙ append_assoc out front (number ++ back))
    c.put-2.ensures
