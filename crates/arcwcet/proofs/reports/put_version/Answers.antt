use Rattle.std.proofs.Common.{◌∙◌, ◌++◌, List, ℕ, ap, codes, subst}
use Rattle.std.proofs.lemmas.List.{append_assoc}
use Rattle.outputs.specs.OnTheWay.{IsOnTheWay}
use Rattle.arcwcet.proofs.reports.put_version.Goals as goal

pub returns : goal.returns
returns g c = λ start text h.
    let number = codes "1.0.0" in
    let named = text ++ codes "arcwcet " in
    subst (λ (t : List ℕ). IsOnTheWay g.O.Output.taken g.O.Output.failures start c.put-3.new.out c.put-3.new.self t)
    (ap (λ (b : List ℕ). (named ++ b) ++ codes "\n") c.as_bytes.ensures.value ∙ append_assoc named number (codes "\n") ∙ append_assoc text (codes "arcwcet ") (number ++ codes "\n"))
    (c.put-3.ensures start (named ++ c.as_bytes.result.now) (c.put-2.ensures start named (c.put.ensures start text h)))
