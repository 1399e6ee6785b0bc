use Rattle.std.proofs.Common.{◌≡◌, ◌∙◌, None, Some, ap, refl}
use Rattle.arm2_decode.specs.declared.instr.Instr.{Instr}
use Rattle.text_explained.specs.Pricing.{instr_granted}
use Rattle.text_explained.proofs.pricing.granted_at.Goals as goal

pub returns-in-Some : goal.returns-in-Some
returns-in-Some c = record {
  of_instr = λ i has.
      let both : Some c.in-Some.instr ≡ Some i = c.in-Some.ensures.only i has in
      let same : c.in-Some.instr ≡ i = cc in
      c.instr_granted.ensures ∙ ap (λ (j : Instr). instr_granted c.args.statement.now c.args.at j) same;
  of_none = λ none. absurd (none c.in-Some.instr c.in-Some.ensures.some);
}

pub returns-in-None : goal.returns-in-None
returns-in-None c = record {
  of_instr = λ i has. absurd (let both : None ≡ Some i = c.in-None.ensures.only i has in cc);
  of_none = λ none. refl;
}
