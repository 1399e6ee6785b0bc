use Rattle.std.proofs.Common.{◌≡◌, ◌∙◌, inl, Ok, Err, ap, refl}
use Rattle.arm2_decode.specs.declared.instr.Instr.{Instr}
use Rattle.control_flow.proofs.WorkLemmas.{action_fits}
use Rattle.control_flow.specs.Kinds.{instr_action}
use Rattle.text_savings.specs.Gains.{operation_gain}
use Rattle.text_savings.proofs.saving.word_gain.Goals as goal

pub operation_gain-requires : goal.operation_gain-requires
operation_gain-requires c = action_fits c.args.word (instr_action c.in-Ok.instr) (inl (c.in-Ok.instr, c.in-Ok.ensures.found, refl))

pub returns-in-Ok : goal.returns-in-Ok
returns-in-Ok c = record {
  of_instr = λ i means.
      let both : Ok c.in-Ok.instr ≡ Ok i = c.in-Ok.ensures.only i means in
      let same : c.in-Ok.instr ≡ i = cc in
      c.operation_gain.ensures ∙ ap (λ (j : Instr). operation_gain c.args.statement.now c.args.profile.now c.args.at j.operation) same;
  of_none = λ none. absurd (none c.in-Ok.instr c.in-Ok.ensures.found);
}

pub returns-in-Err : goal.returns-in-Err
returns-in-Err c = record {
  of_instr = λ i means. absurd (let both : Err c.in-Err.field-0 ≡ Ok i = c.in-Err.ensures.only i means in cc);
  of_none = λ none. refl;
}
