use Rattle.std.proofs.Common.{◌≡◌, ◌-◌, ◌+◌, Some, None, refl, sym, ap, ◌∙◌, length, rules}
use Rattle.text_refusals.specs.Outline.{all_taken, first_token, in_tokens, token_of, tokens, reading_of, taken}
use Rattle.text_refusals.proofs.OutlineLemmas.{more_tokens}
use Rattle.text_refusals.proofs.outline.OutlineReading.take_all.Goals as goal

pub loop-preserved : goal.loop-preserved
loop-preserved c =
    let found : Some (in_tokens (c.in-Some.token, c.in-Some.after)) ≡ first_token c.loop.rest.now = search rules in
    let took : reading_of c.take.new.self ≡ taken c.args.line (reading_of c.loop.self) (token_of c.in-Some.token) = search rules in
    record {
      last = refl;
      same =
          ap (λ r. all_taken c.args.line r (tokens (length c.args.text.now - (c.loop.counter + 1)) c.in-Some.after.now)) took
          ∙ (sym (more_tokens c.args.line (reading_of c.loop.self) (length c.args.text.now) c.loop.counter c.loop.rest.now (Some (in_tokens (c.in-Some.token, c.in-Some.after))) c.loop-test.true found)
          ∙ c.loop.invariant.same);
    }

pub returns-in_default : goal.returns-in_default
returns-in_default c =
    let found : None ≡ first_token c.loop.rest.now = search rules in
    sym (more_tokens c.args.line (reading_of c.loop.self) (length c.args.text.now) c.loop.counter c.loop.rest.now None c.loop-test.true found)
    ∙ c.loop.invariant.same
