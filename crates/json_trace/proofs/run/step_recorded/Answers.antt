use Rattle.std.proofs.Common.{◌≡◌, ◌∙◌, ◌+◌, ℕ, ap, sym}
use Rattle.bus_ticks.specs.declared.profile.Profile.{Profile}
use Rattle.json_trace.specs.Records.{ticks_passed}
use Rattle.json_trace.proofs.run.step_recorded.Goals as goal

pub returns-clause-step : goal.returns-clause-step
returns-clause-step c =
    let now = c.args.machine.now in
    let traced = c.step_traced-traced in
    let stepped = traced.result.stepped in
    let passed : c.passed_in.result ≡ ticks_passed now.profile.burst c.args.input stepped =
    c.passed_in.ensures.passed
    ∙ ap (λ (p : Profile). ticks_passed p.burst c.args.input stepped) c.profile-profile.ensures in
    let elapsed = ap (λ (t : ℕ). c.args.ran.now.elapsed + t) (c.from.ensures ∙ passed) in
    let before = c.words_of-before.ensures ∙ c.registers.ensures in
    let moved = sym (c.planned-transfers.ensures c.args.input stepped traced.new.self traced.ensures.step) in (
      traced.ensures.step,
      λ k. record {
        number = c.args.ran.now.steps;
        elapsed = elapsed k;
        stepped = stepped;
        word = traced.ensures.word k;
        transfers = moved k;
        lines = c.args.input.lines.0;
        before = before k;
        after = traced.new.self;
      },
    )
