use Rattle.std.proofs.Common.{◌≡◌, ◌∙◌, refl, ap}
use Rattle.bus_ticks.specs.declared.profile.Profile.{Profile}
use Rattle.arm2_exec.proofs.StepLemmas.{same_profile}
use Rattle.arm2_exec.specs.Run.{with_one_step}
use Rattle.debugger.proofs.stepping.advance.Goals as goal

pub returns : goal.returns
returns c =
    let s = c.args.machine.now in
    let i = c.args.input.now in
    let traced = c.step_traced-traced.result in
    let step = c.step_traced-traced.ensures.step in
    let same = same_profile s i traced.stepped c.step_traced-traced.new.self step in
    let counted : c.count.new.self ≡ with_one_step s.profile.burst i traced.stepped c.args.ran.now
    = c.count.ensures.step ∙ ap (λ (p : Profile). with_one_step p.burst i traced.stepped c.args.ran.now) same in
    record {
      stepped = ((step, c.step_traced-traced.ensures.word), c.in_default.not-Stopped, counted);
      input = refl;
      bound = c.count.ensures.bound;
    }
