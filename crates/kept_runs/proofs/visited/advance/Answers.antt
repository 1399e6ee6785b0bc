use Rattle.std.proofs.Common.{◌+◌, ◌∙◌, ℕ, ap, arith, inr, refl, sym}
use Rattle.std.proofs.lemmas.Bool.{both_ways}
use Rattle.kept_runs.proofs.VisitSteps.{fit_for_fiq, strayed_few, unchanged}
use Rattle.kept_runs.proofs.visited.advance.Goals as goal

pub returns-then-not-takes_fiq : goal.returns-then-not-takes_fiq
returns-then-not-takes_fiq c = record {
  advances = (
    refl,
    record {
      stepped = c.step_of-taking.result;
      step = c.step_of-taking.ensures.step c.args.machine.now c.in-Some.ensures.step;
      no_fiq = λ is. both_ways c.takes_fiq.result c.if-not-takes_fiq.true (c.takes_fiq.ensures.1 is);
      judged = c.take_step.new.machine;
      halts = c.in-Some.ensures.halts;
      at_is = c.address-at.ensures.address;
    },
  );
}

pub follow_whole-strayed-requires-clause-machine : goal.follow_whole-strayed-requires-clause-machine
follow_whole-strayed-requires-clause-machine c =
    fit_for_fiq c.args.both.irq.now.graph c.args.both.fiq.now.graph c.args.machine.now c.args.input c.step_of-taking.result c.step_of-taking.new.machine
    c.requires.ready.prices c.requires.can.can.machine (c.step_of-taking.ensures.step c.args.machine.now c.in-Some.ensures.step) (c.takes_fiq.ensures.0 c.if-not-takes_fiq.false)

pub overflow_add-result : goal.overflow_add-result
overflow_add-result c =
    let f = c.in-Some-strayed.field-0 in
    let few = strayed_few c.args.both.fiq.now.image.now c.args.both.fiq.now.statement c.args.both.fiq.now.graph c.args.both.fiq.now.tree c.step_of-taking.new.machine c.args.rest.now f.steps f.at f.why c.follow_whole-strayed.new.machine c.in-Some-strayed.ensures in
    let room = c.requires.room in
    omega (arith, few, room)

pub returns-in-Some-strayed : goal.returns-in-Some-strayed
returns-in-Some-strayed c = record {
  advances = (
    c.in-Some-strayed.field-0.steps,
    refl,
    record {
      entered = c.step_of-taking.new.machine;
      takes = record {
        stepped = c.step_of-taking.result;
        step = c.step_of-taking.ensures.step c.args.machine.now c.in-Some.ensures.step;
        takes_fiq = c.takes_fiq.ensures.0 c.if-not-takes_fiq.false;
        small = c.step_of-taking.ensures.small c.args.machine.now c.in-Some.ensures.step;
      };
      strays = c.in-Some-strayed.ensures;
    },
  );
}

pub returns-then-back-at : goal.returns-then-back-at
returns-then-back-at c = record {
  advances = (
    c.follow_whole-strayed.new.follower.steps,
    refl,
    record {
      entered = c.step_of-taking.new.machine;
      takes = record {
        stepped = c.step_of-taking.result;
        step = c.step_of-taking.ensures.step c.args.machine.now c.in-Some.ensures.step;
        takes_fiq = c.takes_fiq.ensures.0 c.if-not-takes_fiq.false;
        small = c.step_of-taking.ensures.small c.args.machine.now c.in-Some.ensures.step;
      };
      visit = c.follow_whole-strayed.new.follower;
      leaves = c.in_default-strayed.ensures;
      handling_is = refl;
      at_is = c.address-back.ensures.address;
      interrupted = c.address-at.ensures.address;
      elsewhere = c.if-back-at.true;
    },
  );
}

pub returns : goal.returns
returns c = record {
  advances = inr (
    refl,
    record {
      entered = c.step_of-taking.new.machine;
      takes = record {
        stepped = c.step_of-taking.result;
        step = c.step_of-taking.ensures.step c.args.machine.now c.in-Some.ensures.step;
        takes_fiq = c.takes_fiq.ensures.0 c.if-not-takes_fiq.false;
        small = c.step_of-taking.ensures.small c.args.machine.now c.in-Some.ensures.step;
      };
      leaves = c.in_default-strayed.ensures;
      back = sym c.address-back.ensures.address ∙ c.if-back-at.false ∙ c.address-at.ensures.address;
      main_is =
          unchanged c.args.both.irq.now.image.now c.args.both.irq.now.statement c.args.both.irq.now.graph c.args.both.irq.now.tree c.args.followers.now.main c.take_step.new.follower c.args.machine.now c.args.input c.take_step.new.machine c.in-Some.halt
          c.in-Some.ensures c.step_of-taking.result c.step_of-taking.new.machine (c.step_of-taking.ensures.step c.args.machine.now c.in-Some.ensures.step) (c.takes_fiq.ensures.0 c.if-not-takes_fiq.false);
      visits_are = refl;
      ticks_are = ap (λ (t : ℕ). c.args.followers.now.ticks + (t + c.follow_whole-strayed.new.follower.ticks)) c.from.ensures;
    },
  );
}
