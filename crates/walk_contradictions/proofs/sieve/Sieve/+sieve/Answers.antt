use Rattle.std.proofs.Common.{ap, refl, true, Vec}
use Rattle.std.specs.Global.{Global}
use Rattle.longest_walk.specs.Folded.{unfolded}
use Rattle.longest_walk.specs.declared.folded.Item.{Item}
use Rattle.walk_contradictions.proofs.SieveLemmas.{rounds_sift, sieve_all, sieve_item, sieve_none}
use Rattle.walk_contradictions.proofs.sieve.Sieve.+sieve.Goals as goal

pub add_rounds-returns : goal.add_rounds-returns
add_rounds-returns t c =
    rounds_sift c.args.image.now c.args.rounds (unfolded c.args.body.now) c.in_ok-inner.inner c.args.self.now _ c.in_ok-new.field-0 c.in_ok-inner.ensures
    (ap (λ (v : Vec Item Global). v.items) c.in_ok-new.ensures.ok) c.in_ok-push.ensures.items refl

pub of-loop-number-init : goal.of-loop-number-init
of-loop-number-init t c = sieve_none c.args.image.now (record { items = c.new.result; possible = true }) c.new.ensures.items

pub of-loop-number-preserved : goal.of-loop-number-preserved
of-loop-number-preserved t c =
    sieve_item c.args.image.now c.args.items.now c.loop-number.number c.index-items-number.result c.loop-number.sieve c.add.new.self c.loop-number-test.true
    c.index-items-number.is c.loop-number.invariant c.in_ok-add.ensures

pub of-returns : goal.of-returns
of-returns t c = sieve_all c.args.image.now c.args.items.now c.loop-number.number c.loop-number.sieve c.loop-number-test.false c.loop-number.invariant
