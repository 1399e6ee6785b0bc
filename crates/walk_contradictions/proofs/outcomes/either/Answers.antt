use Rattle.std.proofs.Common.{◌≡◌, ◌∙◌, length, arith, ap, true}
use Rattle.std.proofs.lemmas.List.{length-set}
use Rattle.walk_contradictions.proofs.FlagLemmas.{either_kept, either_set}
use Rattle.walk_contradictions.proofs.outcomes.either.Goals as goal
use Rattle.walk_contradictions.proofs.outcomes.either.Goals.{then-second-number, else-second-number}

pub loop-number-preserved : goal.loop-number-preserved
loop-number-preserved c =
    let long : length c.loop-number.both ≡ 16 = c.loop-number.invariant.1 in
    elim c.if-second-number.branch [
      | then-second-number w ↦ (
        either_set c.loop-number.both c.args.first.now c.args.second.now c.loop-number.number c.loop-number.invariant.0 c.if-second-number.both
            (omega (arith, long, c.loop-number-test.true)) w.if-second-number.true w.both-is,
        ap length w.both-is ∙ length-set c.loop-number.both c.loop-number.number true ∙ long,
      )
      | else-second-number w ↦ (
        either_kept c.loop-number.both c.args.first.now c.args.second.now c.loop-number.number c.loop-number.invariant.0 c.if-second-number.both w.if-second-number.false
            w.both-is,
        ap length w.both-is ∙ long,
      )
    ]
