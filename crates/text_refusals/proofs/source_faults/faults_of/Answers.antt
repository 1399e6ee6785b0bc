use Rattle.std.proofs.Common.{rules, [], append-nil, inl, inr, subst, arith}
use Rattle.text_refusals.specs.FaultyLines.{AreFaults, IsAssembled}
use Rattle.text_refusals.specs.declared.word_rows.TheConstants.{MOST_LINES}
use Rattle.text_refusals.proofs.source_faults.faults_of.Goals as goal

pub returns-in_default : goal.returns-in_default
returns-in_default c =
    let made : IsAssembled c.loop-left.text.items = search rules in
    subst (AreFaults MOST_LINES c.args.source.now) (append-nil c.loop-left.found.items) (c.loop-left.invariant [] (inr made))

pub returns : goal.returns
returns c =
    subst (AreFaults MOST_LINES c.args.source.now) (append-nil c.loop-left.found.items) (c.loop-left.invariant [] (inl (omega arith)))
