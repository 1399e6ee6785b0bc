use Rattle.std.proofs.Common.{◌∙◌, ◌++◌, ap}
use Rattle.std.specs.Prelude.{flat_map}
use Rattle.std.proofs.lemmas.List.{take_all}
use Rattle.follow_reports.specs.DifferenceText.{cause_row}
use Rattle.follow_reports.proofs.DifferenceLemmas.{cause_more}
use Rattle.follow_reports.proofs.difference_text.put_causes.Goals as goal

pub loop-cause-preserved : goal.loop-cause-preserved
loop-cause-preserved c =
    cause_more c.args.list.now c.args.causes.now c.loop-cause.cause-index _ c.args.out.now.items c.loop-cause.out.items c.put_cause.new.out.items c.loop-cause-test.true
    c.loop-cause.invariant c.in_ok-put_cause.ensures

pub returns : goal.returns
returns c =
    c.loop-cause.invariant ∙ ap (λ cs. c.args.out.now.items ++ flat_map (cause_row c.args.list.now) cs) (take_all c.loop-cause.cause-index c.args.causes.now c.loop-cause-test.false)
