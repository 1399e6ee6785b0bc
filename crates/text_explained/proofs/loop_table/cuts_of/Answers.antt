use Rattle.std.proofs.Common.{◌∙◌, ap}
use Rattle.std.specs.BTreeSet.{contains}
use Rattle.std.specs.List.{list_any}
use Rattle.std.specs.Ordering.{nat_cmp}
use Rattle.std.proofs.lemmas.List.{take_all}
use Rattle.text_explained.specs.LoopTable.{is_cut}
use Rattle.text_explained.proofs.LoopTableLaws.{cut_more}
use Rattle.text_explained.proofs.loop_table.cuts_of.Goals as goal

pub loop-stated-preserved : goal.loop-stated-preserved
loop-stated-preserved c =
    cut_more c.args.apart.now c.args.loops.now c.loop-stated.stated-index _ c.loop-stated-test.true (contains nat_cmp c.loop-stated.cuts)
    (contains nat_cmp c.note_cuts.new.cuts) c.span_of.result.first c.span_of.result.end c.span_of.ensures.first c.span_of.ensures.end c.loop-stated.invariant
    c.in_ok-note_cuts.ensures

pub returns : goal.returns
returns c = λ at.
    c.loop-stated.invariant at
    ∙ ap (list_any (is_cut c.args.apart.now at)) (take_all c.loop-stated.stated-index c.args.loops.now c.loop-stated-test.false)
