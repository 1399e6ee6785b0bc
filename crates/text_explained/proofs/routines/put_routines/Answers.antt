use Rattle.std.proofs.Common.{◌≡◌, ◌∙◌, List, ℕ}
use Rattle.longest_walk.specs.Folded.{unfolded}
use Rattle.text_rows.proofs.RowLaws.{so_far_all, so_far_one}
use Rattle.text_explained.specs.PartSums.{in_group}
use Rattle.text_explained.specs.Sums.{routine_row}
use Rattle.text_explained.proofs.PartLaws.{routine_written}
use Rattle.text_explained.proofs.routines.put_routines.Goals as goal

pub loop-at-preserved : goal.loop-at-preserved
loop-at-preserved c =
    let walk = c.args.walk in
    let IsRow = λ (e : ℕ × ℕ) (row : List ℕ). row ≡ routine_row c.args.lines.now walk.handler.now.graph (unfolded walk.longest.now.walk) walk.longest.now.bound e.0 in
    so_far_one IsRow c.args.words.now c.loop-at.at-index _ c.args.out.now.items c.loop-at.out.items c.put_begun.new.out.items c.loop-at.invariant c.loop-at-test.true
    (routine_written c.args.lines.now walk.handler.now.graph (unfolded walk.longest.now.walk) walk.longest.now.bound _ (in_group c.args.routines.now.called_by.by_key) c.of_part-sum.result
    c.loop-at.out.items c.put_begun.new.out.items c.requires (c.of_part-sum.ensures ∙ c.in_ok-sums.ensures _) c.in_ok-put_begun.ensures)

pub returns : goal.returns
returns c =
    let walk = c.args.walk in
    let IsRow = λ (e : ℕ × ℕ) (row : List ℕ). row ≡ routine_row c.args.lines.now walk.handler.now.graph (unfolded walk.longest.now.walk) walk.longest.now.bound e.0 in
    so_far_all IsRow c.args.words.now c.loop-at.at-index c.args.out.now.items c.loop-at.out.items c.loop-at.invariant c.loop-at-test.false
