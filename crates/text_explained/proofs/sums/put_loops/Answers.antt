use Rattle.std.proofs.Common.{◌≡◌, ◌∙◌, List, ℕ, arith, subst}
use Rattle.asm_text.specs.Appended.{Appends}
use Rattle.longest_walk.specs.Folded.{unfolded}
use Rattle.statement.specs.declared.stated.Loop.{Loop}
use Rattle.text_rows.specs.Rows.{AreRows}
use Rattle.text_rows.proofs.RowLaws.{so_far_all, so_far_one}
use Rattle.text_explained.specs.Sums.{loop_sum, sum_row}
use Rattle.text_explained.proofs.PartLaws.{numbered_row}
use Rattle.text_explained.proofs.sums.put_loops.Goals as goal

pub loop-number-preserved : goal.loop-number-preserved
loop-number-preserved c =
    let walk = c.args.walk in
    let t = c.args.table.now in
    let i = c.loop-number.number in
    let loops = c.loops-loops.result.now in
    let IsRow = λ (stated : Loop) (row : List ℕ). row ≡ sum_row c.args.lines.now walk.longest.now.bound stated.header (loop_sum t.apart.now walk.handler.now.graph (unfolded walk.longest.now.walk) stated) in
    so_far_one IsRow loops i _ c.args.out.now.items c.loop-number.out.items c.put_sum.new.out.items c.loop-number.invariant c.loop-number-test.true
    (numbered_row c.args.lines.now walk.longest.now.bound t.apart.now t.loops.now loops walk.handler.now.graph (unfolded walk.longest.now.walk) i _ c.of_part-sum.result c.loop-number.out.items
    c.put_sum.new.out.items c.loops-loops.ensures c.loop-number-test.true (c.of_part-sum.ensures ∙ c.in_ok-sums.ensures i) c.in_ok-put_sum.ensures)

pub returns : goal.returns
returns c =
    let walk = c.args.walk in
    let t = c.args.table.now in
    let IsRow = λ (stated : Loop) (row : List ℕ). row ≡ sum_row c.args.lines.now walk.longest.now.bound stated.header (loop_sum t.apart.now walk.handler.now.graph (unfolded walk.longest.now.walk) stated) in
    subst (λ (ls : List Loop). Appends (AreRows IsRow ls) c.args.out.now.items c.loop-number.out.items) c.loops-loops.ensures
    (so_far_all IsRow c.loops-loops.result.now c.loop-number.number c.args.out.now.items c.loop-number.out.items c.loop-number.invariant (omega (arith, c.loop-number-test.false)))
