use Rattle.std.proofs.Common.{◌∙◌, ℕ, List, subst}
use Rattle.asm_text.specs.Appended.{Appends}
use Rattle.text_rows.specs.Rows.{AreRows}
use Rattle.text_rows.proofs.RowLaws.{so_far_all, so_far_one}
use Rattle.sources.proofs.source_rows.put_image_rows.Goals as goal

pub loop-at-preserved : goal.loop-at-preserved
loop-at-preserved g c =
    so_far_one (g.R.ImageRows.is_row c.args.rows.now) c.deref-at-items.result.now c.loop-at.at-index _ c.args.out.now.items c.loop-at.out.items
    c.put_word.new.out.items c.loop-at.invariant c.loop-at-test.true c.in_ok-put_word.ensures

pub returns : goal.returns
returns g c =
    let IsRow = g.R.ImageRows.is_row c.args.rows.now in
    let words = c.deref-at-items.result.now in
    subst (λ (ws : List (ℕ × ℕ)). Appends (AreRows IsRow ws) c.args.out.now.items c.loop-at.out.items) (c.deref-at-items.ensures.value ∙ c.in_ok-words.ensures.words)
    (so_far_all IsRow words c.loop-at.at-index c.args.out.now.items c.loop-at.out.items c.loop-at.invariant c.loop-at-test.false)
