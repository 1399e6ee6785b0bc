use Rattle.std.proofs.Common.{◌≡◌, ◌∙◌, ◌++◌, ℕ, List, ap, refl, subst}
use Rattle.std.proofs.lemmas.Result.{IfOk-weaker}
use Rattle.image.specs.Image.{Words}
use Rattle.longest_walk.specs.Folded.{unfolded}
use Rattle.text_rows.specs.Rows.{AreRows, section}
use Rattle.follow_reports.specs.Differences.{IsListed, capped_at}
use Rattle.follow_reports.specs.DifferenceText.{IsDifferenceRow, heading_of, lines_in, sum_rows, sums_heading}
use Rattle.follow_reports.specs.declared.differences.Difference.{Difference}
use Rattle.follow_reports.proofs.difference_text.difference_table.Goals as goal

pub returns : goal.returns
returns c = λ source passes is_read tally.
    let read = c.args.read.now in
    let h = c.args.handler.now in
    let list = c.in_ok-list.list.items in
    let rows = c.in_ok-rows.rows.items in
    let below : c.deref-4.result.now ≡ sum_rows list =
    c.deref-4.ensures.value ∙ c.in_ok-sums.ensures ∙ ap sum_rows c.deref-2.ensures.value in
    IfOk-weaker c.joined.result _ _
    (λ text is. record {
      read = read;
      is_read = is_read;
      words_are = refl;
      list = list;
      is_listed = subst (λ (w : Words). IsListed w h.statement h.graph (capped_at h.graph passes (unfolded c.args.walk.now)) list)
          c.requires.image (c.in_ok-list.ensures passes tally);
      rows = rows;
      are_rows = subst (λ (l : List Difference). AreRows (IsDifferenceRow (lines_in read read.text)) l rows) c.deref.ensures.value c.in_ok-rows.ensures;
      text_is = is ∙ (λ i. section (heading_of read.text) (c.deref-3.ensures.value i) ++ section sums_heading (below i));
    })
    c.joined.ensures
