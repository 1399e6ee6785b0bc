use Rattle.std.proofs.Common.{◌≡◌, true, refl, subst}
use Rattle.image.specs.Image.{Words}
use Rattle.text_explained.specs.Assumed.{AreDoneReturns}
use Rattle.std.proofs.lemmas.Result.{IfOk-weaker}
use Rattle.std.specs.BTreeSet.{contains}
use Rattle.std.specs.Ordering.{nat_cmp}
use Rattle.follow_reports.proofs.DoneLemmas.{done_exactly, returns_as}
use Rattle.follow_reports.proofs.warnings.warnings.Goals as goal

pub returns : goal.returns
returns c = λ source passes is_read tally.
    let h = c.args.handler.now in
    let read = c.args.read.now in
    IfOk-weaker c.done_text.result _ _
    (λ text is. record {
      read = read;
      is_read = is_read;
      words_are = refl;
      are_done =
          returns_as _ _ (done_exactly h.graph passes c.args.by_place.now tally (contains nat_cmp c.in_ok-done.done) c.in_ok-done.ensures) read read.image h.statement h.graph text.items
          (subst (λ (w : Words). AreDoneReturns read w h.statement h.graph (λ a. contains nat_cmp c.in_ok-done.done a ≡ true) text.items) c.requires.image is);
    })
    c.done_text.ensures
