use Rattle.std.proofs.Common.{◌≡◌, List, ℕ, subst, sym, true}
use Rattle.std.specs.BTreeSet.{contains}
use Rattle.std.specs.Ordering.{nat_cmp}
use Rattle.std.proofs.lemmas.Result.{IfOk-weaker}
use Rattle.text_explained.specs.Assumed.{AreDone, AreSubjectTo}
use Rattle.text_explained.proofs.done_returns.done_section.Goals as goal

pub returns : goal.returns
returns c =
    let Named : List ℕ → Type 0 =
    AreDone (λ a. contains nat_cmp c.args.done.now a ≡ true) (AreSubjectTo c.args.handler.now.image.now c.args.handler.now.statement c.args.handler.now.graph c.args.caveat) in
    IfOk-weaker c.section_of.result _ _
    (λ text is. record {
      named = c.deref.result.now;
      rows = is.0;
      are_named = subst Named (sym c.deref.ensures.value) c.in_ok-named.ensures;
      are_rows = is.1;
      text_is = is.2;
    })
    c.section_of.ensures
