use Rattle.std.proofs.Common.{sym, subst}
use Rattle.std.specs.BTreeSet.{contains}
use Rattle.std.specs.List.Sorted.{IsStrictlySortedBy}
use Rattle.std.specs.Ordering.{nat_cmp}
use Rattle.std.proofs.lemmas.Result.{IfOk-weaker}
use Rattle.text_explained.specs.Assumed.{AreSubjectTo}
use Rattle.text_explained.proofs.DoneLaws.{are_done}
use Rattle.text_explained.proofs.done_returns.done_words.Goals as goal

pub returns : goal.returns
returns c =
    let Named = AreSubjectTo c.args.handler.now.image.now c.args.handler.now.statement c.args.handler.now.graph c.args.caveat in
    let same = sym c.deref.ensures.value in
    IfOk-weaker c.members_of.result _ _
    (λ v is. are_done (contains nat_cmp c.args.done.now) c.deref.result.now v.items Named (subst Named same c.in_ok-all.ensures.named)
    (subst (IsStrictlySortedBy nat_cmp) same c.in_ok-all.ensures.ascending) is)
    c.members_of.ensures
