use Rattle.std.proofs.Common.{◌∙◌, sym}
use Rattle.std.specs.BTreeSet.{contains}
use Rattle.std.specs.Ordering.{nat_cmp}
use Rattle.std.proofs.lemmas.Bool.{false≢true}
use Rattle.text_explained.specs.Links.{MayReturnByLink}
use Rattle.text_explained.proofs.AssumedLaws.{none_noted, one_noted}
use Rattle.text_explained.proofs.links.note.Goals as goal

pub returns-in_ok-add : goal.returns-in_ok-add
returns-in_ok-add c =
    one_noted (MayReturnByLink c.args.image.now c.args.statement.now) c.args.place.now c.in-At.field-0 c.in-At.address c.in-At.is (contains nat_cmp c.args.named.now)
    (contains nat_cmp c.add.new.named) (c.may_return_at.ensures.0 c.if-may_return_at.true) c.in_ok-add.ensures

pub returns-else-may_return_at : goal.returns-else-may_return_at
returns-else-may_return_at c =
    none_noted (MayReturnByLink c.args.image.now c.args.statement.now) c.args.place.now c.in-At.field-0 c.in-At.address c.in-At.is (contains nat_cmp c.args.named.now)
    (λ holds. false≢true (sym c.if-may_return_at.false ∙ c.may_return_at.ensures.1 holds))
