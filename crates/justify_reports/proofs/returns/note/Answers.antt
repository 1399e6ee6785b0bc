use Rattle.std.proofs.Common.{◌∙◌, sym}
use Rattle.std.specs.BTreeSet.{contains}
use Rattle.std.specs.Ordering.{nat_cmp}
use Rattle.std.proofs.lemmas.Bool.{false≢true}
use Rattle.text_explained.proofs.AssumedLaws.{none_noted, one_noted}
use Rattle.justify_reports.specs.Returns.{HasReturn}
use Rattle.justify_reports.proofs.returns.note.Goals as goal

pub returns-in_ok-add : goal.returns-in_ok-add
returns-in_ok-add c =
    one_noted (HasReturn c.args.handler.now.image.now c.args.handler.now.statement) c.args.place.now c.in-At.field-0 c.in-At.address c.in-At.is (contains nat_cmp c.args.named.now)
    (contains nat_cmp c.add.new.named) (c.has_return.ensures.0 c.if-has_return.true) c.in_ok-add.ensures

pub returns-else-has_return : goal.returns-else-has_return
returns-else-has_return c =
    none_noted (HasReturn c.args.handler.now.image.now c.args.handler.now.statement) c.args.place.now c.in-At.field-0 c.in-At.address c.in-At.is (contains nat_cmp c.args.named.now)
    (λ holds. false≢true (sym c.if-has_return.false ∙ c.has_return.ensures.1 holds))
