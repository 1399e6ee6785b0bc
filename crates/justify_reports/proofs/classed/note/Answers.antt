use Rattle.std.proofs.Common.{◌∙◌, sym}
use Rattle.std.specs.BTreeSet.{contains}
use Rattle.std.specs.Ordering.{nat_cmp}
use Rattle.std.proofs.lemmas.Bool.{false≢true}
use Rattle.text_explained.proofs.AssumedLaws.{none_noted, one_noted}
use Rattle.justify_reports.specs.Rows.{HasClass}
use Rattle.justify_reports.proofs.classed.note.Goals as goal

pub returns-in_ok-add : goal.returns-in_ok-add
returns-in_ok-add c =
    one_noted (HasClass c.args.handler.now.image.now c.args.handler.now.statement) c.args.place.now c.in-At.field-0 c.in-At.address c.in-At.is (contains nat_cmp c.args.named.now)
    (contains nat_cmp c.add.new.named) (c.has_class.ensures.0 c.if-has_class.true) c.in_ok-add.ensures

pub returns-else-has_class : goal.returns-else-has_class
returns-else-has_class c =
    none_noted (HasClass c.args.handler.now.image.now c.args.handler.now.statement) c.args.place.now c.in-At.field-0 c.in-At.address c.in-At.is (contains nat_cmp c.args.named.now)
    (λ holds. false≢true (sym c.if-has_class.false ∙ c.has_class.ensures.1 holds))
