use Rattle.std.proofs.Common.{◌+◌, List, Option, subst, sym, take}
use Rattle.control_flow.specs.declared.places.Place.{Place}
use Rattle.text_graph.specs.Labels.{AreLabels, IsLabel, IsLabelBy}
use Rattle.text_rows.specs.WordLines.{Numbered}
use Rattle.text_graph.proofs.LabelLaws.{labels_more}
use Rattle.text_graph.proofs.labels.place_labels.Goals as goal

pub loop-place-preserved : goal.loop-place-preserved
loop-place-preserved c =
    let source = c.args.source.now in
    let i = c.loop-place.place-index in
    let label = c.in_ok-label_by.field-0 in
    let same = c.places-place-items.ensures.value in
    let here : IsLabel source c.address.result label.items =
    subst (λ (line : Option Numbered). IsLabelBy line source.image source.text c.address.result label.items) (c.requires.each c.address.result) c.in_ok-label_by.ensures in
    subst (λ (ps : List Place). AreLabels source (take (i + 1) ps) c.push.new.self.items) same
    (labels_more source c.places-place-items.result.now i c.place-item.result c.loop-place.labels.items c.push.new.self.items label
    (subst (λ (ps : List Place). AreLabels source (take i ps) c.loop-place.labels.items) (sym same) c.loop-place.invariant)
    c.loop-place-test.true c.place-item.is (subst (λ a. IsLabel source a label.items) c.address.ensures here) c.in_ok-push.ensures.items)
