use Rattle.std.proofs.lemmas.Result.{on_ok_weaker}
use Rattle.text_draft.specs.Reach.{IsUnsettled, LeadsByTable}
use Rattle.text_draft.proofs.WayLaws.{gains_as}
use Rattle.text_draft.proofs.ways.push_open_table.Goals as goal

pub returns-then-is_unsettled : goal.returns-then-is_unsettled
returns-then-is_unsettled c =
    on_ok_weaker c.push_table.result
    (gains_as (LeadsByTable c.args.image.now c.args.at)
    (λ to. IsUnsettled c.args.begun.now c.args.at × LeadsByTable c.args.image.now c.args.at to) c.args.out.now.items c.push_table.new.out.items
    (λ a. ((λ h. (c.is_unsettled.ensures.0 c.if-is_unsettled.true, h)), (λ h. h.1))))
    c.push_table.ensures
