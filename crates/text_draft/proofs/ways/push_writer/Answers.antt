use Rattle.std.proofs.lemmas.Result.{on_ok_weaker}
use Rattle.control_flow.specs.declared.actions.Kind.TheVariants.{Writer}
use Rattle.statement.specs.declared.stated.TargetKind.TheVariants.{Jump}
use Rattle.text_draft.specs.Reach.{IsStatedTo, IsUnsettled, LeadsAway, LeadsByTable}
use Rattle.text_draft.proofs.WayLaws.{gains_on}
use Rattle.text_draft.proofs.ways.push_writer.Goals as goal

pub returns : goal.returns
returns c =
    on_ok_weaker c.push_open_table.result
    (gains_on (IsStatedTo c.args.begun.now Jump c.args.at)
    (λ to. IsUnsettled c.args.begun.now c.args.at × LeadsByTable c.args.image.now c.args.at to)
    (LeadsAway c.args.image.now c.args.begun.now c.args.at Writer) c.args.out.now.items c.push_jump.new.out.items c.push_open_table.new.out.items
    (λ a. ((λ h. h), (λ h. h)))
    c.in_ok-push_jump.ensures)
    c.push_open_table.ensures
