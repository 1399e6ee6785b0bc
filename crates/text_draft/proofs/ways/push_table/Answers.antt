use Rattle.std.proofs.Common.{arith}
use Rattle.text_draft.specs.Reach.{LeadsByTable}
use Rattle.text_draft.proofs.WayLaws.{IsPlaceBelow, gains_as, gains_none, places_lead, places_more}
use Rattle.text_draft.proofs.ways.push_table.Goals as goal

pub loop-n-init : goal.loop-n-init
loop-n-init c = gains_none (IsPlaceBelow c.args.at 0) c.args.out.now.items (λ a h. absurd (omega (arith, h.1)))

pub loop-n-preserved : goal.loop-n-preserved
loop-n-preserved c =
    places_more c.args.at c.args.out.now.items c.loop-n.n c.loop-n.out.items c.push.new.self.items _ c.loop-n.invariant
    c.branch_target.ensures.sum c.in_ok-push.ensures.items

pub returns : goal.returns
returns c =
    gains_as (IsPlaceBelow c.args.at c.loop-n.n) (LeadsByTable c.args.image.now c.args.at) c.args.out.now.items
    c.loop-n.out.items
    (places_lead c.args.image.now c.args.at _ c.loop-n.n c.table_len-n-end.ensures c.loop-n-test.false c.loop-n.auto.n-end)
    c.loop-n.invariant
