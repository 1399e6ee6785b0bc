use Rattle.std.proofs.Common.{subst}
use Rattle.control_flow.specs.declared.edges.Edge.{Edge}
use Rattle.asm_text.specs.Appended.{Appends}
use Rattle.text_refusals.specs.Texts.{IsStartRow}
use Rattle.text_rows.proofs.RowLaws.{so_far_all, so_far_none, so_far_one}
use Rattle.text_refusals.proofs.reason_texts.put_starts.Goals as goal

pub loop-edge-init : goal.loop-edge-init
loop-edge-init c = so_far_none (IsStartRow c.args.words.now) c.args.cycle.now c.args.out.now.items

pub loop-edge-preserved : goal.loop-edge-preserved
loop-edge-preserved c =
    so_far_one (IsStartRow c.args.words.now) c.args.cycle.now c.loop-edge.edge-index c.edge-item.result c.args.out.now.items c.loop-edge.out.items
    c.put_place.new.out.items c.loop-edge.invariant c.loop-edge-test.true
    (subst (λ (e : Edge). Appends (IsStartRow c.args.words.now e) c.loop-edge.out.items c.put_place.new.out.items) c.edge-item.is c.in_ok-put_place.ensures)

pub returns : goal.returns
returns c =
    so_far_all (IsStartRow c.args.words.now) c.args.cycle.now c.loop-edge.edge-index c.args.out.now.items c.loop-edge.out.items
    c.loop-edge.invariant c.loop-edge-test.false
