use Rattle.std.proofs.Common.{string_bytes}
use Rattle.json_trace.proofs.JsonLaws.{changed_more}
use Rattle.json_trace.proofs.registers.put_bank.Goals as goal

pub loop-k-preserved : goal.loop-k-preserved
loop-k-preserved c =
    changed_more (string_bytes c.args.out.now) (string_bytes c.loop-k.out) (string_bytes c.put_if_changed.new.out)
    c.args.mode c.args.before.now c.args.after.now c.args.first c.loop-k.k c.loop-k.invariant
    c.in_ok-put_if_changed.ensures
