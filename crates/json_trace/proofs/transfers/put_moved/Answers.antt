use Rattle.std.proofs.Common.{◌≡◌, ◌++◌, ℕ, string_bytes, subst}
use Rattle.json_trace.specs.StepLine.{transfer_value}
use Rattle.json_trace.proofs.JsonLaws.{moved_more}
use Rattle.json_trace.proofs.transfers.put_moved.Goals as goal

pub loop-number-preserved : goal.loop-number-preserved
loop-number-preserved c =
    let f = transfer_value c.args.word c.args.memc.now in
    let here =
    subst
    (λ (a : ℕ). string_bytes c.put_transfer.new.out ≡ string_bytes c.put_comma.new.out ++ f (c.args.moved.store, a))
    c.word_place-address.ensures.place c.in_ok-put_transfer.ensures in
    moved_more f (string_bytes c.args.out.now) (string_bytes c.loop-number.out) (string_bytes c.put_comma.new.out)
    (string_bytes c.put_transfer.new.out) c.args.moved.store c.args.moved.address c.loop-number.number
    c.loop-number.invariant c.in_ok-put_comma.ensures here
