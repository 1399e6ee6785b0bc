use Rattle.json_trace.proofs.JsonLaws.{three_put}
use Rattle.json_trace.proofs.transfers.put_transfers.Goals as goal

pub returns : goal.returns
returns c =
    three_put _ _ _ _ _ _ _ c.in_ok-push_str.ensures.bytes c.in_ok-put_planned.ensures c.in_ok-push_str-2.ensures.bytes
