use Rattle.std.proofs.Common.{◌+◌, ◌≤◌, ◌<◌, cond, length, sum_by, take, get_or, arith}
use Rattle.std.proofs.lemmas.Grind.{common_steps}
use Rattle.std.proofs.lemmas.List.Sums.{sum_by_more_le}
use Rattle.numbered_walks.specs.declared.span.Span.{Span}
use Rattle.numbered_walks.specs.Tables.{is_left, stay_of}
use Rattle.numbered_walks.proofs.Members.{no_span}
use Rattle.cert_check.proofs.weighing.needed_with.Goals as goal

pub returns-in_err-sum-2 : goal.returns-in_err-sum-2
returns-in_err-sum-2 c =
    let f = λ (s : Span). cond (is_left c.args.edge.now s) (stay_of c.args.tables.now s) 0 in
    let spans = c.args.spans.now in
    let below : c.loop-span.span-index < length spans = omega arith in
    let more : sum_by f (take c.loop-span.span-index spans) + f (get_or spans c.loop-span.span-index no_span) ≤ sum_by f spans =
    sum_by_more_le f spans c.loop-span.span-index no_span below in
    grind (arith, common_steps, more)
