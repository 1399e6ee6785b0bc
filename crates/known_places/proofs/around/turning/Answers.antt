use Rattle.known_places.specs.Around.{TurnsOne, TurnsSpan}
use Rattle.known_places.proofs.around.turning.Goals as goal
use Rattle.known_places.proofs.AroundLemmas.{some_as, span_turns}
use Rattle.numbered_walks.specs.Index.{span_at}
use Rattle.std.proofs.Common.{Some, length, ◌<◌, arith}

pub returns : goal.returns
returns c =
    let spans = c.args.spans.now in
    let number = c.in-Some.number in
    let few = c.if-spans-number.false in
    let inside : number < length spans = omega (arith, few) in
    rw c.in-Some.is
    (some_as (TurnsSpan (span_at spans number) c.is_loop.result c.args.edge)
    (TurnsOne spans c.args.edge c.args.before (Some number)) c.turn_of.result
    (λ turn turns. span_turns spans c.args.edge c.args.before number c.is_loop.result turn inside c.is_loop.ensures turns)
    c.turn_of.ensures)
