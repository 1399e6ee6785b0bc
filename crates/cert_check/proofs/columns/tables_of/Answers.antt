use Rattle.std.proofs.Common.{◌∙◌, ap₂}
use Rattle.cert_check.specs.Columns.{arrival_in, by_number, round_in}
use Rattle.longest_walk.specs.Rows.{distance_in}
use Rattle.cert_check.proofs.ColumnLemmas.{column_more}
use Rattle.cert_check.proofs.columns.tables_of.Goals as goal

pub loop-number-preserved : goal.loop-number-preserved
loop-number-preserved c =
    let l = c.loop-number in
    let by = by_number c.args.graph.now c.args.tree.now in
    let place = c.place_in-place.ensures in
    let distance = c.distance_in.ensures ∙ ap₂ distance_in c.items.ensures place in
    let arrival = c.arrival_and_round-arrival.ensures.arrival ∙ ap₂ arrival_in c.items-in-loop-number.ensures place in
    let round = c.arrival_and_round-arrival.ensures.round ∙ ap₂ round_in c.items-in-loop-number.ensures place in
    record {
      distances =
          rw c.in_ok-push.ensures.items
          (column_more (by (distance_in c.args.cert.now.places)) l.number l.distances.items c.distance_in.result distance l.invariant.distances);
      arrivals =
          rw c.in_ok-push-2.ensures.items
          (column_more (by (arrival_in c.args.cert.now.instances)) l.number l.arrivals.items c.arrival_and_round-arrival.result.0 arrival l.invariant.arrivals);
      rounds =
          rw c.in_ok-push-3.ensures.items
          (column_more (by (round_in c.args.cert.now.instances)) l.number l.rounds.items c.arrival_and_round-arrival.result.1 round l.invariant.rounds);
    }
