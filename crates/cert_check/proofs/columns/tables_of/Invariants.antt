use Rattle.cert_check.specs.Columns.{IsColumn, arrival_in, by_number, round_in}
use Rattle.longest_walk.specs.Rows.{distance_in}
use Rattle.cert_check.proofs.columns.tables_of.Given as goal

abbrev pub invariant-loop-number : goal.invariant-loop-number
invariant-loop-number l = record {
  distances : IsColumn (by_number l.graph l.tree (distance_in l.cert.places)) l.number l.distances.items;
  arrivals : IsColumn (by_number l.graph l.tree (arrival_in l.cert.instances)) l.number l.arrivals.items;
  rounds : IsColumn (by_number l.graph l.tree (round_in l.cert.instances)) l.number l.rounds.items;
}
