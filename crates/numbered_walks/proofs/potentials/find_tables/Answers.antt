use Rattle.std.proofs.lemmas.Bool.{both_ways}
use Rattle.numbered_walks.proofs.Finishing.{bounded, closed_at_exit, none_complete, exit_entered, complete_walk, none_passed, is_greatest, rows_fit, rows_hold, none_too_large, total_over}
use Rattle.numbered_walks.proofs.LeastNumbers.{is_least}
use Rattle.numbered_walks.proofs.potentials.find_tables.Goals as goal

pub returns-then-not-is_exit_reached : goal.returns-then-not-is_exit_reached
returns-then-not-is_exit_reached c =
    none_complete c.args.graph.exit c.args.graph.edges.now c.args.graph.spans.now c.requires.graph.ordered (λ e. both_ways c.is_exit_reached.result c.if-not-is_exit_reached.true (c.is_exit_reached.ensures.1 e))

pub pass-requires-clause-entered : goal.pass-requires-clause-entered
pass-requires-clause-entered c = exit_entered c.args.graph.exit c.args.graph.edges.now c.args.graph.spans.now c.requires.graph.ordered (c.is_exit_reached.ensures.0 c.if-not-is_exit_reached.false)

pub pass-requires-clause-passed : goal.pass-requires-clause-passed
pass-requires-clause-passed c = none_passed c.args.graph.edges.now c.args.graph.spans.now c.in-Ok.tables (λ p. (c.in-Ok.ensures.zeros p).0) (λ p. (c.in-Ok.ensures.zeros p).1)

pub returns-then-not-pass : goal.returns-then-not-pass
returns-then-not-pass c = (complete_walk c.args.graph.exit c.args.graph.edges.now c.args.graph.spans.now c.requires.graph.ordered (c.is_exit_reached.ensures.0 c.if-not-is_exit_reached.false), c.pass.ensures.no c.if-not-pass.true)

pub returns-then-not-totals_fit : goal.returns-then-not-totals_fit
returns-then-not-totals_fit c =
    let exit = c.args.graph.exit in
    let edges = c.args.graph.edges.now in
    let spans = c.args.graph.spans.now in
    let last = bounded c.index.result.now c.pass.new.tables in
    let h = closed_at_exit exit edges spans c.pass.new.tables c.index.result.now c.index.ensures c.pass.ensures.room.distances (c.pass.ensures.yes c.if-not-pass.false) in
    let over = c.totals_fit.ensures.no c.if-not-totals_fit.true in
    (complete_walk exit edges spans c.requires.graph.ordered (c.is_exit_reached.ensures.0 c.if-not-is_exit_reached.false), total_over exit edges spans last c.requires.graph.ordered h.passed h.closes over.0 over.1 over.2)

pub returns : goal.returns
returns c =
    let exit = c.args.graph.exit in
    let edges = c.args.graph.edges.now in
    let spans = c.args.graph.spans.now in
    let order = c.requires.graph.ordered in
    let last = bounded c.index.result.now c.pass.new.tables in
    let h = closed_at_exit exit edges spans c.pass.new.tables c.index.result.now c.index.ensures c.pass.ensures.room.distances (c.pass.ensures.yes c.if-not-pass.false) in
    record {
      greatest = is_greatest exit edges spans last order h.passed h.closes;
      rows_hold = rows_hold exit edges spans last order h.passed h.closes;
      rows_fit = rows_fit exit edges spans last order h.passed h.closes;
      least = λ other rows. is_least exit edges spans last other order h.passed h.closes rows;
      none_too_large = none_too_large exit edges spans last order h.passed h.closes (λ p small. c.totals_fit.ensures.yes c.if-not-totals_fit.false p small);
      passed = h.passed;
      closes = h.closes;
      room = record { distances = c.pass.ensures.room.distances; arrivals = c.pass.ensures.room.arrivals; rounds = c.pass.ensures.room.rounds };
    }
