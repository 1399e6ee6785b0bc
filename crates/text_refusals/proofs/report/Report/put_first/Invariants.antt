use Rattle.std.proofs.Common.{◌≡◌, drop, map}
use Rattle.text_refusals.specs.FileRows.{first_row, has_in, said_value, spot_of}
use Rattle.text_refusals.specs.Outline.{key_value_of}
use Rattle.text_refusals.proofs.report.Report.put_first.Given as goal

abbrev pub invariant-loop-spot : goal.invariant-loop-spot
invariant-loop-spot l = record {
  kept : l.self ≡ l.fn.self;
  same : first_row (has_in l.asked) (said_value (key_value_of l.pair)) (map spot_of (drop l.spot-index l.spots))
      ≡ first_row (has_in l.asked) (said_value (key_value_of l.pair)) (map spot_of l.spots);
}
