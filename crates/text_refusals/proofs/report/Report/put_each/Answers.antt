use Rattle.std.proofs.Common.{◌≤◌, ◌+◌, ◌++◌, ◌∙◌, List, ap, arith, drop, length, map, sym}
use Rattle.std.specs.Prelude.{option_map}
use Rattle.std.proofs.lemmas.List.{at_drop_all}
use Rattle.text_refusals.specs.FileRows.{each_row, has_in, said_of, spot_of}
use Rattle.text_refusals.specs.Outline.{table_of}
use Rattle.text_refusals.specs.Refused.{Row, shown}
use Rattle.text_refusals.specs.declared.asked_file.FileSpot.{FileSpot}
use Rattle.text_refusals.proofs.FileLemmas.{each_more}
use Rattle.text_refusals.proofs.RefusedLemmas.{adds_first}
use Rattle.text_refusals.proofs.report.Report.put_each.Goals as goal

pub loop-spot-preserved : goal.loop-spot-preserved
loop-spot-preserved c = λ more.
    let has = has_in c.args.asked.now in
    let row = said_of (option_map (λ t. table_of t.now) c.args.table) in
    let spots = c.args.spots.now in
    let n = c.loop-spot.spot-index in
    adds_first _ (each_row has row (map spot_of (drop (n + 1) spots))) (each_row has row (map spot_of (drop n spots))) c.loop-spot.self c.put_if_said.new.self c.in_ok-put_if_said.ensures
    (each_more has row spots n _ c.loop-spot-test.true) more
    ∙ c.loop-spot.invariant more

pub returns : goal.returns
returns c =
    let has = has_in c.args.asked.now in
    let row = said_of (option_map (λ t. table_of t.now) c.args.table) in
    let spots = c.args.spots.now in
    let n = c.loop-spot.spot-index in
    let end : length spots ≤ n = omega (arith, c.loop-spot-test.false) in
    record {
      same = λ more.
          sym (ap (λ (rs : List Row). c.loop-spot.self.text.items ++ shown c.loop-spot.self.left (rs ++ more)) (at_drop_all (λ (ss : List FileSpot). each_row has row (map spot_of ss)) spots n end))
          ∙ c.loop-spot.invariant more;
    }
