use Rattle.std.proofs.Common.{◌≡◌, ◌≤◌, ◌∙◌, List, [], arith, length, map, subst, sym}
use Rattle.std.specs.Prelude.{OnOk}
use Rattle.std.proofs.lemmas.List.{at_drop_all}
use Rattle.text_refusals.specs.FileRows.{first_row, has_in, said_value, spot_of}
use Rattle.text_refusals.specs.Outline.{key_value_of}
use Rattle.text_refusals.specs.Refused.{Adds, Row}
use Rattle.text_refusals.specs.declared.asked_file.FileSpot.{FileSpot}
use Rattle.text_refusals.specs.declared.report.Report.{Report}
use Rattle.text_refusals.proofs.FileLemmas.{first_at}
use Rattle.text_refusals.proofs.RefusedLemmas.{adds_none}
use Rattle.text_refusals.proofs.report.Report.put_first.Goals as goal

pub returns-then-has : goal.returns-then-has
returns-then-has c =
    let has = has_in c.args.asked.now in
    let row = said_value (key_value_of c.args.pair.now) in
    let spots = c.args.spots.now in
    let is = sym c.loop-spot.invariant.same ∙ first_at has row spots c.loop-spot.spot-index _ c.loop-spot-test.true (sym c.has.ensures ∙ c.if-has.true) in
    subst (λ (r : Report). OnOk c.put_said_value.result (Adds (first_row has row (map spot_of spots)) r c.put_said_value.new.self)) c.loop-spot.invariant.kept
    (subst (λ (rs : List Row). OnOk c.put_said_value.result (Adds rs c.loop-spot.self c.put_said_value.new.self)) (sym is) c.put_said_value.ensures)

pub returns : goal.returns
returns c =
    let has = has_in c.args.asked.now in
    let row = said_value (key_value_of c.args.pair.now) in
    let spots = c.args.spots.now in
    let end : length spots ≤ c.loop-spot.spot-index = omega (arith, c.loop-spot-test.false) in
    let is : first_row has row (map spot_of spots) ≡ [] =
    sym c.loop-spot.invariant.same ∙ at_drop_all (λ (ss : List FileSpot). first_row has row (map spot_of ss)) spots c.loop-spot.spot-index end in
    subst (λ (r : Report). Adds (first_row has row (map spot_of spots)) r c.loop-spot.self) c.loop-spot.invariant.kept
    (subst (λ (rs : List Row). Adds rs c.loop-spot.self c.loop-spot.self) (sym is) (adds_none c.loop-spot.self))
