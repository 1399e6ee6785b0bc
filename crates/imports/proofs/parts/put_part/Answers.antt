use Rattle.std.proofs.Common.{◌∙◌, ◌-◌, sym, arith, drop, length}
use Rattle.std.proofs.lemmas.List.{length-drop, take_all}
use Rattle.imports.proofs.PutLemmas.{put_turn}
use Rattle.imports.proofs.parts.put_part.Goals as goal

pub loop-rest-preserved : goal.loop-rest-preserved
loop-rest-preserved c =
    let rest = c.loop-rest.rest.now in
    let m = c.min.result in
    let long = length-drop m rest in
    c.loop-rest.invariant
    ∙ put_turn c.loop-rest.image c.put_word.new.image c.loop-rest.address c.in_ok-address.address c.first_number.result m rest _ (sym c.loop-rest-test.ensures) c.first_number.ensures c.in_ok-address.ensures.ok c.in_ok-address.ensures.next c.min.ensures
    (take_all (length rest - m) (drop m rest) (omega (arith, long)))
