use Rattle.statement.proofs.ApartLemmas.{reaches_made}
use Rattle.statement.proofs.apart.ApartWords.new.Goals as goal

pub invariant_of-result : goal.invariant_of-result
invariant_of-result c =
    reaches_made c.args.stretches.items c.deref.result.now c.in_ok-reaches.reaches.items c.deref_mut.result.now c.carry_on.new.reaches
    c.in_ok-reaches.reaches.len c.deref.ensures.value c.deref_mut.ensures.value c.carry_on.auto.reaches c.in_ok-reaches.reaches.ok.0 c.in_ok-reaches.ensures
    c.carry_on.ensures
