use Rattle.std.proofs.Common.{None, ap, refl, subst, ◌∙◌}
use Rattle.statement.specs.Stretches.{ending}
use Rattle.statement.proofs.StretchLemmas.{IsPut, joined_more, put, removed_less}
use Rattle.statement.proofs.stretches.join.Goals as goal

pub loop-last-smaller : goal.loop-last-smaller
loop-last-smaller c =
    removed_less _ _ c.remove.result _ (c.remove.ensures.value ∙ ap (λ n. ending c.loop-last.stretches n c.in-Some.last) c.number.ensures.number ∙ c.in-Some.ensures.held) c.remove.ensures.len

pub loop-last-preserved : goal.loop-last-preserved
loop-last-preserved c =
    joined_more c.args.stretches.now c.loop-last.stretches c.remove.new.self c.args.stretch c.loop-last.whole _ _ c.loop-last.invariant c.in-Some.ensures
    (subst (λ n. IsPut c.loop-last.stretches c.remove.new.self n c.in-Some.last None) c.number.ensures.number (put c.loop-last.stretches c.remove.new.self c.number.result c.in-Some.last None c.remove.ensures.updates))
    refl c.min.ensures c.max.ensures
