use Rattle.std.proofs.Common.{arith, refl, subst}
use Rattle.std.specs.Prelude.{Contains}
use Rattle.std.proofs.lemmas.List.{take_all}
use Rattle.text_draft.specs.Exploring.{HasRoom}
use Rattle.text_draft.proofs.Explored.{grows_more}
use Rattle.word_shapes.specs.Growing.{Grows}
use Rattle.word_shapes.proofs.GrowLaws.{grows_none}
use Rattle.text_draft.proofs.reach.Exploration.add_roots.Goals as goal

pub loop-to-init : goal.loop-to-init
loop-to-init c = record { found = c.requires; grows = grows_none _ _ (λ a h. absurd (omega (arith, h.1))) }

pub loop-to-preserved : goal.loop-to-preserved
loop-to-preserved c = record {
  found = c.in_ok-add_root.ensures.found;
  grows =
      grows_more c.args.routines.now c.loop-to.to-index _ c.args.self.now.order.items c.loop-to.self.order.items
      c.add_root.new.self.order.items c.loop-to-test.true refl c.loop-to.invariant.grows c.in_ok-add_root.ensures.adds;
}

pub returns-clause-grows : goal.returns-clause-grows
returns-clause-grows c =
    subst (λ t. Grows HasRoom (Contains t) c.args.self.now.order.items c.loop-to.self.order.items)
    (take_all c.loop-to.to-index c.args.routines.now c.loop-to-test.false) c.loop-to.invariant.grows
