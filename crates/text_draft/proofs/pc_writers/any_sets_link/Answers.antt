use Rattle.std.proofs.Common.{◌∙◌, refl, sym, subst}
use Rattle.std.specs.Prelude.{Contains}
use Rattle.std.proofs.lemmas.Bool.{false≢true}
use Rattle.std.proofs.lemmas.List.{take_all}
use Rattle.text_draft.specs.Targets.{SetsLink}
use Rattle.text_draft.proofs.TargetLaws.{none_more}
use Rattle.text_draft.proofs.pc_writers.any_sets_link.Goals as goal

pub loop-at-preserved : goal.loop-at-preserved
loop-at-preserved c = record {
  none =
      none_more (SetsLink c.args.image.now) c.args.addresses.now c.loop-at.at-index _ c.loop-at-test.true refl c.loop-at.invariant.none
      (λ s. false≢true (sym c.if-sets_link.false ∙ c.sets_link.ensures.1 s));
}

pub returns : goal.returns
returns c = (
  λ e. absurd (false≢true e),
  λ any. absurd (c.loop-at.invariant.none any.0
      (subst (λ t. Contains t any.0) (sym (take_all c.loop-at.at-index c.args.addresses.now c.loop-at-test.false)) any.1) any.2),
)
