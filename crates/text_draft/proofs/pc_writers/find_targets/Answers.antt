use Rattle.std.proofs.Common.{ap, refl}
use Rattle.std.proofs.lemmas.List.Elements.{All-nil}
use Rattle.text_draft.specs.Found.{addresses_of}
use Rattle.text_draft.specs.Targets.{IsTarget, WritesPc}
use Rattle.text_draft.proofs.Picked.{so_far_all, so_far_kept, so_far_none}
use Rattle.text_draft.proofs.TargetLaws.{trusted_if_none}
use Rattle.text_draft.proofs.pc_writers.find_targets.Goals as goal

pub loop-at-init : goal.loop-at-init
loop-at-init c = record {
  so_far =
      so_far_none (WritesPc c.args.image.now) c.args.addresses.now (addresses_of c.new-found.result.items)
      (ap (λ es. addresses_of es) c.new-found.ensures.items);
  shown = rw c.new-found.ensures.items (All-nil (IsTarget c.args.image.now c.args.addresses.now));
}

pub loop-at-preserved : goal.loop-at-preserved
loop-at-preserved c = record {
  so_far =
      so_far_kept (WritesPc c.args.image.now) c.args.addresses.now c.loop-at.at-index 0 _ (addresses_of c.loop-at.found.items) _
      c.loop-at.invariant.so_far c.loop-at-test.true refl c.in_ok-keep_target.ensures.kept;
  shown =
      c.in_ok-keep_target.ensures.shown c.args.addresses.now
      (trusted_if_none c.args.image.now c.args.addresses.now c.any_sets_link-trusted.result c.any_sets_link-trusted.ensures) c.loop-at.invariant.shown;
}

pub returns : goal.returns
returns c = record {
  at =
      so_far_all (WritesPc c.args.image.now) c.args.addresses.now c.loop-at.at-index (addresses_of c.loop-at.found.items)
      c.loop-at.invariant.so_far c.loop-at-test.false;
  shown = c.loop-at.invariant.shown;
}
