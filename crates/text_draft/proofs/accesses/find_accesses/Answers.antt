use Rattle.std.proofs.Common.{ap, refl}
use Rattle.std.proofs.lemmas.List.Elements.{All-nil}
use Rattle.arm2_decode.specs.Writers.{is_transfer}
use Rattle.text_draft.specs.Accesses.{HasBase, RestsOnWord, places_of}
use Rattle.text_draft.specs.declared.accesses.FoundAccess.{FoundAccess}
use Rattle.word_shapes.specs.Words.{MayDo}
use Rattle.text_draft.proofs.Picked.{so_far_all, so_far_kept, so_far_none}
use Rattle.text_draft.proofs.accesses.find_accesses.Goals as goal

pub loop-at-init : goal.loop-at-init
loop-at-init c = record {
  so_far =
      so_far_none (MayDo is_transfer c.args.image.now) c.args.addresses.now (places_of c.new-found.result.items)
      (ap (λ es. places_of es) c.new-found.ensures.items);
  bases = rw c.new-found.ensures.items (All-nil (λ (e : FoundAccess). HasBase c.args.image.now e.at e.base));
  rest = λ e. rw c.new-found.ensures.items (All-nil (λ (e : FoundAccess). RestsOnWord c.args.image.now e.at e.class));
}

pub loop-at-preserved : goal.loop-at-preserved
loop-at-preserved c = record {
  so_far =
      so_far_kept (MayDo is_transfer c.args.image.now) c.args.addresses.now c.loop-at.at-index 0 _ (places_of c.loop-at.found.items) _
      c.loop-at.invariant.so_far c.loop-at-test.true refl c.in_ok-keep_access.ensures.kept;
  bases = c.in_ok-keep_access.ensures.bases c.loop-at.invariant.bases;
  rest = c.in_ok-keep_access.ensures.rest c.loop-at.invariant.rest;
}

pub returns : goal.returns
returns c = record {
  at =
      so_far_all (MayDo is_transfer c.args.image.now) c.args.addresses.now c.loop-at.at-index (places_of c.loop-at.found.items)
      c.loop-at.invariant.so_far c.loop-at-test.false;
  bases = c.loop-at.invariant.bases;
  rest = c.loop-at.invariant.rest;
}
