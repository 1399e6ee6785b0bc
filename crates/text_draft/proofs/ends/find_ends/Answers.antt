use Rattle.std.proofs.Common.{ap, refl}
use Rattle.std.specs.Map.{keys_of}
use Rattle.std.proofs.lemmas.List.Elements.{All-nil}
use Rattle.text_draft.specs.Ends.{Ends, IsEnd}
use Rattle.text_draft.proofs.Picked.{so_far_all, so_far_kept, so_far_none}
use Rattle.text_draft.proofs.ends.find_ends.Goals as goal

pub loop-at-init : goal.loop-at-init
loop-at-init c = record {
  so_far =
      so_far_none (Ends c.args.image.now) c.args.addresses.now (keys_of c.new-found.result.items)
      (ap (λ es. keys_of es) c.new-found.ensures.items);
  why = rw c.new-found.ensures.items (All-nil (λ e. IsEnd c.args.image.now e.0 e.1));
}

pub loop-at-preserved : goal.loop-at-preserved
loop-at-preserved c = record {
  so_far =
      so_far_kept (Ends c.args.image.now) c.args.addresses.now c.loop-at.at-index 0 _ (keys_of c.loop-at.found.items) _
      c.loop-at.invariant.so_far c.loop-at-test.true refl c.in_ok-keep_end.ensures.kept;
  why = c.in_ok-keep_end.ensures.why c.loop-at.invariant.why;
}

pub returns : goal.returns
returns c = record {
  at =
      so_far_all (Ends c.args.image.now) c.args.addresses.now c.loop-at.at-index (keys_of c.loop-at.found.items)
      c.loop-at.invariant.so_far c.loop-at-test.false;
  why = c.loop-at.invariant.why;
}
