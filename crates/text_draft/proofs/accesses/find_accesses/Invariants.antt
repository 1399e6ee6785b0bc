use Rattle.std.proofs.Common.{◌≡◌, true}
use Rattle.std.specs.Prelude.{All}
use Rattle.arm2_decode.specs.Writers.{is_transfer}
use Rattle.text_draft.specs.Accesses.{HasBase, RestsOnWord, places_of}
use Rattle.word_shapes.specs.Words.{MayDo}
use Rattle.text_draft.proofs.Picked.{SoFar}
use Rattle.text_draft.proofs.accesses.find_accesses.Given as goal

abbrev pub invariant-loop-at : goal.invariant-loop-at
invariant-loop-at l = record {
  so_far : SoFar (MayDo is_transfer l.image) l.addresses l.at-index (places_of l.found.items);
  bases : All (λ e. HasBase l.image e.at e.base) l.found.items;
  rest : l.by_word ≡ true → All (λ e. RestsOnWord l.image e.at e.class) l.found.items;
}
