use Rattle.std.proofs.Common.{◌≡◌, ◌<◌, ◌^◌, drop, map}
use Rattle.asm_text.specs.Pieces.{piece_of}
use Rattle.asm_text.specs.Operands.{list_from}
use Rattle.asm_text.specs.declared.list.ListPlace.TheVariants.{Start}
use Rattle.asm_text.proofs.list.first_list.Given as goal

abbrev pub invariant-loop-index : goal.invariant-loop-index
invariant-loop-index l = record {
  fits : l.list < 2 ^ 16;
  same : list_from l.list l.place (map piece_of (drop l.index l.tokens)) ≡ list_from 0 Start (map piece_of l.tokens);
}
