use Rattle.std.proofs.Common.{◌≡◌, ◌++◌, drop}
use Rattle.text_explained.specs.ShownTexts.{squeezed, squeezed_from}
use Rattle.text_explained.proofs.shown_texts.squeezed.Given as goal

abbrev pub invariant-loop-byte : goal.invariant-loop-byte
invariant-loop-byte l = l.out.items ++ squeezed_from l.after_blanks (drop l.byte-index l.text) ≡ squeezed l.text
