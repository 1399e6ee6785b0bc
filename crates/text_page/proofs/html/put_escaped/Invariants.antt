use Rattle.std.proofs.Common.{◌≡◌, ◌++◌, drop, flat_map}
use Rattle.text_page.specs.Html.{escape, escaped}
use Rattle.text_page.proofs.html.put_escaped.Given as goal

abbrev pub invariant-loop-byte : goal.invariant-loop-byte
invariant-loop-byte l = l.out.items ++ flat_map escape (drop l.byte-index l.text) ≡ l.initial.out.items ++ escaped l.text
