use Rattle.std.proofs.Common.{◌≡◌, ◌++◌, ◌∷◌, flat_map, get_or, take}
use Rattle.asm_text.specs.Hex.{hex}
use Rattle.text_objections.proofs.line_parts.put_calls.Given as goal

abbrev pub invariant-loop-call : goal.invariant-loop-call
invariant-loop-call l = l.out.items ≡ l.fn.out.items ++ (hex (get_or l.fn.calls 0 0) ++ flat_map (λ c. 47 ∷ hex c) (take l.call-index l.rest))
