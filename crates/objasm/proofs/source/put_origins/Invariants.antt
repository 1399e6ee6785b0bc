use Rattle.std.proofs.Common.{◌≡◌, ◌++◌, length, map}
use Rattle.asm_text.specs.Source.{lines_of}
use Rattle.objasm.proofs.source.put_origins.Given as goal

abbrev pub invariant-loop-after : goal.invariant-loop-after
invariant-loop-after l =
    l.origins.items ++ map (λ _. l.number) (lines_of l.rest) ≡ l.fn.origins.items ++ map (λ _. l.number) (lines_of l.text)

abbrev pub decreases-loop-after : goal.decreases-loop-after
decreases-loop-after l = length l.rest
