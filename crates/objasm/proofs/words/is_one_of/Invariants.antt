use Rattle.std.proofs.Common.{◌≡◌, drop, map}
use Rattle.objasm.specs.Words.{is_one_of}
use Rattle.objasm.proofs.words.is_one_of.Given as goal

abbrev pub invariant-loop-known : goal.invariant-loop-known
invariant-loop-known l =
    is_one_of (map (λ w. w.now) (drop l.known-index l.words)) l.word ≡ is_one_of (map (λ w. w.now) l.words) l.word
