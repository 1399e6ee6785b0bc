use Rattle.std.proofs.Common.{◌≡◌, ◌++◌, drop}
use Rattle.std.specs.List.{flat_map}
use Rattle.text_refusals.specs.Mends.{stretch_text}
use Rattle.text_refusals.proofs.mends.put_stretches.Given as goal

abbrev pub invariant-loop-stretch : goal.invariant-loop-stretch
invariant-loop-stretch l =
    l.out.items ++ flat_map (stretch_text l.words.lines) (drop l.stretch-index l.stretches)
    ≡ l.fn.out.items ++ flat_map (stretch_text l.words.lines) l.stretches
