use Rattle.std.proofs.Common.{◌++◌, codes, take}
use Rattle.std.specs.List.{flat_map}
use Rattle.outputs.specs.OnTheWay.{Adds}
use Rattle.test_vectors.specs.Writing.{pair_of}
use Rattle.test_vectors.proofs.states.put_others.Given as goal

abbrev pub invariant-loop-word : goal.invariant-loop-word
invariant-loop-word g l =
    Adds g.O.Output.taken g.O.Output.failures l.fn.out l.fn.page l.out l.page
    (flat_map (λ word. codes "," ++ pair_of word) (take l.word-index l.words))
