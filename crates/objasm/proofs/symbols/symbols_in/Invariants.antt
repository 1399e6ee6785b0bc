use Rattle.std.proofs.Common.{◌≡◌, ◌++◌, map, drop}
use Rattle.objasm.specs.Names.{mapped, meanings_of}
use Rattle.objasm.specs.Parts.{part_of}
use Rattle.objasm.specs.Symbols.{symbols_in}
use Rattle.objasm.specs.declared.symbols.Reading.TheVariants.{Ready}
use Rattle.objasm.proofs.symbols.symbols_in.Given as goal

abbrev pub invariant-loop-index : goal.invariant-loop-index
invariant-loop-index l =
    mapped (λ ss. l.found.items ++ ss) (symbols_in (meanings_of l.names) l.reading (map part_of (drop l.index l.tokens)))
    ≡ symbols_in (meanings_of l.names) Ready (map part_of l.tokens)
