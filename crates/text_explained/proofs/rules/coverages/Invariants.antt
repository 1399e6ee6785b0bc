use Rattle.std.proofs.Common.{take}
use Rattle.text_explained.proofs.RuleLaws.{AreCounted}
use Rattle.text_explained.proofs.rules.coverages.Given as goal

abbrev pub invariant-loop-address : goal.invariant-loop-address
invariant-loop-address l = AreCounted l.handler.image.now l.handler.statement (take l.address-index l.at) l.counts.items
