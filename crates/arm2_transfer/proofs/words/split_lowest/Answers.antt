use Rattle.arm2_transfer.proofs.Lowest.{split_is, split_registers, split_less}
use Rattle.arm2_transfer.proofs.words.split_lowest.Goals as goal

pub of-requires : goal.of-requires
of-requires c = (split_is c.args.list c.requires.some c.requires.fits).few

pub returns-clause-split : goal.returns-clause-split
returns-clause-split c = split_registers c.args.list _ _ c.of.result (split_is c.args.list c.requires.some c.requires.fits) c.of.ensures

pub returns-clause-less : goal.returns-clause-less
returns-clause-less c = split_less c.args.list _ _ (split_is c.args.list c.requires.some c.requires.fits)
