use Rattle.known_words.proofs.values.ranged.Goals as goal

pub returns-in-Add : goal.returns-in-Add
returns-in-Add c = rw (c.in-Add.is) (c.add_of.ensures)

pub returns-in-Sub : goal.returns-in-Sub
returns-in-Sub c = rw (c.in-Sub.is) (c.sub_of.ensures)

pub returns-in-Rsb : goal.returns-in-Rsb
returns-in-Rsb c = rw (c.in-Rsb.is) (c.rsb_of.ensures)

pub returns-in-And : goal.returns-in-And
returns-in-And c = rw (c.in-And.is) (c.and_of.ensures)

pub returns-in-Bic : goal.returns-in-Bic
returns-in-Bic c = rw (c.in-Bic.is) (c.bic_of.ensures)

pub returns-in-Orr : goal.returns-in-Orr
returns-in-Orr c = rw (c.in-Orr.is) (c.orr_of.ensures)

pub returns-in-Eor : goal.returns-in-Eor
returns-in-Eor c = rw (c.in-Eor.is) (c.eor_of.ensures)

pub returns-in-Mvn : goal.returns-in-Mvn
returns-in-Mvn c = rw (c.in-Mvn.is) (c.mvn_of.ensures c.args.first)
