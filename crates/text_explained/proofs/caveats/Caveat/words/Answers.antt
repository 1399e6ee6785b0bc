use Rattle.text_explained.proofs.caveats.Caveat.words.Goals as goal

pub returns-in-Assumed-clause-named : goal.returns-in-Assumed-clause-named
returns-in-Assumed-clause-named c = rw c.in-Assumed.is c.assumed.ensures

pub returns-in-LinkLost-clause-named : goal.returns-in-LinkLost-clause-named
returns-in-LinkLost-clause-named c = rw c.in-LinkLost.is c.lost_links.ensures
