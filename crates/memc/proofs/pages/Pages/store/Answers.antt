use Rattle.std.proofs.Common.{length, arith}
use Rattle.memc.proofs.Places.{word_within}
use Rattle.memc.proofs.pages.Pages.store.Goals as goal

pub index_mut-requires : goal.index_mut-requires
index_mut-requires c = omega (arith, c.self.inside.words.ok, word_within c.self.inside.shift c.args.place (length c.self.inside.words.items) c.self.invariant.size (rw (← c.self.view_is) at c.requires))
