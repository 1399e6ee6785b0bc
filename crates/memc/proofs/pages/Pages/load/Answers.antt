use Rattle.std.proofs.Common.{◌/◌, ◌<◌, length, arith}
use Rattle.std.proofs.lemmas.List.{get_or_read}
use Rattle.memc.proofs.Places.{word_within}
use Rattle.memc.proofs.pages.Pages.load.Goals as goal

pub index-requires : goal.index-requires
index-requires c = omega (arith, c.self.inside.words.ok, word_within c.self.inside.shift c.args.place (length c.self.inside.words.items) c.self.invariant.size (rw (← c.self.view_is) at c.requires))

pub returns : goal.returns
returns c =
    let within : c.args.place / 4 < length c.self.inside.words.items = word_within c.self.inside.shift c.args.place (length c.self.inside.words.items) c.self.invariant.size (rw (← c.self.view_is) at c.requires) in
    rw (← c.self.view_is) (get_or_read c.self.inside.words.items (c.args.place / 4) c.index.result.now within c.index.ensures 0)
