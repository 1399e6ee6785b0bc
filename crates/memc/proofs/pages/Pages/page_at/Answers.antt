use Rattle.std.proofs.Common.{ℕ, ◌*◌, ◌/◌, ◌^◌, ◌<◌, length, None, sym, arith}
use Rattle.std.proofs.lemmas.Nat.{div_below, pow_pos}
use Rattle.std.proofs.lemmas.List.{get_or_read}
use Rattle.memc.proofs.Places.{fitted_at}
use Rattle.memc.proofs.pages.Pages.page_at.Goals as goal

pub returns-clause-fitted : goal.returns-clause-fitted
returns-clause-fitted c =
    let l : ℕ = c.args.address / 2 ^ c.self.inside.shift in
    let bound : c.args.address < length c.self.inside.table.items * 2 ^ c.self.inside.shift = omega (arith, c.self.invariant.count, c.requires) in
    let within : c.args.address / 2 ^ c.self.inside.shift < length c.self.inside.table.items = div_below c.args.address (2 ^ c.self.inside.shift) (length c.self.inside.table.items) (pow_pos c.self.inside.shift) bound in
    fitted_at c.self.inside.shift c.self.inside.words.items c.self.inside.table.items c.self.inside.held.items c.self.invariant (c.args.address / 2 ^ c.self.inside.shift) c.index.result.now
    (sym (get_or_read c.self.inside.table.items (c.args.address / 2 ^ c.self.inside.shift) c.index.result.now within c.index.ensures None))
