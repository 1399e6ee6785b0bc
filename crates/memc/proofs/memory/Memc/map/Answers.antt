use Rattle.std.proofs.Common.{◌≡◌, ◌-◌, ◌^◌, ◌<◌, ◌≤◌, ◌&&◌, ◌∙◌, sym, true, arith, ltb}
use Rattle.std.proofs.lemmas.Bool.{and_parts, ltb-true}
use Rattle.memc.specs.Memory.{can_map}
use Rattle.memc.proofs.Places.{pages_of}
use Rattle.memc.proofs.memory.Memc.map.Goals as goal

pub map-requires-clause-logical : goal.map-requires-clause-logical
map-requires-clause-logical c =
    let shift = c.shift.result in
    let logical = c.args.logical in
    let physical = c.args.physical in
    let same : shift ≡ c.self.inside.pages.shift = rw (← c.self.view_is) at c.shift.ensures.shift in
    let most : c.self.inside.pages.shift ≤ 15 = omega (arith, same, c.shift.ensures.bounds) in
    let can : can_map shift physical logical c.args.level ≡ true
    = sym c.can_map.ensures ∙ c.if-not-can_map.false in
    let pages = and_parts (ltb logical (2 ^ (25 - shift)) && ltb physical 128) (ltb c.args.level 4) can in
    let below : logical < 2 ^ (25 - shift)
    = ltb-true _ _ (and_parts (ltb logical (2 ^ (25 - shift))) (ltb physical 128) pages.0).0 in
    rw (← pages_of c.self.inside.pages.shift most, ← same) below
