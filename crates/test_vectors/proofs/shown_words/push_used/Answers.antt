use Rattle.std.proofs.Common.{◌∙◌, ◌++◌, ◌∷◌, ap, sym}
use Rattle.bus_ticks.specs.Prices.{ahead_of}
use Rattle.test_vectors.specs.Shape.{shape}
use Rattle.test_vectors.specs.Vector.{addresses_of}
use Rattle.test_vectors.specs.Writing.{moved_addresses, refill_addresses, shown_at}
use Rattle.test_vectors.specs.declared.bus_use.BusUse.{BusUse}
use Rattle.test_vectors.proofs.AddressLaws.{add_as, add_both, add_two, addresses_loads, addresses_stores}
use Rattle.test_vectors.proofs.shown_words.push_used.Goals as goal

pub returns-in-Loads : goal.returns-in-Loads
returns-in-Loads c =
    let f = shown_at c.args.memc.now in
    let w = c.in-Loads.moved in
    let jumps = c.in-Loads.jumps in
    let at = c.args.at in
    let to = c.args.to in
    let old = c.args.words.now.items in
    let o1 = c.push_word-in-Loads.new.words.items in
    let o2 = c.push_moved.new.words.items in
    let new = c.push_refill-in-Loads.new.words.items in
    let moved = moved_addresses w.address w.words in
    let rest = refill_addresses jumps to in
    add_as f old new (ahead_of at 8 ∷ (moved ++ rest)) (addresses_of (shape c.args.done at to))
    (sym (ap (λ (u : BusUse). addresses_of (shape u at to)) c.in-Loads.is ∙ addresses_loads w jumps at to))
    (add_two f old o1 new c.ahead_of-in-Loads.result (ahead_of at 8) (moved ++ rest) c.ahead_of-in-Loads.ensures.sum
    c.push_word-in-Loads.ensures.items (add_both f o1 o2 new moved rest c.push_moved.ensures.items c.push_refill-in-Loads.ensures))

pub returns-in-Stores : goal.returns-in-Stores
returns-in-Stores c =
    let f = shown_at c.args.memc.now in
    let w = c.in-Stores.moved in
    let at = c.args.at in
    let to = c.args.to in
    let old = c.args.words.now.items in
    let o1 = c.push_word-in-Stores.new.words.items in
    let new = c.push_moved-in-Stores.new.words.items in
    let moved = moved_addresses w.address w.words in
    add_as f old new (ahead_of at 8 ∷ moved) (addresses_of (shape c.args.done at to))
    (sym (ap (λ (u : BusUse). addresses_of (shape u at to)) c.in-Stores.is ∙ addresses_stores w at to))
    (add_two f old o1 new c.ahead_of-in-Stores.result (ahead_of at 8) moved c.ahead_of-in-Stores.ensures.sum
    c.push_word-in-Stores.ensures.items c.push_moved-in-Stores.ensures.items)
