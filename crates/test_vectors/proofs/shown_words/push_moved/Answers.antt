use Rattle.std.proofs.Common.{◌≡◌, ◌+◌, ◌++◌, ◌∷◌, [], arith}
use Rattle.bus_ticks.specs.Prices.{word_address}
use Rattle.test_vectors.specs.Writing.{moved_addresses, shown_at}
use Rattle.test_vectors.proofs.AddressLaws.{add_as, add_both, add_one, moved_next}
use Rattle.test_vectors.proofs.shown_words.push_moved.Goals as goal

pub loop-number-preserved : goal.loop-number-preserved
loop-number-preserved c =
    let f = shown_at c.args.memc.now in
    let address = c.args.moved.address in
    let k = c.loop-number.number in
    let old = c.args.words.now.items in
    let now = c.loop-number.words.items in
    let new = c.push_word.new.words.items in
    let one = add_one f now new c.word_place.result (word_address address k) c.word_place.ensures.place c.push_word.ensures.items in (
      add_as f old new (moved_addresses address k ++ word_address address k ∷ []) (moved_addresses address (k + 1)) (moved_next address k)
          (add_both f old now new (moved_addresses address k) (word_address address k ∷ []) c.loop-number.invariant.0 one),
      omega (arith, c.push_word.ensures.len, c.loop-number.invariant.1),
    )
