use Rattle.std.proofs.Common.{◌≡◌, ◌∙◌, List, ap, false, sym, true}
use Rattle.memc.specs.Memory.{Memory}
use Rattle.std.proofs.Common.{map}
use Rattle.test_vectors.specs.Writing.{place_addresses, shown_at}
use Rattle.test_vectors.proofs.vectors.initial_words.Goals as goal

pub returns-then-is_store : goal.returns-then-is_store
returns-then-is_store c = λ m kept stored. stored (sym c.is_store.ensures ∙ c.if-is_store.true)

pub returns : goal.returns
returns c = λ m kept stored.
    c.shown_words.ensures
    ∙ ap (λ (x : Memory). map (shown_at x) (place_addresses c.args.place)) (kept (sym c.is_store.ensures ∙ c.if-is_store.false))
