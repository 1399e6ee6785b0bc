use Rattle.std.proofs.Common.{subst, sym}
use Rattle.kept_runs.specs.Transfers.{words_of}
use Rattle.known_places.specs.Outside.{HasOutside, IsKnownOutside, MovesOutside}
use Rattle.known_places.specs.Transfers.{HasWords, IsTransferred}
use Rattle.known_places.proofs.AroundLemmas.{some_as}
use Rattle.known_places.proofs.WordLemmas.{begins_outside}
use Rattle.known_places.proofs.transfers.moves_outside.Goals as goal

pub returns-in-From : goal.returns-in-From
returns-in-From c =
    let class = c.args.class in
    let few = subst HasWords c.in-From.is c.transfers_of.ensures.words in
    some_as (IsKnownOutside class c.in-From.lowest) (MovesOutside class c.args.operation.now c.args.address c.args.known.now)
    c.known_outside.result
    (λ range outside entry turns regs at holds.
    let t =
    subst (λ k. IsTransferred entry turns k (words_of c.args.operation.now regs)) c.in-From.is
    (c.transfers_of.ensures.so entry turns regs at holds) in
    subst (HasOutside class range) (sym t.2)
    (begins_outside class range (record { address = t.0; words = c.in-From.field-1; store = t.1 }) few.0
    (outside entry turns t.0 t.3)))
    c.known_outside.ensures
