use Rattle.std.proofs.Common.{subst, sym}
use Rattle.kept_runs.specs.Transfers.{HasNoOther, words_of}
use Rattle.known_places.specs.Transfers.{IsTransferred}
use Rattle.known_places.proofs.transfers.moves_in.Goals as goal

pub returns-in-Nothing : goal.returns-in-Nothing
returns-in-Nothing c = λ seen entry turns regs at holds.
    let none =
    subst (λ k. IsTransferred entry turns k (words_of c.args.operation.now regs)) c.in-Nothing.is
    (c.transfers_of.ensures.so entry turns regs at holds) in
    subst (HasNoOther c.args.class) (sym none) tt

pub returns-in-From : goal.returns-in-From
returns-in-From c = λ seen entry turns regs at holds.
    let t =
    subst (λ k. IsTransferred entry turns k (words_of c.args.operation.now regs)) c.in-From.is
    (c.transfers_of.ensures.so entry turns regs at holds) in
    subst (HasNoOther c.args.class) (sym t.2) (c.known_words_are_in.ensures seen entry turns t.0 t.3 t.1)
