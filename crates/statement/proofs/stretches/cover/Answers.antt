use Rattle.std.proofs.Common.{Some, subst}
use Rattle.statement.proofs.StretchLemmas.{IsPut, covered, put}
use Rattle.statement.proofs.stretches.cover.Goals as goal

pub returns-clause-added : goal.returns-clause-added
returns-clause-added c =
    let whole = c.join-whole.result in
    covered c.args.stretches.now c.join-whole.new.stretches c.insert.new.self c.args.stretch whole c.join-whole.ensures.joined c.join-whole.ensures.alone
    (subst (λ n. IsPut c.join-whole.new.stretches c.insert.new.self n whole.last (Some (whole.first, tt))) c.number.ensures.number (put c.join-whole.new.stretches c.insert.new.self c.number.result whole.last (Some (whole.first, tt)) c.in_ok-insert.ensures.updates))
