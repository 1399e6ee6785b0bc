use Rattle.std.proofs.Common.{subst, sym}
use Rattle.cert_check.specs.Verdict.{IsVerdict}
use Rattle.cert_check.proofs.VerdictLemmas.{greatest_from}
use Rattle.cert_check.proofs.checking.check.Goals as goal

pub returns-in-Ok-clause-greatest : goal.returns-in-Ok-clause-greatest
returns-in-Ok-clause-greatest c =
    let first = rw c.in-Ok.is at c.failing_row.ensures in
    greatest_from c.args.graph.now c.args.tree.now c.args.cert.now c.verdict_of.result c.places-places.ensures.well_formed c.requires.tree
    (subst (λ v. IsVerdict c.args.graph.now c.args.tree.now c.args.cert.now v) (sym c.verdict_of.ensures) first.verdict_is)
