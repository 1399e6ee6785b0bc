use Rattle.std.proofs.Common.{◌≡◌, ◌∷◌, ◌++◌, [], false, subst, sym}
use Rattle.std.specs.Prelude.{IfOk, OnOk}
use Rattle.std.proofs.lemmas.Bool.{false≢true}
use Rattle.toml_reading.proofs.ReadingLemmas.{implied}
use Rattle.statement.specs.PlaceTests.{is_covered, was_met}
use Rattle.statement.specs.Stretches.{AreOf}
use Rattle.statement.proofs.StretchLemmas.{covered_more, if_done, known_is, none_more, reversed_more, unknown_is}
use Rattle.statement.proofs.repeats.meet.Goals as goal

pub returns-then-stretch-clause-known : goal.returns-then-stretch-clause-known
returns-then-stretch-clause-known c = λ before of.
    subst (λ o. IfOk c.cover.result (λ known. known ≡ was_met before o)) (sym c.in-Some.is)
    (implied _ _ c.cover.result (known_is c.args.covered.now before of c.in-Some.stretch c.if-stretch.true) c.cover.ensures.known)

pub returns-then-stretch-clause-added : goal.returns-then-stretch-clause-added
returns-then-stretch-clause-added c = λ before of.
    subst (λ o. OnOk c.cover.result (AreOf c.cover.new.stretches (is_covered (before ++ o ∷ [])))) (sym c.in-Some.is)
    (if_done c.cover.result (covered_more c.args.covered.now before of c.cover.new.stretches c.in-Some.stretch) c.cover.ensures.added)

pub returns-else-stretch-clause-known : goal.returns-else-stretch-clause-known
returns-else-stretch-clause-known c = λ before of.
    subst (λ o. false ≡ was_met before o) (sym c.in-Some.is) (unknown_is c.args.covered.now before of c.in-Some.stretch c.if-stretch.false)

pub returns-else-stretch-clause-added : goal.returns-else-stretch-clause-added
returns-else-stretch-clause-added c = λ before of.
    subst (λ o. AreOf c.args.covered.now (is_covered (before ++ o ∷ []))) (sym c.in-Some.is) (reversed_more c.args.covered.now before of c.in-Some.stretch c.if-stretch.false)

pub returns-in-None-clause-added : goal.returns-in-None-clause-added
returns-in-None-clause-added c = λ before of.
    subst (λ o. AreOf c.args.covered.now (is_covered (before ++ o ∷ []))) (sym c.in-None.is) (none_more c.args.covered.now before of _ (λ base a e. false≢true e))
