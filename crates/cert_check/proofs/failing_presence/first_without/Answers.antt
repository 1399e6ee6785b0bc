use Rattle.std.proofs.Common.{◌≡◌, ◌∙◌, ◌<◌, ◌≤◌, Contains, get_or, ap, arith, subst, sym, ⊎_elim}
use Rattle.std.proofs.lemmas.Bool.{cases_lt, false≢true}
use Rattle.std.proofs.lemmas.List.{get_or_default}
use Rattle.control_flow.specs.declared.places.Place.{Place}
use Rattle.cert_check.proofs.FailingLemmas.{first_at}
use Rattle.cert_check.proofs.failing_presence.first_without.Goals as goal

pub returns-then-not-is_among : goal.returns-then-not-is_among
returns-then-not-is_among c =
    first_at (Contains c.args.given.now) c.args.wanted.now c.place-item.result c.loop-place.place-index c.loop-place-test.true (sym c.place-item.is) c.loop-place.invariant
    (λ has. absurd (false≢true (sym c.if-not-is_among.true ∙ c.is_among.ensures.1 has)))

pub loop-place-preserved : goal.loop-place-preserved
loop-place-preserved c k d lt =
    let wanted = c.args.wanted.now in
    let i = c.loop-place.place-index in
    ⊎_elim
    (λ (less : k < i). c.loop-place.invariant k d less)
    (λ (high : i ≤ k).
    let same : i ≡ k = omega (arith, lt, high) in
    subst (λ (p : Place). Contains c.args.given.now p) (c.place-item.is ∙ get_or_default wanted i c.place-item.result d c.loop-place-test.true ∙ ap (λ n. get_or wanted n d) same)
    (c.is_among.ensures.0 c.if-not-is_among.false))
    (cases_lt k i)

pub returns : goal.returns
returns c k d lt = c.loop-place.invariant k d (omega (arith, lt, c.loop-place-test.false))
