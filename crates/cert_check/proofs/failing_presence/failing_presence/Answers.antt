use Rattle.std.proofs.Common.{refl}
use Rattle.cert_check.proofs.FailingLemmas.{extra_instance, extra_place, missing_instance, missing_place}
use Rattle.cert_check.proofs.failing_presence.failing_presence.Goals as goal

pub returns-in-Some : goal.returns-in-Some
returns-in-Some c =
    let first = rw c.in-Some.is at c.in_ok-place.ensures in
    missing_place c.args.graph.now c.args.tree.now c.args.cert.now (c.if-not-priced.ensures.0 refl) c.in-Some.place first

pub returns-in-Some-2 : goal.returns-in-Some-2
returns-in-Some-2 c =
    let first = rw c.in-Some-2.is at c.in_ok-header.ensures in
    missing_instance c.args.graph.now c.args.tree.now c.args.cert.now (c.if-not-priced.ensures.0 refl) c.in-Some-2.header first

pub returns-in-Some-3 : goal.returns-in-Some-3
returns-in-Some-3 c =
    let places = rw c.in_default.is at c.in_ok-place.ensures in
    let instances = rw c.in_default-2.is at c.in_ok-header.ensures in
    let first = rw c.in-Some-3.is at c.in_ok-place-2.ensures in
    extra_place c.args.graph.now c.args.tree.now c.args.cert.now (c.if-not-priced.ensures.0 refl) places instances c.in-Some-3.place first

pub returns-in-Some-4 : goal.returns-in-Some-4
returns-in-Some-4 c =
    let places = rw c.in_default.is at c.in_ok-place.ensures in
    let instances = rw c.in_default-2.is at c.in_ok-header.ensures in
    let first = rw c.in-Some-4.is at c.in_ok-header-2.ensures in
    extra_instance c.args.graph.now c.args.tree.now c.args.cert.now (c.if-not-priced.ensures.0 refl) places instances c.in-Some-4.header first
