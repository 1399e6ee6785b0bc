use Rattle.std.proofs.Common.{◌≡◌, ◌≤◌, List, length, subst, arith}
use Rattle.statement.specs.declared.stated.Loop.{Loop}
use Rattle.loop_bounds.specs.Instance.{instance_of}
use Rattle.text_refusals.specs.Crossings.{CrossNone}
use Rattle.text_refusals.proofs.EntryLemmas.{one_more_of}
use Rattle.text_refusals.proofs.crossings.crossing_at.Goals as goal

pub loop-stated-preserved-then-stated-address : goal.loop-stated-preserved-then-stated-address
loop-stated-preserved-then-stated-address c =
    let none : Loop = record { header = 0; first = 0; last = 0; bound = 0 } in
    let loops = c.args.loops.now in
    one_more_of (λ (s : Loop). s.header ≡ c.args.address → CrossNone c.args.graph.now loops (instance_of loops.apart s c.args.list)) c.list-stated-items.result.now loops.list c.loop-stated.stated-index none
    c.list-stated-items.ensures.value c.loop-stated-test.true
    (λ same. absurd (c.if-stated-address.true same))
    c.loop-stated.invariant

pub loop-stated-preserved : goal.loop-stated-preserved
loop-stated-preserved c =
    let none : Loop = record { header = 0; first = 0; last = 0; bound = 0 } in
    let loops = c.args.loops.now in
    one_more_of (λ (s : Loop). s.header ≡ c.args.address → CrossNone c.args.graph.now loops (instance_of loops.apart s c.args.list)) c.list-stated-items.result.now loops.list c.loop-stated.stated-index none
    c.list-stated-items.ensures.value c.loop-stated-test.true
    (λ same. c.in_default.ensures.none)
    c.loop-stated.invariant

pub returns-clause-none : goal.returns-clause-none
returns-clause-none c =
    let most = subst (λ (ls : List Loop). length ls ≤ c.loop-stated.stated-index) c.list-stated-items.ensures.value c.loop-stated-test.false in
    λ l has header. c.loop-stated.invariant has.0 l (omega (arith, has.1, most)) has.2 header
