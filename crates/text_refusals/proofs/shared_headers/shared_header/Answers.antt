use Rattle.std.proofs.Common.{ℕ, ◌<◌, length, arith}
use Rattle.std.proofs.lemmas.List.{get_or_default}
use Rattle.text_refusals.specs.SharedHeaders.{IsAlone}
use Rattle.text_refusals.proofs.shared_headers.shared_header.Goals as goal
use borrow.Author.Count.{below_more}

pub returns-in-Some-clause-shared : goal.returns-in-Some-clause-shared
returns-in-Some-clause-shared c =
    let shares = c.in-Some.ensures.shares in
    let later : c.loop-one.one < c.in-Some.other = shares.later in
    let inside : c.in-Some.other < length c.args.loops.now = shares.inside in
    record {
      shared = record { one = c.loop-one.one; other = c.in-Some.other; differ = later; inside = inside; same = shares.same };
      one_is = λ d. get_or_default c.args.loops.now c.loop-one.one d _ (omega arith);
      other_is = λ d. get_or_default c.args.loops.now c.in-Some.other d _ inside;
    }

pub loop-one-preserved : goal.loop-one-preserved
loop-one-preserved c = below_more (λ (k : ℕ). IsAlone c.args.loops.now k) c.loop-one.one c.loop-one.invariant c.in_default.ensures.none

pub returns-clause-none : goal.returns-clause-none
returns-clause-none c = λ shared.
    let differ : shared.one < shared.other = shared.differ in
    let inside : shared.other < length c.args.loops.now = shared.inside in
    c.loop-one.invariant shared.one (omega arith) shared.other (record { later = differ; inside = inside; same = shared.same })
