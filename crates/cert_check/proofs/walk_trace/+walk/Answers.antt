use Rattle.std.proofs.Common.{rules, ◌≡◌, ◌<◌, ℕ, Vec, arith, ◌∙◌, Option, ap, false, subst, sym, true}
use Rattle.control_flow.specs.declared.places.Place.{Place}
use Rattle.cert_check.specs.Followed.{Followed, follow_item}
use Rattle.cert_check.specs.Walking.{Follows}
use Rattle.cert_check.proofs.WalkFollowing.{item_step, left_more, left_none, left_refused}
use Rattle.certificate.proofs.walk.CertItem.TheLaws.{the_size}
use denote.Param.Weighed.{most}
use Rattle.certificate.specs.declared.walk.CertItem.{CertItem, the_lemmas}
use Rattle.certificate.specs.declared.walk.CertItem.TheVariants.{Repeat}
use Rattle.std.specs.declared.alloc.Global.{Global}
use Rattle.cert_check.proofs.WalkSteps.{inside_ready, item_broken, item_cannot, item_open, item_taken}
use Rattle.cert_check.proofs.walk_trace.+walk.Goals as goal

pub follow_one-returns-in-Step : goal.follow_one-returns-in-Step
follow_one-returns-in-Step t c =
    let flow = c.args.indexed.graph.now in
    subst (λ (lines : Place → Option Followed). Follows flow c.args.indexed.tree.now c.args.indexed.index.now c.args.within.now c.args.levels 1 lines c.args.walker.now c.follow_step.new.walker c.follow_step.result) (sym (ap (follow_item flow) c.in-Step.is ∙ item_step flow c.in-Step.line))
    (c.follow_step.ensures c.args.levels)

pub follow_one-returns-in_default : goal.follow_one-returns-in_default
follow_one-returns-in_default t c =
    item_cannot c.args.indexed.graph.now c.args.indexed.tree.now c.args.indexed.index.now c.requires.well_formed c.args.within.now c.args.levels c.args.walker.now c.requires c.args.item.now c.in-Repeat.count c.in-Repeat.body c.in-Repeat.is
    c.deref.result.now c.deref.ensures.value c.in_default.ensures

pub follow_one-returns-then-not-follow_all : goal.follow_one-returns-then-not-follow_all
follow_one-returns-then-not-follow_all t c =
    item_broken c.args.indexed.graph.now c.args.indexed.tree.now c.args.indexed.index.now c.requires.well_formed c.args.within.now c.args.levels c.args.walker.now c.requires c.args.item.now c.in-Repeat.count c.in-Repeat.body c.in-Repeat.is
    c.deref.result.now c.deref.ensures.value c.in-Some.round c.in-Some.ensures
    c.deref-in-Repeat.result.now c.deref-in-Repeat.ensures.value c.if-not-follow_all.ensures

pub follow_one-returns-then-walker-round : goal.follow_one-returns-then-walker-round
follow_one-returns-then-walker-round t c =
    item_open c.args.indexed.graph.now c.args.indexed.tree.now c.args.indexed.index.now c.requires.well_formed c.args.within.now c.args.levels c.args.walker.now c.requires c.args.item.now c.in-Repeat.count c.in-Repeat.body c.in-Repeat.is
    c.deref.result.now c.deref.ensures.value c.in-Some.round c.in-Some.ensures
    c.deref-in-Repeat.result.now c.deref-in-Repeat.ensures.value c.follow_all.new.walker c.if-not-follow_all.ensures c.if-walker-round.true

pub follow_one-returns-else-walker-round : goal.follow_one-returns-else-walker-round
follow_one-returns-else-walker-round t c =
    item_taken c.args.indexed.graph.now c.args.indexed.tree.now c.args.indexed.index.now c.requires.well_formed c.args.within.now c.args.levels c.args.walker.now c.requires c.args.item.now c.in-Repeat.count c.in-Repeat.body c.in-Repeat.is
    c.deref.result.now c.deref.ensures.value c.in-Some.round c.in-Some.ensures
    c.deref-in-Repeat.result.now c.deref-in-Repeat.ensures.value c.follow_all.new.walker c.if-not-follow_all.ensures c.if-walker-round.false
    c.repeat.new.self c.deref-in-Repeat-2.result.now c.deref-in-Repeat-2.ensures.value c.repeat.ensures

pub follow_all-returns-then-not-follow_one : goal.follow_all-returns-then-not-follow_one
follow_all-returns-then-not-follow_one t c =
    (c.loop-item.invariant).1 c.follow_one.new.walker false
    (left_refused c.args.indexed.graph.now c.args.indexed.tree.now c.args.indexed.index.now c.requires.well_formed c.args.within.now c.args.levels c.args.items.now c.loop-item.item-index c.loop-item.walker c.follow_one.new.walker c.item-item.result c.loop-item-test.true c.item-item.is c.if-not-follow_one.ensures)

pub follow_all-loop-item-preserved : goal.follow_all-loop-item-preserved
follow_all-loop-item-preserved t c =
    let done = c.if-not-follow_one.ensures in (
      done.ready,
      λ new b others. (c.loop-item.invariant).1 new b
          (left_more c.args.indexed.graph.now c.args.indexed.tree.now c.args.indexed.index.now c.requires.well_formed c.args.within.now c.args.levels c.args.items.now c.loop-item.item-index c.loop-item.walker new c.follow_one.new.walker b c.item-item.result c.loop-item-test.true c.item-item.is c.requires.tree_is done others),
    )

pub follow_all-returns : goal.follow_all-returns
follow_all-returns t c =
    (c.loop-item.invariant).1 c.loop-item.walker true
    (left_none c.args.indexed.graph.now c.args.indexed.tree.now c.args.indexed.index.now c.requires.well_formed c.args.within.now c.args.levels c.args.items.now c.loop-item.item-index c.loop-item.walker c.loop-item-test.false (c.loop-item.invariant).0)

body_smaller : (k : ℕ) (body : Vec CertItem Global) → most the_size body.items < the_size (Repeat k body)
body_smaller k body = search (rules, the_lemmas)

pub follow_one-follow_all-requires : goal.follow_one-follow_all-requires
follow_one-follow_all-requires t c =
    let here : the_size c.args.item.now ≡ the_size (Repeat c.in-Repeat.count c.in-Repeat.body) = ap the_size c.in-Repeat.is in
    let lines : most the_size c.deref-in-Repeat.result.now ≡ most the_size c.in-Repeat.body.items = ap (most the_size) c.deref-in-Repeat.ensures.value in
    (omega (arith, here, lines, body_smaller c.in-Repeat.count c.in-Repeat.body), inside_ready c.args.indexed.graph.now c.args.indexed.tree.now c.args.indexed.index.now c.requires.well_formed c.args.within.now c.args.levels c.args.walker.now c.requires c.in-Some.round.span c.in-Some.ensures.span_is)
