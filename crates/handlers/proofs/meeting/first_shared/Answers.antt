use Rattle.std.proofs.Common.{◌∙◌, ◌+◌, ◌-◌, ◌<◌, ◌≤◌, length, sym, arith}
use Rattle.handlers.proofs.MeetingLemmas.{all_ahead, is_shared, none_here, none_there, past_here, past_there}
use Rattle.handlers.proofs.MeetingLemmas.{within}
use Rattle.handlers.proofs.meeting.first_shared.Goals as goal

pub loop-address-init : goal.loop-address-init
loop-address-init c = (all_ahead c.args.image.now c.args.other.now, omega arith, omega arith)

pub returns : goal.returns
returns c =
    let here = c.loop-address.here in
    let there = c.loop-address.there in
    none_here c.args.image.now c.args.other.now here there c.loop-address.invariant.0 (sym c.in_default.is
    ∙ c.address.ensures)

pub returns-in_default-address : goal.returns-in_default-address
returns-in_default-address c =
    none_there c.args.image.now c.args.other.now c.loop-address.here c.loop-address.there
    c.loop-address.invariant.0 (sym c.in_default-address.is ∙ c.address-in-Some.ensures)

pub returns-then-address-other_address : goal.returns-then-address-other_address
returns-then-address-other_address c =
    is_shared c.args.image.now c.args.other.now c.loop-address.here c.loop-address.there
    c.loop-address.invariant.0 c.in-Some.address c.in-Some-address.other_address
    (sym c.in-Some.is ∙ c.address.ensures) (sym c.in-Some-address.is ∙ c.address-in-Some.ensures)
    c.whole.ensures.ascends c.if-address-other_address.true

pub overflow_add-here : goal.overflow_add-here
overflow_add-here c =
    let lt = within c.args.image.now c.loop-address.here c.in-Some.address (sym c.in-Some.is
    ∙ c.address.ensures) in
    omega (arith, lt, c.whole.ensures.few_words)

pub overflow_add-there : goal.overflow_add-there
overflow_add-there c =
    let lt = within c.args.other.now c.loop-address.there c.in-Some-address.other_address
    (sym c.in-Some-address.is ∙ c.address-in-Some.ensures) in
    omega (arith, lt, c.whole-2.ensures.few_words)

pub loop-address-smaller-then-address-other_address-2 : goal.loop-address-smaller-then-address-other_address-2
loop-address-smaller-then-address-other_address-2 c =
    let image = c.args.image.now in
    let other = c.args.other.now in
    let here = c.loop-address.here in
    let there = c.loop-address.there in
    let lt = within image here c.in-Some.address (sym c.in-Some.is ∙ c.address.ensures) in
    let less : (length image - (here + 1)) + (length other - there) < (length image - here) + (length other -
    there) = omega (arith, lt) in
    less

pub loop-address-smaller : goal.loop-address-smaller
loop-address-smaller c =
    let image = c.args.image.now in
    let other = c.args.other.now in
    let here = c.loop-address.here in
    let there = c.loop-address.there in
    let lt = within other there c.in-Some-address.other_address (sym c.in-Some-address.is
    ∙ c.address-in-Some.ensures) in
    let less : (length image - here) + (length other - (there + 1)) < (length image - here) + (length other -
    there) = omega (arith, lt) in
    less

pub loop-address-preserved-then-address-other_address-2 :
    goal.loop-address-preserved-then-address-other_address-2
loop-address-preserved-then-address-other_address-2 c =
    let here = c.loop-address.here in
    let nth = sym c.in-Some.is ∙ c.address.ensures in
    let lt = within c.args.image.now here c.in-Some.address nth in (
      past_here c.args.image.now c.args.other.now here c.loop-address.there c.loop-address.invariant.0
          c.in-Some.address c.in-Some-address.other_address
          nth (sym c.in-Some-address.is ∙ c.address-in-Some.ensures) c.whole-2.ensures.ascends
          c.if-address-other_address-2.true,
      omega (arith, lt),
      c.loop-address.invariant.2,
    )

pub loop-address-preserved : goal.loop-address-preserved
loop-address-preserved c =
    let there = c.loop-address.there in
    let nth = sym c.in-Some-address.is ∙ c.address-in-Some.ensures in
    let lt = within c.args.other.now there c.in-Some-address.other_address nth in (
      past_there c.args.image.now c.args.other.now c.loop-address.here there c.loop-address.invariant.0
          c.in-Some.address c.in-Some-address.other_address
          (sym c.in-Some.is ∙ c.address.ensures) nth c.whole.ensures.ascends
          (omega (arith, c.if-address-other_address.false, c.if-address-other_address-2.false)),
      c.loop-address.invariant.1,
      omega (arith, lt),
    )
