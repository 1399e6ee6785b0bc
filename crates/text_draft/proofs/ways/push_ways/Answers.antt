use Rattle.std.proofs.lemmas.Result.{on_ok_weaker}
use Rattle.text_draft.specs.Reach.{GoesOn, LeadsAway, Steps, StepsTo, next_of}
use Rattle.std.proofs.Common.{◌≡◌, false}
use Rattle.arm2_decode.specs.Names.{is_never}
use Rattle.text_draft.proofs.WayLaws.{gains_as, gains_none, gains_on, same_action, steps_are}
use Rattle.text_draft.proofs.ways.push_ways.Goals as goal

pub returns-in_default : goal.returns-in_default
returns-in_default c =
    gains_none (StepsTo c.args.image.now c.args.begun.now c.args.at) c.args.out.now.items
    (λ to h. absurd (c.in_default.not-Some h.0 (c.action_at.ensures.only h.0 h.1)))

pub returns : goal.returns
returns c =
    let words = c.args.image.now in
    let begun = c.args.begun.now in
    let at = c.args.at in
    let r = c.in-Some.action in
    on_ok_weaker c.push_others.result
    (λ others. gains_as (Steps words begun at r) (StepsTo words begun at) c.args.out.now.items c.push_others.new.out.items
    (steps_are words begun at r c.in-Some.ensures.some (λ s has. same_action r s (c.in-Some.ensures.only s has)))
    (gains_on (λ to. GoesOn words begun at r × (to ≡ next_of at))
    (λ to. (is_never r.cond ≡ false) × LeadsAway words begun at r.kind to) (Steps words begun at r)
    c.args.out.now.items c.push_next.new.out.items c.push_others.new.out.items (λ to. ((λ w. w), (λ w. w)))
    c.in_ok-push_next.ensures others))
    c.push_others.ensures
