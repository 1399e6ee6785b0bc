use Rattle.std.proofs.Common.{◌≡◌, ◌∙◌, false, true, ap, sym, subst}
use Rattle.std.proofs.lemmas.Result.{on_ok_weaker}
use Rattle.arm2_decode.specs.Names.{is_never}
use Rattle.control_flow.specs.declared.actions.Action.{Action}
use Rattle.text_draft.specs.Reach.{Calls, CallsTo}
use Rattle.text_draft.proofs.WayLaws.{gains_as, gains_none, same_action}
use Rattle.text_draft.proofs.ways.push_calls.Goals as goal

pub returns-then-is_never : goal.returns-then-is_never
returns-then-is_never c =
    gains_none (CallsTo c.args.image.now c.args.begun.now c.args.at) c.args.out.now.items
    (λ to h.
    let same = same_action c.in-Some.action h.0 (c.in-Some.ensures.only h.0 h.1) in
    let never : is_never h.0.cond ≡ true = ap (λ (r : Action). is_never r.cond) (sym same) ∙ sym c.is_never.ensures ∙ c.if-is_never.true in
    absurd (cc (never, h.2)))

pub returns : goal.returns
returns c =
    let may : is_never c.in-Some.action.cond ≡ false = sym c.is_never.ensures ∙ c.if-is_never.false in
    on_ok_weaker c.push_routines.result
    (gains_as (Calls c.args.begun.now c.args.at c.in-Some.action.kind) (CallsTo c.args.image.now c.args.begun.now c.args.at)
    c.args.out.now.items c.push_routines.new.out.items
    (λ to. (
      (λ h. (c.in-Some.action, c.in-Some.ensures.some, may, h)),
      (λ h. subst (λ (r : Action). Calls c.args.begun.now c.args.at r.kind to) (sym (same_action c.in-Some.action h.0 (c.in-Some.ensures.only h.0 h.1))) h.3),
    )))
    c.push_routines.ensures
