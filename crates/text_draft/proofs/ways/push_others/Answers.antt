use Rattle.std.proofs.Common.{◌≡◌, false, sym, subst, ◌∙◌}
use Rattle.std.proofs.lemmas.Result.{on_ok_weaker}
use Rattle.arm2_decode.specs.Names.{is_never}
use Rattle.text_draft.specs.Reach.{LeadsAway}
use Rattle.control_flow.specs.declared.actions.Kind.TheVariants as kind
use Rattle.text_draft.proofs.WayLaws.{gains_as, gains_none, leads_nowhere}
use Rattle.text_draft.proofs.ways.push_others.Goals as goal

pub returns-then-is_never : goal.returns-then-is_never
returns-then-is_never c =
    gains_none _ c.args.out.now.items (λ to h. absurd (cc (h.0, c.is_never.ensures, c.if-is_never.true)))

pub returns-in-Writer : goal.returns-in-Writer
returns-in-Writer c =
    let may : is_never c.args.action.cond ≡ false = sym c.is_never.ensures ∙ c.if-is_never.false in
    on_ok_weaker c.push_writer.result
    (gains_as (LeadsAway c.args.image.now c.args.begun.now c.args.at kind.Writer)
    (λ to. (is_never c.args.action.cond ≡ false) × LeadsAway c.args.image.now c.args.begun.now c.args.at c.args.action.kind to)
    c.args.out.now.items c.push_writer.new.out.items
    (λ to. (
      (λ leads. (may, subst (λ w. LeadsAway c.args.image.now c.args.begun.now c.args.at w to) (sym c.in-Writer.is) leads)),
      (λ h. subst (λ w. LeadsAway c.args.image.now c.args.begun.now c.args.at w to) c.in-Writer.is h.1),
    )))
    c.push_writer.ensures

pub returns-in_default : goal.returns-in_default
returns-in_default c =
    gains_none _ c.args.out.now.items
    (λ to h. absurd (leads_nowhere c.args.image.now c.args.begun.now c.args.at c.args.action.kind to c.in_default.not-Branch c.in_default.not-Writer h.1))
