use Rattle.std.proofs.Common.{◌≡◌, ◌∙◌, sym}
use Rattle.text_draft.specs.Reach.{GoesOn, next_of}
use Rattle.text_draft.proofs.WayLaws.{gains_one}
use Rattle.text_draft.proofs.ways.push_next.Goals as goal

pub returns-in_ok-push : goal.returns-in_ok-push
returns-in_ok-push c =
    gains_one (λ to. GoesOn c.args.image.now c.args.begun.now c.args.at c.args.action × (to ≡ next_of c.args.at)) c.args.out.now.items
    c.ahead_of.result c.push.new.self.items
    (λ to. ((λ h. c.ahead_of.ensures.sum ∙ sym h.1), (λ e. (c.goes_on.ensures.yes c.if-goes_on.true, sym e ∙ c.ahead_of.ensures.sum))))
    c.in_ok-push.ensures.items
