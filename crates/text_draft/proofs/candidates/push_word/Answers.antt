use Rattle.std.proofs.Common.{◌≡◌, subst, sym}
use Rattle.text_draft.specs.Candidates.{HasWord}
use Rattle.text_draft.proofs.WayLaws.{gains_none, gains_one}
use Rattle.text_draft.proofs.candidates.push_word.Goals as goal

pub returns-in_ok-push-in-Some : goal.returns-in_ok-push-in-Some
returns-in_ok-push-in-Some c =
    gains_one (λ a. HasWord c.args.image.now a × (c.args.to ≡ a)) c.args.out.now.items c.args.to c.push.new.self.items
    (λ a. ((λ h. h.1), (λ e. (subst (HasWord c.args.image.now) e (c.in-Some._word, sym c.in-Some.ensures.value), e))))
    c.in_ok-push-in-Some.ensures.items

pub returns-in-None : goal.returns-in-None
returns-in-None c =
    gains_none (λ a. HasWord c.args.image.now a × (c.args.to ≡ a)) c.args.out.now.items
    (λ a h. absurd (cc (c.in-None.ensures.value, h.1, h.0.1)))
