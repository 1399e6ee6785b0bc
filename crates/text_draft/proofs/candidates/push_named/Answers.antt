use Rattle.std.proofs.Common.{◌≡◌, subst}
use Rattle.std.proofs.lemmas.Result.{on_ok_weaker}
use Rattle.text_draft.specs.Candidates.{HasWord, Names}
use Rattle.text_draft.proofs.WayLaws.{gains_as, gains_none}
use Rattle.text_draft.proofs.candidates.push_named.Goals as goal

pub returns-in-Some : goal.returns-in-Some
returns-in-Some c =
    on_ok_weaker c.push_word.result
    (gains_as (λ a. HasWord c.args.image.now a × (c.in-Some.to ≡ a)) (λ a. HasWord c.args.image.now a × Names c.args.image.now c.args.at a)
    c.args.out.now.items c.push_word.new.out.items
    (λ a. (
      (λ h. (h.0, subst (Names c.args.image.now c.args.at) h.1 c.in-Some.ensures.some)),
      (λ h. (h.0, cc (c.in-Some.ensures.only a h.1))),
    )))
    c.push_word.ensures

pub returns-in-None : goal.returns-in-None
returns-in-None c =
    gains_none (λ a. HasWord c.args.image.now a × Names c.args.image.now c.args.at a) c.args.out.now.items
    (λ a h. absurd (cc (c.in-None.ensures.only a h.1)))
