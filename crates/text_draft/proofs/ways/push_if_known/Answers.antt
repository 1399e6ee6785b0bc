use Rattle.std.specs.Prelude.{◌≢◌}
use Rattle.std.proofs.Common.{◌≡◌, ◌∙◌, sym}
use Rattle.text_draft.proofs.WayLaws.{gains_none, gains_one}
use Rattle.text_draft.proofs.ways.push_if_known.Goals as goal

pub returns-then-to-eq0 : goal.returns-then-to-eq0
returns-then-to-eq0 c =
    gains_none (λ a. (c.args.to ≡ a) × (a ≢ 0)) c.args.out.now.items (λ a h. absurd (h.1 (sym h.0 ∙ c.if-to-eq0.true)))

pub returns : goal.returns
returns c =
    gains_one (λ a. (c.args.to ≡ a) × (a ≢ 0)) c.args.out.now.items c.args.to c.push.new.self.items
    (λ a. ((λ h. h.0), (λ e. (e, (λ none. c.if-to-eq0.false (e ∙ none))))))
    c.in_ok-push.ensures.items
