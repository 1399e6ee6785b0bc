use Rattle.std.proofs.Common.{inr, refl, subst, sym}
use Rattle.std.specs.Prelude.{All, ℕ}
use Rattle.std.proofs.lemmas.List.Elements.{All-push}
use Rattle.text_draft.specs.Ends.{IsEnd}
use Rattle.text_draft.specs.declared.ends.End.{End}
use Rattle.text_draft.proofs.ends.keep_end.Goals as goal

pub returns-in_default-clause-kept : goal.returns-in_default-clause-kept
returns-in_default-clause-kept c = inr (λ h. c.in_default.not-Some h.0 (c.end_at.ensures.only h.0 h.1), refl)

pub returns-clause-why : goal.returns-clause-why
returns-clause-why c = λ all.
    let P = λ (e : ℕ × End). IsEnd c.args.image.now e.0 e.1 in
    subst (All P) (sym c.in_ok-push.ensures.items)
    (All-push P c.args.found.now.items (c.args.at, c.in-Some.end) all c.in-Some.ensures.some)
