use Rattle.std.proofs.Common.{◌≡◌, ◌∙◌, Some, subst, sym}
use Rattle.text_draft.specs.Rules.{Shows}
use Rattle.text_draft.proofs.rules.nth_shows.Goals as goal

pub returns-in-Some : goal.returns-in-Some
returns-in-Some c = (
  λ yes at is.
      let both : Some c.in-Some.at ≡ Some at = c.in-Some.ensures ∙ is in
      let same : c.in-Some.at ≡ at = cc in
      subst (λ a. Shows c.args.image.now a c.args.class) same (c.shows.ensures.0 yes),
  λ s. c.shows.ensures.1 (s c.in-Some.at (sym c.in-Some.ensures)),
)
