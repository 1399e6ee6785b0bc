use Rattle.std.proofs.Common.{◌∙◌, subst}
use Rattle.std.proofs.lemmas.Result.{on_ok_weaker}
use Rattle.text_draft.specs.Candidates.{HasWord, IsLiteral}
use Rattle.text_draft.specs.Exploring.{Gains}
use Rattle.text_draft.proofs.CandidateLaws.{both_kinds}
use Rattle.text_draft.proofs.candidates.push_candidates.Goals as goal

pub returns : goal.returns
returns c =
    let mid = c.push_all_named.new.out.items in
    let new = c.push_literals.new.out.items in
    on_ok_weaker c.push_literals.result
    (λ g. both_kinds c.args.image.now c.args.addresses.now c.args.out.now.items mid new c.in_ok-push_all_named.ensures
    (subst (λ ws. Gains (λ a. HasWord c.args.image.now a × IsLiteral ws a) mid new)
    (c.deref.ensures.value ∙ c.in_ok-words.ensures.words) g))
    c.push_literals.ensures
