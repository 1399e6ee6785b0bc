use Rattle.std.proofs.Common.{◌∙◌, sym}
use Rattle.std.proofs.lemmas.List.Folds.{list_all-map}
use Rattle.image.proofs.FittedLemmas.{all_fitted, own_words}
use Rattle.image.proofs.image.Image.is_fitted.Goals as goal

pub returns-clause-fitted : goal.returns-clause-fitted
returns-clause-fitted c =
    let both = all_fitted c.args.self.now in
    let is = c.none_is_past_ram.ensures ∙ sym (list_all-map _ (λ e. e.0) c.args.self.now) in
    (λ h. both.0 (sym is ∙ h), λ h. is ∙ both.1 h)

pub returns-clause-own : goal.returns-clause-own
returns-clause-own c = own_words c.args.self.now c.whole.ensures.ascends
