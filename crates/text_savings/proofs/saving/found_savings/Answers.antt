use Rattle.std.proofs.Common.{◌∙◌, ◌++◌, ap, Option}
use Rattle.longest_walk.specs.Folded.{unfolded}
use Rattle.bus_ticks.specs.declared.profile.Class.{Class}
use Rattle.text_savings.specs.Carried.{times_in}
use Rattle.text_savings.specs.Gains.{leave_gain}
use Rattle.text_savings.specs.Savings.{saved}
use Rattle.text_savings.specs.declared.gains.Gain.{Gain}
use Rattle.text_savings.specs.declared.saving.Subject.TheVariants.{Leave}
use Rattle.text_savings.proofs.FoundLaws.{all_found}
use Rattle.text_savings.proofs.saving.found_savings.Goals as goal

pub returns : goal.returns
returns c =
    all_found c.args.walk.handler.now.image.now c.deref.result.now c.args.walk.handler.now.statement c.args.walk.handler.now.graph c.profile-profile.result (unfolded c.args.walk.longest.now.walk)
    (times_in c.in_ok-times.times) c.in_ok-found.found.items c.push_saved.new.found.items (λ i a. c.in_ok-times.ensures a i) c.profile-profile.ensures.value
    (c.deref.ensures.value ∙ c.in_ok-words.ensures.words) c.in_ok-found.ensures
    (c.in_ok-push_saved.ensures ∙ ap (λ (g : Option Gain). c.in_ok-found.found.items ++ saved Leave 1 g)
    (c.leave_gain-gain.ensures ∙ ap (λ (k : Class). leave_gain c.profile-profile.result k) c.leave.ensures))
