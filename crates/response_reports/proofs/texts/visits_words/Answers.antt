use Rattle.std.proofs.Common.{◌≡◌, ◌∙◌, ◌++◌, ◌+◌, ℕ, List, Option, Some, ap, codes, decimal, option_map, string_bytes, subst, sym}
use Rattle.std.proofs.lemmas.Option.{same_Some}
use Rattle.std.proofs.lemmas.Result.{IfOk-weaker}
use Rattle.bus_ticks.specs.Worst.{fiq_entry}
use Rattle.longest_walk.specs.Visits.{visits_bound}
use Rattle.response_reports.specs.RespondText.{time_words, visits_text}
use Rattle.response_reports.proofs.texts.visits_words.Goals as goal

pub returns : goal.returns
returns c =
    let profile = c.args.profile.now in
    let response = c.args.response in
    let bound = c.args.timed.visits.bound in
    let visits = c.in-Some-Some.visits in
    let time = c.in-Some-Some.time in
    let both : Some (visits_bound profile response bound visits) ≡ Some time =
    subst (λ (o : Option ℕ). option_map (visits_bound profile response bound) o ≡ Some time) c.in-Some-Some.is-0 (c.requires ∙ c.in-Some-Some.is-1) in
    let total : time ≡ visits_bound profile response bound visits = sym (same_Some (visits_bound profile response bound visits) time both) in
    let visit : c.visit-visit.result ≡ bound + fiq_entry profile = c.visit-visit.ensures in
    let words : string_bytes c.in_ok-time.time ≡ time_words (visits_bound profile response bound visits) = c.in_ok-time.ensures ∙ ap time_words (c.from.ensures ∙ total) in
    let shown : decimal visits ++ (codes " visits of " ++ (decimal c.visit-visit.result ++ (codes ": " ++ (string_bytes c.in_ok-time.time ++ codes "\n")))) ≡ visits_text profile response bound c.args.timed.visits.visits =
    (λ i. decimal visits ++ (codes " visits of " ++ (decimal (visit i) ++ (codes ": " ++ (words i ++ codes "\n"))))) ∙ ap (visits_text profile response bound) (sym c.in-Some-Some.is-0) in
    IfOk-weaker c.format.result _ _
    (λ r h.
    let text : string_bytes r ≡ decimal visits ++ (codes " visits of " ++ (decimal c.visit-visit.result ++ (codes ": " ++ (string_bytes c.in_ok-time.time ++ codes "\n")))) = h in
    text ∙ shown)
    c.format.ensures.ok
