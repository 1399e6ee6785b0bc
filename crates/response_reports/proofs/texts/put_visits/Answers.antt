use Rattle.std.proofs.Common.{◌≡◌, ◌∙◌, ◌++◌, ℕ, List, Option, ap, codes, decimal, option_map, sym}
use Rattle.std.proofs.lemmas.Result.{on_ok_weaker}
use Rattle.response_reports.specs.RespondText.{fiq_line, visits_text}
use Rattle.response_reports.specs.declared.visits.VisitedTime.{VisitedTime}
use Rattle.response_reports.proofs.TextLemmas.{six}
use Rattle.response_reports.proofs.texts.put_visits.Goals as goal

pub returns : goal.returns
returns c =
    let profile = c.args.profile.now in
    let response = c.args.response in
    let v = (c.in-Some.timed).visits in
    let out = c.args.out.now.items in
    let shown : c.as_bytes.result.now ≡ visits_text profile response v.bound v.visits = c.as_bytes.ensures.value ∙ c.in_ok-text.ensures in
    on_ok_weaker c.put-4.result
    (λ last. six out (codes "with fiq every ") (decimal v.every) (codes " ticks, waited ") (decimal v.waited) (codes ": ") (visits_text profile response v.bound v.visits)
    c.put.new.out.items c.put_decimal.new.out.items c.put-2.new.out.items c.put_decimal-2.new.out.items c.put-3.new.out.items c.put-4.new.out.items
    c.in_ok-put.ensures (c.in_ok-put_decimal.ensures ∙ ap (λ (n : ℕ). c.put.new.out.items ++ decimal n) c.from.ensures) c.in_ok-put-2.ensures c.in_ok-put_decimal-2.ensures c.in_ok-put-3.ensures
    (last ∙ ap (λ (t : List ℕ). c.put-3.new.out.items ++ t) shown)
    ∙ ap (λ (o : Option VisitedTime). out ++ fiq_line profile response (option_map (λ (t : VisitedTime). t.visits) o)) (sym c.in-Some.is))
    c.put-4.ensures
