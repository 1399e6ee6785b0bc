use Rattle.std.proofs.Common.{◌≡◌, ◌∙◌, ◌++◌, ℕ, List, Option, ap, option_map}
use Rattle.response_reports.specs.Question.{question_of}
use Rattle.response_reports.specs.RespondText.{fiq_line, parts_text, within_line}
use Rattle.response_reports.specs.declared.visits.FiqVisits.{FiqVisits}
use Rattle.response_reports.specs.declared.visits.VisitedTime.{VisitedTime}
use Rattle.response_reports.proofs.TextLemmas.{all_lines, response_text}
use Rattle.response_reports.proofs.texts.response_answer.Goals as goal

pub returns : goal.returns
returns c =
    let profile = c.args.profile.now in
    let q = question_of c.args.asked in
    let parts = c.args.response.parts in
    let sum = c.args.response.ticks in
    let visits : Option FiqVisits = option_map (λ (t : VisitedTime). t.visits) c.args.timed in
    let bursts = c.in_ok-rest.rest.items in
    let greatest = c.with_visits-greatest.result in
    let front = c.put_parts.new.out.items in
    response_text profile q parts sum c.requires.ticks visits c.is_within.result c.extend_from_slice.new.self.items bursts c.greatest_time.result greatest
    c.in_ok-rest.ensures c.greatest_time.ensures (c.with_visits-greatest.ensures profile sum c.requires.timed) c.is_within.ensures
    (all_lines (parts_text profile q.label parts) bursts (fiq_line profile sum visits) (within_line q.within greatest)
    c.new-text.result.items front c.put_visits.new.out.items c.put_within.new.out.items c.extend_from_slice.new.self.items
    c.new-text.ensures.items c.in_ok-put_parts.ensures c.in_ok-put_visits.ensures c.in_ok-put_within.ensures
    (c.in_ok-extend_from_slice.ensures.items ∙ ap (λ (t : List ℕ). front ++ t) c.deref.ensures.value))
