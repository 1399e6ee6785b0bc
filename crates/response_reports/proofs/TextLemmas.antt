-- Parts of a text, put one after the other.
use Rattle.std.proofs.Common.{◌≡◌, ◌∙◌, ◌++◌, ℕ, Bool, List, [], Option, ap, append_assoc, subst}
use Rattle.bus_ticks.specs.declared.profile.Profile.{Profile}
use Rattle.responses.specs.declared.response.ResponseParts.{ResponseParts}
use Rattle.text_explained.specs.Bursts.{AreBurstLines}
use Rattle.response_reports.specs.Question.{Question}
use Rattle.response_reports.specs.RespondText.{IsGreatestTime, IsResponseText, fiq_line, is_within, parts_text, response_of, with_visits, within_line}
use Rattle.response_reports.specs.declared.visits.FiqVisits.{FiqVisits}

pub three : (a x y z b c d : List ℕ) → b ≡ a ++ x → c ≡ b ++ y → d ≡ c ++ z → d ≡ a ++ (x ++ (y ++ z))
three a x y z b c d first second third =
    third ∙ ap (λ (t : List ℕ). t ++ z) (second ∙ ap (λ (t : List ℕ). t ++ y) first) ∙ append_assoc (a ++ x) y z ∙ append_assoc a x (y ++ z)

pub five : (a v w x y z b c d e f : List ℕ) → b ≡ a ++ v → c ≡ b ++ w → d ≡ c ++ x → e ≡ d ++ y → f ≡ e ++ z → f ≡ a ++ (v ++ (w ++ (x ++ (y ++ z))))
five a v w x y z b c d e f first second third fourth fifth =
    three c x y z d e f third fourth fifth ∙ ap (λ (t : List ℕ). t ++ (x ++ (y ++ z))) (second ∙ ap (λ (t : List ℕ). t ++ w) first)
    ∙ append_assoc (a ++ v) w (x ++ (y ++ z)) ∙ append_assoc a v (w ++ (x ++ (y ++ z)))

pub six : (a u v w x y z b c d e f g : List ℕ) → b ≡ a ++ u → c ≡ b ++ v → d ≡ c ++ w → e ≡ d ++ x → f ≡ e ++ y → g ≡ f ++ z → g ≡ a ++ (u ++ (v ++ (w ++ (x ++ (y ++ z)))))
six a u v w x y z b c d e f g first second third fourth fifth sixth =
    five b v w x y z c d e f g second third fourth fifth sixth ∙ ap (λ (t : List ℕ). t ++ (v ++ (w ++ (x ++ (y ++ z))))) first ∙ append_assoc a u (v ++ (w ++ (x ++ (y ++ z))))

-- the parts, and behind them the rest of the lines
pub all_lines : (p b f w none front rest all text : List ℕ) → none ≡ [] → front ≡ none ++ p → rest ≡ b ++ f → all ≡ rest ++ w → text ≡ front ++ all → text ≡ p ++ (b ++ (f ++ w))
all_lines p b f w none front rest all text empty begins goes_on ends is =
    is ∙ (λ i. (begins ∙ ap (λ (t : List ℕ). t ++ p) empty) i ++ (ends ∙ ap (λ (t : List ℕ). t ++ w) goes_on ∙ append_assoc b f w) i)

-- the text of a response, by its sum as it was computed
pub response_text : (profile : Profile) (q : Question) (parts : ResponseParts) (sum : ℕ) → sum ≡ response_of profile parts → (visits : Option FiqVisits) (answer : Bool) (text b : List ℕ) (without greatest : Option ℕ)
    → AreBurstLines profile.burst sum q.bursts b → IsGreatestTime profile.burst sum q.bursts without → greatest ≡ with_visits profile sum visits without → answer ≡ is_within q.within greatest
    → text ≡ parts_text profile q.label parts ++ (b ++ (fiq_line profile sum visits ++ within_line q.within greatest)) → IsResponseText profile q parts visits answer text
response_text profile q parts sum is visits answer text b without greatest are_lines is_greatest greatest_is answer_is text_is = record {
  burst_lines = b;
  are_burst_lines = subst (λ (n : ℕ). AreBurstLines profile.burst n q.bursts b) is are_lines;
  without = without;
  is_greatest = subst (λ (n : ℕ). IsGreatestTime profile.burst n q.bursts without) is is_greatest;
  greatest = greatest;
  greatest_is = greatest_is ∙ ap (λ (n : ℕ). with_visits profile n visits without) is;
  answer_is = answer_is;
  text_is = text_is ∙ ap (λ (n : ℕ). parts_text profile q.label parts ++ (b ++ (fiq_line profile n visits ++ within_line q.within greatest))) is;
}
