-- Main steps and visits, one more at their end.
use Rattle.std.proofs.Common.{◌≡◌, ◌∙◌, ◌+◌, List, [], ◌∷◌, ◌++◌, length, refl, sym, ap, subst, append_assoc}
use Rattle.std.proofs.lemmas.List.Sums.{sum_by_push}
use Rattle.bus_ticks.specs.declared.profile.Profile.{Profile}
use Rattle.image.specs.Image.{Words}
use Rattle.statement.specs.Stated.{Stated}
use Rattle.arm2_exec.specs.State.{State}
use Rattle.arm2_exec.specs.Step.{Step, address_in}
use Rattle.arm2_exec.specs.declared.machine.Input.{Input}
use Rattle.arm2_exec.specs.declared.machine.Stepped.{Stepped}
use Rattle.flow_graph.specs.StepLaw.{IsEdgeOf}
use Rattle.control_flow.specs.declared.edges.Edge.{Edge}
use Rattle.kept_runs.specs.Visited.{AreVisits, FollowsVisited, IsVisit, LeadsVisited, MainStep, Visit, inputs_of, visits_before, visits_of}

-- ## Inputs

pub before_append : (visits : List Visit) (xs ys : List Input) → visits_before visits (xs ++ ys) ≡ visits_before visits xs ++ ys
before_append [] xs ys = refl
before_append (v ∷ visits) xs ys =
    ap (λ (is : List Input). v.taking ∷ (v.handling ++ is)) (before_append visits xs ys)
    ∙ ap (λ (is : List Input). v.taking ∷ is) (sym (append_assoc v.handling (visits_before visits xs) ys))

pub before_more : (visits : List Visit) (v : Visit) (rest : List Input) → visits_before (visits ++ v ∷ []) rest ≡ visits_before visits (v.taking ∷ (v.handling ++ rest))
before_more [] v rest = refl
before_more (w ∷ visits) v rest = ap (λ (is : List Input). w.taking ∷ (w.handling ++ is)) (before_more visits v rest)

pub inputs_append : (main more : List MainStep) → inputs_of (main ++ more) ≡ inputs_of main ++ inputs_of more
inputs_append [] more = refl
inputs_append (m ∷ main) more =
    ap (λ (is : List Input). visits_before m.visits (m.input ∷ is)) (inputs_append main more)
    ∙ before_append m.visits (m.input ∷ inputs_of main) (inputs_of more)

-- one main step after visits, or one visit more
pub inputs_main : (main : List MainStep) (visits : List Visit) (i : Input) → inputs_of (main ++ record { visits = visits; input = i } ∷ []) ≡ (inputs_of main ++ visits_before visits []) ++ i ∷ []
inputs_main main visits i =
    inputs_append main (record { visits = visits; input = i } ∷ [])
    ∙ ap (λ (is : List Input). inputs_of main ++ is) (before_append visits [] (i ∷ []))
    ∙ sym (append_assoc (inputs_of main) (visits_before visits []) (i ∷ []))

no_more : (xs : List Input) → xs ++ [] ≡ xs
no_more [] = refl
no_more (x ∷ xs) = ap (λ (ys : List Input). x ∷ ys) (no_more xs)

pub inputs_visit : (main : List MainStep) (visits : List Visit) (v : Visit) → inputs_of main ++ visits_before (visits ++ v ∷ []) [] ≡ (inputs_of main ++ visits_before visits []) ++ v.taking ∷ v.handling
inputs_visit main visits v =
    ap (λ (is : List Input). inputs_of main ++ is)
    (before_more visits v [] ∙ ap (λ (is : List Input). visits_before visits (v.taking ∷ is)) (no_more v.handling) ∙ before_append visits [] (v.taking ∷ v.handling))
    ∙ sym (append_assoc (inputs_of main) (visits_before visits []) (v.taking ∷ v.handling))

pub visits_main : (main : List MainStep) (m : MainStep) → visits_of (main ++ m ∷ []) ≡ visits_of main + length m.visits
visits_main main m = sum_by_push (λ (x : MainStep). length x.visits) main m

-- ## States

module _ (K : State → List Input → Type 0) (profile : Profile) where
  pub one_visit_more : (s : State) (visits : List Visit) (mid : State) (v : Visit) (after : State) → AreVisits K profile s visits mid → IsVisit K profile mid v after → AreVisits K profile s (visits ++ v ∷ []) after
  one_visit_more s [] mid v after are is = (after, ap_visit, refl)
    where
      ap_visit : IsVisit K profile s v after
      ap_visit = record {
        stepped = is.stepped;
        entered = is.entered;
        step = subst (λ (n : State). Step n v.taking is.stepped is.entered) are is.step;
        takes_fiq = is.takes_fiq;
        prices = subst (λ (n : State). n.profile ≡ profile) are is.prices;
        keeps = is.keeps;
        ran = is.ran;
        runs = is.runs;
        back = subst (λ (n : State). address_in after.regs ≡ address_in n.regs) are is.back;
      }
  one_visit_more s (w ∷ visits) mid v after are is = (are.0, are.1, one_visit_more are.0 visits mid v after are.2 is)

  module _ (words : Words) (irq : Stated) where
    pub one_step_more : (s : State) (main : List MainStep) (walk : List Edge) (last now : State) (visits : List Visit) (i : Input) (stepped : Stepped) (next : State) (e : Edge)
        → LeadsVisited K profile words irq s main walk last → AreVisits K profile last visits now → IsEdgeOf words irq profile now i stepped next e
        → LeadsVisited K profile words irq s (main ++ record { visits = visits; input = i } ∷ []) (walk ++ e ∷ []) next
    one_step_more s [] [] last now visits i stepped next e leads are is =
        (now, subst (λ (n : State). AreVisits K profile n visits now) leads are, (stepped, next, is, refl))
    one_step_more s [] (d ∷ walk) last now visits i stepped next e leads are is = absurd leads
    one_step_more s (m ∷ main) [] last now visits i stepped next e leads are is = absurd leads
    one_step_more s (m ∷ main) (d ∷ walk) last now visits i stepped next e leads are is =
        (leads.0, leads.1, (leads.2.0, leads.2.1, leads.2.2, one_step_more leads.2.1 main walk last now visits i stepped next e leads.2.3 are is))

    pub leads_along : (s : State) (main : List MainStep) (walk : List Edge) (last : State) → LeadsVisited K profile words irq s main walk last → FollowsVisited K profile words irq s main walk
    leads_along s [] [] last leads = tt
    leads_along s [] (e ∷ walk) last leads = leads
    leads_along s (m ∷ main) [] last leads = leads
    leads_along s (m ∷ main) (e ∷ walk) last leads = (leads.0, leads.1, (leads.2.0, leads.2.1, leads.2.2, leads_along leads.2.1 main walk last leads.2.3))
