-- What the stretches that hold an interrupt back add up to, one after the other.
use Rattle.std.proofs.Common.{◌≡◌, ◌∙◌, ◌⊎◌, ℕ, ◌+◌, ◌≤◌, List, [], ◌∷◌, refl, sym, ap, subst, inl, inr, arith}
use Rattle.bus_ticks.specs.declared.profile.Profile.{Profile}
use Rattle.control_flow.specs.Flow.{Flow}
use Rattle.statement.specs.Stated.{Stated}
use Rattle.loop_bounds.specs.Bounds.{IsGreatestCost}
use Rattle.sources.specs.declared.read.Source.{Source}
use Rattle.std.specs.Prelude.{◌++◌, map}
use Rattle.sources.specs.Source.{IsSource}
use Rattle.handlers.specs.Refusal.{Carries, CarriesOf, CarriesOneOf, CarriesReadOf, StatedSource}
use Rattle.handlers.specs.Report.{BeforeOutput, IsBounded, IsRefused}
use Rattle.handlers.specs.declared.fault.ReportFault.{ReportFault}
use Rattle.handlers.specs.declared.fault.ReportFault.TheVariants.{Memory, Device}
use Rattle.handlers.specs.declared.refusal.Refusal.{Refusal}
use Rattle.handlers.specs.declared.refusal.Stop.{Stop}
use Rattle.handlers.proofs.HandlerLemmas.{one_graph}
use Rattle.handlers.proofs.RefusalLemmas.{then_of}
use Rattle.handlers.proofs.ReportLemmas.{accepted_refusals}
use Rattle.response_reports.specs.RespondReport.{AddUpTo, OneIsRefused}
use Rattle.response_reports.specs.RespondWork.{IsBoundOf}
use Rattle.sources.specs.File.{File}

-- ## One bound, one sum

one_greatest : (flow : Flow) (st : Stated) (n m : ℕ) → IsGreatestCost flow st.loops n → IsGreatestCost flow st.loops m → n ≡ m
one_greatest flow st n m g h =
    let up = h.upper g.walk g.complete g.kept in
    let down = g.upper h.walk h.complete h.kept in
    omega (arith, up, down, g.costs, h.costs)

module _ (source : File) (profile : Profile) where
  pub one_bound : (statement : List ℕ) (r s : IsBounded source statement profile) → r.longest.bound ≡ s.longest.bound
  one_bound statement r s =
      let a = r.accepted in
      let b = s.accepted in
      let same = one_graph source statement profile a.stated b.stated a.flow b.flow a.loops.graph b.loops.graph in
      one_greatest b.flow b.stated r.longest.bound s.longest.bound
      (subst (λ (st : Stated). IsGreatestCost b.flow st.loops r.longest.bound) same.same_stated
      (subst (λ (flow : Flow). IsGreatestCost flow a.stated.loops r.longest.bound) same.same_flow r.walk.greatest))
      s.walk.greatest

  pub one_sum : (texts : List (List ℕ)) (n m : ℕ) → AddUpTo source profile texts n → AddUpTo source profile texts m → n ≡ m
  one_sum [] n m h k = h ∙ sym k
  one_sum (text ∷ texts) n m h k =
      let first = one_bound text h.0 k.0 in
      let rest = one_sum texts h.1 k.1 h.2 k.2 in
      omega (arith, first, rest, h.3, k.3)

  -- where they add up, none is refused but for lack of memory
  pub none_refused : (texts : List (List ℕ)) (n : ℕ) (e : ReportFault) → AddUpTo source profile texts n → OneIsRefused source profile texts e → (e ≡ Memory) ⊎ (e ≡ Device)
  none_refused [] n e h r = absurd r
  none_refused (text ∷ texts) n e h (inl r) = accepted_refusals source text profile e h.0.accepted r
  none_refused (text ∷ texts) n e h (inr r) = none_refused texts h.1 e h.2 r.1

  -- where they add up, what is found behind them is found behind all
  pub after_all : (parts : List StatedSource) (texts : List (List ℕ)) (n : ℕ) → AddUpTo source profile texts n → (e : Refusal) → CarriesReadOf parts profile e → CarriesReadOf (map (λ text. (source, text)) texts ++ parts) profile e
  after_all parts [] n h e c = c
  after_all parts (text ∷ texts) n h e c = then_of profile source text (map (λ text. (source, text)) texts ++ parts) h.0.accepted e (after_all parts texts h.1 h.2 e c)

  -- what is found in one of them is
  pub one_of_all : (parts : List StatedSource) (said : Source) → IsSource source said → (texts : List (List ℕ)) (s : Stop) → CarriesOneOf source said texts profile s
      → CarriesOf (map (λ text. (source, text)) texts ++ parts) profile said s
  one_of_all parts said is [] s h = absurd h
  one_of_all parts said is (text ∷ texts) s (inl h) = inl (is, h)
  one_of_all parts said is (text ∷ texts) s (inr h) = inr (h.0, one_of_all parts said is texts s h.1)

  -- ## So far

  module _ (said : Source) where
    -- what holds of the rest holds of all
    pub record IsSoFar (texts rest : List (List ℕ)) (total : ℕ) : Type 0 where
      pub adds : (more : ℕ) → AddUpTo source profile rest more → AddUpTo source profile texts (total + more)
      pub refused : (e : ReportFault) → OneIsRefused source profile rest e → OneIsRefused source profile texts e
      pub carries : (s : Stop) → CarriesOneOf source said rest profile s → CarriesOneOf source said texts profile s

    pub begins : (texts : List (List ℕ)) → IsSoFar texts texts 0
    begins texts = record { adds = λ more h. subst (AddUpTo source profile texts) (omega arith) h; refused = λ e h. h; carries = λ s h. h }

    module _ (texts rest : List (List ℕ)) (text : List ℕ) (total : ℕ) (far : IsSoFar texts (text ∷ rest) total) where
      pub goes_on : (n : ℕ) → IsBoundOf source text profile n → IsSoFar texts rest (total + n)
      goes_on n b = record {
        adds = λ more h.
            subst (AddUpTo source profile texts) (let e : total + (n + more) ≡ total + n + more = omega arith in e)
            (far.adds (n + more) (b.bounded, more, h, ap (λ m. m + more) (sym b.bound_is)));
        refused = λ e h. far.refused e (inr (b.bounded.accepted, h));
        carries = λ s h. far.carries s (inr (b.bounded.accepted, h));
      }

      pub is_refused : (e : ReportFault) → BeforeOutput (IsRefused source text profile) e → BeforeOutput (OneIsRefused source profile texts) e
      is_refused e h = (h.0, far.refused e (inl h.1))

      pub is_carried : (s : Stop) → Carries said text profile s → CarriesOneOf source said texts profile s
      is_carried s h = far.carries s (inl h)

    pub ends : (texts : List (List ℕ)) (total : ℕ) → IsSoFar texts [] total → AddUpTo source profile texts total
    ends texts total far = subst (AddUpTo source profile texts) (let e : total + 0 ≡ total = omega arith in e) (far.adds 0 refl)
