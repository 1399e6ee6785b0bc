-- The run that serves IRQ with one visit takes FIQ once, and so at most once in any period.
use Rattle.std.proofs.Common.{ℕ, ◌+◌, List, [], ◌∷◌, refl, sym, ap}
use Rattle.bus_ticks.specs.declared.profile.Profile.{Profile}
use Rattle.arm2_effect.specs.declared.exceptions.Vector.TheVariants.{Fiq, Irq}
use Rattle.arm2_effect.specs.declared.step_end.Kind.{Kind}
use Rattle.arm2_effect.specs.declared.step_end.Kind.TheVariants.{Plain, Taken}
use Rattle.arm2_exec.specs.Run.{why_stopped}
use Rattle.arm2_exec.specs.State.{State}
use Rattle.arm2_exec.specs.declared.machine.Input.{Input}
use Rattle.responses.specs.Visited.{service_inputs}
use Rattle.responses.proofs.Served.{HaveKinds, served_kinds}
use Rattle.handlers.specs.Visits.{TakeFiq, TakesFiq, fiqs_of}
use Rattle.handlers.proofs.TakenLemmas.{once_apart, once_every}
use Rattle.handlers.proofs.VisitRateLemmas.{at_once, later}
use Rattle.response_reports.specs.ServedEvery.{HasServiceEvery}

abbrev fiqs_in : List Kind → ℕ
fiqs_in [] = 0
fiqs_in (k ∷ kinds) = fiqs_of k + fiqs_in kinds

take_fiq : (s : State) (inputs : List Input) (kinds : List Kind) → HaveKinds s inputs kinds
    → TakeFiq s inputs (fiqs_in kinds)
take_fiq s [] [] have = refl
take_fiq s [] (k ∷ kinds) have = absurd have
take_fiq s (i ∷ inputs) [] have = absurd have
take_fiq s (i ∷ inputs) (k ∷ kinds) have =
    let same = ap (λ (n : Kind). fiqs_of n + fiqs_in kinds) (sym have.3) in
    (have.0, have.1, have.2, (fiqs_in kinds, take_fiq have.1 inputs kinds have.4, same))

third_takes : (s : State) (inputs : List Input) (kinds : List Kind)
    → HaveKinds s inputs (Plain ∷ Plain ∷ Taken Fiq ∷ kinds) → TakesFiq s inputs
third_takes s [] kinds have = absurd have
third_takes s (i ∷ []) kinds have = absurd have.4
third_takes s (i ∷ j ∷ []) kinds have = absurd have.4.4
third_takes s (i ∷ j ∷ k ∷ inputs) kinds have =
    let second = have.4 in
    let third = second.4 in
    later s i (j ∷ k ∷ inputs) have.0 have.1 have.2 (ap why_stopped have.3)
    (later have.1 j (k ∷ inputs) second.0 second.1 second.2 (ap why_stopped second.3)
    (at_once second.1 k inputs third.0 third.1 third.2 third.3))

pub served_every : (profile : Profile) (every waited : ℕ) → HasServiceEvery profile every waited
served_every profile every waited =
    let run = served_kinds profile in
    let has = run.has in
    let inputs = service_inputs has.service in
    let after : List Kind = Plain ∷ Taken Irq ∷ Plain ∷ [] in
    let once : TakeFiq has.s inputs 1 = take_fiq has.s inputs (Plain ∷ Plain ∷ Taken Fiq ∷ after) run.kinds_are in
    record {
      has = has;
      takes = third_takes has.s inputs after run.kinds_are;
      apart = once_apart has.s inputs once every;
      taken = once_every has.s inputs once every waited;
    }
