-- Of the fronts of some inputs one at most keeps a statement from a state, and it has one run.
use Rattle.std.proofs.Common.{◌≡◌, ◌∙◌, ℕ, ◌+◌, ◌*◌, List, [], ◌∷◌, ◌++◌, Option, Some, None, refl, sym, ap, subst, arith}
use Rattle.bus_ticks.specs.declared.profile.Profile.{Profile}
use Rattle.image.specs.Image.{Words}
use Rattle.statement.specs.Stated.{Stated}
use Rattle.arm2_effect.specs.declared.step_end.Kind.TheVariants as ended
use Rattle.arm2_effect.specs.declared.step_end.Why.{Why}
use Rattle.arm2_exec.specs.Run.{Ends, Runs, counted, why_stopped}
use Rattle.arm2_exec.specs.State.{State}
use Rattle.arm2_exec.specs.Step.{address_in}
use Rattle.arm2_exec.specs.declared.machine.Input.{Input}
use Rattle.arm2_exec.specs.declared.machine.Ran.{Ran}
use Rattle.arm2_exec.specs.declared.machine.Stepped.{Stepped}
use Rattle.arm2_exec.proofs.RunLemmas as R
use Rattle.arm2_exec.proofs.StepLemmas.{one_step}
use Rattle.walks.specs.Walk.{Leads}
use Rattle.control_flow.specs.Flow.{Flow, HasEdge, edge_shape}
use Rattle.flow_graph.specs.StepLaw.{Follows, IsEdgeOf}
use Rattle.control_flow.specs.declared.edges.Edge.{Edge}
use Rattle.control_flow.specs.declared.places.Place.{Place}
use Rattle.control_flow.specs.declared.places.Place.TheVariants.{Exit}
use Rattle.flow_graph.proofs.StepLemmas.{goes_on}
use Rattle.loop_bounds.specs.Tree.{Tree}
use Rattle.kept_runs.specs.Keeping.{KeepsTo}
use Rattle.kept_runs.proofs.OneStep.{one_edge_of}
use Rattle.kept_runs.proofs.SoFar.{no_exit}

-- ## Lists

pub same_first : {X : Type 0} (x y : X) (xs ys : List X) → x ∷ xs ≡ y ∷ ys → x ≡ y
same_first x y xs ys is = cc

pub same_rest : {X : Type 0} (x y : X) (xs ys : List X) → x ∷ xs ≡ y ∷ ys → xs ≡ ys
same_rest x y xs ys is = cc

-- ## Runs

-- a state and inputs have one run
pub one_run : (s : State) (inputs : List Input) (ran other : Ran) (after last : State) → Runs s inputs ran after → Runs s inputs other last → (ran ≡ other) × (after ≡ last)
one_run s [] ran other after last runs also = (runs.0 ∙ sym also.0, runs.1 ∙ sym also.1)
one_run s (i ∷ inputs) ran other after last runs also =
    let same = one_step s i runs.0 also.0 runs.1 also.1 runs.2 also.2 in
    by_why (λ p q this that. one_run runs.1 inputs p q after last this that) (why_stopped runs.0.kind) runs.3
    (subst (λ (n : State). Ends (why_stopped runs.0.kind) s other last ((more : Ran) × Runs n inputs more last × (other ≡ counted s.profile.burst i runs.0 more))) same.1
    (subst (λ (r : Stepped). Ends (why_stopped r.kind) s other last ((more : Ran) × Runs also.1 inputs more last × (other ≡ counted s.profile.burst i r more))) same.0 also.3))
  where
    by_why : ((p q : Ran) → Runs runs.1 inputs p after → Runs runs.1 inputs q last → (p ≡ q) × (after ≡ last))
        → (why : Option Why) → Ends why s ran after ((more : Ran) × Runs runs.1 inputs more after × (ran ≡ counted s.profile.burst i runs.0 more))
        → Ends why s other last ((more : Ran) × Runs runs.1 inputs more last × (other ≡ counted s.profile.burst i runs.0 more)) → (ran ≡ other) × (after ≡ last)
    by_why again None on too =
        let rest = again on.0 too.0 on.1 too.1 in
        (on.2 ∙ ap (λ (r : Ran). counted s.profile.burst i runs.0 r) rest.0 ∙ sym too.2, rest.1)
    by_why again (Some w) on too = (on.0 ∙ sym too.0, on.1 ∙ sym too.1)

module _ (words : Words) (st : Stated) (profile : Profile) where
  -- a run along a walk does not stop
  pub never_stopped : (s : State) (inputs : List Input) (walk : List Edge) (ran : Ran) (after : State) → Follows words st profile s inputs walk → Runs s inputs ran after → ran.stopped ≡ None
  never_stopped s [] walk ran after follows runs = ap (λ (r : Ran). r.stopped) runs.0
  never_stopped s (i ∷ inputs) [] ran after follows runs = absurd follows
  never_stopped s (i ∷ inputs) (e ∷ walk) ran after follows runs =
      let edge : IsEdgeOf words st profile s i follows.0 follows.1 e = follows.2 in
      let on = goes_on s i inputs ran after follows.0 follows.1 edge.executes.step (ap why_stopped edge.executes.plain) runs in
      ap (λ (r : Ran). r.stopped) on.2 ∙ never_stopped follows.1 inputs walk on.0 after follows.3 on.1

  -- a run along a walk goes on with what follows it
  pub joined : (s : State) (inputs rest : List Input) (walk : List Edge) (ran more : Ran) (mid after : State) → Follows words st profile s inputs walk → Runs s inputs ran mid → Runs mid rest more after
      → Runs s (inputs ++ rest) (R.added ran more) after
  joined s [] rest [] ran more mid after follows runs then_runs =
      subst (λ (n : State). Runs n rest (R.added ran more) after) runs.1 (subst (λ (r : Ran). Runs mid rest r after) (none_added runs.0) then_runs)
    where
      zero_plus : (n : ℕ) → n ≡ 0 + n
      zero_plus n = omega arith

      none_added : ran ≡ record { steps = 0; ticks = 0; elapsed = 0; stopped = None } → more ≡ R.added ran more
      none_added is = (λ j. record { steps = zero_plus more.steps j; ticks = zero_plus more.ticks j; elapsed = zero_plus more.elapsed j; stopped = more.stopped }) ∙ ap (λ (r : Ran). R.added r more) (sym is)
  joined s [] rest (e ∷ walk) ran more mid after follows runs then_runs = absurd follows
  joined s (i ∷ inputs) rest [] ran more mid after follows runs then_runs = absurd follows
  joined s (i ∷ inputs) rest (e ∷ walk) ran more mid after follows runs then_runs =
      let edge : IsEdgeOf words st profile s i follows.0 follows.1 e = follows.2 in
      let on = goes_on s i inputs ran mid follows.0 follows.1 edge.executes.step (ap why_stopped edge.executes.plain) runs in
      let whole : Runs follows.1 (inputs ++ rest) (R.added on.0 more) after = joined follows.1 inputs rest walk on.0 more mid after follows.3 on.1 then_runs in
      let goes : Runs s (i ∷ (inputs ++ rest)) (counted s.profile.burst i follows.0 (R.added on.0 more)) after = (
        follows.0,
        follows.1,
        edge.executes.step,
        R.ends_none follows.0.kind s after (counted s.profile.burst i follows.0 (R.added on.0 more))
            ((m : Ran) × Runs follows.1 (inputs ++ rest) m after × (counted s.profile.burst i follows.0 (R.added on.0 more) ≡ counted s.profile.burst i follows.0 m))
            (λ w is. let both : ended.Plain ≡ ended.Stopped w = sym edge.executes.plain ∙ is in cc)
            (R.added on.0 more, whole, refl),
      ) in
      subst (λ (r : Ran). Runs s (i ∷ (inputs ++ rest)) r after)
      (same_ran s.profile.burst i follows.0 on.0 more ∙ ap (λ (r : Ran). R.added r more) (sym on.2)) goes
    where
      same_ran : (b : ℕ) (i : Input) (stepped : Stepped) (m n : Ran) → counted b i stepped (R.added m n) ≡ R.added (counted b i stepped m) n
      same_ran b i stepped m n =
          let steps : 1 + (m.steps + n.steps) ≡ 1 + m.steps + n.steps = omega arith in
          let ticks : stepped.ticks + (m.ticks + n.ticks) ≡ stepped.ticks + m.ticks + n.ticks = omega arith in
          let elapsed : stepped.ticks + b * i.bursts + (m.elapsed + n.elapsed) ≡ stepped.ticks + b * i.bursts + m.elapsed + n.elapsed = omega arith in
          λ j. record { steps = steps j; ticks = ticks j; elapsed = elapsed j; stopped = n.stopped }

  module _ (flow : Flow) where
    -- complete walks that runs by two fronts of one list follow from one place have the same inputs
    pub same_front : (p : Place) (s : State) (these those left other : List Input) (w v : List Edge) → these ++ left ≡ those ++ other
        → Leads edge_shape (HasEdge flow) p w Exit → Leads edge_shape (HasEdge flow) p v Exit → Follows words st profile s these w → Follows words st profile s those v → these ≡ those
    same_front p s [] [] left other w v is leads also follows both = refl
    same_front p s [] (j ∷ those) left other [] [] is leads also follows both = absurd both
    same_front p s [] (j ∷ those) left other [] (e ∷ v) is leads also follows both = absurd (no_exit p both.2.calls (address_in s.regs) (sym also.1 ∙ both.2.taken.from) leads)
    same_front p s [] (j ∷ those) left other (d ∷ w) v is leads also follows both = absurd follows
    same_front p s (i ∷ these) [] left other [] v is leads also follows both = absurd follows
    same_front p s (i ∷ these) [] left other (d ∷ w) [] is leads also follows both = absurd (no_exit p follows.2.calls (address_in s.regs) (sym leads.1 ∙ follows.2.taken.from) also)
    same_front p s (i ∷ these) [] left other (d ∷ w) (e ∷ v) is leads also follows both = absurd both
    same_front p s (i ∷ these) (j ∷ those) left other [] v is leads also follows both = absurd follows
    same_front p s (i ∷ these) (j ∷ those) left other (d ∷ w) [] is leads also follows both = absurd both
    same_front p s (i ∷ these) (j ∷ those) left other (d ∷ w) (e ∷ v) is leads also follows both =
        let input : i ≡ j = same_first i j (these ++ left) (those ++ other) is in
        let rest : these ++ left ≡ those ++ other = same_rest i j (these ++ left) (those ++ other) is in
        let there : IsEdgeOf words st profile s i both.0 both.1 e = subst (λ (x : Input). IsEdgeOf words st profile s x both.0 both.1 e) (sym input) both.2 in
        let edge : d ≡ e = one_edge_of words st profile s i follows.0 both.0 follows.1 both.1 d e follows.2 there (leads.1 ∙ sym also.1) in
        let next : both.1 ≡ follows.1 = (one_step s i follows.0 both.0 follows.1 both.1 follows.2.executes.step there.executes.step).1 in
        let same : these ≡ those =
        same_front d.to follows.1 these those left other w v rest leads.2
        (subst (λ (x : Edge). Leads edge_shape (HasEdge flow) x.to v Exit) (sym edge) also.2) follows.3
        (subst (λ (n : State). Follows words st profile n those v) next both.3) in
        (λ k. input k ∷ same k)

pub one_front : (words : Words) (st : Stated) (flow : Flow) (tree : Tree) (s : State) (these those left other : List Input) → these ++ left ≡ those ++ other
    → KeepsTo words st flow tree s these → KeepsTo words st flow tree s those → these ≡ those
one_front words st flow tree s these those left other is a b =
    same_front words st flow.profile flow flow.entry s these those left other a.walk b.walk is a.complete b.complete a.follows b.follows
