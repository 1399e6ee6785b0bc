-- One main step or one visit of a run of two handlers that is followed.
use Rattle.std.proofs.Common.{◌≡◌, ◌∙◌, inl, inr, ℕ, ◌+◌, ◌^◌, ◌<◌, ◌≤◌, List, length, get_or, drop, refl, sym, ap, subst, arith}
use Rattle.std.proofs.lemmas.List.{length-drop}
use Rattle.image.specs.Image.{Words}
use Rattle.statement.specs.Stated.{Stated}
use Rattle.arm2_exec.specs.State.{State}
use Rattle.arm2_exec.specs.Step.{Step}
use Rattle.arm2_exec.specs.declared.machine.Input.{Input}
use Rattle.arm2_exec.specs.declared.machine.Stepped.{Stepped}
use Rattle.arm2_effect.specs.declared.exceptions.Vector.TheVariants.{Fiq}
use Rattle.arm2_effect.specs.declared.step_end.Kind.TheVariants.{Plain, Taken}
use Rattle.control_flow.specs.Flow.{Flow, IsWellFormed}
use Rattle.flow_graph.specs.StepLaw.{IsPlaceOf}
use Rattle.control_flow.specs.declared.edges.Label.TheVariants.{Do}
use Rattle.control_flow.specs.declared.places.Place.{Place}
use Rattle.control_flow.specs.declared.places.Place.TheVariants.{At, Exit}
use Rattle.loop_bounds.specs.Tree.{IsTree, Tree, place_in}
use Rattle.longest_walk.specs.Built.{step_at}
use Rattle.longest_walk.proofs.CarryWalks.{edge_same, exit_is}
use Rattle.walk_counts.specs.Counts.{is_same_label}
use Rattle.kept_runs.specs.declared.following.Follower.{Follower}
use Rattle.kept_runs.specs.declared.following.Unkept.{Unkept}
use Rattle.kept_runs.specs.declared.following.Unkept.TheVariants as unkept
use Rattle.kept_runs.specs.declared.following.Unkept.TheVariants.{NotAtEntry, TurnedBack, Unfinished}
use Rattle.kept_runs.specs.declared.visited.Both.{Both}
use Rattle.kept_runs.specs.declared.visited.Followers.{Followers}
use Rattle.kept_runs.specs.declared.visited.VisitUnkept.{VisitUnkept}
use Rattle.kept_runs.specs.declared.visited.VisitUnkept.TheVariants.{InMain, InVisit, NotBack}
use Rattle.kept_runs.specs.declared.following.Halt.{Halt}
use Rattle.kept_runs.specs.Following.{CanGo, Goes, HaltsBy, IsWhy, Stays}
use Rattle.arm2_exec.proofs.StepLemmas.{one_step}
use Rattle.kept_runs.specs.Judging.{IsMachineFor, IsPlaceFor}
use Rattle.kept_runs.specs.Keeping.{IsStrayedRun, IsUnkept}
use Rattle.kept_runs.specs.Visited.{IsKeptVisited, IsStrayedVisited, handled}
use Rattle.kept_runs.specs.Visiting.{Advances, AreReady, CanAdvance, HasRoom, IsBegun, IsCounted, IsHalt}
use Rattle.kept_runs.proofs.OneStep.{lands}
use Rattle.kept_runs.proofs.PassLemmas.{tally_more}
use Rattle.kept_runs.proofs.SoFarBoth.{SoFar, begins, leaves_elsewhere, left_both, one_more, one_visit_on, strays_in, strays_in_main}
use Rattle.kept_runs.proofs.StepTaken.{index_in}
use Rattle.kept_runs.proofs.FitLemmas.{fit_after}

-- ## How many steps

unkept_few : (words : Words) (st : Stated) (flow : Flow) (tree : Tree) (s : State) (inputs : List Input) (steps : ℕ) (after : State) (why : Unkept) → IsUnkept words st flow tree s inputs steps after why → steps ≤ length inputs
unkept_few words st flow tree s inputs steps after NotAtEntry is = let none = is.0 in omega (arith, none)
unkept_few words st flow tree s inputs steps after (unkept.Stray stray) is = let at = is.before.at in omega (arith, at)
unkept_few words st flow tree s inputs steps after (TurnedBack span) is = let at = is.before.at in omega (arith, at)
unkept_few words st flow tree s inputs steps after Unfinished is = let all = is.0 in omega (arith, all)

pub strayed_few : (words : Words) (st : Stated) (flow : Flow) (tree : Tree) (s : State) (inputs : List Input) (steps at : ℕ) (why : Unkept) (after : State) → IsStrayedRun words st flow tree s inputs steps at why after → steps ≤ length inputs
strayed_few words st flow tree s inputs steps at why after is = unkept_few words st flow tree s inputs steps after why is.is

module _ (b : Both) (x : Followers) (s : State) (i : Input) (rest : List Input) (after : State) where
  pub halt_few : (steps at : ℕ) (why : VisitUnkept) → IsHalt b x s i rest after steps at why → steps ≤ 1 + length rest
  halt_few steps at (InMain why) (none, h) = omega (arith, none)
  halt_few steps at (InVisit why) (k, is, h) =
      let few = strayed_few b.fiq.now.image.now b.fiq.now.statement b.fiq.now.graph b.fiq.now.tree h.entered rest k at why after h.strays in
      omega (arith, is, few)
  halt_few steps at (NotBack address) (k, is, h) = let few = h.leaves.run.few in let same = h.handling_is in omega (arith, is, few, same)

-- how many ticks
pub ticks_fit : (b : Both) (x y : Followers) (s : State) (i : Input) (rest : List Input) (after : State) (n steps : ℕ) → IsCounted n x → n + 1 + length rest < 2 ^ 64 → Advances b x s i rest after y steps → y.main.ticks + y.ticks < 2 ^ 128
ticks_fit b x y s i rest after n steps c room (inl (one, makes)) =
    let main = makes.goes.ticks_are in
    let small = makes.goes.small in
    let ticks = makes.ticks_are in
    let most = c.main_ticks in
    let also = c.ticks in
    omega (arith, main, small, ticks, most, also, room)
ticks_fit b x y s i rest after n steps c room (inr (is, makes)) =
    let main : y.main.ticks ≡ x.main.ticks = ap (λ (f : Follower). f.ticks) makes.main_is in
    let small = makes.takes.small in
    let spent = makes.leaves.few in
    let few = makes.leaves.run.few in
    let ticks = makes.ticks_are in
    let most = c.main_ticks in
    let also = c.ticks in
    omega (arith, main, small, spent, few, ticks, most, also, room)

-- ## What stays

-- FIQ's handler may begin
pub fit_for_fiq : (irq fiq : Flow) (s : State) (i : Input) (stepped : Stepped) (entered : State) → fiq.profile ≡ irq.profile → IsMachineFor irq s → Step s i stepped entered → stepped.kind ≡ Taken Fiq → IsMachineFor fiq entered
fit_for_fiq irq fiq s i stepped entered prices machine step kind =
    let m = fit_after s i stepped entered step irq machine in
    record { registers = m.registers; prices = m.prices ∙ sym prices }

-- a step that takes FIQ is along no edge, so nothing of what is followed changes
pub unchanged : (words : Words) (st : Stated) (flow : Flow) (tree : Tree) (x y : Follower) (s : State) (i : Input) (judged : State) (halt : Halt) → HaltsBy words st flow tree x y s i judged halt
    → (stepped : Stepped) (entered : State) → Step s i stepped entered → stepped.kind ≡ Taken Fiq → y ≡ x
unchanged words st flow tree x y s i judged halt h stepped entered step fiq = by_why halt.why h.halts.is h.stays
  where
    by_why : (why : Unkept) → IsWhy words st flow tree x s i judged why → Stays words st flow tree x y why → y ≡ x
    by_why NotAtEntry is stays = absurd is
    by_why (unkept.Stray stray) is stays = stays
    by_why (TurnedBack span) is stays =
        let made = is.2.is_edge_of.executes in
        let same = one_step s i stepped is.0 entered judged step made.step in
        let both : Taken Fiq ≡ Plain = sym fiq ∙ ap (λ (r : Stepped). r.kind) (sym same.0) ∙ made.plain in
        absurd (cc)
    by_why Unfinished is stays = absurd is

module _ (words : Words) (st : Stated) (flow : Flow) (tree : Tree) (well : IsWellFormed flow) (t : IsTree flow tree) (x y : Follower) (now : State) (i : Input) (after : State) (can : CanGo flow tree x now) (goes : Goes words st flow tree x y now i after) where
  ends : (step_at flow.edges goes.edge).to ≡ place_in flow tree y.number
  ends = sym (edge_same flow tree well t goes.edge goes.next.known).to_is ∙ ap (place_in flow tree) (sym goes.number_is)

  at_place : (p : Place) → (step_at flow.edges goes.edge).to ≡ p → IsPlaceOf st.leave goes.stepped.to p → (p ≡ Exit → ⊥) → IsPlaceFor p after
  at_place (At calls a) is to other = (calls, ap (λ (b : ℕ). At calls b) (to ∙ lands now i goes.stepped after goes.next.is_edge_of.executes.step goes.next.is_edge_of.executes.plain))
  at_place Exit is to other = absurd (other refl)

  to_in : y.number ≤ length flow.places
  to_in = let most = (edge_same flow tree well t goes.edge goes.next.known).to_in in let is = goes.number_is in omega (arith, most, is)

  pub can_go_on : (y.number ≡ length flow.places → ⊥) → CanGo flow tree y after
  can_go_on other =
      let inner : place_in flow tree y.number ≡ Exit → ⊥ = λ exit. other (exit_is flow tree well t y.number to_in exit) in
      let most = to_in in
      record {
        machine = goes.machine;
        known = omega (arith, most, other);
        at = subst (λ (p : Place). IsPlaceFor p after) ends (at_place (step_at flow.edges goes.edge).to refl goes.next.is_edge_of.taken.to (λ exit. inner (sym ends ∙ exit)));
        room = goes.room;
        tally =
            tally_more flow x y (get_or tree.order x.number 0) (is_same_label (step_at flow.edges goes.edge).label Do) goes.stepped.ticks (index_in words st flow tree well t x now can) can.tally
            goes.tally_is goes.steps_are goes.ticks_are;
      }

-- ## The run

-- a run is followed as far as so many inputs
pub record IsFollowing (b : Both) (start : State) (inputs : List Input) (n : ℕ) (x : Followers) (now : State) : Type 0 where
  pub so_far : SoFar (handled b.irq.now) (handled b.fiq.now) start inputs n x now
  pub can : CanAdvance b x now
  pub counted : IsCounted n x
  pub within : n ≤ length inputs

module _ (b : Both) (ready : AreReady b) (start : State) (inputs : List Input) where
  pub begins_following : (x : Followers) → IsBegun b x → CanAdvance b x start → IsFollowing b start inputs 0 x start
  begins_following x begun can = record {
    so_far = begins (handled b.irq.now) (handled b.fiq.now) ready.irq_well ready.irq start inputs x begun.main begun.visits begun.ticks;
    can = can;
    counted = record {
      steps = let is = begun.main.steps_are in omega (arith, is);
      main_ticks = let is = begun.main.ticks_are in omega (arith, is);
      visits = let is = begun.visits in omega (arith, is);
      ticks = let is = begun.ticks in omega (arith, is);
    };
    within = omega arith;
  }

  module _ (n : ℕ) (i : Input) (n_in : n < length inputs) (at : get_or inputs n i ≡ i) (x : Followers) (now : State) (so : IsFollowing b start inputs n x now) where
    -- where it ends
    pub halts_there : (steps a : ℕ) (why : VisitUnkept) (after : State) → IsHalt b x now i (drop (n + 1) inputs) after steps a why → IsStrayedVisited (handled b.irq.now) (handled b.fiq.now) start inputs (n + steps) a why after
    halts_there steps a (InMain why) after (none, h) =
        let total : n ≡ n + steps = omega (arith, none) in
        subst (λ (k : ℕ). IsStrayedVisited (handled b.irq.now) (handled b.fiq.now) start inputs k a (InMain why) after) total
        (strays_in_main (handled b.irq.now) (handled b.fiq.now) ready.irq_well ready.irq start inputs n i n_in at x now so.can.can so.so_far h.stepped after h.step h.no_fiq h.judged why h.halts a h.at_is)
    halts_there steps a (InVisit why) after (k, is, h) =
        let total : n + 1 + k ≡ n + steps = omega (arith, is) in
        subst (λ (j : ℕ). IsStrayedVisited (handled b.irq.now) (handled b.fiq.now) start inputs j a (InVisit why) after) total
        (strays_in (handled b.irq.now) (handled b.fiq.now) ready.irq_well ready.irq start inputs n i n_in at x now so.can.can so.so_far h.entered h.takes k a why after h.strays)
    halts_there steps a (NotBack address) after (k, is, h) =
        let same = h.handling_is in
        let total : n + 1 + h.visit.steps ≡ n + steps = omega (arith, is, same) in
        subst (λ (j : ℕ). IsStrayedVisited (handled b.irq.now) (handled b.fiq.now) start inputs j a (NotBack address) after) total
        (leaves_elsewhere (handled b.irq.now) (handled b.fiq.now) ready.irq_well ready.irq start inputs n i n_in at x now so.can.can so.so_far h.entered h.takes h.visit.steps h.visit.ticks h.visit.by_place.items after h.leaves.run a address h.at_is h.interrupted h.elsewhere)

    module _ (y : Followers) (steps : ℕ) (after : State) where
      -- the interrupted handler is left
      pub leaves_there : Advances b x now i (drop (n + 1) inputs) after y steps → y.main.number ≡ length b.irq.now.graph.places
          → IsKeptVisited (handled b.irq.now) (handled b.fiq.now) start inputs (n + steps) (y.main.ticks + y.ticks) y.visits after
      leaves_there (inl (one, makes)) at_exit =
          let more = one_more (handled b.irq.now) (handled b.fiq.now) ready.irq_well ready.irq start inputs n i n_in at x now so.can.can so.so_far y after makes.goes makes.visits_are makes.ticks_are in
          let total : n + 1 ≡ n + steps = omega (arith, one) in
          subst (λ (k : ℕ). IsKeptVisited (handled b.irq.now) (handled b.fiq.now) start inputs k (y.main.ticks + y.ticks) y.visits after) total
          (left_both (handled b.irq.now) (handled b.fiq.now) ready.irq_well ready.irq start inputs (n + 1) y after more.0 more.1 (let lt = n_in in omega (arith, lt)) at_exit (y.main.ticks + y.ticks) refl)
      leaves_there (inr (is, makes)) at_exit =
          let same : y.main.number ≡ x.main.number = ap (λ (f : Follower). f.number) makes.main_is in
          let inner = so.can.can.known in
          absurd (omega (arith, same, inner, at_exit))

      -- the run goes on
      pub goes_there : Advances b x now i (drop (n + 1) inputs) after y steps → (y.main.number ≡ length b.irq.now.graph.places → ⊥) → IsFollowing b start inputs (n + steps) y after
      goes_there (inl (one, makes)) other =
          let more = one_more (handled b.irq.now) (handled b.fiq.now) ready.irq_well ready.irq start inputs n i n_in at x now so.can.can so.so_far y after makes.goes makes.visits_are makes.ticks_are in
          let total : n + 1 ≡ n + steps = omega (arith, one) in
          let c = so.counted in
          let main_steps = makes.goes.steps_are in
          let main_ticks = makes.goes.ticks_are in
          let small = makes.goes.small in
          let visits = makes.visits_are in
          let ticks = makes.ticks_are in
          record {
            so_far = subst (λ (k : ℕ). SoFar (handled b.irq.now) (handled b.fiq.now) start inputs k y after) total more.0;
            can = record {
              can = can_go_on b.irq.now.image.now b.irq.now.statement b.irq.now.graph b.irq.now.tree ready.irq_well ready.irq.tree_is x.main y.main now i after so.can.can makes.goes other;
              room = subst (HasRoom (length b.fiq.now.graph.places)) (sym makes.visit_is) so.can.room;
            };
            counted = record {
              steps = let most = c.steps in omega (arith, one, main_steps, most);
              main_ticks = let most = c.main_ticks in omega (arith, one, main_ticks, most, small);
              visits = let most = c.visits in omega (arith, one, visits, most);
              ticks = let most = c.ticks in omega (arith, one, ticks, most);
            };
            within = let lt = n_in in omega (arith, lt, one);
          }
      goes_there (inr (is, makes)) other =
          let run = makes.leaves.run in
          let total : n + 1 + y.visit.steps ≡ n + steps = omega (arith, is) in
          let c = so.counted in
          let can = so.can.can in
          let main_steps : y.main.steps ≡ x.main.steps = ap (λ (f : Follower). f.steps) makes.main_is in
          let main_ticks : y.main.ticks ≡ x.main.ticks = ap (λ (f : Follower). f.ticks) makes.main_is in
          let small = makes.takes.small in
          let spent = makes.leaves.few in
          let visits = makes.visits_are in
          let ticks = makes.ticks_are in
          record {
            so_far =
                subst (λ (k : ℕ). SoFar (handled b.irq.now) (handled b.fiq.now) start inputs k y after) total
                (one_visit_on (handled b.irq.now) (handled b.fiq.now) ready.irq_well ready.irq start inputs n i n_in at x now so.can.can so.so_far makes.entered makes.takes y.visit.steps y.visit.ticks y.visit.by_place.items after makes.leaves.run
                y makes.back makes.main_is makes.visits_are makes.ticks_are);
            can = record {
              can = subst (λ (f : Follower). CanGo b.irq.now.graph b.irq.now.tree f after) (sym makes.main_is) (record {
                machine = record { registers = makes.leaves.machine.registers; prices = makes.leaves.machine.prices ∙ ready.prices };
                known = can.known;
                at = (can.at.0, can.at.1 ∙ ap (λ (a : ℕ). At can.at.0 a) (sym makes.back));
                room = can.room;
                tally = can.tally;
              });
              room = record { turns = makes.leaves.room; places = run.tally_is.whole };
            };
            counted = record {
              steps = let most = c.steps in omega (arith, is, main_steps, most);
              main_ticks = let most = c.main_ticks in omega (arith, is, main_ticks, most);
              visits = let most = c.visits in omega (arith, is, visits, most);
              ticks = let most = c.ticks in omega (arith, is, ticks, most, small, spent);
            };
            within =
                let few = run.few in
                let long = length-drop (n + 1) inputs in
                let lt = n_in in
                omega (arith, is, few, long, lt);
          }
