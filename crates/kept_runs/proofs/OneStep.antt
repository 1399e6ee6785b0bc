-- A state and an input have one step, and that is along one edge of a place at most.
use Rattle.std.proofs.Common.{◌≡◌, ◌∙◌, ℕ, Bool, true, false, cond, List, refl, sym, ap, subst}
use Rattle.std.proofs.lemmas.Bool.{false≢true}
use Rattle.std.proofs.lemmas.Option.{same_Some}
use Rattle.bus_ticks.specs.declared.profile.Profile.{Profile}
use Rattle.image.specs.Image.{Words}
use Rattle.statement.specs.Stated.{Stated}
use Rattle.arm2_effect.specs.Effects.{is_stopped}
use Rattle.arm2_effect.specs.declared.step_end.Kind.TheVariants as ended
use Rattle.arm2_exec.specs.State.{State}
use Rattle.arm2_exec.specs.Step.{Step, address_in, state_after}
use Rattle.arm2_exec.specs.declared.machine.Input.{Input}
use Rattle.arm2_exec.specs.declared.machine.Stepped.{Stepped}
use Rattle.arm2_exec.proofs.StepLemmas.{one_step}
use Rattle.control_flow.specs.Kinds.{IsAction}
use Rattle.flow_graph.specs.StepLaw.{IsEdgeOf, IsTaken}
use Rattle.control_flow.specs.declared.edges.Edge.{Edge}
use Rattle.control_flow.specs.declared.actions.Action.{Action}
use Rattle.control_flow.proofs.EdgeLemmas.{one_action}
use Rattle.flow_graph.proofs.StepLemmas.{plain_step}
use Rattle.control_flow.proofs.PlaceLemmas.{same_at}
use Rattle.kept_runs.proofs.EdgeChoice.{one_edge}

regs_by : (stops : Bool) (s a : State) → stops ≡ false → (cond stops s a).regs ≡ a.regs
regs_by true s a is = absurd (false≢true (sym is))
regs_by false s a is = refl

-- a step that does not stop goes where it says
pub lands : (s : State) (i : Input) (stepped : Stepped) (after : State) → Step s i stepped after → stepped.kind ≡ ended.Plain → stepped.to ≡ address_in after.regs
unfolding state_after
lands s i stepped after step plain =
    let plain_is = plain_step s step.moved stepped step.stepped_is plain in
    plain_is.to
    ∙ sym (ap (λ (x : State). address_in x.regs) step.after_is ∙ ap address_in (regs_by (is_stopped step.moved.kind) s _ (ap is_stopped plain_is.kind)))

module _ (words : Words) (st : Stated) (profile : Profile) (s : State) (i : Input) where
  pub one_edge_of : (stepped other : Stepped) (after last : State) (d e : Edge) → IsEdgeOf words st profile s i stepped after d → IsEdgeOf words st profile s i other last e → d.from ≡ e.from → d ≡ e
  one_edge_of stepped other after last d e h g from =
      let same = one_step s i stepped other after last h.executes.step g.executes.step in
      let calls : h.calls ≡ g.calls = (same_at h.calls g.calls (address_in s.regs) (address_in s.regs) (sym h.taken.from ∙ from ∙ g.taken.from)).0 in
      let word : h.executes.has.word ≡ g.executes.has.word = same_Some h.executes.has.word g.executes.has.word (sym h.executes.has.word_is ∙ g.executes.has.word_is) in
      let act : h.action ≡ g.action = one_action g.executes.has.word h.action g.action (subst (λ w. IsAction w h.action) word h.executes.has.is) g.executes.has.is in
      let taken_same : IsTaken words st profile g.calls g.action s stepped e = subst (λ (x : Stepped). IsTaken words st profile g.calls g.action s x e) same.0 g.taken in
      let act_same : IsTaken words st profile g.calls h.action s stepped e = subst (λ (x : Action). IsTaken words st profile g.calls x s stepped e) (sym act) taken_same in
      let all_same : IsTaken words st profile h.calls h.action s stepped e = subst (λ (c : List ℕ). IsTaken words st profile c h.action s stepped e) (sym calls) act_same in
      one_edge words st profile h.calls h.action s stepped h.executes.has d e h.taken all_same
