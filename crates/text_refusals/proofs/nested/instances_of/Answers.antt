use Rattle.std.proofs.Common.{◌∙◌, List, ap, map, subst, sym}
use Rattle.loop_bounds.specs.declared.loop_instances.LoopInstance.{LoopInstance}
use Rattle.loop_bounds.specs.Extents.{found_instance}
use Rattle.text_refusals.specs.Nested.{AreInstancesOf}
use Rattle.text_refusals.proofs.NestedLemmas.{all_instances, none_of_exit, none_yet}
use Rattle.text_refusals.proofs.nested.instances_of.Goals.{in-At+in_ok-add_up_to, in_default}
use Rattle.text_refusals.proofs.nested.instances_of.Goals as goal

pub returns : goal.returns
returns c =
    let flow = c.args.graph.now in
    let loops = c.args.loops.now in
    let p = c.args.place.now in
    elim c.match-place.branch [
      | in-At+in_ok-add_up_to w ↦ subst (λ (fs : List LoopInstance). AreInstancesOf flow loops p (map (found_instance loops.apart) fs)) (sym (ap (λ v. v.items) w.found-is))
          (all_instances flow loops p _ _ _ w.in-At.is (w.in_ok-add_up_to.ensures.have (none_yet flow loops p c.new-found.result.items c.new-found.ensures.items)) w.in_ok-add_up_to.ensures.all)
      | in_default w ↦ subst (λ (fs : List LoopInstance). AreInstancesOf flow loops p (map (found_instance loops.apart) fs)) (sym (ap (λ v. v.items) w.found-is ∙ c.new-found.ensures.items))
          (none_of_exit flow loops p w.in_default.is)
    ]
