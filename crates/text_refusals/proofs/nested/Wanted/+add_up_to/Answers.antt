use Rattle.std.proofs.Common.{List, ap, refl, subst, sym}
use Rattle.std.specs.Prelude.{Contains, IsNone}
use Rattle.loop_bounds.specs.declared.loop_instances.LoopInstance.{LoopInstance}
use Rattle.text_refusals.proofs.NestedLemmas.{up_to_next, up_to_none}
use Rattle.text_refusals.proofs.nested.Wanted.+add_up_to.Goals.{in-Some+in_ok-add_up_to, in_default}
use Rattle.text_refusals.proofs.nested.Wanted.+add_up_to.Goals as goal

pub returns-clause-all : goal.returns-clause-all
returns-clause-all n c =
    let flow = c.args.self.now.graph.now in
    let loops = c.args.self.now.loops.now in
    let p = c.args.self.now.place.now in
    let new = c.add_inside.new.found.items in
    elim c.match-split_last.branch [
      | in-Some+in_ok-add_up_to w ↦ up_to_next flow loops p w.in-Some.parts.0 c.args.list _ w.add_up_to.new.found.items new w.in-Some.ensures.parts w.in_ok-add_up_to.ensures.all
          (λ i has. c.in_ok-add_inside.ensures.kept i (subst (λ (fs : List LoopInstance). Contains fs i) (sym (ap (λ v. v.items) w.found-is)) has)) c.in_ok-add_inside.ensures.all
      | in_default w ↦ up_to_none flow loops p c.args.list new (c.split_last.ensures.empty.0 (subst (λ o. IsNone o) (sym w.in_default.is) refl)) c.in_ok-add_inside.ensures.all
    ]
