use Rattle.std.proofs.Common.{◌≡◌, subst, sym}
use Rattle.std.proofs.lemmas.Result.{IfOk-weaker}
use Rattle.flow_graph.specs.TightFile.{IsTightFile}
use Rattle.flow_graph.proofs.TightMade.{in_range, is_tight_file, none_twice}
use Rattle.flow_graph.proofs.tight.edge_file.Goals as goal

pub file-requires-clause-in_range : goal.file-requires-clause-in_range
file-requires-clause-in_range c =
    in_range c.args.inputs.now.image.now c.args.inputs.now.statement.now c.args.inputs.now.profile.now c.args.edge.now c.in_ok-plan.plan.spare c.in_ok-plan.plan.pages.items c.in-Some.set_up c.dearest_rom_times.result c.in-Some.ensures.is_set_up c.in_ok-plan.ensures.whole c.in_ok-plan.ensures.plan

pub file-requires-clause-once : goal.file-requires-clause-once
file-requires-clause-once c =
    none_twice c.args.inputs.now.image.now c.in_ok-plan.plan.pages.items c.in_ok-plan.plan.spare c.in-Some.set_up c.dearest_rom_times.result c.in_ok-plan.ensures.plan

pub returns-clause-tight : goal.returns-clause-tight
returns-clause-tight c =
    IfOk-weaker c.file.result (λ f. f ≡ _) (IsTightFile c.args.inputs.now.image.now c.args.inputs.now.statement.now c.args.inputs.now.profile.now c.args.edge.now)
    (λ f is. subst (IsTightFile c.args.inputs.now.image.now c.args.inputs.now.statement.now c.args.inputs.now.profile.now c.args.edge.now) (sym is)
    (is_tight_file c.args.inputs.now.image.now c.args.inputs.now.statement.now c.args.inputs.now.profile.now c.args.edge.now c.in_ok-plan.plan.spare c.in_ok-plan.plan.pages.items c.in-Some.set_up c.dearest_rom_times.result
    c.in-Some.ensures.is_set_up c.in_ok-plan.ensures.whole c.in_ok-plan.ensures.plan c.dearest_rom_times.ensures.dearest c.requires.free))
    c.file.ensures.file
