use Rattle.std.proofs.Common.{refl, subst}
use Rattle.std.proofs.lemmas.List.Elements.{Contains-get_or}
use Rattle.control_flow.specs.Places.{place_at}
use Rattle.control_flow.specs.declared.places.Place.TheVariants.{Exit}
use Rattle.kept_runs.specs.declared.edges.Going.{Going}
use Rattle.kept_runs.specs.declared.judging.Stray.TheVariants as stray
use Rattle.kept_runs.specs.Edges.{HasNoEdge, IsFound}
use Rattle.kept_runs.specs.StatedWord.{Departs, IsAsStated}
use Rattle.kept_runs.proofs.StepJudged.{by_condition, elsewhere, exception, made_by, other_word, stop, takes, unstated}
use Rattle.kept_runs.proofs.judging.judge.Goals as goal

pub returns-in_default : goal.returns-in_default
returns-in_default c =
    let place = place_at c.args.handler.now.graph.places c.args.place in
    record { strays = other_word c.args.handler.now.image.now c.args.handler.now.statement c.args.handler.now.graph c.requires.graph place c.args.machine.now c.args.input c.requires.is_there c.in_default.ensures; step = refl }

pub departs-stray-requires-clause-by_condition : goal.departs-stray-requires-clause-by_condition
departs-stray-requires-clause-by_condition c = by_condition c.in-Some.word c.args.machine.now.regs c.read_word-reading.result c.read_word-reading.ensures.reading

pub returns-in-Taken : goal.returns-in-Taken
returns-in-Taken c =
    let place = place_at c.args.handler.now.graph.places c.args.place in
    made_by c.args.handler.now.image.now c.args.handler.now.statement c.args.handler.now.graph place c.args.machine.now c.args.input c.step-stepped.new.self (stray.Exception c.in-Taken.vector) c.step-stepped.result c.made.result c.made.ensures c.step-stepped.ensures.step c.step-stepped.ensures.bound
    (exception c.args.handler.now.image.now c.args.handler.now.statement c.args.handler.now.graph c.requires.graph place c.args.machine.now c.args.input c.requires.is_there
    c.step-stepped.result c.step-stepped.new.self c.step-stepped.ensures.step c.in-Some.word c.in-Some.ensures c.in-Taken.vector c.in-Taken.is)

pub returns-in-Stopped : goal.returns-in-Stopped
returns-in-Stopped c =
    let place = place_at c.args.handler.now.graph.places c.args.place in
    made_by c.args.handler.now.image.now c.args.handler.now.statement c.args.handler.now.graph place c.args.machine.now c.args.input c.step-stepped.new.self (stray.Stopped c.in-Stopped.why) c.step-stepped.result c.made-in-Stopped.result c.made-in-Stopped.ensures c.step-stepped.ensures.step c.step-stepped.ensures.bound
    (stop c.args.handler.now.image.now c.args.handler.now.statement c.args.handler.now.graph c.requires.graph place c.args.machine.now c.args.input c.requires.is_there
    c.step-stepped.result c.step-stepped.new.self c.step-stepped.ensures.step c.in-Some.word c.in-Some.ensures c.in-Stopped.why c.in-Stopped.is)

pub returns-in-Some-stray : goal.returns-in-Some-stray
returns-in-Some-stray c =
    let place = place_at c.args.handler.now.graph.places c.args.place in
    made_by c.args.handler.now.image.now c.args.handler.now.statement c.args.handler.now.graph place c.args.machine.now c.args.input c.step-stepped.new.self c.in-Some-stray.stray c.step-stepped.result c.made-in-Some-stray.result c.made-in-Some-stray.ensures c.step-stepped.ensures.step c.step-stepped.ensures.bound
    (unstated c.args.handler.now.image.now c.args.handler.now.statement c.args.handler.now.graph c.requires.graph place c.args.machine.now c.args.input c.requires.is_there
    c.step-stepped.result c.step-stepped.new.self c.step-stepped.ensures.step c.in-Plain.is c.in-Some.word c.in-Some.ensures c.read_word-reading.result c.read_word-reading.ensures.reading
    c.in-Some-stray.stray
    (subst (λ a. Departs c.args.handler.now.statement a c.read_word-reading.result c.in-Some-stray.stray) c.address-address.ensures.address c.in-Some-stray.ensures))

pub edge_taken-requires : goal.edge_taken-requires
edge_taken-requires c = c.requires.known

pub returns-in-Some-edge_taken : goal.returns-in-Some-edge_taken
returns-in-Some-edge_taken c =
    let place = place_at c.args.handler.now.graph.places c.args.place in
    takes c.args.handler.now.image.now c.args.handler.now.statement c.args.handler.now.graph c.requires.graph place c.args.machine.now c.args.input c.requires.is_there
    c.step-stepped.result c.step-stepped.new.self c.step-stepped.ensures.step c.in-Plain.is c.in-Some.word c.in-Some.ensures c.read_word-reading.result c.read_word-reading.ensures.reading
    (subst (λ a. IsAsStated c.args.handler.now.statement a c.read_word-reading.result) c.address-address.ensures.address c.in_default-stray.ensures)
    c.step-stepped.ensures.bound c.in-Some-edge_taken.edge
    (subst (λ (g : Going). IsFound c.args.handler.now.graph place g c.in-Some-edge_taken.edge) (λ j. record { label = c.label_if.ensures j; to = c.step-stepped.result.to; leave = c.leave.ensures j }) c.in-Some-edge_taken.ensures)

pub returns-in-None : goal.returns-in-None
returns-in-None c =
    let place = place_at c.args.handler.now.graph.places c.args.place in
    made_by c.args.handler.now.image.now c.args.handler.now.statement c.args.handler.now.graph place c.args.machine.now c.args.input c.step-stepped.new.self (stray.Elsewhere c.step-stepped.result.to) c.step-stepped.result c.made-in-None.result c.made-in-None.ensures c.step-stepped.ensures.step c.step-stepped.ensures.bound
    (elsewhere c.args.handler.now.image.now c.args.handler.now.statement c.args.handler.now.graph c.requires.graph place c.args.machine.now c.args.input c.requires.is_there
    c.step-stepped.result c.step-stepped.new.self c.step-stepped.ensures.step c.in-Plain.is c.in-Some.word c.in-Some.ensures c.read_word-reading.result c.read_word-reading.ensures.reading
    (subst (λ a. IsAsStated c.args.handler.now.statement a c.read_word-reading.result) c.address-address.ensures.address c.in_default-stray.ensures)
    (Contains-get_or c.args.handler.now.graph.places c.args.place Exit c.requires.known)
    (subst (λ (g : Going). HasNoEdge c.args.handler.now.graph place g) (λ j. record { label = c.label_if.ensures j; to = c.step-stepped.result.to; leave = c.leave.ensures j }) c.in-None.ensures))
