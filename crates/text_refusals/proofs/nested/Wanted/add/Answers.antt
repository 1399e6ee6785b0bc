use Rattle.std.proofs.Common.{◌∙◌, List, subst, sym}
use Rattle.std.specs.Prelude.{Contains}
use Rattle.std.proofs.lemmas.Bool.{false≢true}
use Rattle.statement.specs.declared.apart.ApartStretch.{ApartStretch}
use Rattle.loop_bounds.specs.declared.loop_instances.LoopInstance.{LoopInstance}
use Rattle.loop_bounds.specs.Extents.{found_instance}
use Rattle.text_refusals.specs.Nested.{HasPlace, HavePlace, KeepsAll}
use Rattle.text_refusals.proofs.NestedLemmas.{one_more, pushed_has, pushed_keeps}
use Rattle.text_refusals.proofs.nested.Wanted.add.Goals as goal

pub returns-clause-have : goal.returns-clause-have
returns-clause-have c = λ stated have.
    let flow = c.args.self.now.graph.now in
    let loops = c.args.self.now.loops.now in
    let p = c.args.self.now.place.now in
    let one = c.args.one.now in
    let found = c.args.found.now.items in
    let has : HasPlace flow p (found_instance loops.apart one) =
    subst (λ (a : List ApartStretch). HasPlace flow p (found_instance a one)) c.apart.ensures (c.has_member.ensures.0 c.if-not-has_member.false) in
    subst (HavePlace flow loops p) (sym c.in_ok-push.ensures.items)
    (one_more flow loops p found one have stated has
    (λ among. false≢true (sym c.if-is_among.false ∙ c.is_among.ensures.1 (subst (λ (fs : List LoopInstance). Contains fs one) (sym c.deref.ensures.value) among))))

pub returns-clause-kept : goal.returns-clause-kept
returns-clause-kept c = subst (KeepsAll c.args.found.now.items) (sym c.in_ok-push.ensures.items) (pushed_keeps c.args.found.now.items c.args.one.now)
