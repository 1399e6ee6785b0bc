use Rattle.std.proofs.Common.{◌≡◌, ◌≢◌, ◌∙◌, ℕ, List, get_or, inl, inr, sym, subst, arith}
use Rattle.std.proofs.lemmas.List.{get_or_default, nil_from_length}
use Rattle.control_flow.specs.declared.edges.Edge.{Edge}
use Rattle.control_flow.specs.Places.{place_at}
use Rattle.text_refusals.specs.Cycles.{IsClosed, IsOpen, LeadToCleared}
use Rattle.text_refusals.proofs.SearchLemmas.{advanced, closes, emptied, from_place, retreated, to_inside}
use Rattle.text_refusals.proofs.search.CycleSearch.step.Goals as goal

pub returns-then-index-eq1-clause-state : goal.returns-then-index-eq1-clause-state
returns-then-index-eq1-clause-state c =
    let flow = c.args.graph.now in
    let loops = c.args.loops.now in
    let s = c.args.self.now in
    let to = c.in-Some.to in
    let next = c.in-Some.ensures {u = tt} in
    let opened = subst (λ (ms : List ℕ). IsOpen c.args.graph.now c.args.loops.now ms c.in-Some.edge c.in-Some.to) c.deref.ensures.value next.open in
    let is : get_or s.marks.items to 0 ≡ 1 = sym (get_or_default s.marks.items to c.index.result.now 0 (omega (arith, opened.most, c.requires.marks_are.whole))) ∙ sym c.index.ensures ∙ c.if-index-eq1.true in
    inl (
      to_inside flow loops s.marks.items s.path.items s.at s.start c.requires c.in-Some.edge to next.from opened,
      subst (λ (es : List Edge). IsClosed flow loops es (place_at flow.places to)) (sym (c.in_ok-push.ensures {u = tt}).items)
          (closes flow loops s.marks.items s.path.items s.at s.start c.requires c.in-Some.edge to next.from opened is),
    )

pub returns-in-Some-clause-state : goal.returns-in-Some-clause-state
returns-in-Some-clause-state c =
    let s = c.args.self.now in
    let next = c.in-Some.ensures {u = tt} in
    let opened = subst (λ (ms : List ℕ). IsOpen c.args.graph.now c.args.loops.now ms c.in-Some.edge c.in-Some.to) c.deref.ensures.value next.open in
    let new : get_or s.marks.items c.in-Some.to 0 ≢ 1 =
    λ is. c.if-index-eq1.false (c.index.ensures ∙ get_or_default s.marks.items c.in-Some.to c.index.result.now 0 (omega (arith, opened.most, c.requires.marks_are.whole)) ∙ is) in
    rw (c.in_ok-push.ensures {u = tt}).items
    (advanced c.args.graph.now c.args.loops.now s.marks.items s.path.items s.at s.start c.requires c.in-Some.edge c.in-Some.to next.from opened c.next_of.ensures.well_formed new)

pub returns-in_default-pop-clause-state : goal.returns-in_default-pop-clause-state
returns-in_default-pop-clause-state c =
    let s = c.args.self.now in
    let none = (c.in_default-pop.ensures {u = tt}).cases in
    let cleared =
    emptied c.args.graph.now c.args.loops.now s.marks.items s.path.items s.at s.start c.requires (subst (λ (ms : List ℕ). LeadToCleared c.args.graph.now c.args.loops.now ms (place_at c.args.graph.now.places c.args.self.now.at)) c.deref.ensures.value (c.in_default.ensures {u = tt}).none)
    (nil_from_length s.path.items (omega (arith, none.0, s.path.ok))) in
    inr (
      (record { marks_are = cleared.0; empty = nil_from_length c.pop.new.self.items (omega (arith, none.1, c.pop.new.self.ok)); none = cleared.1 }),
      cleared.2,
    )

pub index_of-self-requires : goal.index_of-self-requires
index_of-self-requires c =
    let s = c.args.self.now in
    inr
    (from_place c.args.graph.now c.args.loops.now s.marks.items s.path.items s.at s.start c.requires (subst (λ (ms : List ℕ). LeadToCleared c.args.graph.now c.args.loops.now ms (place_at c.args.graph.now.places c.args.self.now.at)) c.deref.ensures.value (c.in_default.ensures {u = tt}).none) c.next_of.ensures.well_formed c.pop.new.self.items c.in-Some-pop.edge
    (c.in-Some-pop.ensures {u = tt}).items)

pub returns-clause-state : goal.returns-clause-state
returns-clause-state c =
    let s = c.args.self.now in
    let none = subst (λ (ms : List ℕ). LeadToCleared c.args.graph.now c.args.loops.now ms (place_at c.args.graph.now.places c.args.self.now.at)) c.deref.ensures.value (c.in_default.ensures {u = tt}).none in
    let items = (c.in-Some-pop.ensures {u = tt}).items in
    let well_formed = c.next_of.ensures.well_formed in
    let has = from_place c.args.graph.now c.args.loops.now s.marks.items s.path.items s.at s.start c.requires none well_formed c.pop.new.self.items c.in-Some-pop.edge items in
    retreated c.args.graph.now c.args.loops.now s.marks.items s.path.items s.at s.start c.requires none well_formed c.pop.new.self.items c.in-Some-pop.edge items c.index_of-self.result
    c.index_of-self.ensures.number (c.index_of-self.ensures.inside has)
