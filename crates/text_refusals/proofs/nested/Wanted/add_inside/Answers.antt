use Rattle.std.proofs.Common.{◌≡◌, ◌≤◌, ◌<◌, ◌∙◌, ℕ, List, ap, get_or, length, subst, sym, ⊎_elim, arith}
use Rattle.std.specs.Prelude.{Contains}
use Rattle.std.proofs.lemmas.Bool.{cases_lt}
use Rattle.std.proofs.lemmas.List.{get_or_default}
use Rattle.text_refusals.specs.Nested.{HasPlace}
use Rattle.std.proofs.lemmas.List.Elements.{Contains-get_or}
use Rattle.statement.specs.declared.stated.Loop.{Loop}
use Rattle.loop_bounds.specs.Instance.{instance_of}
use Rattle.text_refusals.proofs.nested.Wanted.add_inside.Goals as goal

pub loop-stated-preserved : goal.loop-stated-preserved
loop-stated-preserved c =
    let none : Loop = record { header = 0; first = 0; last = 0; bound = 0 } in
    let loops = c.args.self.now.loops.now in
    let list = c.list-stated-items.result.now in
    let i = c.loop-stated.stated-index in
    let items : list ≡ loops.list = c.list-stated-items.ensures.value in
    let l : Loop = get_or list i none in
    record {
      have = λ first. c.in_ok-add.ensures.have (subst (λ (ls : List Loop). Contains ls l) items (Contains-get_or list i none c.loop-stated-test.true)) (c.loop-stated.invariant.have first);
      kept = λ j has. c.in_ok-add.ensures.kept j (c.loop-stated.invariant.kept j has);
      all = λ k s lt is has. ⊎_elim
          (λ (before : k < i). c.in_ok-add.ensures.kept (record { list = c.args.list; stated = s }) (c.loop-stated.invariant.all k s before is has))
          (λ (here : i ≤ k).
          let at : k ≡ i = omega (arith, here, lt) in
          let inside : i < length loops.list = subst (λ (ls : List Loop). i < length ls) items c.loop-stated-test.true in
          let same : l ≡ s = ap (λ (ls : List Loop). get_or ls i none) items ∙ get_or_default loops.list i none s inside ∙ ap (λ (j : ℕ). get_or loops.list j s) (sym at) ∙ is in
          subst (λ (t : Loop). Contains c.add.new.found.items (record { list = c.args.list; stated = t })) same
          (c.in_ok-add.ensures.added (subst (λ (t : Loop). HasPlace c.args.self.now.graph.now c.args.self.now.place.now (instance_of loops.apart t c.args.list)) (sym same) has)))
          (cases_lt k i);
    }
