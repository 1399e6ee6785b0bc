use Rattle.std.proofs.Common.{◌≡◌, ◌∙◌, ℕ, List, ap, false, map, sym, true}
use Rattle.memc.specs.Memory.{Memory}
use Rattle.arm2_exec.specs.Step.{address_in}
use Rattle.json_trace.specs.StepLine.{memory_word}
use Rattle.json_trace.specs.Json.{object}
use Rattle.test_vectors.specs.Shape.{is_store, settled, shape}
use Rattle.test_vectors.specs.Vector.{addresses_of, vector_members}
use Rattle.test_vectors.specs.Writing.{shown_at}
use Rattle.test_vectors.specs.declared.bus_use.BusUse.{BusUse}
use Rattle.test_vectors.proofs.VectorLaws.{stored_words, vector_is}
use Rattle.std.proofs.Common.{◌∷◌, ◌++◌, refl}
use Rattle.test_vectors.proofs.ChainLaws.{as_text, two}
use Rattle.test_vectors.proofs.vectors.put_vector.Goals as goal

pub returns : goal.returns
returns g c =
    let s = c.args.machine.now in
    let after = c.step-stepped.new.self in
    let i = c.no_input.result in
    let stepped = c.step-stepped.result in
    let step = c.step-stepped.ensures.step in
    let used = c.planned_use-planned.ensures.does i stepped after step in
    let at = c.address-at.result in
    let to = c.address-to.result in
    let done = c.settled-done.result in
    let done_is = c.settled-done.ensures.does in
    let kept : is_store done ≡ false → after.bus.memc ≡ s.bus.memc = λ other. used.kept (ap is_store (sym done_is) ∙ other) in
    let ahead = sym
    (c.memory_word-ahead.ensures ∙ ap (λ (m : Memory). memory_word m false c.ahead_of.result) c.memc.ensures
    ∙ ap (λ (a : ℕ). memory_word s.bus.memc false a) c.ahead_of.ensures.sum) in
    let stored : is_store done ≡ true → c.shown_words-before.result.items ≡ map (shown_at s.bus.memc) (at ∷ addresses_of (shape done at to)) = λ stores.
    c.shown_words-before.ensures
    ∙ ap (λ (m : Memory). map (shown_at m) (at ∷ addresses_of (shape c.planned_use-planned.result at at))) c.memc-2.ensures
    ∙ stored_words s.bus.memc stepped.kind c.planned_use-planned.result at to (ap is_store (sym done_is) ∙ stores)
    ∙ ap (λ (u : BusUse). map (shown_at s.bus.memc) (at ∷ addresses_of (shape u at to))) (sym done_is) in
    let initial = c.initial_words-initial.ensures s.bus.memc (λ other. c.memc-3.ensures ∙ kept other) stored in
    let name = c.put_front.ensures.0 in
    let accesses : shape done at to ≡ step.moved.accesses =
    ap (λ (u : BusUse). shape u at to) done_is
    ∙ ap (λ (a : ℕ). shape (settled stepped.kind c.planned_use-planned.result) a to) c.address-at.ensures.address
    ∙ ap (λ (a : ℕ). shape (settled stepped.kind c.planned_use-planned.result) (address_in s.regs) a) c.address-to.ensures.address
    ∙ used.accesses in (
      object (vector_members name s after step.moved.accesses),
      record {
        before = s;
        input = i;
        stepped = stepped;
        after = after;
        step = step;
        name = name;
        name_is = c.put_front.ensures.1;
        text_is = refl;
      },
      as_text g.O.Output.taken g.O.Output.failures (two g.O.Output.taken g.O.Output.failures c.put_front.ensures.2 (c.put_end.ensures s.bus.memc kept ahead (c.deref.ensures.0 ∙ initial)))
          (vector_is name s after at (shape done at to) step.moved.accesses c.address-at.ensures.address accesses),
    )
