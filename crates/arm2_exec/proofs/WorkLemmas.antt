-- What a step does before time passes.
use Rattle.std.proofs.Common.{◌≡◌, List, ℕ, Option, Some, None, refl, subst}
use Rattle.arm2_effect.specs.declared.exceptions.Vector.{Vector}
use Rattle.arm2_effect.specs.declared.exceptions.Vector.TheVariants as vector
use Rattle.arm2_effect.specs.declared.step_end.Done.{Done}
use Rattle.arm2_effect.specs.Effects.{Effect, IsEffect}
use Rattle.arm2_effect.specs.Exceptions.{taken}
use Rattle.arm2_effect.specs.Modes.{r15_in}
use Rattle.arm2_transfer.specs.declared.processor.Processor.{Processor}
use Rattle.arm2_transfer.specs.Moved.{IsMoved, on_bus, with_state}
use Rattle.arm2_exec.specs.Step.{ObeysFetched, fetched}
use Rattle.arm2_exec.specs.Work.{Obeyed, Worked}

module _ (before : Processor) (done : Done) (new : List ℕ) where
  -- the registers' effect, with the bus as it was
  effect_moved : (e : Effect) → IsEffect before.prices done new e → IsMoved before done (with_state new before.bus before) (on_bus before.bus e)
  effect_moved e is = record { kind = is.kind; ticks = is.ticks; state = rw is.regs refl }

  pub obeyed_none : (word : Option ℕ) → word ≡ None → IsEffect before.prices done new (taken vector.PrefetchAbort before.registers) → Obeyed word before done (with_state new before.bus before)
  obeyed_none word none is = rw none (record { moved = on_bus before.bus (taken vector.PrefetchAbort before.registers); obeys = refl; is = effect_moved (taken vector.PrefetchAbort before.registers) is })

  pub worked_interrupt : (interrupt : Option Vector) (v : Vector) → interrupt ≡ Some v → IsEffect before.prices done new (taken v before.registers) → Worked interrupt before done (with_state new before.bus before)
  worked_interrupt interrupt v some is = rw some (record { moved = on_bus before.bus (taken v before.registers); works = refl; is = effect_moved (taken v before.registers) is })

module _ (before : Processor) (done : Done) (after : Processor) where
  pub worked_word : (interrupt : Option Vector) (word : Option ℕ) → interrupt ≡ None → word ≡ fetched before.bus.memc (r15_in before.registers) → Obeyed word before done after → Worked interrupt before done after
  worked_word interrupt word none is o = rw none (record { moved = o.moved; works = subst (λ (w : Option ℕ). ObeysFetched w before.port before.registers before.bus o.moved) is o.obeys; is = o.is })
