-- What a step has moved, by cases: a property of plain steps, of exceptions and of stops is one of every step.
use Rattle.std.proofs.Common.{ℕ, Bool, cond, List, Option, Some, None, inl, inr}
use Rattle.std.proofs.lemmas.Bool.{cond_both}
use Rattle.arm2_decode.specs.Conditions.{condition_holds}
use Rattle.arm2_effect.specs.declared.exceptions.Vector.{Vector}
use Rattle.arm2_effect.specs.declared.exceptions.Vector.TheVariants as vector
use Rattle.arm2_effect.specs.declared.step_end.Why.TheVariants as why
use Rattle.arm2_effect.specs.Modes.{r15_in}
use Rattle.arm2_effect.specs.ProgramCounter.{flags_of}
use Rattle.arm2_effect.specs.Effects.{skipped}
use Rattle.arm2_transfer.specs.declared.bus.Bus.{Bus}
use Rattle.arm2_transfer.specs.Moved.{Moved, on_bus}
use Rattle.arm2_transfer.proofs.MovedCases.{HasAll, IsStill, all_still, moved_has, skips}
use Rattle.arm2_exec.specs.Step.{Obeys, ObeysFetched, Works, fetched}

module _ (regs : List ℕ) (bus : Bus) (P : Moved → Type 0) (all : HasAll regs bus P) where
  or_skipped : (b : Bool) (m : Moved) → P m → P (cond b m (on_bus bus (skipped regs)))
  or_skipped b m has = cond_both b m (on_bus bus (skipped regs)) P (λ _. has) (λ _. skips regs bus P all)

  obeys_has : (word port : ℕ) (m : Moved) → Obeys word port regs bus m → P m
  obeys_has word port m (inl i) = rw i.2 (or_skipped (condition_holds i.0.cond (flags_of (r15_in regs))) _ (moved_has regs bus P all i.0.operation port))
  obeys_has word port m (inr u) = rw u.2 (or_skipped (condition_holds u.0.cond (flags_of (r15_in regs))) _ (all.stops why.Unallocated))

  fetched_has : (word : Option ℕ) (port : ℕ) (m : Moved) → ObeysFetched word port regs bus m → P m
  fetched_has None port m is = rw is (all.takes vector.PrefetchAbort)
  fetched_has (Some word) port m obeys = obeys_has word port m obeys

  pub works_has : (interrupt : Option Vector) (port : ℕ) (m : Moved) → Works interrupt port regs bus m → P m
  works_has (Some v) port m is = rw is (all.takes v)
  works_has None port m obeys = fetched_has (fetched bus.memc (r15_in regs)) port m obeys

pub works_still : (regs : List ℕ) (bus : Bus) (interrupt : Option Vector) (port : ℕ) (m : Moved) → Works interrupt port regs bus m → IsStill regs bus m
works_still regs bus = works_has regs bus (IsStill regs bus) (all_still regs bus)
