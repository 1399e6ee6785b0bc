-- A step of a run, with the word that shows it, and what the run reports after it.
use Rattle.std.specs.Prelude.{◌≡◌, ◌≢◌, Some}
use Rattle.arm2_effect.specs.declared.step_end.Kind.TheVariants.{Stopped}
use Rattle.arm2_effect.specs.declared.step_end.Why.{Why}
use Rattle.arm2_exec.specs.declared.machine.Input.{Input}
use Rattle.arm2_exec.specs.declared.machine.Ran.{Ran}
use Rattle.arm2_exec.specs.Run.{with_one_step}
use Rattle.arm2_exec.specs.State.{State}
use Rattle.arm2_exec.specs.Step.{Step}
use Rattle.arm2_exec.specs.declared.machine.Traced.{Traced}
use Rattle.arm2_exec.specs.Step.{traced_word}

-- it is made, and shown with the word that it fetched
abbrev pub Makes : State → Input → Traced → State → Type 0
Makes s i traced next = Step s i traced.stepped next × (traced.word ≡ traced_word s i)

-- it is stopped, which is reported and not counted
abbrev pub Stops : State → Input → (ran sum : Ran) → State → Type 0
Stops s i ran sum after =
    (traced : Traced) × (why : Why) × Makes s i traced after × (traced.stepped.kind ≡ Stopped why)
    × (sum ≡ record ran { stopped = Some why })

-- it is not stopped, and counted
abbrev pub Counts : State → Input → (ran : Ran) → Traced → (sum : Ran) → State → Type 0
Counts s i ran traced sum next =
    Makes s i traced next × ((why : Why) → traced.stepped.kind ≢ Stopped why)
    × (sum ≡ with_one_step s.profile.burst i traced.stepped ran)
