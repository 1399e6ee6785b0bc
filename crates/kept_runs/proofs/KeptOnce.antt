-- A run that keeps a statement has one answer.
use Rattle.std.proofs.Common.{◌≡◌, ◌∙◌, ℕ, List, length, take, drop, sym, ap, subst}
use Rattle.std.proofs.lemmas.List.{length-take-le, take-append-drop}
use Rattle.image.specs.Image.{Words}
use Rattle.statement.specs.Stated.{Stated}
use Rattle.arm2_exec.specs.Run.{Runs}
use Rattle.arm2_exec.specs.State.{State}
use Rattle.arm2_exec.specs.declared.machine.Input.{Input}
use Rattle.arm2_exec.specs.declared.machine.Ran.{Ran}
use Rattle.control_flow.specs.Flow.{Flow}
use Rattle.loop_bounds.specs.Tree.{Tree}
use Rattle.kept_runs.specs.declared.tally.Passed.{Passed}
use Rattle.kept_runs.specs.Keeping.{IsKeptRun}
use Rattle.kept_runs.proofs.OneFront.{one_front, one_run}

pub kept_once : (words : Words) (st : Stated) (flow : Flow) (tree : Tree) (s : State) (inputs : List Input) (steps ticks : ℕ) (by_place : List Passed) (after : State) (others sum : ℕ) (also : List Passed) (last : State)
    → IsKeptRun words st flow tree s inputs steps ticks by_place after → IsKeptRun words st flow tree s inputs others sum also last → (steps ≡ others) × (ticks ≡ sum) × (after ≡ last)
kept_once words st flow tree s inputs steps ticks by_place after others sum also last k m =
    let same : take steps inputs ≡ take others inputs =
    one_front words st flow tree s (take steps inputs) (take others inputs) (drop steps inputs) (drop others inputs) (take-append-drop steps inputs ∙ sym (take-append-drop others inputs)) k.keeps m.keeps in
    let theirs : Runs s (take steps inputs) m.ran last = subst (λ (is : List Input). Runs s is m.ran last) (sym same) m.runs in
    let one = one_run s (take steps inputs) k.ran m.ran after last k.runs theirs in
    (sym (length-take-le steps inputs k.few) ∙ ap length same ∙ length-take-le others inputs m.few, sym k.ticks_are ∙ ap (λ (r : Ran). r.ticks) one.0 ∙ m.ticks_are, one.1)
