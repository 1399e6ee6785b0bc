use Rattle.std.proofs.Common.{◌∙◌, ◌++◌, ℕ, List, None, ap, subst}
use Rattle.arm2_exec.specs.Run.{Runs}
use Rattle.arm2_exec.specs.declared.machine.Input.{Input}
use Rattle.machine_reports.proofs.MachineLemmas.{none_is}
use Rattle.machine_reports.proofs.machine.placed_report.Goals as goal

pub returns-clause-shown : goal.returns-clause-shown
returns-clause-shown g c = λ source machine profile is.
    let placed = c.args.placed.now in
    let inputs = c.in_ok-inputs.inputs.items in
    let ran = c.in_ok-ran.ran in
    let after = c.write_front.new.machine in
    let added = c.in_ok-ran.ensures.text in
    record {
      state = placed.machine;
      inputs = inputs;
      ran = ran;
      after = after;
      front = added.0;
      loaded = record { file = placed.file; placed = is; inputs_are = c.in_ok-inputs.ensures };
      runs = subst (λ (inputs : List Input). Runs placed.machine inputs ran after) c.deref.ensures.value c.in_ok-ran.ensures.runs;
      shows = subst (λ (inputs : List Input). g.F.Front.shows placed.machine inputs after added.0) c.deref.ensures.value added.1;
      done_is = none_is ran.stopped c.is_none.result c.is_none.ensures;
      text_is = c.in_ok-write_end.ensures ∙ ap (λ (x : List ℕ). x ++ g.F.Front.ends None ran after) (added.2 ∙ ap (λ (x : List ℕ). x ++ added.0) c.new-text.ensures.bytes);
    }
