use Rattle.std.proofs.Common.{◌∙◌, ◌++◌, ℕ, List, Some, ap, subst}
use Rattle.arm2_exec.specs.declared.machine.Input.{Input}
use Rattle.machine_reports.specs.RunTo.{ShowsRunTo}
use Rattle.machine_reports.proofs.MachineLemmas.{none_is}
use Rattle.machine_reports.proofs.run_to.placed_report.Goals as goal

pub returns-clause-shown : goal.returns-clause-shown
returns-clause-shown g c = λ source machine word profile is to_is.
    let placed = c.args.placed.now in
    let to = c.args.to in
    let ran = c.in_ok-ran.ran in
    let after = c.write_front_to.new.machine in
    let added = c.in_ok-ran.ensures in
    record {
      state = placed.machine;
      inputs = c.in_ok-inputs.inputs.items;
      loaded = record { file = placed.file; placed = is; inputs_are = c.in_ok-inputs.ensures };
      to = to;
      to_is = to_is;
      ran = ran;
      after = after;
      front = added.0;
      shown = subst (λ (inputs : List Input). ShowsRunTo g.F.Front.shows to placed.machine inputs ran after added.0) c.deref.ensures.value added.1;
      done_is = none_is ran.stopped c.is_none.result c.is_none.ensures;
      text_is =
          c.in_ok-write_end.ensures
          ∙ ap (λ (x : List ℕ). x ++ g.F.Front.ends (Some to) ran after)
          (added.2 ∙ ap (λ (x : List ℕ). x ++ added.0) c.new-text.ensures.bytes);
    }
