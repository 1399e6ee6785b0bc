use Rattle.image.specs.Labels.{address_of}
use Rattle.handlers.specs.Faults.{of_machine_file}
use Rattle.handlers.specs.Placing.{IsStated}
use Rattle.handlers.proofs.HandlerLemmas.{refused_as}
use Rattle.handlers.proofs.PlacingLemmas.{Refused, file_refuses}
use Rattle.handlers.proofs.placing.place_image.Goals as goal

pub returns-in_err-file-clause-fault : goal.returns-in_err-file-clause-fault
returns-in_err-file-clause-fault c = λ source is.
    let said = c.args.said.now in
    let f = c.in_err-file.field-0.0 in
    refused_as c.from_residual.result (of_machine_file f) (Refused source c.args.machine.now c.args.profile)
    c.from_residual.ensures.1
    (file_refuses source c.args.machine.now c.args.profile said.image (address_of said.labels) is f
    (λ other. c.in_err-file.ensures (λ e. other (cc e))))

pub returns-in_err-machine-clause-fault : goal.returns-in_err-machine-clause-fault
returns-in_err-machine-clause-fault c = λ source is.
    let said = c.args.said.now in
    let e = c.in_err-machine.field-0.0 in
    let stated : IsStated source c.args.machine.now said.image c.in_ok-file.file =
    record {
      names = address_of said.labels;
      source_is = is;
      file_is = c.in_ok-file.ensures (λ e. cc e);
    } in
    refused_as c.from_residual-in_err-machine.result e (Refused source c.args.machine.now c.args.profile)
    c.from_residual-in_err-machine.ensures.1
    (c.in_err-machine.ensures.fault source c.args.machine.now stated)

pub returns-clause-placed : goal.returns-clause-placed
returns-clause-placed c = λ source is.
    let said = c.args.said.now in
    c.in_ok-machine.ensures.loaded source c.args.machine.now
    (record {
      names = address_of said.labels;
      source_is = is;
      file_is = c.in_ok-file.ensures (λ e. cc e);
    })
