use Rattle.handlers.specs.Faults.{of_load}
use Rattle.handlers.proofs.HandlerLemmas.{refused_as}
use Rattle.handlers.proofs.PlacingLemmas.{Refused, load_refuses}
use Rattle.handlers.proofs.placing.loaded.Goals as goal

pub returns-in_err-put_all-clause-fault : goal.returns-in_err-put_all-clause-fault
returns-in_err-put_all-clause-fault c = λ source machine is.
    let f = c.in_err-put_all.field-0.0 in
    refused_as c.from_residual-in_err-put_all.result (of_load f) (Refused source machine c.args.profile)
    c.from_residual-in_err-put_all.ensures.1
    (load_refuses source machine c.args.profile c.args.image.now is.names is.source_is c.args.file.now
    is.file_is
    c.in_ok-machine.machine c.in_ok-machine.ensures f c.in_err-put_all.ensures.fault)

pub returns-clause-loaded : goal.returns-clause-loaded
returns-clause-loaded c = λ source machine is.
    record {
      words = c.args.image.now;
      start = c.in_ok-machine.machine;
      stated = is;
      started = c.in_ok-machine.ensures;
      fits = c.in_ok-put_all.ensures.fits;
      file_fits = c.in_ok-put_all.ensures.file_fits;
      loaded = c.in_ok-put_all.ensures.ok;
    }
