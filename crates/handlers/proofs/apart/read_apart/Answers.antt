use Rattle.std.proofs.Common.{◌∷◌, [], None, Some, inl}
use Rattle.handlers.specs.FiqHandler.{IsFiqsRefused}
use Rattle.handlers.specs.Report.{BeforeOutput}
use Rattle.handlers.proofs.ApartLemmas.{meets, own_unread, shares}
use Rattle.handlers.proofs.RefusalLemmas.{alone_err, alone_of, source_alone}
use Rattle.handlers.proofs.apart.read_apart.Goals as goal
use Rattle.sources.specs.File.{file_of}

pub returns-in_err-read-clause-fault : goal.returns-in_err-read-clause-fault
returns-in_err-read-clause-fault c = λ source fiq profile is.
    let own = (file_of c.args.own) in
    let e = c.in_err-read.field-0.0 in
    alone_err c.from_residual.result e c.from_residual.ensures.1
    (BeforeOutput (IsFiqsRefused source (Some own) fiq profile))
    (own_unread source own fiq profile e c.in_err-read.ensures.fault)

pub returns-in_err-read-clause-carries : goal.returns-in_err-read-clause-carries
returns-in_err-read-clause-carries c = λ fiq profile.
    let own = (file_of c.args.own) in
    let e = c.in_err-read.field-0.0 in
    alone_of profile ((own, fiq) ∷ []) c.from_residual.result e c.from_residual.ensures.1
    (source_alone own e c.in_err-read.ensures.fault)

pub returns-in-Some-clause-fault : goal.returns-in-Some-clause-fault
returns-in-Some-clause-fault c = λ source fiq profile is.
    let own = (file_of c.args.own) in
    meets source own fiq profile c.in-Some.address
    (shares source own c.args.said.now c.in_ok-read.read is c.in_ok-read.ensures.is.said
    (Some c.in-Some.address) c.in-Some.ensures)

pub returns-in-Some-clause-carries : goal.returns-in-Some-clause-carries
returns-in-Some-clause-carries c = λ fiq profile. inl (c.in_ok-read.ensures.is, tt)

pub returns-in-None-clause-apart : goal.returns-in-None-clause-apart
returns-in-None-clause-apart c = λ source is.
    shares source (file_of c.args.own) c.args.said.now c.in_ok-read.read is c.in_ok-read.ensures.is.said None
    c.in-None.ensures
