use Rattle.std.proofs.Common.{◌≡◌, ℕ, subst}
use Rattle.asm_text.specs.Source.{lines_of}
use Rattle.debugger.specs.Conversation.{Converses}
use Rattle.debugger.specs.SessionState.{begun}
use Rattle.handlers.proofs.HandlerLemmas.{refused_as}
use Rattle.handlers.proofs.PlacingLemmas.{Refused}
use Rattle.image.specs.Labels.{Names, address_of}
use Rattle.machine_reports.proofs.MachineLemmas.{same_names}
use Rattle.machine_reports.proofs.debug.converse_on.Goals as goal
use Rattle.sources.specs.File.{file_of}

pub returns-in_err-placed-clause-fault : goal.returns-in_err-placed-clause-fault
returns-in_err-placed-clause-fault c = λ says.
    let i = c.args.inputs in
    refused_as c.from_residual.result c.in_err-placed.field-0.0 (Refused (file_of i.source) i.machine.now c.args.profile) c.from_residual.ensures.1
    (c.in_err-placed.ensures.fault (file_of i.source) says)

pub returns-clause-session : goal.returns-clause-session
returns-clause-session c = λ says.
    let placed = c.in_ok-placed.placed in
    let is = c.in_ok-placed.ensures.placed (file_of c.args.inputs.source) says in
    let names : address_of c.args.said.now.labels ≡ is.stated.names =
    same_names (file_of c.args.inputs.source) c.args.said.now.image is.words (address_of c.args.said.now.labels)
    is.stated.names says is.stated.source_is in
    let at_port : Converses (address_of c.args.said.now.labels) (begun placed.machine placed.file.schedule.port)
    (lines_of c.args.inputs.commands.now) c.in_ok-text.text.items =
    subst (λ (port : ℕ). Converses (address_of c.args.said.now.labels) (begun placed.machine port)
    (lines_of c.args.inputs.commands.now) c.in_ok-text.text.items) c.port-port.ensures c.in_ok-text.ensures.ok in
    record {
      file = placed.file;
      state = placed.machine;
      placed = is;
      converses = subst (λ (n : Names). Converses n (begun placed.machine placed.file.schedule.port)
          (lines_of c.args.inputs.commands.now) c.in_ok-text.text.items) names at_port;
    }
