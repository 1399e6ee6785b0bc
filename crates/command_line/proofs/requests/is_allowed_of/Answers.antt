use Rattle.std.proofs.Common.{◌∙◌, Bool, ap, sym}
use Rattle.std.specs.Prelude.{not}
use Rattle.command_line.specs.Line.{is_allowed_of}
use Rattle.command_line.specs.Rows.{asked_of}
use Rattle.command_line.specs.declared.line.Command.{Command}
use Rattle.command_line.proofs.RowLaws.{among_names, among_names_of}
use Rattle.command_line.proofs.requests.is_allowed_of.Goals as goal

pub returns-in-Asm : goal.returns-in-Asm
returns-in-Asm c =
    let request = c.args.request.now in
    ap (λ (b : Bool). not b) (c.is_among.ensures ∙ ap (λ names. among_names_of names request.word.now) c.deref.ensures.value ∙ among_names request.files.items request.word.now)
    ∙ ap (λ (k : Command). is_allowed_of k (asked_of request)) (sym c.in-Asm.is)
