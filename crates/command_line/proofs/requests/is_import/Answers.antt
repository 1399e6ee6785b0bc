use Rattle.std.proofs.Common.{◌∙◌, Bool, ap, ap₂}
use Rattle.std.specs.Prelude.{◌&&◌, not}
use Rattle.command_line.proofs.RowLaws.{among_names, among_names_of}
use Rattle.command_line.proofs.requests.is_import.Goals as goal

pub returns : goal.returns
returns c =
    let request = c.args.request.now in
    ap₂ (λ (b p : Bool). not b && p)
    (c.is_among-over.ensures ∙ ap (λ names. among_names_of names request.word.now) c.deref.ensures.value ∙ among_names request.files.items request.word.now)
    c.are_parts.ensures
