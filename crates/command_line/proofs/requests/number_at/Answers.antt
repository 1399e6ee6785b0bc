use Rattle.std.proofs.Common.{◌∙◌, ap, refl, lit≤}
use Rattle.std.specs.Prelude.{option_and_then}
use Rattle.clap.specs.Matches.{found_of, one_text}
use Rattle.clap.proofs.WalkLemmas.{one_text-rows}
use Rattle.command_line.specs.Line.{most_number, number_to}
use Rattle.command_line.proofs.LineLaws.{number_read}
use Rattle.command_line.proofs.requests.number_at.Goals as goal

pub returns : goal.returns
returns c =
    let f = found_of c.args.values.now in
    let id = c.args.id.now in
    number_read 32 most_number refl (lit≤ tt) (one_text f id) c.get_one.result c.get_one.ensures.none c.get_one.ensures.value ∙ ap (option_and_then (number_to most_number)) (one_text-rows f id)
