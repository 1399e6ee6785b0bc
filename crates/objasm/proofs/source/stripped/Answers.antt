use Rattle.std.proofs.Common.{drop, refl}
use Rattle.std.specs.Char.{is_ascii_whitespace}
use Rattle.std.specs.List.{prefix_len}
use Rattle.std.proofs.lemmas.Str.Ascii.{trim_ascii_is}
use Rattle.objasm.proofs.source.stripped.Goals as goal

pub returns : goal.returns
returns c =
    let text = c.args.text.now in
    trim_ascii_is text c.trim_ascii.result.now (drop (prefix_len is_ascii_whitespace text) text) refl c.trim_ascii.ensures.value
