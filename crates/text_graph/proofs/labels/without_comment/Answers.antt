use Rattle.std.proofs.Common.{◌∙◌, ap, take}
use Rattle.std.proofs.lemmas.Str.Ascii.{trim_ascii_end_is}
use Rattle.text_graph.specs.Labels.{trimmed}
use Rattle.text_graph.proofs.labels.without_comment.Goals as goal

pub returns : goal.returns
returns c =
    trim_ascii_end_is (take c.body_len.result c.args.line.now) c.trim_ascii_end.result.now c.trim_ascii_end.ensures.value
    ∙ ap (λ n. trimmed (take n c.args.line.now)) c.body_len.ensures.len
