use Rattle.std.proofs.Common.{get_or, None, refl, ◌∙◌}
use Rattle.numbered_walks.proofs.Heading.{header_is}
use Rattle.numbered_walks.proofs.index.is_header_in.Goals as goal

pub returns : goal.returns
returns c = c.is_some.ensures ∙ header_is c.args.spans.now c.args.headers.now c.requires.headers c.args.number (get_or c.args.headers.now c.args.number None) refl
