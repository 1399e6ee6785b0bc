use Rattle.std.proofs.Common.{refl}
use Rattle.loop_bounds.proofs.LayoutLemmas.{shown_from}
use Rattle.loop_bounds.proofs.layout.span_of.Goals as goal

pub returns : goal.returns
returns c = shown_from c.args.numbers.now c.args.extent.now _ c.args.found.now.stated.bound c.unwrap_or.result _ c.greatest.result c.requires.some c.requires.inside refl c.greatest.ensures.most c.greatest.ensures.attained c.unwrap_or.ensures
