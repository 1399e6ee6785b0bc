use Rattle.std.proofs.Common.{◌∙◌, Bool, ap, not}
use Rattle.std.specs.List.{list_any}
use Rattle.numbered_walks.specs.declared.span.Span.{Span}
use Rattle.numbered_walks.specs.Ordered.{is_in}
use Rattle.cert_check.proofs.AnyLemmas.{any_filter}
use Rattle.cert_check.proofs.weighing.leaves.Goals as goal

pub returns : goal.returns
returns c =
    let e = c.args.edge.now in
    let f : Span → Bool = λ s. not (is_in s e.to) in
    c.is_outside.ensures
    ∙ ap (list_any f) c.deref.ensures.value
    ∙ ap (λ (v : _). list_any f v.items) c.index.ensures
    ∙ ap (list_any f) (c.requires.held e.from c.index.result.now c.requires.from_in)
    ∙ any_filter f (λ (s : Span). is_in s e.from) c.args.spans.now
