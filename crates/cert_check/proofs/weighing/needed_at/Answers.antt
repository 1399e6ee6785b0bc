use Rattle.std.proofs.Common.{◌≡◌, ap, ◌∙◌}
use Rattle.std.specs.List.{filter}
use Rattle.numbered_walks.specs.Ordered.{is_in}
use Rattle.numbered_walks.proofs.PassLemmas.{needed-held}
use Rattle.cert_check.proofs.weighing.needed_at.Goals as goal

pub returns : goal.returns
returns c =
    let held = c.deref.result.now in
    let same : held ≡ filter (λ s. is_in s c.args.edge.now.from) c.args.spans.now = c.deref.ensures.value ∙ ap (λ v. v.items) c.index.ensures ∙ c.requires.held c.args.edge.now.from c.index.result.now c.requires.from_in in
    rw (← needed-held c.args.spans.now held c.args.tables.now c.args.edge.now same) c.needed_with.ensures
