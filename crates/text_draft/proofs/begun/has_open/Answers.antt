use Rattle.std.proofs.Common.{◌∙◌, ap}
use Rattle.std.specs.Map.{values_of}
use Rattle.text_draft.specs.Begun.{any_open_target}
use Rattle.text_draft.proofs.begun.has_open.Goals as goal

pub returns : goal.returns
returns c =
    c.any_open_target.ensures
    ∙ ap any_open_target (c.as_slice.ensures ∙ c.values.ensures.rest ∙ ap (λ es. values_of es) c.targets.ensures)
