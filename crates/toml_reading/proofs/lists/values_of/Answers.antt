use Rattle.std.proofs.Common.{Some, map, option_map, sym, ap, ◌∙◌}
use Rattle.toml.specs.View.{view}
use Rattle.toml_reading.specs.Documents.{list_of}
use Rattle.toml_reading.proofs.ReadingLemmas.{list_of-items_of}
use Rattle.toml_reading.proofs.lists.values_of.Goals as goal

pub returns-in-Some : goal.returns-in-Some
returns-in-Some c =
    ap (λ vs. Some (map view vs)) c.as_slice.ensures.value ∙ ap (λ ds. Some ds) (sym (list_of-items_of (map view c.in-Some.values.now.items))) ∙ ap (option_map list_of) c.in-Some.ensures
