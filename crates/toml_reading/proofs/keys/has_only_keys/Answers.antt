use Rattle.std.proofs.Common.{◌∙◌, map}
use Rattle.toml_reading.proofs.KeyLemmas.{has_only_keys-view}
use Rattle.toml_reading.proofs.keys.has_only_keys.Goals as goal

pub returns : goal.returns
returns c = c.are_known.ensures ∙ has_only_keys-view (map (λ k. k.now) c.args.known.now) c.args.table.now.entries
