-- The keys of a table's members.
use Rattle.std.proofs.Common.{◌≡◌, ◌&&◌, ℕ, List, [], ◌∷◌, map, refl, ap, string_bytes}
use Rattle.std.specs.Prelude.{String}
use Rattle.std.specs.declared.alloc.Global.{Global}
use Rattle.std.specs.List.{list_all}
use Rattle.toml.specs.View.{members_view}
use Rattle.toml.specs.declared.value.Value.{Value}
use Rattle.toml_reading.specs.Documents.{has_only_keys, is_one_of}

pub has_only_keys-view : (keys : List (List ℕ)) (es : List (String Global × Value)) → list_all (λ k. is_one_of keys (string_bytes k)) (map (λ e. e.0) es) ≡ has_only_keys keys (members_view es)
has_only_keys-view keys [] = refl
has_only_keys-view keys (e ∷ es) = ap (λ b. is_one_of keys (string_bytes e.0) && b) (has_only_keys-view keys es)
