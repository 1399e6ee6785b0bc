-- The keys of a table are texts.
use Rattle.std.proofs.Common.{◌≡◌, ℕ, List, [], ◌∷◌, Some, Ordering, map, refl, sym, subst}
use Rattle.std.specs.Prelude.{IsSome, IsUtf8, String, string_bytes}
use Rattle.std.specs.declared.alloc.Global.{Global}
use Rattle.std.specs.BTreeMap.{BTreeMap}
use Rattle.std.specs.Ordering.{match_ordering, nat_cmp}
use Rattle.std.specs.Cmp.Lexicographic.{slice_cmp}
use Rattle.std.specs.declared.cmp.Ordering.TheVariants.{Less, Equal, Greater}
use Rattle.std.proofs.lemmas.Bool.{false≢true}
use Rattle.std.proofs.lemmas.Map.Lookups.{exact_bytes}
use Rattle.std.proofs.lemmas.Str.{IsUtf8-string_bytes}
use Rattle.toml.specs.Data.{Data, get_member}
use Rattle.toml.specs.View.{members_of, table_view, view}
use Rattle.toml.specs.declared.value.Value.{Value}

utf8_among : (es : List (String Global × Data)) (k : List ℕ) → IsSome (get_member k (members_of es)) → IsUtf8 k
utf8_among [] k h = absurd (false≢true h)
utf8_among (e ∷ es) k h = by_order (slice_cmp nat_cmp k (string_bytes e.0)) refl h (λ later. utf8_among es k later)
  where
    by_order :
        (o : Ordering)
        → o ≡ slice_cmp nat_cmp k (string_bytes e.0)
        → IsSome (match_ordering o (get_member k (members_of es)) (Some e.1) (get_member k (members_of es)))
        → (IsSome (get_member k (members_of es)) → IsUtf8 k)
        → IsUtf8 k
    by_order Less is h later = later h
    by_order Equal is h later =
        subst (λ bytes. IsUtf8 bytes) (sym (exact_bytes k (string_bytes e.0) (sym is))) (IsUtf8-string_bytes e.0)
    by_order Greater is h later = later h

-- a key of a table is UTF-8
pub utf8_in_table : (table : BTreeMap (String Global) Value) (k : List ℕ) → IsSome (get_member k (table_view table)) → IsUtf8 k
utf8_in_table table k h = utf8_among (map (λ m. (m.0, view m.1)) table.entries) k h
