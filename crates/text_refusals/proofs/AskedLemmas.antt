-- What is asked of a document.
use Rattle.std.proofs.Common.{◌≡◌, ◌↔◌, true, ap, subst}
use Rattle.std.specs.Prelude.{String}
use Rattle.std.specs.declared.alloc.Global.{Global}
use Rattle.std.specs.BTreeMap.{BTreeMap}
use Rattle.toml.specs.Data.{Members}
use Rattle.toml.specs.View.{table_view}
use Rattle.toml.specs.declared.value.Value.{Value}
use Rattle.image.specs.Labels.{NamedAddresses, address_of}
use Rattle.statement.specs.PlaceTests.{found}
use Rattle.statement.specs.Places.{IsFaultAt}
use Rattle.statement.specs.declared.faults.StatementFault.{StatementFault}
use Rattle.statement.specs.declared.spots.Spot.{Spot}
use Rattle.statement.proofs.PlaceLemmas.{found_is}

-- the document answers as its labels and its table say
pub tells_of :
    (a b : NamedAddresses) (t u : BTreeMap (String Global) Value) (f : StatementFault)
    → a ≡ b
    → t ≡ u
    → (s : Spot)
    → found (address_of a) (table_view t) s f ≡ true ↔ IsFaultAt (address_of b) (table_view u) s f
tells_of a b t u f same_names same_table s =
    subst
    (λ (m : Members). found (address_of a) (table_view t) s f ≡ true ↔ IsFaultAt (address_of b) m s f)
    (ap table_view same_table)
    (subst
    (λ (x : NamedAddresses). found (address_of a) (table_view t) s f ≡ true ↔ IsFaultAt (address_of x) (table_view t) s f)
    same_names
    (found_is (address_of a) (table_view t) s f))
