-- NamedAddresses in a map whose keys are their bytes.
use Rattle.std.proofs.Common.{◌≡◌, ◌∙◌, ℕ, Bool, true, false, cond, List, [], ◌∷◌, Option, Some, refl, sym, ap}
use Rattle.std.proofs.lemmas.Bool.{false≢true}
use Rattle.std.specs.Prelude.{Vec, map}
use Rattle.std.specs.Global.{Global}
use Rattle.std.specs.Ordering.{nat_cmp, is_eq, match_ordering}
use Rattle.std.specs.declared.cmp.Ordering.{Ordering}
use Rattle.std.specs.declared.cmp.Ordering.TheVariants.{Less, Equal, Greater}
use Rattle.std.specs.Cmp.Lexicographic.{slice_cmp, bytes_decides, texts_ties}
use Rattle.std.specs.Str.{bytes_eq}
use Rattle.std.specs.Map.{lookup}
use Rattle.std.specs.BTreeMap.{insert_entry, is_at}
use Rattle.image.specs.Labels.{NamedAddresses, address_of}

abbrev pub Entries : Type 0
Entries = List (Vec ℕ Global × ℕ)

abbrev pub names_in : Entries → NamedAddresses
names_in entries = map (λ e. (e.0.items, e.1)) entries

abbrev pub key_cmp : Vec ℕ Global → Vec ℕ Global → Ordering
key_cmp x y = slice_cmp nat_cmp x.items y.items

-- the map's search finds the name's address
pub found : (entries : Entries) (name : List ℕ) → lookup (is_at (λ k. slice_cmp nat_cmp name k.items)) entries ≡ address_of (names_in entries) name
found [] name = refl
found (e ∷ rest) name = rw (sym (texts_ties name e.0.items)) (ap (λ (o : Option ℕ). cond (bytes_eq name e.0.items) (Some e.1) o) (found rest name))

-- two names that differ are not both the one that is asked for
apart : (a b : Bool) (v w : ℕ) (o : Option ℕ) → (a ≡ true → b ≡ true → ⊥) → cond a (Some v) (cond b (Some w) o) ≡ cond b (Some w) (cond a (Some v) o)
apart true true v w o not_both = absurd (not_both refl refl)
apart true false v w o not_both = refl
apart false true v w o not_both = refl
apart false false v w o not_both = refl

over : (a b : Bool) (v w : ℕ) (o : Option ℕ) → b ≡ a → cond b (Some v) o ≡ cond a (Some v) (cond b (Some w) o)
over true b v w o same = rw same refl
over false b v w o same = rw same refl

same_name : (x y : List ℕ) → slice_cmp nat_cmp x y ≡ Equal → x ≡ y
same_name x y equal = (bytes_decides x y).0 (texts_ties x y ∙ ap is_eq equal)

other_name : (x y : List ℕ) → slice_cmp nat_cmp x y ≡ Greater → bytes_eq x y ≡ false
other_name x y greater = texts_ties x y ∙ ap is_eq greater

both_names : (x y name : List ℕ) → slice_cmp nat_cmp x y ≡ Greater → bytes_eq name x ≡ true → bytes_eq name y ≡ true → ⊥
both_names x y name greater is_x is_y =
    let same : x ≡ y = sym ((bytes_decides name x).0 is_x) ∙ (bytes_decides name y).0 is_y in
    false≢true (sym (other_name x y greater) ∙ (bytes_decides x y).1 same)

put_at : (o : Ordering) (e : Vec ℕ Global × ℕ) (rest more : Entries) (key : Vec ℕ Global) (address : ℕ) (name : List ℕ) → key_cmp key e.0 ≡ o
    → address_of (names_in more) name ≡ cond (bytes_eq name key.items) (Some address) (address_of (names_in rest) name)
    → address_of (names_in (match_ordering o ((key, address) ∷ e ∷ rest) ((e.0, address) ∷ rest) (e ∷ more))) name ≡ cond (bytes_eq name key.items) (Some address) (address_of (names_in (e ∷ rest)) name)
put_at Less e rest more key address name is inserted = refl
put_at Equal e rest more key address name is inserted =
    over (bytes_eq name key.items) (bytes_eq name e.0.items) address e.1 (address_of (names_in rest) name) (ap (λ (x : List ℕ). bytes_eq name x) (sym (same_name key.items e.0.items is)))
put_at Greater e rest more key address name is inserted =
    rw inserted (sym (apart (bytes_eq name key.items) (bytes_eq name e.0.items) address e.1 (address_of (names_in rest) name) (both_names key.items e.0.items name is)))

-- a name that is put stands for its address, and the others for what they did
pub put_one : (entries : Entries) (key : Vec ℕ Global) (address : ℕ) (name : List ℕ) → address_of (names_in (insert_entry key_cmp entries key address)) name ≡ cond (bytes_eq name key.items) (Some address) (address_of (names_in entries) name)
put_one [] key address name = refl
put_one (e ∷ rest) key address name = put_at (key_cmp key e.0) e rest (insert_entry key_cmp rest key address) key address name refl (put_one rest key address name)
