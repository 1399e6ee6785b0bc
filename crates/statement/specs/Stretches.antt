-- Addresses at which base registers have rules.
use Rattle.std.specs.Prelude.{◌≡◌, ◌<◌, ◌≤◌, ◌↔◌, ◌⊎◌, ◌&&◌, ℕ, Bool, true, List, max, min, nat_eq, nat_le}
use Rattle.std.specs.Prelude.{Option, Some, None, MatchOption, IsSome, ⊤}
use Rattle.std.specs.BTreeMap.{BTreeMap, get}
use Rattle.std.specs.List.{position}
use Rattle.std.specs.Ordering.{nat_cmp, ordering_then}
use Rattle.std.specs.declared.cmp.Ordering.{Ordering}
use Rattle.arm2_decode.specs.Names.{is_same, register_number}
use Rattle.statement.specs.declared.stated.BaseRule.{BaseRule}
use Rattle.statement.specs.declared.stretches.Stretch.{Stretch}

-- the two are of one register, and share an address
abbrev pub meets : Stretch → Stretch → Bool
meets p q = is_same p.base q.base && nat_le (max p.first q.first) (min p.last q.last)

-- the stretch is of the register with that number, and has the address
abbrev pub is_within : (base a : ℕ) → Stretch → Bool
is_within base a p = nat_eq (register_number p.base) base && (nat_le p.first a && nat_le a p.last)

-- ## By their last addresses

-- the order of pairs
abbrev pub pair_cmp : ℕ × ℕ → ℕ × ℕ → Ordering
pair_cmp x y = ordering_then (nat_cmp x.0 y.0) (nat_cmp x.1 y.1)

module _ {T : Type 0} (map : BTreeMap (ℕ × ℕ) (ℕ × T)) where
  -- the first address and the value of the stretch that ends at an address
  abbrev pub ending : ℕ → ℕ → Option (ℕ × T)
  ending base last = get pair_cmp map (base, last)

  -- no two stretches of one register share an address
  pub record AreDisjoint : Type 0 where
    pub ordered : (base last : ℕ) (v : ℕ × T) → ending base last ≡ Some v → v.0 ≤ last
    pub apart : (base last later : ℕ) (v w : ℕ × T) → ending base last ≡ Some v → ending base later ≡ Some w
        → last < later → last < w.0

  -- the last address of a stretch that shares one with another, its first and its value. It holds too of
  -- another that ends before it begins, and so has no address, where both its ends lie in the stretch
  pub record IsMet (p : Stretch) (s : ℕ × (ℕ × T)) : Type 0 where
    pub held : ending (register_number p.base) s.0 ≡ Some s.1
    pub begins : s.1.0 ≤ p.last
    pub ends : p.first ≤ s.0

  -- a stretch of the register has the address, and that value
  pub record Gives (base a : ℕ) (value : T) : Type 0 where
    pub first : ℕ
    pub last : ℕ
    pub held : ending base last ≡ Some (first, value)
    pub from_first : first ≤ a
    pub to_last : a ≤ last

  -- the first stretch of the register that ends at the address or later: its last address, its first and its
  -- value
  abbrev pub IsNextFrom : ℕ → ℕ → Option (ℕ × (ℕ × T)) → Type 0
  IsNextFrom base a next =
      MatchOption next
      ((last : ℕ) → a ≤ last → ending base last ≡ None)
      (λ s. (ending base s.0 ≡ Some s.1) × (a ≤ s.0)
      × ((last : ℕ) → a ≤ last → IsSome (ending base last) → s.0 ≤ last))

  -- the stretches are disjoint, and give the values of a function
  pub record AreOf (value : ℕ → ℕ → Option T) : Type 0 where
    pub disjoint : AreDisjoint
    pub same : (base a : ℕ) (v : T) → Gives base a v ↔ (value base a ≡ Some v)

-- ## Stretches that are joined

module _ (old : BTreeMap (ℕ × ℕ) (ℕ × ⊤)) (stretch : Stretch) (new : BTreeMap (ℕ × ℕ) (ℕ × ⊤)) where
  -- the new stretches have the addresses of the old ones and of another
  pub record IsCovered : Type 0 where
    pub disjoint : AreDisjoint new
    pub same : (base a : ℕ) → Gives new base a tt ↔ (Gives old base a tt ⊎ (is_within base a stretch ≡ true))

  -- the new stretches and one besides do
  pub record IsJoined (whole : Stretch) : Type 0 where
    pub disjoint : AreDisjoint new
    pub ordered : whole.first ≤ whole.last
    pub same : (base a : ℕ) → (Gives new base a tt ⊎ (is_within base a whole ≡ true))
        ↔ (Gives old base a tt ⊎ (is_within base a stretch ≡ true))

-- ## Rules

-- the rule is for the register with that number, at the address
abbrev pub is_for : ℕ → ℕ → BaseRule → Bool
is_for base a r = nat_eq (register_number r.register) base && (nat_le r.first a && nat_le a r.last)

-- the number of the first rule that is
abbrev pub number_for : List BaseRule → ℕ → ℕ → Option ℕ
number_for rules base a = position (is_for base a) rules
