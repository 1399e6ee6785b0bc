-- The rules for base registers, each in place of the entries of loads and stores that have one base and one
-- class.
use Rattle.std.specs.Prelude.{◌≡◌, ◌⊎◌, ◌↔◌, ◌&&◌, ◌==◌, ◌<◌, ◌≤◌, ℕ, Bool, true, false, List, length, filter}
use Rattle.std.specs.Prelude.{AllPairs, Contains, Option, Some}
use Rattle.std.specs.List.{slice_get}
use Rattle.arm2_decode.specs.Names.{is_pc, is_same, register_number}
use Rattle.arm2_decode.specs.declared.instr.Instr.{Instr}
use Rattle.arm2_decode.specs.declared.names.Register.{Register}
use Rattle.bus_ticks.specs.declared.profile.Class.{Class}
use Rattle.bus_ticks.specs.declared.profile.Class.TheVariants.{Ram, Rom, Io, Any, Slow, Medium, Fast}
use Rattle.bus_ticks.specs.declared.profile.Class.TheVariants.{Synchronous}
use Rattle.image.specs.Image.{Words}
use Rattle.statement.specs.Stated.{Stated}
use Rattle.text_draft.specs.Accesses.{IsByPc, base_used}
use Rattle.text_draft.specs.Begun.{has_rule}
use Rattle.text_draft.specs.declared.accesses.FoundAccess.{FoundAccess}
use Rattle.text_draft.specs.declared.grounds.Ground.TheVariants.{Pattern}
use Rattle.text_draft.specs.declared.rules.FoundRule.{FoundRule}
use Rattle.word_shapes.specs.Words.{HasInstr}

-- ## The accesses of a base and a class

-- classes in their order
abbrev pub class_number : Class → ℕ
class_number Ram = 0
class_number Rom = 1
class_number Io = 2
class_number Any = 3
class_number Slow = 4
class_number Medium = 5
class_number Fast = 6
class_number Synchronous = 7

abbrev pub is_same_class : Class → Class → Bool
is_same_class class other = class_number class == class_number other

-- the access has that base and that class
abbrev pub has_both : Register → Class → FoundAccess → Bool
has_both register class e = is_same register e.base && is_same_class class e.class

abbrev pub of_both : List FoundAccess → Register → Class → List FoundAccess
of_both accesses register class = filter (has_both register class) accesses

abbrev pub count : List FoundAccess → Register → Class → ℕ
count accesses register class = length (of_both accesses register class)

-- ## Rules

-- no class has more accesses of the base, and none in front of it in their order has as many
pub record IsMostFrequent (accesses : List FoundAccess) (register : Register) (class : Class) : Type 0 where
  pub most : (other : Class) → count accesses register other ≤ count accesses register class
  pub first : (other : Class) → class_number other < class_number class
      → count accesses register other < count accesses register class

-- the word at the address shows the class by itself, or neither loads nor stores by R15
abbrev pub Shows : Words → ℕ → Class → Type 0
Shows words at class =
    (i : Instr) → HasInstr words at i → (register : Register) → base_used i ≡ Some register
    → is_pc register ≡ true → IsByPc at i.operation class

module _ (words : Words) (open_left : Bool) where
  -- a rule of the class says of no word more than is known: nothing is left open, and all words that are
  -- reached were looked at; or each word that it may cover shows the class
  abbrev pub MayRule : Register → Class → Type 0
  MayRule register class =
      (open_left ≡ false) ⊎ ((is_pc register ≡ true) × ((at : ℕ) → Shows words at class))

module _ (words : Words) (open_left : Bool) (accesses : List FoundAccess) where
  -- a rule may be of the most frequent class, and stands in place of two entries at least
  abbrev pub HasRule : Register → Class → Type 0
  HasRule register class =
      IsMostFrequent accesses register class
      × (MayRule words open_left register class × (2 ≤ count accesses register class))

  -- it says how many accesses have them, and where the first of them is; what its class rests on is looked at
  -- later
  pub record IsRule (r : FoundRule) : Type 0 where
    pub has : HasRule r.register r.class
    pub count_is : r.count ≡ count accesses r.register r.class
    pub first : FoundAccess
    pub first_is : slice_get (of_both accesses r.register r.class) 0 ≡ Some first
    pub at_first : r.first ≡ first.at
    pub ground_is : r.basis ≡ Pattern

  -- and none is stated for its register
  abbrev pub IsNewRule : Option Stated → FoundRule → Type 0
  IsNewRule begun r = IsRule r × (has_rule begun r.register ≡ false)

  -- exactly the rules for registers that have none, by ascending registers
  pub record AreRules (begun : Option Stated) (rules : List FoundRule) : Type 0 where
    pub ascend : AllPairs (λ r q. register_number r.register < register_number q.register) rules
    pub each : (r : FoundRule) → Contains rules r ↔ IsNewRule begun r
