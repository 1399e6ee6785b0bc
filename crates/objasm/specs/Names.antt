-- What names mean: which are set for numbers, which for registers, which for places behind a base register,
-- and which have no value yet.
use Rattle.std.specs.Prelude.{◌≡◌, ◌||◌, ◌⊎◌, ◌+◌, ◌%◌, ◌^◌, ℕ, Bool, List, Option, Some, None, is_some}
use Rattle.std.specs.Prelude.{Result, Ok, Err, if◌then◌else◌, option_map}
use Rattle.std.specs.Option.{option_and_then}
use Rattle.std.specs.Str.{bytes_eq}
use Rattle.image.specs.Labels.{Names, no_names, address_of}
use Rattle.objasm.specs.declared.faults.LineFault.{LineFault}
use Rattle.objasm.specs.declared.faults.LineFault.TheVariants.{Memory}
use Rattle.objasm.specs.declared.names.Address.{Address}
use Rattle.objasm.specs.declared.names.Kind.{Kind}
use Rattle.objasm.specs.declared.names.Kind.TheVariants.{Constant, Register}
use Rattle.objasm.specs.declared.names.Names.{Names as CodeNames}

pub record Meanings : Type 0 where
  pub constants : Names
  pub registers : Names
  pub waiting : Names
  -- what follows a base register in the address of a name, and that register
  pub offsets : Names
  pub bases : Names
  -- the storage counter, and the base register of the places that it counts
  pub counter : ℕ
  pub base : Option ℕ

-- the counter is 0 before a line sets it
abbrev pub no_meanings : Meanings
no_meanings =
    record {
      constants = no_names;
      registers = no_names;
      waiting = no_names;
      offsets = no_names;
      bases = no_names;
      counter = 0;
      base = None;
    }

abbrev pub meanings_of : CodeNames → Meanings
meanings_of names =
    record {
      constants = address_of names.constants;
      registers = address_of names.registers;
      waiting = address_of names.waiting;
      offsets = address_of names.offsets;
      bases = address_of names.bases;
      counter = names.counter;
      base = names.base;
    }

abbrev pub is_known : Meanings → List ℕ → Bool
is_known m name = is_some (m.constants name) || is_some (m.registers name) || is_some (m.bases name)

-- a line sets it
abbrev pub is_set : Meanings → List ℕ → Bool
is_set m name = is_known m name || is_some (m.waiting name)

abbrev pub with_name : List ℕ → ℕ → Names → Names
with_name name value names other = if bytes_eq other name then Some value else names other

abbrev pub with_meaning : List ℕ → Kind → ℕ → Meanings → Meanings
with_meaning name Constant value m = record m { constants = with_name name value m.constants }
with_meaning name Register value m = record m { registers = with_name name value m.registers }

abbrev pub with_address : List ℕ → Address → Meanings → Meanings
with_address name a m =
    record m { offsets = with_name name a.offset m.offsets; bases = with_name name a.base m.bases }

-- the address that a name of a map with a base register stands for
abbrev pub address_named : Meanings → List ℕ → Option Address
address_named m name =
    option_and_then (λ base. option_map (λ offset. record { base = base; offset = offset }) (m.offsets name))
    (m.bases name)

-- places from a counter on, and the base register in front of them
abbrev pub with_counter : ℕ → Option ℕ → Meanings → Meanings
with_counter at base m = record m { counter = at; base = base }

-- so many bytes further
abbrev pub advanced : ℕ → Meanings → Meanings
advanced size m = record m { counter = (m.counter + size) % 2 ^ 32 }

abbrev pub with_waiting : List ℕ → Meanings → Meanings
with_waiting name m = record m { waiting = with_name name 0 m.waiting }

-- a refusal for memory, or the fault of what was read
abbrev pub Told : {A : Type 0} → LineFault → Result A LineFault → Type 0
Told fault r = (fault ≡ Memory) ⊎ (r ≡ Err fault)

-- the same after another reading, whose fault comes first
abbrev pub and_then : {A B E : Type 0} → (A → Result B E) → Result A E → Result B E
and_then f (Ok a) = f a
and_then f (Err fault) = Err fault

abbrev pub mapped : {A B E : Type 0} → (A → B) → Result A E → Result B E
mapped f (Ok a) = Ok (f a)
mapped f (Err fault) = Err fault
