-- Readings: a value, or the lowest of the faults of its parts.
use Rattle.std.specs.Prelude.{ℕ, ℤ, pos, negsuc, Bool, true, false, nat_le, if◌then◌else◌, List, [], ◌∷◌}
use Rattle.std.specs.Prelude.{◌++◌, fold, Option, Some, None, Result, Ok, Err, Vec}
use Rattle.std.specs.declared.alloc.Global.{Global}

-- the faults of a format: their order, and those that every format has
pub record Faults (F : Type 0) : Type 0 where
  pub rank : F → ℕ
  pub unknown_key : F
  pub wrong_kind : F
  pub out_of_range : F

abbrev pub rank_of : {F : Type 0} → Faults F → F → ℕ
rank_of faults f = faults.rank f

abbrev pub unknown_key_of : {F : Type 0} → Faults F → F
unknown_key_of faults = faults.unknown_key

abbrev pub wrong_kind_of : {F : Type 0} → Faults F → F
wrong_kind_of faults = faults.wrong_kind

abbrev pub out_of_range_of : {F : Type 0} → Faults F → F
out_of_range_of faults = faults.out_of_range

abbrev pub Reading : Type 0 → Type 0 → Type 0
Reading F A = Result A F

-- what is read from a value that was read
abbrev pub and_then : {F A B : Type 0} → Reading F A → (A → Reading F B) → Reading F B
and_then (Ok a) f = f a
and_then (Err g) f = Err g

-- what is read, after a function
abbrev pub reading_map : {F A B : Type 0} → (A → B) → Reading F A → Reading F B
reading_map f (Ok a) = Ok (f a)
reading_map f (Err g) = Err g

abbrev pub items_in : {F A : Type 0} → Reading F (Vec A Global) → Reading F (List A)
items_in list = reading_map (λ v. v.items) list

abbrev pub lower : {F : Type 0} → Faults F → F → F → F
lower faults f g = if nat_le (faults.rank f) (faults.rank g) then f else g

-- the same where there may be no other
abbrev pub lower_with : {F : Type 0} → Faults F → F → Option F → F
lower_with faults f None = f
lower_with faults f (Some g) = lower faults f g

-- with one more condition
abbrev pub check : {F A : Type 0} → Faults F → Bool → F → Reading F A → Reading F A
check faults true f r = r
check faults false f (Ok a) = Err f
check faults false f (Err g) = Err (lower faults f g)

-- what is read from a value that must be there
abbrev pub required : {F A B : Type 0} → Faults F → Option A → (A → Reading F B) → Reading F B
required faults None f = Err faults.wrong_kind
required faults (Some a) f = f a

-- what is read from a value, or `missing` where there is none
abbrev pub optional : {F A B : Type 0} → B → Option A → (A → Reading F B) → Reading F B
optional missing None f = Ok missing
optional missing (Some a) f = f a

-- two parts
abbrev pub pair : {F A B : Type 0} → Faults F → Reading F A → Reading F B → Reading F (A × B)
pair faults (Ok a) (Ok b) = Ok (a, b)
pair faults (Ok a) (Err g) = Err g
pair faults (Err f) (Ok b) = Err f
pair faults (Err f) (Err g) = Err (lower faults f g)

-- a list of parts
abbrev pub after : {F A : Type 0} → Faults F → Reading F (List A) → Reading F A → Reading F (List A)
after faults (Ok xs) (Ok a) = Ok (xs ++ a ∷ [])
after faults (Ok xs) (Err g) = Err g
after faults (Err f) (Ok a) = Err f
after faults (Err f) (Err g) = Err (lower faults f g)

abbrev pub all : {F A : Type 0} → Faults F → List (Reading F A) → Reading F (List A)
all faults readings = fold (after faults) (Ok []) readings

-- a number from 0 to a limit
abbrev pub up_to : {F : Type 0} → Faults F → ℕ → ℤ → Reading F ℕ
up_to faults limit (pos n) = if nat_le n limit then Ok n else Err faults.out_of_range
up_to faults limit (negsuc n) = Err faults.out_of_range
