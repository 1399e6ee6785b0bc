-- Labels: which names stand for which addresses. A name stands for one address.
use Rattle.std.specs.Prelude.{ℕ, List, Option, None}
use Rattle.std.specs.Map.{lookup}
use Rattle.std.specs.Str.{bytes_eq}

-- which address each name stands for
abbrev pub Names : Type 0
Names = List ℕ → Option ℕ

abbrev pub no_names : Names
no_names name = None

-- names, by their bytes, and their addresses
abbrev pub NamedAddresses : Type 0
NamedAddresses = List (List ℕ × ℕ)

abbrev pub address_of : NamedAddresses → Names
address_of names name = lookup (bytes_eq name) names
