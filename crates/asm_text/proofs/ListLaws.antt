-- One piece more of a list.
use Rattle.std.proofs.Common.{◌≡◌, ◌+◌, ◌<◌, ℕ, List, get_or, drop, length, map, refl}
use Rattle.std.proofs.lemmas.List.{drop_more}
use Rattle.asm_text.specs.Pieces.{piece_of}
use Rattle.asm_text.specs.declared.token.Token.{Token}
use Rattle.asm_text.specs.declared.list.ListPlace.{ListPlace}
use Rattle.asm_text.specs.Operands.{list_from, list_by, list_step}

pub list_turn : (list : ℕ) (place : ListPlace) (tokens : List Token) (i : ℕ) (d : Token) → i < length tokens
    → list_from list place (map piece_of (drop i tokens)) ≡ list_by (λ more next. list_from more next (map piece_of (drop (i + 1) tokens))) (map piece_of (drop (i + 1) tokens)) (list_step list place (piece_of (get_or tokens i d)))
list_turn list place tokens i d lt = rw (drop_more tokens i d lt) refl
