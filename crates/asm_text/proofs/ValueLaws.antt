-- One piece more of a list of values.
use Rattle.std.proofs.Common.{◌≡◌, ◌+◌, ◌<◌, ℕ, List, [], ◌∷◌, ◌++◌, Option, Some, None, get_or, drop, length, map, refl, ap, sym, append_assoc}
use Rattle.std.specs.Prelude.{option_map}
use Rattle.std.proofs.lemmas.List.{drop_more}
use Rattle.std.specs.List.{cons_option}
use Rattle.asm_text.specs.Pieces.{piece_of}
use Rattle.asm_text.specs.Said.{Target}
use Rattle.asm_text.specs.declared.token.Token.{Token}
use Rattle.asm_text.specs.declared.statement.Expects.{Expects}
use Rattle.asm_text.specs.Statements.{value_step, values_in}

added : (done : List Target) (v : Option Target) (vs : List Target) → done ++ cons_option v vs ≡ (done ++ cons_option v []) ++ vs
added done None vs = sym (append_assoc done [] vs)
added done (Some v) vs = sym (append_assoc done (v ∷ []) vs)

added_all : (done : List Target) (v : Option Target) (o : Option (List Target)) → option_map (λ vs. done ++ vs) (option_map (cons_option v) o) ≡ option_map (λ vs. (done ++ cons_option v []) ++ vs) o
added_all done v None = refl
added_all done v (Some vs) = ap Some (added done v vs)

pub values_turn : (done : List Target) (expects : Expects) (tokens : List Token) (i : ℕ) (d : Token) → i < length tokens → (v : Option Target) (next : Expects)
    → value_step expects (piece_of (get_or tokens i d)) ≡ Some (v, next)
    → option_map (λ vs. done ++ vs) (values_in expects (map piece_of (drop i tokens))) ≡ option_map (λ vs. (done ++ cons_option v []) ++ vs) (values_in next (map piece_of (drop (i + 1) tokens)))
values_turn done expects tokens i d lt v next e = rw (drop_more tokens i d lt, e) (added_all done v (values_in next (map piece_of (drop (i + 1) tokens))))
