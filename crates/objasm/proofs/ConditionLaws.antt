-- The innermost condition, which a stack has at its end.
use Rattle.std.proofs.Common.{◌≡◌, ◌<◌, List, [], ◌∷◌, ◌++◌, length, reverse, Option, Some, None, refl, sym, ap, ◌∙◌, arith}
use Rattle.std.specs.Prelude.{IsSome, MatchOption, option_to_list}
use Rattle.std.proofs.lemmas.List.{reverse-append}
use Rattle.std.proofs.lemmas.Option.{same_Some}
use Rattle.objasm.specs.Conditions.{innermost}
use Rattle.objasm.specs.declared.conditions.Condition.{Condition}

no_items : (items : List Condition) → (0 < length items → IsSome {T = Condition} None) → reverse items ≡ []
no_items [] some = refl
no_items (c ∷ items) some = absurd (let f : IsSome {T = Condition} None = some (omega arith) in cc)

pub popped : (items rest : List Condition) (r found : Option Condition) → items ≡ rest ++ option_to_list r → (0 < length items → IsSome r) → innermost (reverse items) ≡ found
    → MatchOption found (reverse items ≡ []) (λ c. reverse items ≡ c ∷ reverse rest)
popped items rest None None is some top = no_items items some
popped items rest None (Some c) is some top =
    absurd (let e : None ≡ Some c = sym (ap innermost (no_items items some)) ∙ top in cc)
popped items rest (Some x) None is some top =
    let whole : reverse items ≡ x ∷ reverse rest = ap reverse is ∙ reverse-append rest (x ∷ []) in
    absurd (let e : Some x ≡ None = sym (ap innermost whole) ∙ top in cc)
popped items rest (Some x) (Some c) is some top =
    let whole : reverse items ≡ x ∷ reverse rest = ap reverse is ∙ reverse-append rest (x ∷ []) in
    let same : x ≡ c = same_Some x c (sym (ap innermost whole) ∙ top) in
    whole ∙ ap (λ (y : Condition). y ∷ reverse rest) same
