-- Registers whose numbers fall.
use Rattle.std.proofs.Common.{◌≡◌, ◌∙◌, ℕ, ◌+◌, ◌-◌, ◌<◌, ◌≤◌, Bool, true, false, List, [], drop, get_or, length, map, take, refl, sym, ap, arith}
use Rattle.std.specs.Prelude.{◌||◌, nat_lt}
use Rattle.std.specs.Borrow.{Bor}
use Rattle.std.proofs.Math.ListN.{drop_of_length-le}
use Rattle.std.proofs.lemmas.List.{drop_more, length-drop, take_all}
use Rattle.text_listing.specs.ListOrder.{falls_from, number_or}

abbrev texts : List (Bor (List ℕ)) → List (List ℕ)
texts names = map (λ (n : Bor (List ℕ)). n.now) names

or_assoc : (a b c : Bool) → ((a || b) || c) ≡ (a || (b || c))
or_assoc true b c = refl
or_assoc false b c = refl

or_none : (a : Bool) → (a || false) ≡ a
or_none true = refl
or_none false = refl

-- a name more
pub falls_more : (names : List (Bor (List ℕ))) (i : ℕ) (d : Bor (List ℕ)) (before number : ℕ) (falls whole : Bool) → i < length names → (falls || falls_from before (texts (drop i names))) ≡ whole
    → number ≡ number_or before (get_or names i d).now → ((falls || nat_lt number before) || falls_from number (texts (drop (i + 1) names))) ≡ whole
falls_more names i d before number falls whole lt is number_is =
    let rest = texts (drop (i + 1) names) in
    let here : falls_from before (texts (drop i names)) ≡ (nat_lt number before || falls_from number rest) =
    ap (λ ns. falls_from before (texts ns)) (drop_more names i d lt) ∙ (λ k. nat_lt (sym number_is k) before || falls_from (sym number_is k) rest) in
    or_assoc falls (nat_lt number before) (falls_from number rest) ∙ ap (λ b. falls || b) (sym here) ∙ is

pub falls_end : (names : List (Bor (List ℕ))) (i before : ℕ) (falls whole : Bool) → length names ≤ i → (falls || falls_from before (texts (drop i names))) ≡ whole → falls ≡ whole
falls_end names i before falls whole le is =
    sym (or_none falls) ∙ ap (λ ns. falls || falls_from before (texts ns)) (sym (drop_of_length-le names le)) ∙ is

-- the rest of a text
pub rest_of : (text : List ℕ) (n : ℕ) → take (length text - n) (drop n text) ≡ drop n text
rest_of text n = take_all (length text - n) (drop n text) (omega (arith, length-drop n text))

pub no_rest : (text : List ℕ) (n m : ℕ) → n ≡ m → length text ≤ n → [] ≡ drop (m + 1) text
no_rest text n m same le = sym (drop_of_length-le text (omega (arith, le, same)))
