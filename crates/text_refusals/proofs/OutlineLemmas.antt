-- A line's tokens taken one by one.
use Rattle.std.proofs.Common.{◌≡◌, ◌<◌, ◌-◌, ◌+◌, suc, ℕ, List, [], ◌∷◌, Option, Some, None, refl, sym, ap, ◌∙◌, arith}
use Rattle.text_refusals.specs.Outline.{Token, Reading, all_taken, first_token, tokens, taken}

abbrev pub after_first : ℕ → Reading → ℕ → Option (Token × List ℕ) → Reading
after_first line r n None = r
after_first line r n (Some f) = all_taken line (taken line r f.0) (tokens n f.1)

pub one_token : (line : ℕ) (r : Reading) (n : ℕ) (text : List ℕ) → all_taken line r (tokens (suc n) text) ≡ after_first line r n (first_token text)
unfolding all_taken tokens
one_token line r n [] = refl
one_token line r n (b ∷ rest) = refl

pub more_tokens : (line : ℕ) (r : Reading) (last k : ℕ) (text : List ℕ) (found : Option (Token × List ℕ)) → k < last → found ≡ first_token text
    → all_taken line r (tokens (last - k) text) ≡ after_first line r (last - (k + 1)) found
more_tokens line r last k text found inside is =
    let next : last - k ≡ suc (last - (k + 1)) = omega (arith, inside) in
    ap (λ n. all_taken line r (tokens n text)) next ∙ (one_token line r (last - (k + 1)) text ∙ ap (after_first line r (last - (k + 1))) (sym is))
