-- What escaped text has.
use Rattle.std.proofs.Common.{◌≡◌, ℕ, Bool, true, false, List, [], ◌∷◌, refl, inl, inr, arith}
use Rattle.std.specs.Prelude.{◌==◌, ◌&&◌, ◌||◌, not, nat_le, if◌then◌else◌}
use Rattle.std.specs.List.{list_all}
use Rattle.assembler.proofs.PutLaws.{all_append}
use Rattle.text_page.specs.Html.{IsPiece, escape, escaped, is_no_bracket}

-- what holds of both holds of the one that is chosen
choose : (P : List ℕ → Type 0) (b : Bool) (x y : List ℕ) → (b ≡ true → P x) → (b ≡ false → P y) → P (if b then x else y)
choose P true x y first second = first refl
choose P false x y first second = second refl

-- a byte is none of the marks
no_mark : (b : ℕ) → (b == 38) ≡ false → (b == 60) ≡ false → (b == 62) ≡ false → (b == 34) ≡ false → (b == 39) ≡ false → (is_no_bracket b && not (b == 38)) ≡ true
no_mark b amp less more double single = λ i. (not (less i || more i) && not (double i || single i)) && not (amp i)

no_bracket : (b : ℕ) → (b == 60) ≡ false → (b == 62) ≡ false → (b == 34) ≡ false → (b == 39) ≡ false → (is_no_bracket b && true) ≡ true
no_bracket b less more double single = λ i. (not (less i || more i) && not (double i || single i)) && true

pub piece : (b : ℕ) → IsPiece (escape b)
piece b =
    choose IsPiece (b == 38) _ _ (λ is. inr (0, omega arith, refl)) (λ amp.
    choose IsPiece (b == 60) _ _ (λ is. inr (1, omega arith, refl)) (λ less.
    choose IsPiece (b == 62) _ _ (λ is. inr (2, omega arith, refl)) (λ more.
    choose IsPiece (b == 34) _ _ (λ is. inr (3, omega arith, refl)) (λ double.
    choose IsPiece (b == 39) _ _ (λ is. inr (4, omega arith, refl)) (λ single.
    choose IsPiece (b == 9 || nat_le 32 b && nat_le b 126) _ _ (λ is. inl (b, refl, no_mark b amp less more double single)) (λ other. inr (5, omega arith, refl)))))))

abbrev Clean : List ℕ → Type 0
Clean text = list_all is_no_bracket text ≡ true

clean_byte : (b : ℕ) → Clean (escape b)
clean_byte b =
    choose Clean (b == 38) _ _ (λ is. refl) (λ amp.
    choose Clean (b == 60) _ _ (λ is. refl) (λ less.
    choose Clean (b == 62) _ _ (λ is. refl) (λ more.
    choose Clean (b == 34) _ _ (λ is. refl) (λ double.
    choose Clean (b == 39) _ _ (λ is. refl) (λ single.
    choose Clean (b == 9 || nat_le 32 b && nat_le b 126) _ _ (λ is. no_bracket b less more double single) (λ other. refl))))))

pub clean : (text : List ℕ) → list_all is_no_bracket (escaped text) ≡ true
clean [] = refl
clean (b ∷ text) = all_append is_no_bracket (escape b) (escaped text) (clean_byte b) (clean text)
