-- One word more.
use Rattle.std.proofs.Common.{◌≡◌, ◌∙◌, ℕ, suc, ◌+◌, ◌^◌, ◌<◌, Bool, true, false, cond, ◌||◌, List, [], ◌∷◌, Option, Some, None, refl, sym, ap, arith}
use Rattle.std.specs.List.{list_any}
use Rattle.std.specs.Prelude.{find, is_some, sum_by}
use Rattle.std.proofs.lemmas.List.Sums.{sum_by-cons}
use Rattle.assembler.specs.Assembles.{addresses_from}
use Rattle.walk_counts.specs.Counts.{capped}

-- the first of so many words that passes a test
module _ (test : ℕ → Bool) (at left after : ℕ) (here : Bool) (all : Option ℕ) (one_more : left ≡ suc after) (rest : find test (addresses_from at left) ≡ all) (is : here ≡ test at) where
  opened : cond (test at) (Some at) (find test (addresses_from (at + 4) after)) ≡ all
  opened = ap (λ n. find test (addresses_from at n)) (sym one_more) ∙ rest

  pub found_more : here ≡ false → find test (addresses_from (at + 4) after) ≡ all
  found_more none = ap (λ b. cond b (Some at) (find test (addresses_from (at + 4) after))) (sym none ∙ is) ∙ opened

  pub found_here : here ≡ true → Some at ≡ all
  found_here passes = ap (λ b. cond b (Some at) (find test (addresses_from (at + 4) after))) (sym passes ∙ is) ∙ opened

pub found_end : (test : ℕ → Bool) (at left : ℕ) (all : Option ℕ) → left ≡ 0 → find test (addresses_from at left) ≡ all → None ≡ all
found_end test at left all none h = ap (λ n. find test (addresses_from at n)) (sym none) ∙ h

-- one passes where the first that does is found
found_first : (test : ℕ → Bool) (x : ℕ) (xs : List ℕ) (b : Bool) → test x ≡ b → is_some (find test xs) ≡ list_any test xs → is_some (find test (x ∷ xs)) ≡ list_any test (x ∷ xs)
found_first test x xs true is rest = ap (λ c. is_some (cond c (Some x) (find test xs))) is ∙ sym (ap (λ c. c || list_any test xs) is)
found_first test x xs false is rest = ap (λ c. is_some (cond c (Some x) (find test xs))) is ∙ rest ∙ sym (ap (λ c. c || list_any test xs) is)

pub some_found : (test : ℕ → Bool) (xs : List ℕ) → is_some (find test xs) ≡ list_any test xs
some_found test [] = refl
some_found test (x ∷ xs) = found_first test x xs (test x) refl (some_found test xs)

pub ticks_more : (f : ℕ → ℕ) (at left after ticks one new all : ℕ) → left ≡ suc after → capped (ticks + sum_by f (addresses_from at left)) ≡ all
    → one ≡ f at → new ≡ capped (ticks + one) → capped (new + sum_by f (addresses_from (at + 4) after)) ≡ all
ticks_more f at left after ticks one new all is h here sum_is =
    let rest = sum_by f (addresses_from (at + 4) after) in
    let parts : sum_by f (addresses_from at left) ≡ f at + rest = ap (λ n. sum_by f (addresses_from at n)) is ∙ sum_by-cons f at (addresses_from (at + 4) after) in
    let step : capped (new + rest) ≡ capped (ticks + (one + rest)) = ap (λ n. capped (n + rest)) sum_is ∙ omega arith in
    step ∙ ap (λ n. capped (ticks + (n + rest))) here ∙ ap (λ n. capped (ticks + n)) (sym parts) ∙ h

pub ticks_end : (f : ℕ → ℕ) (at left ticks all : ℕ) → left ≡ 0 → ticks < 2 ^ 64 → capped (ticks + sum_by f (addresses_from at left)) ≡ all → ticks ≡ all
ticks_end f at left ticks all none small h =
    let same : ticks ≡ capped (ticks + 0) = omega arith in
    same ∙ ap (λ n. capped (ticks + sum_by f (addresses_from at n))) (sym none) ∙ h
