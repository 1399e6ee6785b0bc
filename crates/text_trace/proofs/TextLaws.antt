-- The texts that are put together.
use Rattle.std.proofs.Common.{◌≡◌, ◌∙◌, ℕ, List, ◌++◌, Result, Ok, Err, OnOk, ap, append_assoc}

-- what four calls add, one after the other
pub four_done : {T E : Type 0} (r : Result T E) (o a b c d o1 o2 o3 o4 : List ℕ) → o1 ≡ o ++ a → o2 ≡ o1 ++ b
    → o3 ≡ o2 ++ c → OnOk r (o4 ≡ o3 ++ d)
    → OnOk r (o4 ≡ o ++ (a ++ (b ++ (c ++ d))))
four_done (Ok x) o a b c d o1 o2 o3 o4 one two three four =
    four ∙ ap (λ (t : List ℕ). t ++ d)
    (three ∙ ap (λ (t : List ℕ). t ++ c) (two ∙ ap (λ (t : List ℕ). t ++ b) one))
    ∙ append_assoc ((o ++ a) ++ b) c d ∙ append_assoc (o ++ a) b (c ++ d) ∙ append_assoc o a (b ++ (c ++ d))
four_done (Err e) o a b c d o1 o2 o3 o4 one two three four = tt
