-- A text to which five others are added, one after another.
use Rattle.std.proofs.Common.{◌≡◌, ◌∙◌, ◌++◌, ℕ, List, sym, ap}
use Rattle.std.proofs.lemmas.List.{append_assoc}

pub one_more : (out one two front last : List ℕ) → front ≡ out ++ one → last ≡ front ++ two → last ≡ out ++ (one ++ two)
one_more out one two front last is next = next ∙ ap (λ (text : List ℕ). text ++ two) is ∙ append_assoc out one two

-- the same, from the last one on
pub five_more : (out one two three four five a b c d e : List ℕ) → a ≡ out ++ one → b ≡ a ++ two → c ≡ b ++ three → d ≡ c ++ four → e ≡ d ++ five → e ≡ out ++ (one ++ (two ++ (three ++ (four ++ five))))
five_more out one two three four five a b c d e p q r s t =
    one_more out one (two ++ (three ++ (four ++ five))) a e p
    (one_more a two (three ++ (four ++ five)) b e q
    (one_more b three (four ++ five) c e r
    (one_more c four five d e s t)))
