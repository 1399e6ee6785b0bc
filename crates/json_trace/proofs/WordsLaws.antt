-- The words of a list, one by one.
use Rattle.std.proofs.Common.{◌≡◌, ◌∙◌, ℕ, zero, suc, ◌+◌, List, [], ◌∷◌, length, drop, sym, ap, arith}
use Rattle.std.specs.Prelude.{slice_index}
use Rattle.std.proofs.lemmas.List.{drop_more}
use Rattle.std.proofs.Math.ListN.{drop_of_length-le}

-- so many words, from one on
abbrev pub reads : List ℕ → (from n : ℕ) → List ℕ
reads words from zero = []
reads words from (suc n) = slice_index words from ∷ reads words (from + 1) n

reads_rest : (words : List ℕ) (from n : ℕ) → from + n ≡ length words → reads words from n ≡ drop from words
reads_rest words from zero all = sym (drop_of_length-le words (omega (arith, all)))
reads_rest words from (suc n) all =
    ap (λ (rest : List ℕ). slice_index words from ∷ rest) (reads_rest words (from + 1) n (omega (arith, all)))
    ∙ sym (drop_more words from 0 (omega (arith, all)))

pub reads_all : (words : List ℕ) → length words ≡ 27 → reads words 0 27 ≡ words
reads_all words all = reads_rest words 0 27 (sym all)
