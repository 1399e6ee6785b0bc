-- Texts put in columns, and parts of a text put one after another.
use Rattle.std.proofs.Common.{◌≡◌, ◌∙◌, ℕ, ◌+◌, ◌-◌, ◌<◌, ◌≤◌, List, ◌∷◌, ◌++◌, length, take, drop, get_or, replicate, ap, sym, append_assoc, arith}
use Rattle.std.specs.List.{flat_map}
use Rattle.std.proofs.lemmas.List.{drop_more, take-replicate}
use Rattle.text_rows.specs.Columns.{in_columns}

pub right : (width blanks : ℕ) (text old mid new : List ℕ) → width ≤ 36 → blanks ≡ width - length text → mid ≡ old ++ take blanks (replicate 36 32) → new ≡ mid ++ text → new ≡ old ++ in_columns width text
right width blanks text old mid new fits is front back =
    let few : blanks ≤ 36 = omega arith in
    let some : take blanks (replicate 36 32) ≡ replicate (width - length text) 32 = take-replicate blanks 36 32 few ∙ ap (λ n. replicate n 32) is in
    back ∙ ap (λ xs. xs ++ text) (front ∙ ap (λ xs. old ++ xs) some) ∙ append_assoc old (replicate (width - length text) 32) text

pub four_parts : (old p1 p2 p3 p4 a b c new : List ℕ) → a ≡ old ++ p1 → b ≡ a ++ p2 → c ≡ b ++ p3 → new ≡ c ++ p4 → new ≡ old ++ (p1 ++ (p2 ++ (p3 ++ p4)))
four_parts old p1 p2 p3 p4 a b c new ia ib ic inew =
    inew ∙ ap (λ xs. xs ++ p4) (ic ∙ ap (λ xs. xs ++ p3) (ib ∙ ap (λ xs. xs ++ p2) ia)) ∙ simp append_assoc

pub five_parts : (old p1 p2 p3 p4 p5 a b c d new : List ℕ) → a ≡ old ++ p1 → b ≡ a ++ p2 → c ≡ b ++ p3 → d ≡ c ++ p4 → new ≡ d ++ p5 → new ≡ old ++ (p1 ++ (p2 ++ (p3 ++ (p4 ++ p5))))
five_parts old p1 p2 p3 p4 p5 a b c d new ia ib ic id inew =
    inew ∙ ap (λ xs. xs ++ p5) (id ∙ ap (λ xs. xs ++ p4) (ic ∙ ap (λ xs. xs ++ p3) (ib ∙ ap (λ xs. xs ++ p2) ia))) ∙ simp append_assoc

pub seven_parts : (old p1 p2 p3 p4 p5 p6 p7 a b c d e f new : List ℕ) → a ≡ old ++ p1 → b ≡ a ++ p2 → c ≡ b ++ p3 → d ≡ c ++ p4 → e ≡ d ++ p5 → f ≡ e ++ p6 → new ≡ f ++ p7
    → new ≡ old ++ (p1 ++ (p2 ++ (p3 ++ (p4 ++ (p5 ++ (p6 ++ p7))))))
seven_parts old p1 p2 p3 p4 p5 p6 p7 a b c d e f new ia ib ic id ie jf inew =
    inew ∙ ap (λ xs. xs ++ p7) (jf ∙ ap (λ xs. xs ++ p6) (ie ∙ ap (λ xs. xs ++ p5) (id ∙ ap (λ xs. xs ++ p4) (ic ∙ ap (λ xs. xs ++ p3) (ib ∙ ap (λ xs. xs ++ p2) ia)))))
    ∙ simp append_assoc

-- the texts of one element more of a list
pub item_more : {X : Type 0} (f : X → List ℕ) (xs : List X) (i : ℕ) (d : X) (old new all : List ℕ)
    → old ++ flat_map f (drop i xs) ≡ all → i < length xs → new ≡ old ++ f (get_or xs i d)
    → new ++ flat_map f (drop (i + 1) xs) ≡ all
item_more f xs i d old new all h lt more =
    let x = get_or xs i d in
    let left : drop i xs ≡ x ∷ drop (i + 1) xs = drop_more xs i d lt in
    let rest = flat_map f (drop (i + 1) xs) in
    ap (λ t. t ++ rest) more ∙ append_assoc old (f x) rest ∙ ap (λ ys. old ++ flat_map f ys) (sym left) ∙ h
