-- One piece more of a text, and one number more of a sum.
use Rattle.std.proofs.Common.{◌≡◌, ◌∙◌, ℕ, suc, ◌+◌, ◌-◌, ◌^◌, ◌<◌, ◌≤◌, List, [], ◌∷◌, ◌++◌, append-nil, append_assoc, length, drop, get_or, flat_map, sym, ap, arith}
use Rattle.std.specs.Prelude.{sum_by}
use Rattle.std.specs.List.{range_with_len}
use Rattle.std.proofs.Math.ListN.{drop_of_length-le}
use Rattle.std.proofs.lemmas.List.{drop_more}
use Rattle.std.proofs.lemmas.List.Concat.{flat_map-cons}
use Rattle.std.proofs.lemmas.List.Sums.{sum_by-cons}
use Rattle.assembler.proofs.PutLaws.{joined}
use Rattle.text_rows.proofs.ColumnLaws.{seven_parts}
use Rattle.walk_counts.specs.Counts.{capped}
use Rattle.walk_counts.proofs.SumLemmas.{capped_more}
use Rattle.text_graph.specs.Stretches.{between}

-- ## Numbers

pub between_more : (n end : ℕ) → n < end → between n end ≡ n ∷ between (n + 1) end
between_more n end lt =
    let is : end - n ≡ suc (end - (n + 1)) = omega arith in
    ap (range_with_len n) is

pub between_none : (n end : ℕ) → end ≤ n → between n end ≡ []
between_none n end le =
    let is : end - n ≡ 0 = omega arith in
    ap (range_with_len n) is

-- ## Texts

pub nine : {m1 m2 m3 m4 m5 m6 m7 m8 new : List ℕ} (old p1 p2 p3 p4 p5 p6 p7 p8 p9 : List ℕ) → m1 ≡ old ++ p1 → m2 ≡ m1 ++ p2 → m3 ≡ m2 ++ p3 → m4 ≡ m3 ++ p4 → m5 ≡ m4 ++ p5 → m6 ≡ m5 ++ p6 → m7 ≡ m6 ++ p7 → m8 ≡ m7 ++ p8 → new ≡ m8 ++ p9 → new ≡ old ++ (p1 ++ (p2 ++ (p3 ++ (p4 ++ (p5 ++ (p6 ++ (p7 ++ (p8 ++ p9))))))))
nine {m1} {m2} {m3} {m4} {m5} {m6} {m7} {m8} {new} old p1 p2 p3 p4 p5 p6 p7 p8 p9 e1 e2 e3 e4 e5 e6 e7 e8 e9 =
    joined old m1 new p1 (p2 ++ (p3 ++ (p4 ++ (p5 ++ (p6 ++ (p7 ++ (p8 ++ p9))))))) e1
    (joined m1 m2 new p2 (p3 ++ (p4 ++ (p5 ++ (p6 ++ (p7 ++ (p8 ++ p9)))))) e2 (seven_parts m2 p3 p4 p5 p6 p7 p8 p9 m3 m4 m5 m6 m7 m8 new e3 e4 e5 e6 e7 e8 e9))

pub ten : {m1 m2 m3 m4 m5 m6 m7 m8 m9 new : List ℕ} (old p1 p2 p3 p4 p5 p6 p7 p8 p9 p10 : List ℕ) → m1 ≡ old ++ p1 → m2 ≡ m1 ++ p2 → m3 ≡ m2 ++ p3 → m4 ≡ m3 ++ p4 → m5 ≡ m4 ++ p5 → m6 ≡ m5 ++ p6 → m7 ≡ m6 ++ p7 → m8 ≡ m7 ++ p8 → m9 ≡ m8 ++ p9 → new ≡ m9 ++ p10 → new ≡ old ++ (p1 ++ (p2 ++ (p3 ++ (p4 ++ (p5 ++ (p6 ++ (p7 ++ (p8 ++ (p9 ++ p10)))))))))
ten {m1} {m2} {m3} {m4} {m5} {m6} {m7} {m8} {m9} {new} old p1 p2 p3 p4 p5 p6 p7 p8 p9 p10 e1 e2 e3 e4 e5 e6 e7 e8 e9 e10 = joined old m1 new p1 (p2 ++ (p3 ++ (p4 ++ (p5 ++ (p6 ++ (p7 ++ (p8 ++ (p9 ++ p10)))))))) e1 (nine m1 p2 p3 p4 p5 p6 p7 p8 p9 p10 e2 e3 e4 e5 e6 e7 e8 e9 e10)

pub piece_more : {X : Type 0} (f : X → List ℕ) (x : X) (rest : List X) (text new all : List ℕ) → text ++ flat_map f (x ∷ rest) ≡ all → new ≡ text ++ f x → new ++ flat_map f rest ≡ all
piece_more f x rest text new all h one =
    ap (λ xs. xs ++ flat_map f rest) one ∙ append_assoc text (f x) (flat_map f rest)
    ∙ ap (λ xs. text ++ xs) (sym (flat_map-cons f x rest)) ∙ h

pub items_end : {X : Type 0} (f : X → List ℕ) (xs : List X) (i : ℕ) (text all : List ℕ) → text ++ flat_map f (drop i xs) ≡ all → length xs ≤ i → text ≡ all
items_end f xs i text all h le =
    sym (append-nil text) ∙ ap (λ ys. text ++ flat_map f ys) (sym (drop_of_length-le xs le)) ∙ h

pub number_more : (f : ℕ → List ℕ) (n end : ℕ) (text new all : List ℕ) → text ++ flat_map f (between n end) ≡ all → n < end → new ≡ text ++ f n → new ++ flat_map f (between (n + 1) end) ≡ all
number_more f n end text new all h lt one =
    piece_more f n (between (n + 1) end) text new all (ap (λ ys. text ++ flat_map f ys) (sym (between_more n end lt)) ∙ h) one

pub numbers_end : (f : ℕ → List ℕ) (n end : ℕ) (text all : List ℕ) → text ++ flat_map f (between n end) ≡ all → end ≤ n → text ≡ all
numbers_end f n end text all h le =
    sym (append-nil text) ∙ ap (λ ys. text ++ flat_map f ys) (sym (between_none n end le)) ∙ h

-- ## Sums

pub sum_more : (f : ℕ → ℕ) (n end sum one new all : ℕ) → capped (sum + sum_by f (between n end)) ≡ all → n < end → one ≡ f n → new ≡ capped (sum + one) → capped (new + sum_by f (between (n + 1) end)) ≡ all
sum_more f n end sum one new all h lt here new_is =
    let rest = sum_by f (between (n + 1) end) in
    let parts : sum_by f (between n end) ≡ f n + rest = ap (sum_by f) (between_more n end lt) ∙ sum_by-cons f n (between (n + 1) end) in
    ap (λ m. capped (m + rest)) new_is ∙ capped_more (2 ^ 64 - 1) sum one rest ∙ ap (λ m. capped (sum + (m + rest))) here ∙ ap (λ m. capped (sum + m)) (sym parts) ∙ h

pub sum_end : (f : ℕ → ℕ) (n end sum all : ℕ) → capped (sum + sum_by f (between n end)) ≡ all → end ≤ n → sum < 2 ^ 64 → sum ≡ all
sum_end f n end sum all h le small =
    let same : sum ≡ capped (sum + 0) = omega arith in
    same ∙ ap (λ ns. capped (sum + sum_by f ns)) (sym (between_none n end le)) ∙ h

-- the same over a list, from an element on
pub item_sum_more : {X : Type 0} (f : X → ℕ) (xs : List X) (i : ℕ) (d : X) (sum one new all : ℕ) → capped (sum + sum_by f (drop i xs)) ≡ all → i < length xs → one ≡ f (get_or xs i d) → new ≡ capped (sum + one) → capped (new + sum_by f (drop (i + 1) xs)) ≡ all
item_sum_more f xs i d sum one new all h lt here new_is =
    let x = get_or xs i d in
    let rest = sum_by f (drop (i + 1) xs) in
    let parts : sum_by f (drop i xs) ≡ f x + rest = ap (sum_by f) (drop_more xs i d lt) ∙ sum_by-cons f x (drop (i + 1) xs) in
    ap (λ m. capped (m + rest)) new_is ∙ capped_more (2 ^ 64 - 1) sum one rest ∙ ap (λ m. capped (sum + (m + rest))) here ∙ ap (λ m. capped (sum + m)) (sym parts) ∙ h

pub item_sum_end : {X : Type 0} (f : X → ℕ) (xs : List X) (i sum all : ℕ) → capped (sum + sum_by f (drop i xs)) ≡ all → length xs ≤ i → sum < 2 ^ 64 → sum ≡ all
item_sum_end f xs i sum all h le small =
    let same : sum ≡ capped (sum + 0) = omega arith in
    same ∙ ap (λ ys. capped (sum + sum_by f ys)) (sym (drop_of_length-le xs le)) ∙ h
