-- Words joined by a byte that they lack.
use Rattle.std.proofs.Common.{◌≡◌, ◌∙◌, ℕ, List, [], ◌∷◌, ◌++◌, map, refl, sym, ap, ap₂, subst, append_assoc, append-nil}
use Rattle.std.specs.List.{flat_map, join_with_byte, AllByRecursion}
use Rattle.std.specs.Str.Iter.{LacksByte}
use Rattle.certificate.proofs.CutLaws.{Lacks-middle, one_cut}

-- words, each with the byte after it
abbrev pub marked : ℕ → List (List ℕ) → List ℕ
marked mark ws = flat_map (λ w. w ++ mark ∷ []) ws

pub join_end : (mark : ℕ) (ws : List (List ℕ)) (w : List ℕ) → join_with_byte mark (ws ++ w ∷ []) ≡ marked mark ws ++ w
join_end mark [] w = refl
join_end mark (v ∷ []) w = sym (append_assoc v (mark ∷ []) w) ∙ ap (λ (x : List ℕ). x ++ w) (sym (single v))
  where
    single : (v : List ℕ) → marked mark (v ∷ []) ≡ v ++ mark ∷ []
    single v = append-nil (v ++ mark ∷ [])
join_end mark (v ∷ u ∷ ws) w =
    ap (λ (x : List ℕ). v ++ mark ∷ x) (join_end mark (u ∷ ws) w) ∙ sym (append_assoc (v ++ mark ∷ []) (marked mark (u ∷ ws)) w ∙ append_assoc v (mark ∷ []) (marked mark (u ∷ ws) ++ w))

-- without the byte there is one word
pub join_whole : (mark : ℕ) (w : List ℕ) (ws : List (List ℕ)) → LacksByte mark (join_with_byte mark (w ∷ ws)) → ws ≡ []
join_whole mark w [] lacks = refl
join_whole mark w (v ∷ ws) lacks = absurd (Lacks-middle mark w (join_with_byte mark (v ∷ ws)) lacks)

-- what a cut at the first such byte yields
pub record Cut (mark : ℕ) (w : List ℕ) (ws : List (List ℕ)) (first after : List ℕ) : Type 0 where
  pub first_is : first ≡ w
  pub next : List ℕ
  pub rest : List (List ℕ)
  pub words_are : ws ≡ next ∷ rest
  pub after_is : after ≡ join_with_byte mark (next ∷ rest)

pub join_cut : (mark : ℕ) (w : List ℕ) (ws : List (List ℕ)) (first after : List ℕ) → LacksByte mark w → LacksByte mark first
    → join_with_byte mark (w ∷ ws) ≡ first ++ mark ∷ after → Cut mark w ws first after
join_cut mark w [] first after lacks_w lacks e = absurd (Lacks-middle mark first after (subst (LacksByte mark) e lacks_w))
join_cut mark w (v ∷ ws) first after lacks_w lacks e =
    let cut = one_cut mark w first (join_with_byte mark (v ∷ ws)) after lacks_w lacks e in
    record { first_is = sym cut.0; next = v; rest = ws; words_are = refl; after_is = sym cut.1 }

-- joined words are joined in one way
pub one_join : (mark : ℕ) (w v : List ℕ) (ws vs : List (List ℕ)) → AllByRecursion (LacksByte mark) (w ∷ ws) → AllByRecursion (LacksByte mark) (v ∷ vs)
    → join_with_byte mark (w ∷ ws) ≡ join_with_byte mark (v ∷ vs) → w ∷ ws ≡ v ∷ vs
one_join mark w v [] [] a b e = ap (λ (x : List ℕ). x ∷ []) e
one_join mark w v [] (u ∷ vs) a b e = absurd (Lacks-middle mark v (join_with_byte mark (u ∷ vs)) (subst (LacksByte mark) e a.0))
one_join mark w v (u ∷ ws) [] a b e = absurd (Lacks-middle mark w (join_with_byte mark (u ∷ ws)) (subst (LacksByte mark) (sym e) b.0))
one_join mark w v (u ∷ ws) (t ∷ vs) a b e =
    let cut = one_cut mark w v (join_with_byte mark (u ∷ ws)) (join_with_byte mark (t ∷ vs)) a.0 b.0 e in
    ap₂ (λ (x : List ℕ) (xs : List (List ℕ)). x ∷ xs) cut.0 (one_join mark u t ws vs a.1 b.1 cut.1)

module _ {A : Type 0} (Fits : A → Type 0) (spell : A → List ℕ) (one : (a b : A) → Fits a → Fits b → spell a ≡ spell b → a ≡ b) where
  -- lists whose items are spelled in one way each
  pub map_one : (xs ys : List A) → AllByRecursion Fits xs → AllByRecursion Fits ys → map spell xs ≡ map spell ys → xs ≡ ys
  map_one [] [] f g e = refl
  map_one [] (y ∷ ys) f g e = absurd (cc e)
  map_one (x ∷ xs) [] f g e = absurd (cc e)
  map_one (x ∷ xs) (y ∷ ys) f g e =
      let head : spell x ≡ spell y = cc in
      let tail : map spell xs ≡ map spell ys = cc in
      ap₂ (λ (z : A) (zs : List A). z ∷ zs) (one x y f.0 g.0 head) (map_one xs ys f.1 g.1 tail)
