-- Program headers that are read one after another.
use Rattle.std.proofs.Common.{◌≡◌, ◌∙◌, ℕ, suc, ◌*◌, ◌≤◌, Bool, true, false, List, [], ◌∷◌, ◌++◌, cond, drop, filter, length, refl, sym, ap, subst, arith, append_assoc}
use Rattle.std.proofs.lemmas.List.{length-drop}
use Rattle.imports.specs.Elf.{is_loaded, segment_in, segments_in}
use Rattle.imports.specs.declared.elf.Segment.{Segment}

-- so many headers are left, at the front of this rest, and these segments were found before
pub record Reads (count : ℕ) (table : List ℕ) (left : ℕ) (rest : List ℕ) (found : List Segment) : Type 0 where
  pub enough : 32 * left ≤ length rest
  pub so_far : found ++ filter is_loaded (segments_in left rest) ≡ filter is_loaded (segments_in count table)

apart : (s : Segment) (more : List Segment) → filter is_loaded (s ∷ more) ≡ filter is_loaded (s ∷ []) ++ filter is_loaded more
apart s more = kept (is_loaded s)
  where
    kept : (b : Bool) → cond b (s ∷ filter is_loaded more) (filter is_loaded more) ≡ cond b (s ∷ []) [] ++ filter is_loaded more
    kept true = refl
    kept false = refl

-- after one header more
pub reads_more : (count : ℕ) (table : List ℕ) (left : ℕ) (rest : List ℕ) (found : List Segment) → Reads count table left rest found → (after : ℕ) → left ≡ suc after
    → (behind : List ℕ) → behind ≡ drop 32 rest → (more : List Segment) → more ≡ found ++ filter is_loaded (segment_in rest ∷ []) → Reads count table after behind more
reads_more count table left rest found reads after one behind at more is =
    let tail = filter is_loaded (segments_in after (drop 32 rest)) in
    record {
      enough = subst (λ (xs : List ℕ). 32 * after ≤ length xs) (sym at) (let known = length-drop 32 rest in let before = reads.enough in omega (arith, known, before, one));
      so_far =
          ap (λ (xs : List Segment). xs ++ filter is_loaded (segments_in after behind)) is
          ∙ ap (λ (xs : List ℕ). (found ++ filter is_loaded (segment_in rest ∷ [])) ++ filter is_loaded (segments_in after xs)) at
          ∙ append_assoc found (filter is_loaded (segment_in rest ∷ [])) tail
          ∙ ap (λ (xs : List Segment). found ++ xs) (sym (apart (segment_in rest) (segments_in after (drop 32 rest))))
          ∙ ap (λ (n : ℕ). found ++ filter is_loaded (segments_in n rest)) (sym one)
          ∙ reads.so_far;
    }
