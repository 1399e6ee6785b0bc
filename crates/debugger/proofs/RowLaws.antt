-- The words of a span and their rows.
use Rattle.std.proofs.Common.{◌≡◌, ◌∙◌, ℕ, ◌+◌, ◌*◌, List, [], ◌∷◌, ◌++◌, length, Some, refl, sym, ap}
use Rattle.std.proofs.Common.{append_assoc, subst, arith}
use Rattle.std.proofs.lemmas.List.{append-nil}
use Rattle.memc.specs.Memory.{Memory}
use Rattle.asm_text.specs.Appended.{Appends}
use Rattle.debugger.specs.declared.rows.Row.{Row}
use Rattle.debugger.specs.Answers.{AreSeen, IsRowOf, Rows, seen}

-- a word more
pub seen_more : (m : Memory) (a : ℕ) (words : List ℕ) (word : ℕ) → AreSeen m a words
    → seen m (a + 4 * length words) ≡ Some word → AreSeen m a (words ++ word ∷ [])
seen_more m a [] word are is = let here : a + 4 * 0 ≡ a = omega arith in (sym (ap (seen m) here) ∙ is, tt)
seen_more m a (w ∷ ws) word are is =
    let here : a + 4 * length (w ∷ ws) ≡ a + 4 + 4 * length ws = omega arith in
    (are.0, seen_more m (a + 4) ws word are.1 (sym (ap (seen m) here) ∙ is))

-- ## Rows

abbrev pub RowsSoFar : Row → (address : ℕ) → (words : List ℕ) → (at : ℕ) → (left : List ℕ) → (text : List ℕ)
    → Type 0
RowsSoFar row address words at left text =
    (more : List ℕ) → Rows (IsRowOf row) at left more → Rows (IsRowOf row) address words (text ++ more)

pub rows_end : (row : Row) (address : ℕ) (words : List ℕ) (at : ℕ) (left old new : List ℕ)
    → Appends (RowsSoFar row address words at left) old new → left ≡ []
    → Appends (Rows (IsRowOf row) address words) old new
rows_end row address words at left old new adds none =
    let last = adds.1 [] (subst (λ (ws : List ℕ). Rows (IsRowOf row) at ws []) (sym none) refl) in
    (adds.0, subst (Rows (IsRowOf row) address words) (append-nil adds.0) last, adds.2)

pub rows_more : (row : Row) (address : ℕ) (words : List ℕ) (at word : ℕ) (left rest old mid new : List ℕ)
    → left ≡ word ∷ rest
    → Appends (RowsSoFar row address words at left) old mid → Appends (IsRowOf row at word) mid new
    → Appends (RowsSoFar row address words (at + 4) rest) old new
rows_more row address words at word left rest old mid new at_hand adds line =
    let on : RowsSoFar row address words (at + 4) rest (adds.0 ++ line.0) = λ more rows.
    let here : Rows (IsRowOf row) at left (line.0 ++ more) =
    subst (λ (ws : List ℕ). Rows (IsRowOf row) at ws (line.0 ++ more)) (sym at_hand)
    (line.0, line.1, more, rows, refl) in
    subst (Rows (IsRowOf row) address words) (sym (append_assoc adds.0 line.0 more))
    (adds.1 (line.0 ++ more) here) in
    (adds.0 ++ line.0, on, line.2 ∙ ap (λ (t : List ℕ). t ++ line.0) adds.2 ∙ append_assoc old adds.0 line.0)
