-- Lines that are kept for words that are shown again.
use Rattle.std.proofs.Common.{◌≡◌, ◌∙◌, ℕ, ◌<◌, ◌≤◌, ◌⊎◌, inl, inr, ⊎_elim, List, ◌++◌, Option, Some, None}
use Rattle.std.proofs.Common.{length, take, replicate, sym, ap, subst, arith, get_or, set}
use Rattle.std.specs.Prelude.{unwrap_or}
use Rattle.std.proofs.Math.Seq.{take-append_seam}
use Rattle.std.proofs.lemmas.Bool.{cases_eq, cases_lt}
use Rattle.std.proofs.lemmas.List.{get_or-replicate, get_or-set_other, get_or-set_same, get_or_past}
use Rattle.std.proofs.lemmas.List.{length-replicate, length-set}
use Rattle.std.proofs.lemmas.Option.{none-some}
use Rattle.assembler.specs.ShownLines.{IsShown}
use Rattle.text_trace.specs.Lately.{AreRight, IsRight}
use Rattle.text_trace.specs.declared.shown.ShownLine.{ShownLine}

pub right_of : (word at n : ℕ) (line part rest : List ℕ) → IsShown word at line → part ≡ line
    → n ≡ length line → length line ≤ 64
    → IsRight (record { word = word; at = at; bytes = part ++ rest; len = n })
right_of word at n line part rest shown is len short =
    let whole : take n (part ++ rest) ≡ line =
    ap (λ m. take m (part ++ rest)) (len ∙ ap length (sym is)) ∙ take-append_seam part rest ∙ is in
    record { fits = omega (arith, len, short); shown = subst (IsShown word at) (sym whole) shown }

alike : {A : Type 0} (n place : ℕ) (a : A) → (place < n) ⊎ (n ≤ place) → get_or (replicate n a) place a ≡ a
alike n place a (inl lt) = get_or-replicate n place a a lt
alike n place a (inr past) =
    get_or_past (replicate n a) place a (subst (λ m. m ≤ place) (sym (length-replicate n a)) past)

pub none_right : (n : ℕ) → AreRight (replicate n None)
none_right n place row is = absurd (none-some row (sym (alike n place None (cases_lt place n)) ∙ is))

-- what is put somewhere is there, if anything is
set_there : (rows : List (Option ShownLine)) (n : ℕ) (row other : ShownLine)
    → get_or (set rows n (Some row)) n None ≡ Some other
    → (n < length rows) ⊎ (length rows ≤ n) → row ≡ other
set_there rows n row other is (inl lt) =
    ap (λ o. unwrap_or o row) (sym (get_or-set_same rows n (Some row) None lt) ∙ is)
set_there rows n row other is (inr past) = absurd (none-some other
    (sym (get_or_past (set rows n (Some row)) n None
    (subst (λ m. m ≤ n) (sym (length-set rows n (Some row))) past)) ∙ is))

pub set_right : (rows : List (Option ShownLine)) (n : ℕ) (row : ShownLine) → AreRight rows → IsRight row
    → AreRight (set rows n (Some row))
set_right rows n row known right place other is = ⊎_elim
    (λ (here : place ≡ n).
    let there : get_or (set rows n (Some row)) n None ≡ Some other =
    ap (λ m. get_or (set rows n (Some row)) m None) (sym here) ∙ is in
    subst IsRight (set_there rows n row other there (cases_lt n (length rows))) right)
    (λ (away : place ≡ n → ⊥).
    known place other (sym (get_or-set_other rows n place (Some row) None away) ∙ is))
    (cases_eq place n)
