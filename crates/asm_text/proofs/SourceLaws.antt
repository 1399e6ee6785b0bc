-- The first line of a source.
use Rattle.std.proofs.Common.{◌≡◌, ℕ, suc, ◌+◌, ◌-◌, ◌<◌, Bool, true, false, cond, not, ◌==◌, ◌&&◌, List, [], ◌∷◌, ◌++◌, length, take, drop, get_or, refl, sym, ap, ◌∙◌, inl, inr, eqb-true, arith}
use Rattle.std.specs.List.{list_all, onto_first}
use Rattle.std.proofs.lemmas.List.{take-append-drop, take_all, drop_more}
use Rattle.std.proofs.lemmas.Bool.{and_parts, cases_Bool}
use Rattle.asm_text.specs.Source.{feed_len, lines_of, without_return, starts_feed}
use Rattle.asm_text.proofs.PieceLaws.{first_passes, prefix_all, prefix_stop}

pub line_none : lines_of [] ≡ []
unfolding lines_of
line_none = refl

pub return_none : without_return [] ≡ []
unfolding without_return
return_none = refl

abbrev no_feed : ℕ → Bool
no_feed b = not (b == 10)

other : (b : ℕ) → no_feed b ≡ true → (b == 10) ≡ false
other b h = elim (cases_Bool (b == 10)) [ inl e ↦ let k : not true ≡ true = rw e at h in absurd cc | inr e ↦ e ]

feed : (b : ℕ) → no_feed b ≡ false → b ≡ 10
feed b h = elim (cases_Bool (b == 10)) [ inl e ↦ eqb-true b 10 e | inr e ↦ let k : not false ≡ false = rw e at h in absurd cc ]

line_step : (b : ℕ) (bs : List ℕ) → lines_of (b ∷ bs) ≡ cond (b == 10) ([] ∷ lines_of bs) (cond (b == 13 && starts_feed bs) (lines_of bs) (onto_first b (lines_of bs)))
unfolding lines_of
line_step b bs = refl

plain_step : (b : ℕ) (bs : List ℕ) → no_feed b ≡ true → (b == 13 && starts_feed bs) ≡ false → lines_of (b ∷ bs) ≡ onto_first b (lines_of bs)
plain_step b bs h k = line_step b bs ∙ rw (other b h, k) refl

feed_step : (rest : List ℕ) → lines_of (10 ∷ rest) ≡ [] ∷ lines_of rest
feed_step rest = line_step 10 rest

no_end : (b : ℕ) (bs : List ℕ) → starts_feed bs ≡ false → (b == 13 && starts_feed bs) ≡ false
no_end b bs h = elim (cases_Bool (b == 13)) [ inl e ↦ rw (e, h) refl | inr e ↦ rw e refl ]

-- without an LF it is one line
one_line : (b : ℕ) (bs : List ℕ) → list_all no_feed (b ∷ bs) ≡ true → lines_of (b ∷ bs) ≡ (b ∷ bs) ∷ []
one_line b [] h =
    let k = and_parts (no_feed b) true h in
    plain_step b [] k.0 (no_end b [] refl) ∙ ap (onto_first b) line_none
one_line b (c ∷ bs) h =
    let k = and_parts (no_feed b) (list_all no_feed (c ∷ bs)) h in
    let m = and_parts (no_feed c) (list_all no_feed bs) k.1 in
    plain_step b (c ∷ bs) k.0 (no_end b (c ∷ bs) (other c m.0)) ∙ ap (onto_first b) (one_line c bs k.1)

return_one : (b : ℕ) (t : Bool) → (b == 13) ≡ t → without_return (b ∷ []) ≡ cond t [] (b ∷ [])
unfolding without_return
return_one b t e = rw e refl

return_more : (b c : ℕ) (rest : List ℕ) → without_return (b ∷ c ∷ rest) ≡ b ∷ without_return (c ∷ rest)
unfolding without_return
return_more b c rest = refl

ends_one : (b : ℕ) (rest : List ℕ) (t : Bool) → no_feed b ≡ true → (b == 13) ≡ t → lines_of (b ∷ 10 ∷ rest) ≡ without_return (b ∷ []) ∷ lines_of rest
ends_one b rest true h e = line_step b (10 ∷ rest) ∙ rw (other b h, e) (feed_step rest ∙ ap (λ (l : List ℕ). l ∷ lines_of rest) (sym (return_one b true e)))
ends_one b rest false h e = line_step b (10 ∷ rest) ∙ rw (other b h, e) (ap (onto_first b) (feed_step rest) ∙ ap (λ (l : List ℕ). l ∷ lines_of rest) (sym (return_one b false e)))

-- in front of an LF a line ends
ended : (text rest : List ℕ) → list_all no_feed text ≡ true → lines_of (text ++ 10 ∷ rest) ≡ without_return text ∷ lines_of rest
ended [] rest h = feed_step rest ∙ ap (λ (l : List ℕ). l ∷ lines_of rest) (sym return_none)
ended (b ∷ []) rest h =
    let k = and_parts (no_feed b) true h in
    ends_one b rest (b == 13) k.0 refl
ended (b ∷ c ∷ bs) rest h =
    let k = and_parts (no_feed b) (list_all no_feed (c ∷ bs)) h in
    let m = and_parts (no_feed c) (list_all no_feed bs) k.1 in
    plain_step b ((c ∷ bs) ++ 10 ∷ rest) k.0 (no_end b ((c ∷ bs) ++ 10 ∷ rest) (other c m.0)) ∙ ap (onto_first b) (ended (c ∷ bs) rest k.1)
    ∙ ap (λ (l : List ℕ). l ∷ lines_of rest) (sym (return_more b c bs))

passes_at : (p : ℕ → Bool) (text : List ℕ) (n : ℕ) → n < length text → first_passes p (drop n text) ≡ p (get_or text n 0)
passes_at p text n lt = rw (drop_more text n 0 lt) refl

pub line_more : (text : List ℕ) (n : ℕ) → n ≡ feed_len text → n < length text → lines_of text ≡ without_return (take n text) ∷ lines_of (drop (n + 1) text)
line_more text n is lt =
    let front : list_all no_feed (take n text) ≡ true = rw is (prefix_all no_feed text) in
    let stops : first_passes no_feed (drop n text) ≡ false = rw is (prefix_stop no_feed text) in
    let at : get_or text n 0 ≡ 10 = feed (get_or text n 0) (sym (passes_at no_feed text n lt) ∙ stops) in
    let parts : text ≡ take n text ++ 10 ∷ drop (n + 1) text =
    sym (take-append-drop n text) ∙ ap (λ (t : List ℕ). take n text ++ t) (drop_more text n 0 lt ∙ ap (λ (b : ℕ). b ∷ drop (n + 1) text) at) in
    ap lines_of parts ∙ ended (take n text) (drop (n + 1) text) front

pub line_last : (text : List ℕ) (n : ℕ) → n ≡ feed_len text → n ≡ length text → 0 < length text → lines_of text ≡ text ∷ lines_of (drop n text)
line_last [] n is all some = absurd (omega arith)
line_last (b ∷ bs) n is all some =
    let front : list_all no_feed (take n (b ∷ bs)) ≡ true = rw is (prefix_all no_feed (b ∷ bs)) in
    let none : drop n (b ∷ bs) ≡ [] = rw all (drop_all (b ∷ bs)) in
    one_line b bs (ap (list_all no_feed) (sym (take_all n (b ∷ bs) (omega arith))) ∙ front) ∙ ap (λ (ls : List (List ℕ)). (b ∷ bs) ∷ ls) (sym (ap lines_of none ∙ line_none))
  where
    drop_all : (xs : List ℕ) → drop (length xs) xs ≡ []
    drop_all [] = refl
    drop_all (x ∷ xs) = drop_all xs

-- the CR by its place
pub return_at : (line : List ℕ) → 0 < length line → without_return line ≡ cond (get_or line (length line - 1) 0 == 13) (take (length line - 1) line) line
unfolding without_return
return_at [] some = absurd (omega arith)
return_at (b ∷ []) some = refl
return_at (b ∷ c ∷ rest) some =
    let m : length (b ∷ c ∷ rest) - 1 ≡ suc (length (c ∷ rest) - 1) = omega arith in
    let more = return_at (c ∷ rest) (omega arith) in
    rw m (ap (λ (t : List ℕ). b ∷ t) more ∙ inside (get_or (c ∷ rest) (length (c ∷ rest) - 1) 0 == 13))
  where
    inside : (t : Bool) → b ∷ cond t (take (length (c ∷ rest) - 1) (c ∷ rest)) (c ∷ rest) ≡ cond t (b ∷ take (length (c ∷ rest) - 1) (c ∷ rest)) (b ∷ c ∷ rest)
    inside true = refl
    inside false = refl

pub return_empty : (line : List ℕ) → length line ≡ 0 → line ≡ without_return line
return_empty [] e = sym return_none
return_empty (b ∷ bs) e = absurd (omega arith)

pub line_empty : (text : List ℕ) → length text < 1 → lines_of text ≡ []
line_empty [] lt = line_none
line_empty (b ∷ bs) lt = absurd (omega arith)
