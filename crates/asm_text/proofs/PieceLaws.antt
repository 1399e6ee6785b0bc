-- The pieces of a text, from left to right.
use Rattle.std.proofs.Common.{◌≡◌, ℕ, suc, ◌+◌, ◌<◌, ◌≤◌, Bool, true, false, ◌==◌, List, [], ◌∷◌, ◌++◌, length, take, drop, refl, sym, ap, ◌∙◌, inl, inr, ◌⊎◌, arith}
use Rattle.std.specs.List.{prefix_len, list_all}
use Rattle.std.proofs.Common.{length-take, length-drop, eqb-true}
use Rattle.std.proofs.lemmas.List.{take-append-drop, take_all}
use Rattle.std.proofs.lemmas.Bool.{cases_lt, cases_Bool}
use Rattle.std.proofs.lemmas.List.Sums.{prefix_len-le-length}
use Rattle.std.proofs.lemmas.Bool.{and_parts}
use Rattle.std.proofs.lemmas.Bool.Decides.{nat_tests}
use Rattle.std.specs.Prelude.{◌≢◌, Option, Some, None, MatchOption}
use Rattle.std.specs.Borrow.{Bor}
use Rattle.std.specs.Global.{Vec}
use Rattle.std.specs.Prelude.{Result, Ok, Err, IfOk, map}
use Rattle.std.proofs.Common.{get_or}
use Rattle.asm_text.specs.declared.token.Mark.{Mark}
use Rattle.asm_text.specs.declared.token.Token.{Token}
use Rattle.asm_text.specs.Pieces.{piece_of, Piece, Run, Comma, Sign, Gap, is_blank, is_name, first_blank, name_before, gap_before, without_gap, byte_before, mark_of, pieces}
use Rattle.asm_text.specs.Lines.{IsBlanks, Written, starts_run, starts_gap, may_follow_gap, WellSpaced}

-- ## One byte

pub at_blank : (b : ℕ) (ps : List Piece) → is_blank b ≡ true → byte_before b ps ≡ gap_before ps
at_blank b ps h = rw h refl

pub name_no_blank : (b : ℕ) → is_name b ≡ true → is_blank b ≡ false
name_no_blank b h = grind (arith, nat_tests)

pub at_name : (b : ℕ) (ps : List Piece) → is_name b ≡ true → byte_before b ps ≡ name_before b ps
at_name b ps h = let k = name_no_blank b h in rw (k, h) refl

pub at_sign : (b : ℕ) (ps : List Piece) → is_blank b ≡ false → is_name b ≡ false → (b == 44) ≡ false → byte_before b ps ≡ Sign (mark_of b) ∷ ps
at_sign b ps h k l = rw (h, k, l) refl

-- ## What comes first

pub first_no_gap : (bs : List ℕ) → first_blank bs ≡ false → starts_gap (pieces bs) ≡ false
unfolding pieces
first_no_gap [] h = refl
first_no_gap (b ∷ bs) h =
    elim (cases_Bool (is_name b)) [
      | inl n ↦ rw (at_name b (pieces bs) n) (name_first b (pieces bs))
      | inr n ↦ elim (cases_Bool (b == 44)) [
        | inl k ↦ rw (h, n, k) refl
        | inr k ↦ rw (h, n, k) refl
      ]
    ]
  where
    name_first : (b : ℕ) (ps : List Piece) → starts_gap (name_before b ps) ≡ false
    name_first b (Run r ∷ ps) = refl
    name_first b ps = refl

abbrev pub first_name : List ℕ → Bool
first_name [] = false
first_name (b ∷ bs) = is_name b

gap_no_run : (ps : List Piece) → starts_run (gap_before ps) ≡ false
gap_no_run (Run r ∷ ps) = refl
gap_no_run ps = refl

pub first_no_run : (bs : List ℕ) → first_name bs ≡ false → starts_run (pieces bs) ≡ false
unfolding pieces
first_no_run [] h = refl
first_no_run (b ∷ bs) h =
    elim (cases_Bool (is_blank b)) [
      | inl k ↦ rw (at_blank b (pieces bs) k) (gap_no_run (pieces bs))
      | inr k ↦ elim (cases_Bool (b == 44)) [
        | inl e ↦ rw (k, h, e) refl
        | inr e ↦ rw (k, h, e) refl
      ]
    ]

gap_again : (ps : List Piece) → gap_before (gap_before ps) ≡ gap_before ps
gap_again (Run r ∷ ps) = refl
gap_again ps = refl

-- ## Runs of bytes

-- a gap, however long
pub pieces-gap : (gap rest : List ℕ) → IsBlanks gap → 0 < length gap → pieces (gap ++ rest) ≡ gap_before (pieces rest)
unfolding pieces
pieces-gap [] rest h lt = absurd (omega arith)
pieces-gap (b ∷ []) rest h lt = at_blank b (pieces rest) (and_parts (is_blank b) true h).0
pieces-gap (b ∷ c ∷ gap) rest h lt =
    let k = and_parts (is_blank b) (list_all is_blank (c ∷ gap)) h in
    at_blank b (pieces ((c ∷ gap) ++ rest)) k.0 ∙ ap gap_before (pieces-gap (c ∷ gap) rest k.1 (omega arith)) ∙ gap_again (pieces rest)

name_joins : (b : ℕ) (ps : List Piece) → starts_run ps ≡ false → name_before b ps ≡ Run (b ∷ []) ∷ ps
name_joins b (Run r ∷ ps) h = absurd cc
name_joins b ps h = refl

pub pieces-run : (r rest : List ℕ) → list_all is_name r ≡ true → 0 < length r → starts_run (pieces rest) ≡ false → pieces (r ++ rest) ≡ Run r ∷ pieces rest
unfolding pieces
pieces-run [] rest h lt ends = absurd (omega arith)
pieces-run (b ∷ []) rest h lt ends = at_name b (pieces rest) (and_parts (is_name b) true h).0 ∙ name_joins b (pieces rest) ends
pieces-run (b ∷ c ∷ r) rest h lt ends =
    let k = and_parts (is_name b) (list_all is_name (c ∷ r)) h in
    at_name b (pieces ((c ∷ r) ++ rest)) k.0 ∙ ap (name_before b) (pieces-run (c ∷ r) rest k.1 (omega arith) ends)

pub pieces-blanks : (text : List ℕ) → IsBlanks text → pieces text ≡ []
unfolding pieces
pieces-blanks [] h = refl
pieces-blanks (b ∷ bs) h =
    let k = and_parts (is_blank b) (list_all is_blank bs) h in
    at_blank b (pieces bs) k.0 ∙ ap gap_before (pieces-blanks bs k.1)

no_gap_gone : (ps : List Piece) → starts_gap ps ≡ false → without_gap ps ≡ ps
no_gap_gone (Gap ∷ ps) h = absurd cc
no_gap_gone ps h = refl

gap_gone : (ps : List Piece) → starts_gap ps ≡ false → without_gap (gap_before ps) ≡ ps
gap_gone (Gap ∷ ps) h = absurd cc
gap_gone ps h = refl

pub after_comma : (after rest : List ℕ) → IsBlanks after → starts_gap (pieces rest) ≡ false → without_gap (pieces (after ++ rest)) ≡ pieces rest
after_comma [] rest h ends = no_gap_gone (pieces rest) ends
after_comma (b ∷ after) rest h ends = ap without_gap (pieces-gap (b ∷ after) rest h (omega arith)) ∙ gap_gone (pieces rest) ends

pub before_comma : (before rest : List ℕ) (ps : List Piece) → IsBlanks before → pieces rest ≡ Comma ∷ ps → pieces (before ++ rest) ≡ Comma ∷ ps
before_comma [] rest ps h e = e
before_comma (b ∷ before) rest ps h e = pieces-gap (b ∷ before) rest h (omega arith) ∙ ap gap_before e

before_solid : (ps : List Piece) → may_follow_gap ps ≡ true → gap_before ps ≡ Gap ∷ ps
before_solid [] h = absurd cc
before_solid (Run r ∷ ps) h = refl
before_solid (Comma ∷ ps) h = absurd cc
before_solid (Sign c ∷ ps) h = refl
before_solid (Gap ∷ ps) h = absurd cc

pub comma_step : (bs : List ℕ) → pieces (44 ∷ bs) ≡ Comma ∷ without_gap (pieces bs)
unfolding pieces
comma_step bs = refl

pub sign_step : (b : ℕ) (bs : List ℕ) → is_blank b ≡ false → is_name b ≡ false → (b == 44) ≡ false → pieces (b ∷ bs) ≡ Sign (mark_of b) ∷ pieces bs
unfolding pieces
sign_step b bs h k l = at_sign b (pieces bs) h k l

-- ## By the longest front

abbrev pub first_passes : (ℕ → Bool) → List ℕ → Bool
first_passes p [] = false
first_passes p (b ∷ bs) = p b

pub prefix_all : (p : ℕ → Bool) (text : List ℕ) → list_all p (take (prefix_len p text) text) ≡ true
prefix_all p [] = refl
prefix_all p (b ∷ bs) = elim (cases_Bool (p b)) [ inl h ↦ let m : 1 + prefix_len p bs ≡ suc (prefix_len p bs) = omega arith in rw (h, m, h) (prefix_all p bs) | inr h ↦ rw h refl ]

pub prefix_stop : (p : ℕ → Bool) (text : List ℕ) → first_passes p (drop (prefix_len p text) text) ≡ false
prefix_stop p [] = refl
prefix_stop p (b ∷ bs) = elim (cases_Bool (p b)) [ inl h ↦ let m : 1 + prefix_len p bs ≡ suc (prefix_len p bs) = omega arith in rw (h, m) (prefix_stop p bs) | inr h ↦ rw (h, h) refl ]

pub same_blank : (bs : List ℕ) → first_passes is_blank bs ≡ first_blank bs
same_blank [] = refl
same_blank (b ∷ bs) = refl

same_name : (bs : List ℕ) → first_passes is_name bs ≡ first_name bs
same_name [] = refl
same_name (b ∷ bs) = refl

pub stops_blank : (text : List ℕ) → first_blank (drop (prefix_len is_blank text) text) ≡ false
stops_blank text = sym (same_blank (drop (prefix_len is_blank text) text)) ∙ prefix_stop is_blank text

pub run_first : (text : List ℕ) → first_name text ≡ true → 0 < prefix_len is_name text
run_first [] h = absurd cc
run_first (b ∷ bs) h = rw h (omega arith)

-- a run at the front
pub run_step : (text : List ℕ) → first_name text ≡ true → pieces text ≡ Run (take (prefix_len is_name text) text) ∷ pieces (drop (prefix_len is_name text) text)
run_step text h =
    let n = prefix_len is_name text in
    let some : 0 < length (take n text) = omega (arith, length-take n text, run_first text h, prefix_len-le-length is_name text) in
    let stops : first_name (drop n text) ≡ false = sym (same_name (drop n text)) ∙ prefix_stop is_name text in
    ap pieces (sym (take-append-drop n text)) ∙ pieces-run (take n text) (drop n text) (prefix_all is_name text) some (first_no_run (drop n text) stops)

-- a comma at the front
pub comma_first : (bs : List ℕ) → pieces (44 ∷ bs) ≡ Comma ∷ pieces (drop (prefix_len is_blank bs) bs)
comma_first bs =
    let n = prefix_len is_blank bs in
    comma_step bs ∙ ap (λ (t : List ℕ). Comma ∷ without_gap (pieces t)) (sym (take-append-drop n bs))
    ∙ ap (λ (qs : List Piece). Comma ∷ qs) (after_comma (take n bs) (drop n bs) (prefix_all is_blank bs) (first_no_gap (drop n bs) (stops_blank bs)))

-- blanks at the front: none, or a gap
pub blanks_first : (text : List ℕ) → (length (drop (prefix_len is_blank text) text) ≡ length text → pieces text ≡ pieces (drop (prefix_len is_blank text) text))
    × (length (drop (prefix_len is_blank text) text) < length text → pieces text ≡ gap_before (pieces (drop (prefix_len is_blank text) text)))
blanks_first text =
    let n = prefix_len is_blank text in (
      λ e. let none : n ≡ 0 = omega (arith, length-drop n text, prefix_len-le-length is_blank text) in rw none refl,
      λ lt. ap pieces (sym (take-append-drop n text)) ∙ pieces-gap (take n text) (drop n text) (prefix_all is_blank text) (omega (arith, length-take n text, length-drop n text, prefix_len-le-length is_blank text)),
    )

-- ## What is written so has these pieces

pub pieces_again : (ps : List Piece) (text : List ℕ) → Written ps text → WellSpaced ps → pieces text ≡ ps
pieces_again [] text w s = pieces-blanks text w
pieces_again (Run r ∷ ps) text w s =
    let rest-is = pieces_again ps w.0 w.4 s.1 in
    ap pieces w.1 ∙ pieces-run r w.0 w.3 w.2 (rw rest-is s.0) ∙ ap (λ (qs : List Piece). Run r ∷ qs) rest-is
pieces_again (Comma ∷ ps) text w s =
    let rest-is = pieces_again ps w.2 w.6 s.1 in
    let solid : starts_gap (pieces w.2) ≡ false = rw rest-is s.0 in
    let tail : pieces (44 ∷ (w.1 ++ w.2)) ≡ Comma ∷ pieces w.2 = comma_step (w.1 ++ w.2) ∙ ap (λ (qs : List Piece). Comma ∷ qs) (after_comma w.1 w.2 w.5 solid) in
    ap pieces w.3 ∙ before_comma w.0 (44 ∷ (w.1 ++ w.2)) (pieces w.2) w.4 tail ∙ ap (λ (qs : List Piece). Comma ∷ qs) rest-is
pieces_again (Sign m ∷ ps) text w s =
    let rest-is = pieces_again ps w.1 w.7 s in
    ap pieces w.2 ∙ sign_step w.0 w.1 w.3 w.4 w.5 ∙ ap (λ (k : Mark). Sign k ∷ pieces w.1) (sym w.6) ∙ ap (λ (qs : List Piece). Sign m ∷ qs) rest-is
pieces_again (Gap ∷ ps) text w s =
    let rest-is = pieces_again ps w.1 w.5 s.1 in
    ap pieces w.2 ∙ pieces-gap w.0 w.1 w.4 w.3 ∙ ap gap_before rest-is ∙ before_solid ps s.0

-- ## And each text is written with its pieces

more_blanks : (b : ℕ) (bs : List ℕ) → is_blank b ≡ true → IsBlanks bs → IsBlanks (b ∷ bs)
more_blanks b bs h k = rw (h, k) refl

written_gap : (b : ℕ) (ps : List Piece) (bs : List ℕ) → is_blank b ≡ true → Written ps bs → Written (gap_before ps) (b ∷ bs)
written_gap b [] bs h w = more_blanks b bs h w
written_gap b (Run r ∷ ps) bs h w = (b ∷ [], bs, refl, omega arith, more_blanks b [] h refl, w)
written_gap b (Comma ∷ ps) bs h w = (b ∷ w.0, w.1, w.2, ap (λ (t : List ℕ). b ∷ t) w.3, more_blanks b w.0 h w.4, w.5, w.6)
written_gap b (Sign c ∷ ps) bs h w = (b ∷ [], bs, refl, omega arith, more_blanks b [] h refl, w)
written_gap b (Gap ∷ ps) bs h w = (b ∷ w.0, w.1, ap (λ (t : List ℕ). b ∷ t) w.2, omega arith, more_blanks b w.0 h w.4, w.5)

one_name : (b : ℕ) → is_name b ≡ true → list_all is_name (b ∷ []) ≡ true
one_name b h = rw h refl

more_name : (b : ℕ) (r : List ℕ) → is_name b ≡ true → list_all is_name r ≡ true → list_all is_name (b ∷ r) ≡ true
more_name b r h k = rw (h, k) refl

written_name : (b : ℕ) (ps : List Piece) (bs : List ℕ) → is_name b ≡ true → Written ps bs → Written (name_before b ps) (b ∷ bs)
written_name b (Run r ∷ ps) bs h w = (w.0, ap (λ (t : List ℕ). b ∷ t) w.1, omega arith, more_name b r h w.3, w.4)
written_name b ps bs h w = (bs, refl, omega arith, one_name b h, w)

written_comma : (ps : List Piece) (bs : List ℕ) → Written ps bs → Written (Comma ∷ without_gap ps) (44 ∷ bs)
written_comma (Gap ∷ ps) bs w = ([], w.0, w.1, ap (λ (t : List ℕ). 44 ∷ t) w.2, refl, w.4, w.5)
written_comma ps bs w = ([], [], bs, refl, refl, refl, w)

pub pieces_written : (text : List ℕ) → Written (pieces text) text
unfolding pieces
pieces_written [] = refl
pieces_written (b ∷ bs) =
    let w = pieces_written bs in
    elim (cases_Bool (is_blank b)) [
      | inl h ↦ rw (at_blank b (pieces bs) h) (written_gap b (pieces bs) bs h w)
      | inr h ↦ elim (cases_Bool (is_name b)) [
        | inl n ↦ rw (at_name b (pieces bs) n) (written_name b (pieces bs) bs n w)
        | inr n ↦ elim (cases_Bool (b == 44)) [
          | inl e ↦ let is : b ≡ 44 = eqb-true b 44 e in
              rw is (written_comma (pieces bs) bs w)
          | inr e ↦ rw (at_sign b (pieces bs) h n e) (b, bs, refl, h, n, e, refl, w)
        ]
      ]
    ]

spaced_gap : (ps : List Piece) → WellSpaced ps → WellSpaced (gap_before ps)
spaced_gap [] s = tt
spaced_gap (Run r ∷ ps) s = (refl, s)
spaced_gap (Comma ∷ ps) s = s
spaced_gap (Sign c ∷ ps) s = (refl, s)
spaced_gap (Gap ∷ ps) s = s

spaced_name : (b : ℕ) (ps : List Piece) → WellSpaced ps → WellSpaced (name_before b ps)
spaced_name b (Run r ∷ ps) s = s
spaced_name b ps s = (refl, s)

solid_no_gap : (ps : List Piece) → may_follow_gap ps ≡ true → starts_gap ps ≡ false
solid_no_gap (Gap ∷ ps) h = absurd cc
solid_no_gap ps h = refl

spaced_comma : (ps : List Piece) → WellSpaced ps → WellSpaced (Comma ∷ without_gap ps)
spaced_comma (Gap ∷ ps) s = (solid_no_gap ps s.0, s.1)
spaced_comma ps s = (refl, s)

pub pieces_spaced : (text : List ℕ) → WellSpaced (pieces text)
unfolding pieces
pieces_spaced [] = tt
pieces_spaced (b ∷ bs) =
    let s = pieces_spaced bs in
    elim (cases_Bool (is_blank b)) [
      | inl h ↦ rw (at_blank b (pieces bs) h) (spaced_gap (pieces bs) s)
      | inr h ↦ elim (cases_Bool (is_name b)) [
        | inl n ↦ rw (at_name b (pieces bs) n) (spaced_name b (pieces bs) s)
        | inr n ↦ elim (cases_Bool (b == 44)) [
          | inl e ↦ let is : b ≡ 44 = eqb-true b 44 e in
              rw is (spaced_comma (pieces bs) s)
          | inr e ↦ rw (at_sign b (pieces bs) h n e) s
        ]
      ]
    ]

-- ## What the reader of one piece needs

pub comma_text : (text : List ℕ) → 0 < length text → get_or text 0 0 ≡ 44 → pieces text ≡ Comma ∷ pieces (drop (prefix_len is_blank (drop 1 text)) (drop 1 text))
comma_text [] lt e = absurd (omega arith)
comma_text (b ∷ bs) lt e = rw e (comma_first bs)

pub name_text : (text : List ℕ) → 0 < length text → is_name (get_or text 0 0) ≡ true → pieces text ≡ Run (take (prefix_len is_name text) text) ∷ pieces (drop (prefix_len is_name text) text)
name_text [] lt e = absurd (omega arith)
name_text (b ∷ bs) lt e = run_step (b ∷ bs) e

pub name_len_text : (text : List ℕ) → 0 < length text → is_name (get_or text 0 0) ≡ true → 0 < prefix_len is_name text
name_len_text [] lt e = absurd (omega arith)
name_len_text (b ∷ bs) lt e = run_first (b ∷ bs) e

no_comma : (b : ℕ) → b ≢ 44 → (b == 44) ≡ false
no_comma b h = elim (cases_Bool (b == 44)) [ inl e ↦ absurd (h (eqb-true b 44 e)) | inr e ↦ e ]

pub sign_text : (text : List ℕ) → 0 < length text → first_blank text ≡ false → is_name (get_or text 0 0) ≡ false → get_or text 0 0 ≢ 44 → pieces text ≡ Sign (mark_of (get_or text 0 0)) ∷ pieces (drop 1 text)
sign_text [] lt e h k = absurd (omega arith)
sign_text (b ∷ bs) lt e h k = sign_step b bs e h (no_comma b k)

-- ## What the reader of gaps needs

name_follows : (b : ℕ) (ps : List Piece) → may_follow_gap (name_before b ps) ≡ true
name_follows b (Run r ∷ ps) = refl
name_follows b ps = refl

solid_follows : (rest : List ℕ) → first_blank rest ≡ false → 0 < length rest → get_or rest 0 0 ≢ 44 → may_follow_gap (pieces rest) ≡ true
unfolding pieces
solid_follows [] h lt k = absurd (omega arith)
solid_follows (b ∷ bs) h lt k =
    elim (cases_Bool (is_name b)) [
      | inl n ↦ rw (at_name b (pieces bs) n) (name_follows b (pieces bs))
      | inr n ↦ rw (at_sign b (pieces bs) h n (no_comma b k)) refl
    ]

comma_holds : (rest : List ℕ) → 0 < length rest → get_or rest 0 0 ≡ 44 → gap_before (pieces rest) ≡ pieces rest
comma_holds [] lt e = absurd (omega arith)
comma_holds (b ∷ bs) lt e = rw e (ap gap_before (comma_step bs) ∙ sym (comma_step bs))

pub next_none : (text rest : List ℕ) → rest ≡ drop (prefix_len is_blank text) text → length rest < 1 → pieces text ≡ []
next_none text rest is lt =
    let n = prefix_len is_blank text in
    let all : take n text ≡ text = take_all n text (omega (arith, ap length is, length-drop n text)) in
    pieces-blanks text (rw all at (prefix_all is_blank text))

pub next_gap : (text rest : List ℕ) → rest ≡ drop (prefix_len is_blank text) text → 0 < length rest → get_or rest 0 0 ≢ 44 → length rest < length text → pieces text ≡ Gap ∷ pieces rest
next_gap text rest is some k lt =
    let stops : first_blank rest ≡ false = rw is (stops_blank text) in
    (blanks_first text).1 (rw is at lt) ∙ ap (λ (t : List ℕ). gap_before (pieces t)) (sym is) ∙ before_solid (pieces rest) (solid_follows rest stops some k)

pub next_same : (text rest : List ℕ) → rest ≡ drop (prefix_len is_blank text) text → 0 < length rest → length rest ≤ length text → (get_or rest 0 0 ≡ 44) ⊎ (length text ≤ length rest) → pieces text ≡ pieces rest
next_same text rest is some le either =
    elim (cases_lt (length rest) (length text)) [
      | inl lt ↦ elim either [
        | inl e ↦ (blanks_first text).1 (rw is at lt) ∙ ap (λ (t : List ℕ). gap_before (pieces t)) (sym is) ∙ comma_holds rest some e
        | inr ge ↦ absurd (omega arith)
      ]
      | inr ge ↦ (blanks_first text).0 (omega (arith, ap length is)) ∙ ap pieces (sym is)
    ]

pub next_by : (o : Option (Token × Bor (List ℕ))) (text rest : List ℕ) → pieces text ≡ pieces rest → length rest ≤ length text → 0 < length rest
    → MatchOption o (rest ≡ []) (λ found. (pieces rest ≡ piece_of found.0 ∷ pieces found.1.now) × (length found.1.now < length rest))
    → MatchOption o (pieces text ≡ []) (λ found. (pieces text ≡ piece_of found.0 ∷ pieces found.1.now) × (length found.1.now < length text))
next_by None text rest e le some h = absurd (omega (arith, ap length h))
next_by (Some found) text rest e le some h = (e ∙ h.0, omega arith)

-- ## On the result of the reader

pub ok_written : {E : Type 0} (r : Result (Vec Token) E) (line : List ℕ) → IfOk r (λ v. map piece_of v.items ≡ pieces line) → IfOk r (λ v. Written (map piece_of v.items) line)
ok_written (Ok v) line e = rw e (pieces_written line)
ok_written (Err x) line e = tt

pub ok_spaced : {E : Type 0} (r : Result (Vec Token) E) (line : List ℕ) → IfOk r (λ v. map piece_of v.items ≡ pieces line) → IfOk r (λ v. WellSpaced (map piece_of v.items))
ok_spaced (Ok v) line e = rw e (pieces_spaced line)
ok_spaced (Err x) line e = tt

pub ok_only : {E : Type 0} (r : Result (Vec Token) E) (line : List ℕ) → IfOk r (λ v. map piece_of v.items ≡ pieces line) → IfOk r (λ v. (ps : List Piece) → Written ps line → WellSpaced ps → map piece_of v.items ≡ ps)
ok_only (Ok v) line e = λ ps w s. e ∙ pieces_again ps line w s
ok_only (Err x) line e = tt
